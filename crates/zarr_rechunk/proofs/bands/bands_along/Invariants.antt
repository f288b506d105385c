use Rattle.std.proofs.Common.{◌≡◌, ◌++◌, ◌-◌, map}
use Rattle.std.specs.List.{range_with_len}
use Rattle.zarrs_array_subset.specs.ArraySubset.{region}
use Rattle.zarr_rechunk.specs.Bands.{band, first_length}
use Rattle.zarr_rechunk.proofs.bands.bands_along.Given as goal

abbrev pub invariant-loop-first : goal.invariant-loop-first
invariant-loop-first g l =
    map region l.list.items ++ map (band (g.G.ChunkGridTraits.grid l.grid) l.extent l.shape)
    (range_with_len l.first (first_length (g.G.ChunkGridTraits.grid l.grid).grid_shape - l.first))
    ≡ map (band (g.G.ChunkGridTraits.grid l.grid) l.extent l.shape)
    (range_with_len 0 (first_length (g.G.ChunkGridTraits.grid l.grid).grid_shape))
