use Rattle.std.proofs.Common.{◌≡◌, drop, map}
use Rattle.std.specs.List.{list_any}
use Rattle.zarrs_codec_traits.specs.Prelude.{count, fixed_size, is_too_large, kind_of, region as region_of, type_of}
use Rattle.zarr_rechunk.proofs.whole.has_large.Given as goal

abbrev pub invariant-loop-band : goal.invariant-loop-band
invariant-loop-band l =
    list_any (λ band. is_too_large (fixed_size (kind_of (type_of l.data_type))) (count band)) (map region_of l.bands)
    ≡ list_any (λ band. is_too_large (fixed_size (kind_of (type_of l.data_type))) (count band))
    (map region_of (drop l.band-index l.bands))
