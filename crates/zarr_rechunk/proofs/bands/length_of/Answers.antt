use Rattle.std.proofs.Common.{length, ◌∙◌, subst}
use Rattle.zarrs_chunk_grid.specs.ChunkGridErrors.{IsRankRefusal}
use Rattle.zarrs_chunk_grid.proofs.GridIndices.{inside_rank}
use Rattle.zarr_rechunk.proofs.bands.length_of.Goals as goal

pub unreachable-requires-in-Err-IncompatibleDimensionality : goal.unreachable-requires-in-Err-IncompatibleDimensionality
unreachable-requires-in-Err-IncompatibleDimensionality g c =
    let grid = c.args.grid.now in
    let refused = subst (IsRankRefusal (length c.args.chunk.now) (length (g.G.ChunkGridTraits.shape grid)))
    c.in-Err-IncompatibleDimensionality.field-0-is c.in-Err-IncompatibleDimensionality.ensures in
    refused.2 (inside_rank (g.G.ChunkGridTraits.grid grid).grid_shape c.args.chunk.now c.requires
    ∙ (g.met.G.ChunkGridTraits.covers grid).rank)
