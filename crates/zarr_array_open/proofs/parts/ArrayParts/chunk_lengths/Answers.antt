use Rattle.std.proofs.Common.{◌∙◌}
use Rattle.zarr_array_open.specs.Parts.{described_parts}
use Rattle.zarr_array_open.proofs.ServedLaws.{described_covers}
use Rattle.zarrs_chunk_grid.proofs.GridIndices.{inside_rank}
use Rattle.zarr_array_open.proofs.parts.ArrayParts.chunk_lengths.Goals as goal

pub unreachable-requires-in-Err-IncompatibleDimensionality : goal.unreachable-requires-in-Err-IncompatibleDimensionality
unreachable-requires-in-Err-IncompatibleDimensionality c =
    let array = c.args.self.now in
    (rw c.in-Err-IncompatibleDimensionality.field-0-is at c.in-Err-IncompatibleDimensionality.ensures).2
    (inside_rank (described_parts array).grid.grid_shape c.args.chunk.now c.requires ∙ (described_covers array).rank)
