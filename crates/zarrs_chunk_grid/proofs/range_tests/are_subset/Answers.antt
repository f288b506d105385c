use Rattle.std.proofs.Common.{ap₂, sym, ◌∙◌, arith}
use Rattle.zarrs_array_subset.specs.ArraySubset.{region}
use Rattle.zarrs_chunk_grid_indexer.specs.RangeTests.{are_box}
use Rattle.zarrs_chunk_grid.proofs.Ranges.{box_of_itself, is_box_by_zip}
use Rattle.zarrs_chunk_grid.proofs.range_tests.are_subset.Goals as goal

pub returns-then-ranges-dimensionality : goal.returns-then-ranges-dimensionality
returns-then-ranges-dimensionality c =
    let parts = c.have_parts.ensures ∙ ap₂ (are_box c.args.ranges.now) c.start.ensures c.shape.ensures.value in (
      λ t. is_box_by_zip c.args.ranges.now (region c.args.other.now) (omega arith) (sym parts ∙ t),
      λ e. parts ∙ (box_of_itself c.args.ranges.now (region c.args.other.now) e).1,
    )
