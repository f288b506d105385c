use Rattle.std.proofs.Common.{ap, ◌∙◌}
use Rattle.zarr_model.specs.Region.{tuples}
use Rattle.zarrs_chunk_grid_indexer.proofs.indexer.boxes.list_tuples.Goals as goal

pub returns : goal.returns
returns c r e = c.into_iter.ensures.into_iter_gives ∙ c.new.ensures ∙ ap tuples e
