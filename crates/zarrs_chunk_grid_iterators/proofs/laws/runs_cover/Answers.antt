use Rattle.zarrs_chunk_grid_iterators.proofs.RunCover.{covers_least}
use Rattle.zarrs_chunk_grid_iterators.proofs.laws.runs_cover.Goals as goal

pub returns : goal.returns
returns c = covers_least
