use Rattle.zarrs_chunk_grid_iterators.proofs.Always.{tuple_runs_are}
use Rattle.zarrs_chunk_grid_iterators.proofs.laws.runs_begin.Goals as goal

pub returns : goal.returns
returns c = tuple_runs_are
