use Rattle.std.proofs.lemmas.Result.{err_from_is_err_and}
use Rattle.zarr_array.proofs.ChunkCosts.{runs_by_chunk}
use Rattle.zarr_array.proofs.open.OpenArray.read.Goals as goal

pub returns-clause-taken : goal.returns-clause-taken
returns-clause-taken g c = c.in_ok-run_read.ensures.costs.taken

pub returns-in_err-run_read-clause-runs : goal.returns-in_err-run_read-clause-runs
returns-in_err-run_read-clause-runs g c =
    let p = err_from_is_err_and c.from_residual.result c.from_residual.ensures.1 in
    rw (p.1, p.2) (runs_by_chunk _ _ _ _ _ _ _ c.in_err-run_read.ensures.runs c.in_err-run_read.ensures.costs)
