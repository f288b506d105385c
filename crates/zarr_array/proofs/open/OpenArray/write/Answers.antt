use Rattle.std.proofs.lemmas.Result.{err_from_is_err_and}
use Rattle.zarr_array.proofs.ChunkCosts.{runs_by_chunk}
use Rattle.zarr_array.proofs.open.OpenArray.write.Goals as goal

pub returns-clause-taken : goal.returns-clause-taken
returns-clause-taken g c = c.in_ok-run_write.ensures.costs.taken

pub returns-in_err-run_write-clause-runs : goal.returns-in_err-run_write-clause-runs
returns-in_err-run_write-clause-runs g c =
    let p = err_from_is_err_and c.from_residual.result c.from_residual.ensures.1 in
    rw (p.1, p.2) (runs_by_chunk _ _ _ _ _ _ _ c.in_err-run_write.ensures.runs c.in_err-run_write.ensures.costs)
