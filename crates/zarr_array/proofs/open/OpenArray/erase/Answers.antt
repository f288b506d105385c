use Rattle.zarr_array.proofs.open.OpenArray.erase.Goals as goal

pub returns-clause-taken : goal.returns-clause-taken
returns-clause-taken g c = c.in_ok-run_erase.ensures.costs.taken
