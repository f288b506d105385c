use Rattle.zarr_array.proofs.open.OpenArray.run_commands.Goals as goal

pub returns-clause-taken : goal.returns-clause-taken
returns-clause-taken g c = c.run_commands.ensures.costs.taken
