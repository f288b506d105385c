use Rattle.zarr_cli_runs.proofs.MadeLemmas.{made_opened, made_sized, made_fails}
use Rattle.zarr_cli_runs.proofs.made.open_made.Goals as goal

pub returns-clause-array : goal.returns-clause-array
returns-clause-array c = made_opened _ c.open_line.result c.made_document.ensures.opens c.open_line.ensures

pub returns-clause-sized : goal.returns-clause-sized
returns-clause-sized c =
    made_sized c.open_line.result (made_opened _ c.open_line.result c.made_document.ensures.opens c.open_line.ensures)

pub returns-clause-fault : goal.returns-clause-fault
returns-clause-fault c = made_fails _ c.open_line.result c.made_document.ensures.opens c.open_line.ensures
