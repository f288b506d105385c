use Rattle.zarr_cli_runs.proofs.DocumentLaws.{made_opens}
use Rattle.zarr_cli_runs.proofs.document.made_document.Goals as goal

pub returns-clause-opens : goal.returns-clause-opens
returns-clause-opens c = made_opens
