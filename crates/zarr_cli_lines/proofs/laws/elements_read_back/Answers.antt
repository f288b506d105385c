use Rattle.zarr_cli_lines.proofs.ElementLaws.{element_of-text}
use Rattle.zarr_cli_lines.proofs.laws.elements_read_back.Goals as goal

pub returns : goal.returns
returns c = element_of-text
