use Rattle.zarrs_codec_array_bytes.specs.Steps.{kind_seen, depth}
use Rattle.zarr_cli_lines.proofs.growing.+no_elements.Given as goal

abbrev pub decreases-no_elements : goal.decreases-no_elements
decreases-no_elements l = depth (kind_seen l.data_type.now)
