use Rattle.zarrs_codec_array_bytes.specs.Steps.{kind_seen, depth}
use Rattle.zarr_array_open.proofs.limits.+innermost_fill.Given as goal

abbrev pub decreases-innermost_fill : goal.decreases-innermost_fill
decreases-innermost_fill l = depth (kind_seen l.data_type.now)
