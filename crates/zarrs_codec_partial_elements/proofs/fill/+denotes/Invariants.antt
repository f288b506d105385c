use Rattle.zarrs_codec_array_bytes.specs.Steps.{kind_seen, depth}
use Rattle.zarrs_codec_partial_elements.proofs.fill.+denotes.Given as goal

abbrev pub decreases-denotes : goal.decreases-denotes
decreases-denotes l = depth (kind_seen l.data_type.now)
