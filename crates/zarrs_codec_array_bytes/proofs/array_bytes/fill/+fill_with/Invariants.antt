use Rattle.zarrs_codec_array_bytes.specs.Steps.{kind_seen, depth}
use Rattle.zarrs_codec_array_bytes.proofs.array_bytes.fill.+fill_with.Given as goal

abbrev pub decreases-fill_with : goal.decreases-fill_with
decreases-fill_with l = depth (kind_seen l.data_type.now)
