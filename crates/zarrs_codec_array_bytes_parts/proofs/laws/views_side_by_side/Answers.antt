use Rattle.zarrs_codec_array_bytes_parts.proofs.SideLaws.{side_by_side}
use Rattle.zarrs_codec_array_bytes_parts.proofs.laws.views_side_by_side.Goals as goal

pub returns : goal.returns
returns c = side_by_side
