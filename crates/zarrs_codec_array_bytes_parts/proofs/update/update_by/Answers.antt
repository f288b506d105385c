use Rattle.std.proofs.Common.{inr}
use Rattle.zarrs_codec_array_bytes_parts.proofs.UpdateLaws.{refused_first}
use Rattle.zarrs_codec_array_bytes_parts.proofs.update.update_by.Goals as goal

pub returns-clause-answer : goal.returns-clause-answer
returns-clause-answer g c = inr (refused_first c.in-Err.error _ _ _ c.in-Err.ensures)
