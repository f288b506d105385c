use Rattle.zarrs_codec_array_bytes_parts.proofs.HeldLaws.{takes_meaning, holds_meaning}
use Rattle.zarrs_codec_array_bytes_parts.proofs.laws.target_holds_what_is_put.Goals as goal

pub returns-clause-takes : goal.returns-clause-takes
returns-clause-takes c = takes_meaning

pub returns-clause-holds : goal.returns-clause-holds
returns-clause-holds c = holds_meaning
