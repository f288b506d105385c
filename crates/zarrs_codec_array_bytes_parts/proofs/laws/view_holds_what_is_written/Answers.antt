use Rattle.zarrs_codec_array_bytes_parts.proofs.HeldLaws.{writes_array, holds_written}
use Rattle.zarrs_codec_array_bytes_parts.proofs.laws.view_holds_what_is_written.Goals as goal

pub returns-clause-array : goal.returns-clause-array
returns-clause-array c = writes_array

pub returns-clause-elements : goal.returns-clause-elements
returns-clause-elements c = holds_written
