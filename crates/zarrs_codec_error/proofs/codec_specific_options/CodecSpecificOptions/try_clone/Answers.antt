use Rattle.std.proofs.Common.{ap}
use Rattle.std.specs.FinMap.{from_entries}
use Rattle.zarrs_codec_error.proofs.codec_specific_options.CodecSpecificOptions.try_clone.Goals as goal

pub returns : goal.returns
returns c = ap from_entries c.in_ok-options.ensures
