use Rattle.zarrs_codec_slices.proofs.RepeatLaws.{AreBelow}
use Rattle.zarrs_codec_slices.proofs.values.are_values.Given as goal

abbrev pub invariant-loop-place : goal.invariant-loop-place
invariant-loop-place l = AreBelow l.place l.value l.bytes l.offsets
