use Rattle.std.proofs.Common.{◌≡◌, drop}
use Rattle.zarrs_codec_array_bytes.specs.Offsets.{rises_from}
use Rattle.zarrs_codec_array_bytes.proofs.array_bytes.offsets.rise_from.Given as goal

abbrev pub invariant-loop-next : goal.invariant-loop-next
invariant-loop-next l = rises_from l.first l.rest ≡ rises_from l.last (drop l.next-index l.rest)
