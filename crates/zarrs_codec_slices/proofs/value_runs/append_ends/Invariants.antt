use Rattle.std.proofs.Common.{◌≡◌, ◌+◌, ◌-◌, ◌++◌, map, take}
use Rattle.zarrs_codec_slices.proofs.value_runs.append_ends.Given as goal

abbrev pub invariant-loop-offset : goal.invariant-loop-offset
invariant-loop-offset l =
    l.offsets.items ≡ l.fn.offsets.items ++ map (λ offset. l.place + (offset - l.first)) (take l.offset-index l.more)
