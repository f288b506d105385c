use Rattle.std.proofs.Common.{◌≡◌, ◌+◌, ◌++◌, map, take}
use Rattle.zarrs_codec_array_bytes_parts.proofs.owned_array_bytes.append_offsets.Given as goal

abbrev pub invariant-loop-offset : goal.invariant-loop-offset
invariant-loop-offset l =
    l.offsets.items ≡ l.fn.offsets.items ++ map (λ offset. l.place + offset) (take l.offset-index l.more)
