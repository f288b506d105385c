use Rattle.std.proofs.Common.{◌≡◌, ◌+◌, ◌-◌, ◌*◌, ◌++◌, flat_map}
use Rattle.std.specs.List.{range_with_len}
use Rattle.zarrs_codec_slices.specs.Picking.{piece_of}
use Rattle.zarr_codecs_elements.proofs.pieces.push_bytes.Given as goal

abbrev pub invariant-loop-i : goal.invariant-loop-i
invariant-loop-i l =
    l.out.items ++ flat_map (λ i. piece_of 1 l.items (l.from + i * l.step)) (range_with_len l.i (l.len - l.i))
    ≡ l.initial.out.items ++ flat_map (λ i. piece_of 1 l.items (l.from + i * l.step)) (range_with_len 0 l.len)
