use Rattle.std.proofs.Common.{◌≡◌, ◌+◌, ◌-◌, ◌*◌, ◌++◌, length, flat_map}
use Rattle.std.specs.List.{range_with_len}
use Rattle.zarrs_codec_slices.specs.Picking.{piece_of}
use Rattle.zarr_codecs_elements.specs.Moved.{strided}
use Rattle.zarr_codecs_elements.proofs.pieces.+push_pieces.Given as goal

abbrev pub decreases-push_pieces : goal.decreases-push_pieces
decreases-push_pieces l = length l.shape.now

abbrev pub invariant-loop-i : goal.invariant-loop-i
invariant-loop-i l =
    l.out.items ++ flat_map (λ i. flat_map (piece_of l.size l.items)
    (strided l.rest l.more (l.from + i * l.step))) (range_with_len l.i (l.i-end - l.i))
    ≡ l.initial.out.items ++ flat_map (λ i.
    flat_map (piece_of l.size l.items) (strided l.rest l.more (l.from + i * l.step))) (range_with_len 0 l.i-end)
