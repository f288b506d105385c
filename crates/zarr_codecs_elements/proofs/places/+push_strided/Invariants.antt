use Rattle.std.proofs.Common.{length, ◌≡◌, ◌+◌, ◌-◌, ◌*◌, ◌++◌, flat_map}
use Rattle.std.specs.List.{range_with_len}
use Rattle.zarr_codecs_elements.specs.Moved.{strided}
use Rattle.zarr_codecs_elements.proofs.places.+push_strided.Given as goal

abbrev pub decreases-push_strided : goal.decreases-push_strided
decreases-push_strided l = length l.shape.now

abbrev pub invariant-loop-i : goal.invariant-loop-i
invariant-loop-i l =
    l.out.items ++ flat_map (λ i. strided l.rest l.more (l.from + i * l.step)) (range_with_len l.i (l.i-end - l.i)) ≡
    l.initial.out.items ++ flat_map (λ i. strided l.rest l.more (l.from + i * l.step)) (range_with_len 0 l.i-end)
