use Rattle.std.proofs.Common.{◌≡◌, ◌+◌, ◌-◌, ◌*◌, ◌++◌, map}
use Rattle.std.specs.List.{range_with_len}
use Rattle.zarr_codecs_elements.proofs.places.push_run.Given as goal

abbrev pub invariant-loop-i : goal.invariant-loop-i
invariant-loop-i l = l.out.items ++ map (λ i. l.from + i * l.step) (range_with_len l.i (l.len - l.i)) ≡
    l.initial.out.items ++ map (λ i. l.from + i * l.step) (range_with_len 0 l.len)
