use Rattle.std.proofs.Common.{◌≡◌, ◌++◌, ◌-◌}
use Rattle.zarr_model.specs.Codec.{low_bytes}
use Rattle.zarr_codecs_elements.proofs.numbers.push_low.Given as goal

abbrev pub invariant-loop-digit : goal.invariant-loop-digit
invariant-loop-digit l =
    l.out.items ++ low_bytes (l.size - l.digit) l.left ≡ l.fn.out.items ++ low_bytes l.size l.number
