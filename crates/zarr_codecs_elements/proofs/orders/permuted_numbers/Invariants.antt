use Rattle.std.proofs.Common.{◌≡◌, ◌++◌, drop}
use Rattle.zarr_model.specs.Codec.{permuted}
use Rattle.zarr_codecs_elements.proofs.orders.permuted_numbers.Given as goal

abbrev pub invariant-loop-dimension : goal.invariant-loop-dimension
invariant-loop-dimension l =
    l.out.items ++ permuted (drop l.dimension-index l.order) l.numbers ≡ permuted l.order l.numbers
