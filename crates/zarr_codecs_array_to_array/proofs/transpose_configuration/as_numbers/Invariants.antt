use Rattle.std.proofs.Common.{◌≡◌, ◌++◌, drop}
use Rattle.zarr_codecs_array_to_array.proofs.transpose_configuration.as_numbers.Given as goal

abbrev pub invariant-loop-dimension : goal.invariant-loop-dimension
invariant-loop-dimension l = l.numbers.items ++ drop l.dimension-index l.order ≡ l.order
