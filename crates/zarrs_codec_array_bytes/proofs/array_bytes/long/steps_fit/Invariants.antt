use Rattle.std.proofs.Common.{◌≡◌, ◌∷◌, drop}
use Rattle.zarr_model.specs.Command.{has_long_step}
use Rattle.zarrs_codec_array_bytes.proofs.array_bytes.long.steps_fit.Given as goal

abbrev pub invariant-loop-to : goal.invariant-loop-to
invariant-loop-to l = has_long_step (l.from ∷ drop l.to-index l.rest) ≡ has_long_step (l.fn.first ∷ l.fn.rest)
