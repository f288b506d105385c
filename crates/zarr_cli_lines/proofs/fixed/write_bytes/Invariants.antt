use Rattle.std.proofs.Common.{◌≡◌, ◌*◌, ◌∷◌, flat_map, take}
use Rattle.zarr_model.specs.Prelude.{pieces}
use Rattle.zarr_cli_lines.specs.ElementText.{hex_text}
use Rattle.zarr_cli_lines.proofs.fixed.write_bytes.Given as goal

abbrev pub invariant-loop-k : goal.invariant-loop-k
invariant-loop-k l = take (l.k * 4) l.slots ≡ flat_map (λ element. 32 ∷ hex_text element) (pieces l.k 1 l.bytes)
