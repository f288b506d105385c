use Rattle.std.proofs.Common.{◌≡◌, ◌++◌, ℕ, List, length}
use denote.Text.{Utf8}
use denote.Shadow.{shadow}
use Rattle.zarr_cli.specs.Steps.{AreRead}
use Rattle.zarr_cli.proofs.read.LinesSoFar.push_text.Given as goal

abbrev pub invariant-lines : goal.invariant-lines
invariant-lines l = shadow (Utf8 l.left) × (done : List ℕ) × (l.fn.piece ≡ done ++ l.left) ×
    ((taken : List ℕ) → AreRead taken l.fn.self → AreRead (taken ++ done) l.self)

abbrev pub decreases-lines : goal.decreases-lines
decreases-lines l = length l.left
