use Rattle.std.proofs.Common.{◌≡◌, ℕ, List, replicate, length, arith}
use Rattle.std.proofs.lemmas.Grind.{common_steps}
use Rattle.zarrs_array_subset.proofs.BoxLaws.{zeros_fit}
use Rattle.zarrs_array_subset.proofs.array_subset.numbers.zeros.Goals as goal

pub returns : goal.returns
returns c = let fits = λ (v : List ℕ) (e : v ≡ replicate (length c.args.shape.now) 0). zeros_fit v c.args.shape.now
    (λ k. let h = c.type_inv.shape k in omega (arith, h)) e in grind (arith, common_steps, fits)
