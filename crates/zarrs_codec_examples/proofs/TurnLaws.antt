-- Lists that are turned round twice.
use Rattle.std.proofs.Common.{◌≡◌, ℕ, List, Some, ap, ◌∙◌}
use Rattle.std.specs.Prelude.{reverse}
use Rattle.std.proofs.lemmas.List.{reverse-reverse}

pub turned_twice : (xs ys : List ℕ) → ys ≡ reverse xs → Some (reverse ys) ≡ Some xs
turned_twice xs ys e = ap Some (ap reverse e ∙ reverse-reverse xs)
