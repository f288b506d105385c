-- Numbers that are bytes.
use Rattle.std.proofs.Common.{◌≡◌, ◌<◌, ◌&&◌, ℕ, nat_lt, Bool, true, List, [], ◌∷◌, refl, ap₂}
use Rattle.std.specs.List.{AllByRecursion, list_all}
use Rattle.std.proofs.lemmas.Bool.{lt-ltb}

pub bytes_tested : (xs : List ℕ) → AllByRecursion (λ b. b < 256) xs → list_all (λ b. nat_lt b 256) xs ≡ true
bytes_tested [] all = refl
bytes_tested (x ∷ xs) all = ap₂ (λ (a b : Bool). a && b) (lt-ltb x 256 all.0) (bytes_tested xs all.1)
