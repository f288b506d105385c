-- Lengths in a list.
use Rattle.std.proofs.Common.{◌≡◌, ℕ, ◌<◌, ◌∙◌, false, nat_le, List, length, get_or, sym, ap}
use Rattle.std.specs.List.{list_all}
use Rattle.std.proofs.lemmas.List.Folds.{list_all_at}

-- a 0 among lengths is none that is positive
pub zero_length : (lengths : List ℕ) (i x : ℕ) → i < length lengths → x ≡ get_or lengths i x → x ≡ 0 →
    list_all (λ p. nat_le 1 p) lengths ≡ false
zero_length lengths i x within is zero =
    list_all_at (λ p. nat_le 1 p) lengths i x within (ap (λ p. nat_le 1 p) (sym is ∙ zero))
