-- Lengths of inner chunks.
use Rattle.std.proofs.Common.{◌≡◌, ℕ, suc, ◌<◌, ◌%◌, ◌==◌, ◌&&◌, ◌∙◌, Bool, true, false, if◌then◌else◌, nat_le, List}
use Rattle.std.proofs.Common.{[], ◌∷◌, length, get_or, Some, None, refl, sym, ap}
use Rattle.std.specs.List.{list_all}
use Rattle.std.proofs.lemmas.Bool.{and_parts, and_from, true≢false}
use Rattle.std.proofs.lemmas.List.Folds.{list_all_at}
use Rattle.zarr_array_open.specs.Sharding.{are_inner_lengths, if_inner_lengths}

-- a 0 among numbers is none that is positive
pub zero_length : (numbers : List ℕ) (i x : ℕ) → i < length numbers → x ≡ get_or numbers i x → x ≡ 0 →
    list_all (λ p. nat_le 1 p) numbers ≡ false
zero_length numbers i x within is zero =
    list_all_at (λ p. nat_le 1 p) numbers i x within (ap (λ p. nat_le 1 p) (sym is ∙ zero))

-- lengths of inner chunks are positive
inner_positive : (shape lengths : List ℕ) → are_inner_lengths shape lengths ≡ true →
    list_all (λ p. nat_le 1 p) lengths ≡ true
inner_positive [] [] cut = refl
inner_positive [] (p ∷ lengths) cut = cc
inner_positive (n ∷ shape) [] cut = cc
inner_positive (n ∷ shape) (p ∷ lengths) cut =
    let parts = and_parts (nat_le 1 p && (n % p == 0)) (are_inner_lengths shape lengths) cut in
    let first = and_parts (nat_le 1 p) (n % p == 0) parts.0 in
    and_from (nat_le 1 p) (list_all (λ p. nat_le 1 p) lengths) first.0 (inner_positive shape lengths parts.1)

pub none_cut : (shape lengths : List ℕ) → list_all (λ p. nat_le 1 p) lengths ≡ false →
    if_inner_lengths shape lengths ≡ None
none_cut shape lengths zero = go (are_inner_lengths shape lengths) refl
  where
    go : (b : Bool) → are_inner_lengths shape lengths ≡ b → (if b then Some lengths else None) ≡ None
    go true cut = absurd (true≢false (sym (inner_positive shape lengths cut) ∙ zero))
    go false cut = refl

-- one for each dimension
pub inner_rank : (shape lengths : List ℕ) → are_inner_lengths shape lengths ≡ true → length shape ≡ length lengths
inner_rank [] [] cut = refl
inner_rank [] (p ∷ lengths) cut = cc
inner_rank (n ∷ shape) [] cut = cc
inner_rank (n ∷ shape) (p ∷ lengths) cut =
    let parts = and_parts (nat_le 1 p && (n % p == 0)) (are_inner_lengths shape lengths) cut in
    ap suc (inner_rank shape lengths parts.1)
