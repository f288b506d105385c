-- How many starts an index has reached.
use Rattle.std.proofs.Common.{◌≡◌, ℕ, zero, suc, ◌+◌, ◌-◌, ◌<◌, ◌≤◌, nat_le, cond, false, List, [], ◌∷◌, length, get_or}
use Rattle.std.proofs.Common.{Result, Ok, Err, sym, ap, ◌∙◌, arith, ⊎_elim}
use Rattle.std.specs.Result.{MatchResult}
use Rattle.std.specs.Ordering.{nat_cmp}
use Rattle.std.specs.List.Sorted.{IsBinarySearchResult}
use Rattle.std.proofs.lemmas.Bool.{le-leb, leb-true, cases_lt, false_from_ne_true}
use Rattle.std.proofs.lemmas.List.Sorted.{searched}
use Rattle.zarr_model.specs.Prelude.{reached, chunk_at, IsRising}

past : (start index : ℕ) → index < start → nat_le start index ≡ false
past start index h = false_from_ne_true (nat_le start index) (λ t. let le : start ≤ index = leb-true start index t
    in absurd (omega arith))

-- the first m are reached, and no other
pub reached_is : (starts : List ℕ) (index m : ℕ) → m ≤ length starts → ((k : ℕ) → k < m → get_or starts k 0 ≤ index) →
    ((k : ℕ) → m ≤ k → k < length starts → index < get_or starts k 0) → reached index starts ≡ m
reached_is [] index m room low high = omega arith
reached_is (start ∷ starts) index zero room low high =
    ap (λ b. cond b 1 0 + reached index starts) (past start index (high 0 (omega arith) (omega arith)))
    ∙ (let rest : reached index starts ≡ 0 = reached_is starts index 0 (omega arith) (λ k h. absurd (omega arith))
    (λ k h g. high (suc k) (omega arith) (omega arith)) in omega arith)
reached_is (start ∷ starts) index (suc m) room low high =
    ap (λ b. cond b 1 0 + reached index starts) (le-leb start index (low 0 (omega arith)))
    ∙ (let rest : reached index starts ≡ m =
    reached_is starts index m (omega arith) (λ k h. low (suc k) (omega arith))
    (λ k h g. high (suc k) (omega arith) (omega arith)) in omega arith)

-- so a search for the index finds its chunk
module _ (starts : List ℕ) (index : ℕ) (rising : IsRising starts) where
  ordered : (i j : ℕ) → i ≤ j → j < length starts → get_or starts i 0 ≤ get_or starts j 0
  ordered i j h g = ⊎_elim
      (λ (less : i < j). let e : get_or starts i 0 < get_or starts j 0 = rising i j less g in omega arith)
      (λ (same : j ≤ i). let e : get_or starts i 0 ≡ get_or starts j 0 =
      ap (λ k. get_or starts k 0) (let s : i ≡ j = omega arith in s) in omega arith)
      (cases_lt i j)

  abbrev Found : Result ℕ ℕ → Type 0
  Found r = MatchResult r (λ i. (i < length starts) × (get_or starts i 0 ≡ index)) (λ i. (i ≤ length starts)
      × ((k : ℕ) → k < i → get_or starts k 0 < index)
      × ((k : ℕ) → i ≤ k → k < length starts → index < get_or starts k 0))

  at_start : (i : ℕ) → Found (Ok i) → i ≡ chunk_at starts index
  at_start i f =
      let all : reached index starts ≡ suc i = reached_is starts index (suc i) (omega (arith, f.0))
      (λ k h. let le : get_or starts k 0 ≤ get_or starts i 0 = ordered k i (omega arith) f.0 in omega (arith, f.1))
      (λ k h g. let lt : get_or starts i 0 < get_or starts k 0 = rising i k (omega arith) g in omega (arith, f.1)) in
      omega (arith, all)

  behind_start : (i : ℕ) → Found (Err i) → i - 1 ≡ chunk_at starts index
  behind_start i f = ap (λ n. n - 1)
      (sym (reached_is starts index i f.0 (λ k h. let lt : get_or starts k 0 < index = f.1 k h in omega arith) f.2))

  pub chunk_searched : (r : Result ℕ ℕ) → IsBinarySearchResult (λ y. nat_cmp y index) starts r → Found r
  chunk_searched r s = searched starts index r s ordered

pub found_at : (starts : List ℕ) (index i : ℕ) → IsRising starts → IsBinarySearchResult (λ y. nat_cmp y index) starts
    (Ok i) → i ≡ chunk_at starts index
found_at starts index i rising s = at_start starts index rising i (chunk_searched starts index rising (Ok i) s)

pub found_behind : (starts : List ℕ) (index i : ℕ) → IsRising starts →
    IsBinarySearchResult (λ y. nat_cmp y index) starts (Err i) → i - 1 ≡ chunk_at starts index
found_behind starts index i rising s =
    behind_start starts index rising i (chunk_searched starts index rising (Err i) s)

pub ruleset of_searches = (found_at, found_behind)
