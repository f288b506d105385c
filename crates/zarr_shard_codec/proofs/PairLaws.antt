-- Pairs one after another, and the bytes that they name.
use Rattle.std.proofs.Common.{◌≡◌, ℕ, zero, suc, ◌+◌, ◌-◌, ◌^◌, ◌≤◌, ◌<◌, ◌⊎◌, inl, inr, Bool, true, false, ◌==◌, ◌&&◌}
use Rattle.std.proofs.Common.{if◌then◌else◌, List, [], ◌∷◌, ◌++◌, length, take, drop, slice_get, Option, Some, None}
use Rattle.std.proofs.Common.{eqb-true, refl, ap, ◌∙◌, arith}
use Rattle.std.proofs.lemmas.List.{take-append-le, drop-append-le, length-drop}
use Rattle.std.specs.List.{AllByRecursion}
use Rattle.zarr_shard_codec.specs.Index.{Pair, is_absent}
use Rattle.zarr_shard_codec.specs.Encoding.{end_after}

-- bytes that lie within a front are the same once more stands behind it
pub cut_front : (front more : List ℕ) (offset size : ℕ) → offset + size ≤ length front →
    take size (drop offset (front ++ more)) ≡ take size (drop offset front)
cut_front front more offset size within =
    let left : length (drop offset front) ≡ length front - offset = length-drop offset front in
    ap (take size) (drop-append-le offset front more (omega (arith, within)))
    ∙ take-append-le size (drop offset front) more (omega (arith, within, left))

-- one thing more that is so of each
pub all_more : {X : Type 0} (P : X → Type 0) (xs : List X) (x : X) → AllByRecursion P xs → P x →
    AllByRecursion P (xs ++ x ∷ [])
all_more P [] x all one = (one, tt)
all_more P (y ∷ xs) x all one = (all.0, all_more P xs x all.1 one)

-- an item of a list with one more is of the list, or is the last
pub last_or_before : {X : Type 0} (xs : List X) (x y : X) (k : ℕ) → slice_get (xs ++ x ∷ []) k ≡ Some y →
    (slice_get xs k ≡ Some y) ⊎ ((k ≡ length xs) × (y ≡ x))
last_or_before [] x y zero e = inr (refl, cc)
last_or_before [] x y (suc k) e = cc
last_or_before (z ∷ xs) x y zero e = inl e
last_or_before (z ∷ xs) x y (suc k) e = go (last_or_before xs x y k e)
  where
    go : ((slice_get xs k ≡ Some y) ⊎ ((k ≡ length xs) × (y ≡ x))) →
        (slice_get (z ∷ xs) (suc k) ≡ Some y) ⊎ ((suc k ≡ length (z ∷ xs)) × (y ≡ x))
    go (inl is) = inl is
    go (inr both) = inr (ap suc both.0, both.1)

-- a pair behind others
abbrev step_by : Bool → Bool → ℕ → ℕ → List Pair → Option ℕ
step_by absent here at next pairs = if absent then end_after at pairs else if here then end_after next pairs else None

pub end_more : (at : ℕ) (pairs : List Pair) (pair : Pair) (mid : ℕ) → end_after at pairs ≡ Some mid →
    end_after at (pairs ++ pair ∷ []) ≡ end_after mid (pair ∷ [])
end_more at [] pair mid e = let same : at ≡ mid = cc in ap (λ n. end_after n (pair ∷ [])) same
end_more at (first ∷ pairs) pair mid e =
    go (is_absent first) (first.offset == at) (λ from is. end_more from pairs pair mid is) e
  where
    go : (absent here : Bool) → ((from : ℕ) → end_after from pairs ≡ Some mid →
        end_after from (pairs ++ pair ∷ []) ≡ end_after mid (pair ∷ [])) →
        step_by absent here at (at + first.size) pairs ≡ Some mid →
        step_by absent here at (at + first.size) (pairs ++ pair ∷ []) ≡ end_after mid (pair ∷ [])
    go true here rest e = rest at e
    go false true rest e = rest (at + first.size) e
    go false false rest e = cc

-- a pair of bytes that can be addressed is not the absent one
pub not_absent : (offset size : ℕ) → offset + size < 2 ^ 64 →
    is_absent (record { offset = offset; size = size }) ≡ false
not_absent offset size less = go (offset == 2 ^ 64 - 1) (size == 2 ^ 64 - 1) refl refl
  where
    go : (a b : Bool) → (offset == 2 ^ 64 - 1) ≡ a → (size == 2 ^ 64 - 1) ≡ b → (a && b) ≡ false
    go false b first second = refl
    go true false first second = refl
    go true true first second =
        let all : offset ≡ 2 ^ 64 - 1 = eqb-true offset (2 ^ 64 - 1) first in
        let most : size ≡ 2 ^ 64 - 1 = eqb-true size (2 ^ 64 - 1) second in
        absurd (omega (arith, all, most, less))
