-- Elements that are replaced, the last one winning.
use Rattle.std.proofs.Common.{◌≡◌, ℕ, zero, suc, ◌+◌, ◌<◌, ◌≤◌, ◌==◌, true, false, if◌then◌else◌, List, [], ◌∷◌, ◌++◌}
use Rattle.std.proofs.Common.{length, set, get_or, replicate, arith, ap, ap₂, sym, refl, ◌∙◌, subst, inl, inr, ◌⊎◌}
use Rattle.std.specs.List.{range_with_len}
use Rattle.std.proofs.lemmas.Bool.{cases_eq, cond-true, cond-false}
use Rattle.std.proofs.lemmas.Bool.Decides.{nat_tests}
use Rattle.std.proofs.lemmas.List.{length-set, map-set, get_or_at, get_or-set_same, get_or-set_other, append_assoc}
use Rattle.std.proofs.lemmas.List.{append-nil, length-append}
use Rattle.zarrs_codec_slices.specs.Picking.{AllBelow, picked, replaced, last_given}
use Rattle.zarrs_codec_slices.proofs.PickLaws.{length_of_places}
use Rattle.zarrs_codec_slices.proofs.LeafLaws.{below_rest}

pub length-replaced : {A : Type 0} (indices : List ℕ) (given list : List A) →
    length (replaced indices given list) ≡ length list
length-replaced [] given list = refl
length-replaced (i ∷ indices) [] list = refl
length-replaced (i ∷ indices) (x ∷ given) list = length-replaced indices given (set list i x) ∙ length-set list i x

-- what is picked at replaced places
pub picked-replaced : {A : Type 0} (d : A) (zs : List A) (indices given list : List ℕ) →
    picked d (replaced indices given list) zs ≡ replaced indices (picked d given zs) (picked d list zs)
picked-replaced d zs [] given list = refl
picked-replaced d zs (i ∷ indices) [] list = refl
picked-replaced d zs (i ∷ indices) (x ∷ given) list =
    picked-replaced d zs indices given (set list i x)
    ∙ ap (replaced indices (picked d given zs)) (map-set (λ place. get_or zs place d) list i x)

-- the numbers of a part's places pick that part
pub picked-range : {A : Type 0} (d : A) (front mid back : List A) (from : ℕ) → length front ≡ from →
    picked d (range_with_len from (length mid)) (front ++ (mid ++ back)) ≡ mid
picked-range d front [] back from e = refl
picked-range d front (x ∷ mid) back from e =
    ap₂ (λ a b. a ∷ b) (get_or_at front x (mid ++ back) d from e)
    (ap (λ l. picked d (range_with_len (from + 1) (length mid)) l) (sym (append_assoc front (x ∷ []) (mid ++ back)))
    ∙ picked-range d (front ++ x ∷ []) mid back (from + 1) (length-append front (x ∷ []) ∙ ap (λ n. n + 1) e))

-- so the picks of an update pick the updated list
pub picked-picks : {A : Type 0} (d : A) (indices : List ℕ) (xs ys : List A) → length indices ≡ length ys →
    picked d (replaced indices (range_with_len (length xs) (length indices)) (range_with_len 0 (length xs)))
    (xs ++ ys) ≡ replaced indices ys xs
picked-picks d indices xs ys e =
    picked-replaced d (xs ++ ys) indices (range_with_len (length xs) (length indices)) (range_with_len 0 (length xs))
    ∙ ap₂ (replaced indices)
    (ap₂ (λ n l. picked d (range_with_len (length xs) n) (xs ++ l)) e (sym (append-nil ys))
    ∙ picked-range d xs ys [] (length xs) refl)
    (picked-range d [] xs ys 0 refl)

-- the numbers that are put stay below a limit
pub below_first : (limit x : ℕ) (xs : List ℕ) → x < limit → AllBelow limit xs → AllBelow limit (x ∷ xs)
below_first limit x xs h all zero l = h
below_first limit x xs h all (suc k) l = all k (omega (arith, l))

pub range_below : (limit from n : ℕ) → from + n ≤ limit → AllBelow limit (range_with_len from n)
range_below limit from zero h = λ k l. absurd (omega arith)
range_below limit from (suc n) h =
    below_first limit from (range_with_len (from + 1) n) (omega arith) (range_below limit (from + 1) n (omega arith))

set_below : (limit : ℕ) (xs : List ℕ) (i x : ℕ) → x < limit → AllBelow limit xs → AllBelow limit (set xs i x)
set_below limit [] i x h all = λ k l. absurd (omega arith)
set_below limit (y ∷ xs) zero x h all = below_first limit x xs h (below_rest limit y xs all)
set_below limit (y ∷ xs) (suc i) x h all =
    below_first limit y (set xs i x) (all 0 (omega arith)) (set_below limit xs i x h (below_rest limit y xs all))

replaced_below : (limit : ℕ) (indices given list : List ℕ) → AllBelow limit given → AllBelow limit list →
    AllBelow limit (replaced indices given list)
replaced_below limit [] given list new old = old
replaced_below limit (i ∷ indices) [] list new old = old
replaced_below limit (i ∷ indices) (x ∷ given) list new old =
    replaced_below limit indices given (set list i x) (below_rest limit x given new)
    (set_below limit list i x (new 0 (omega arith)) old)

pub picks_below : (number m : ℕ) (indices : List ℕ) → length indices ≡ m →
    AllBelow (number + m) (replaced indices (range_with_len number (length indices)) (range_with_len 0 number))
picks_below number m indices e =
    replaced_below (number + m) indices (range_with_len number (length indices)) (range_with_len 0 number)
    (range_below (number + m) number (length indices) (omega (arith, e)))
    (range_below (number + m) 0 number (omega arith))

pub length-picks : (number : ℕ) (indices : List ℕ) →
    length (replaced indices (range_with_len number (length indices)) (range_with_len 0 number)) ≡ number
length-picks number indices = length-replaced indices (range_with_len number (length indices)) (range_with_len 0 number)
    ∙ length_of_places 0 number

-- one element picked for all places
pub zeros_pick : {A : Type 0} (d x : A) (ys : List A) (n : ℕ) → picked d (replicate n 0) (x ∷ ys) ≡ replicate n x
zeros_pick d x ys zero = refl
zeros_pick d x ys (suc n) = ap (λ l. x ∷ l) (zeros_pick d x ys n)

pub zeros_below : (limit n : ℕ) → 0 < limit → AllBelow limit (replicate n 0)
zeros_below limit zero h = λ k l. absurd (omega arith)
zeros_below limit (suc n) h = below_first limit 0 (replicate n 0) h (zeros_below limit n h)

-- after an update a place has the last element that was given to it, else the one from before
pub get_or-replaced : {A : Type 0} (d : A) (place : ℕ) (indices : List ℕ) (given list : List A) → place < length list →
    get_or (replaced indices given list) place d ≡ last_given place indices given (get_or list place d)
get_or-replaced d place [] given list h = refl
get_or-replaced d place (i ∷ indices) [] list h = refl
get_or-replaced d place (i ∷ indices) (x ∷ given) list h =
    get_or-replaced d place indices given (set list i x) (subst (λ n. place < n) (sym (length-set list i x)) h)
    ∙ ap (last_given place indices given) (go (cases_eq place i))
  where
    is_it : place ≡ i → (place == i) ≡ true
    is_it e = grind (arith, nat_tests)

    differ : (place ≡ i → ⊥) → (place == i) ≡ false
    differ ne = grind (arith, nat_tests)

    go : (place ≡ i) ⊎ (place ≡ i → ⊥) → get_or (set list i x) place d ≡ (if place == i then x else get_or list place d)
    go (inl e) = ap (λ p. get_or (set list i x) p d) e ∙ (get_or-set_same list i x d (subst (λ p. p < length list) e h)
        ∙ sym (cond-true (place == i) x (get_or list place d) (is_it e)))
    go (inr ne) =
        get_or-set_other list i place x d ne ∙ sym (cond-false (place == i) x (get_or list place d) (differ ne))
