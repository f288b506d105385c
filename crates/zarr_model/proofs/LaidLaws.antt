-- Lengths that are laid one after another.
use Rattle.std.proofs.Common.{◌≡◌, ℕ, zero, suc, ◌+◌, ◌-◌, ◌<◌, ◌≤◌, ◌&&◌, nat_lt, Bool, true, false, List, []}
use Rattle.std.proofs.Common.{◌∷◌, ◌++◌, length, take, drop, sum, get_or, refl, sym, ap, ap₂, ◌∙◌, subst, arith}
use Rattle.std.proofs.lemmas.Bool.{and_parts, ltb-true, lt-ltb, eqb-true}
use Rattle.std.proofs.lemmas.List.{take_more, drop_more}
use Rattle.std.proofs.lemmas.List.Sums.{sum_by_more, sum_by-cons}
use Rattle.zarr_model.specs.Prelude.{starts_from, cuts, IsRising}

-- each length is positive
abbrev pub AllPositive : List ℕ → Type 0
AllPositive lengths = (k : ℕ) → k < length lengths → 0 < get_or lengths k 0

pub sum-cons : (n : ℕ) (lengths : List ℕ) → sum (n ∷ lengths) ≡ n + sum lengths
sum-cons n lengths = sum_by-cons (λ m. m) n lengths

pub starts_get : (a : ℕ) (lengths : List ℕ) (k : ℕ) → k < length lengths → get_or (starts_from a lengths) k 0
    ≡ a + sum (take k lengths)
starts_get a [] k h = absurd (omega arith)
starts_get a (n ∷ lengths) zero h = omega arith
starts_get a (n ∷ lengths) (suc k) h = starts_get (a + n) lengths k (omega arith)
    ∙ (let e : a + n + sum (take k lengths) ≡ a + sum (take (suc k) (n ∷ lengths)) =
    omega (arith, sum-cons n (take k lengths)) in e)

pub length-starts_from : (a : ℕ) (lengths : List ℕ) → length (starts_from a lengths) ≡ length lengths
length-starts_from a [] = refl
length-starts_from a (n ∷ lengths) = ap suc (length-starts_from (a + n) lengths)

pub starts_rise : (a : ℕ) (lengths : List ℕ) → AllPositive lengths → IsRising (starts_from a lengths)
starts_rise a [] all i j h g = absurd (omega arith)
starts_rise a (n ∷ lengths) all i zero h g = absurd (omega arith)
starts_rise a (n ∷ lengths) all zero (suc j) h g =
    let within : j < length lengths = omega (arith, length-starts_from (a + n) lengths) in
    omega (arith, starts_get (a + n) lengths j within, all 0 (omega arith))
starts_rise a (n ∷ lengths) all (suc i) (suc j) h g = starts_rise (a + n) lengths (λ k l. all (suc k) (omega arith)) i
    j (omega arith) (omega arith)

-- what cuts a dimension is positive, and reaches its end
pub cuts_positive : (left : ℕ) (lengths : List ℕ) → cuts left lengths ≡ true → AllPositive lengths
cuts_positive left [] e k h = absurd (omega arith)
cuts_positive left (n ∷ lengths) e zero h =
    let parts = and_parts (nat_lt 0 left && nat_lt 0 n) (cuts (left - n) lengths) e in
    ltb-true 0 n (and_parts (nat_lt 0 left) (nat_lt 0 n) parts.0).1
cuts_positive left (n ∷ lengths) e (suc k) h =
    cuts_positive (left - n) lengths (and_parts (nat_lt 0 left && nat_lt 0 n) (cuts (left - n) lengths) e).1 k
    (omega arith)

pub cuts_reach : (left : ℕ) (lengths : List ℕ) → cuts left lengths ≡ true → left ≤ sum lengths
cuts_reach left [] e = omega (arith, eqb-true left 0 e)
cuts_reach left (n ∷ lengths) e =
    let rest : left - n ≤ sum lengths =
    cuts_reach (left - n) lengths (and_parts (nat_lt 0 left && nat_lt 0 n) (cuts (left - n) lengths) e).1
    in omega (arith, sum-cons n lengths)

-- one more start
starts_more : (a : ℕ) (lengths : List ℕ) (n : ℕ) → starts_from a (lengths ++ n ∷ [])
    ≡ starts_from a lengths ++ (a + sum lengths) ∷ []
starts_more a [] n = ap (λ s. s ∷ []) (let e : a ≡ a + sum [] = omega arith in e)
starts_more a (m ∷ lengths) n =
    ap (λ l. a ∷ l) (starts_more (a + m) lengths n ∙ ap (λ s. starts_from (a + m) lengths ++ s ∷ [])
    (let e : a + m + sum lengths ≡ a + sum (m ∷ lengths) = omega (arith, sum-cons m lengths) in e))

-- the first k of the lengths are kept, with their starts; what is left of the dimension is still to be cut
pub record AreLaid (extent : ℕ) (all : List ℕ) (k left : ℕ) (kept starts : List ℕ) : Type 0 where
  pub kept_are : kept ≡ take k all
  pub starts_are : starts ≡ starts_from 0 (take k all)
  pub left_is : left ≡ extent - sum (take k all)
  pub rest : cuts extent all ≡ cuts left (drop k all)

true_and : (b : Bool) → b ≡ true → (c : Bool) → (b && c) ≡ c
true_and true e c = refl
true_and false e c = cc

module _ (extent : ℕ) (all : List ℕ) (k left : ℕ) (kept starts : List ℕ)
    (laid : AreLaid extent all k left kept starts) (below : k < length all) where
  rest_is : cuts extent all
      ≡ ((nat_lt 0 left && nat_lt 0 (get_or all k 0)) && cuts (left - get_or all k 0) (drop (k + 1) all))
  rest_is = laid.rest ∙ ap (cuts left) (drop_more all k 0 below)

  -- nothing is left for the next one, or it is 0
  pub stops_at : (left ≡ 0) → cuts extent all ≡ false
  stops_at none = rest_is
      ∙ ap (λ m. (nat_lt 0 m && nat_lt 0 (get_or all k 0)) && cuts (m - get_or all k 0) (drop (k + 1) all)) none

  pub stops_by : get_or all k 0 ≡ 0 → cuts extent all ≡ false
  stops_by none = rest_is ∙ (ap (λ m. (nat_lt 0 left && nat_lt 0 m) && cuts (left - m) (drop (k + 1) all)) none
      ∙ last (nat_lt 0 left) _)
    where
      last : (b c : Bool) → ((b && false) && c) ≡ false
      last true c = refl
      last false c = refl

  pub one_laid : (own : ℕ) → own ≡ get_or all k 0 → 0 < own → 0 < left →
      AreLaid extent all (k + 1) (left - own) (kept ++ own ∷ []) (starts ++ (extent - left) ∷ [])
  one_laid own is positive some =
      let more : take (k + 1) all ≡ take k all ++ get_or all k 0 ∷ [] = take_more all k 0 below in record {
        kept_are = ap₂ (λ l n. l ++ n ∷ []) laid.kept_are is ∙ sym more;
        starts_are = ap₂ (λ l n. l ++ n ∷ []) laid.starts_are (let e : extent - left ≡ 0 + sum (take k all) =
            omega (arith, laid.left_is, some) in e)
            ∙ (sym (starts_more 0 (take k all) (get_or all k 0)) ∙ ap (starts_from 0) (sym more));
        left_is = omega (arith, laid.left_is, is, sum_by_more (λ n. n) all k 0 below);
        rest = rest_is ∙ (true_and (nat_lt 0 left && nat_lt 0 (get_or all k 0))
            (ap₂ (λ a b. a && b) (lt-ltb 0 left some) (lt-ltb 0 (get_or all k 0) (omega (arith, is, positive))))
            (cuts (left - get_or all k 0) (drop (k + 1) all))
            ∙ ap (λ m. cuts (left - m) (drop (k + 1) all)) (sym is));
      }

pub laid_next : (extent : ℕ) (all : List ℕ) (k left : ℕ) (kept starts : List ℕ) (own left' start : ℕ)
    (kept' starts' : List ℕ) →
    AreLaid extent all k left kept starts → k < length all → own ≡ get_or all k 0 → 0 < own → 0 < left →
    left' ≡ left - own → start ≡ extent - left → kept' ≡ kept ++ own ∷ [] → starts' ≡ starts ++ start ∷ [] →
    AreLaid extent all (k + 1) left' kept' starts'
laid_next extent all k left kept starts own left' start kept' starts' laid below is positive some l s ks ss =
    subst (λ x. AreLaid extent all (k + 1) x kept' starts') (sym l)
    (subst (λ x. AreLaid extent all (k + 1) (left - own) x starts') (sym ks)
    (subst (λ x. AreLaid extent all (k + 1) (left - own) (kept ++ own ∷ []) x)
    (sym (ss ∙ ap (λ x. starts ++ x ∷ []) s))
    (one_laid extent all k left kept starts laid below own is positive some)))
