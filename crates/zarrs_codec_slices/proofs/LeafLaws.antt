-- Elements that are bytes, by their places.
use Rattle.std.proofs.Common.{◌≡◌, ℕ, zero, suc, ◌+◌, ◌-◌, ◌*◌, ◌<◌, ◌≤◌, false, nat_lt, if◌then◌else◌, ◌==◌, List, []}
use Rattle.std.proofs.Common.{◌∷◌, ◌++◌, length, take, drop, map, get_or, Some, arith, ap, ap₂, sym, refl, ◌∙◌, subst}
use Rattle.std.proofs.Common.{subst₂, eqb-true, inl, inr, ◌⊎◌}
use Rattle.std.specs.List.{flat_map, AllByRecursion}
use Rattle.std.proofs.lemmas.Bool.{and_parts, cond-true, cond-false, cases_lt, lt-ltb}
use Rattle.std.proofs.lemmas.Bool.Decides.{nat_tests}
use Rattle.std.proofs.lemmas.List.{length-map, get_or-map, get_or_append_left, get_or-append_right, drop-drop}
use Rattle.std.proofs.Math.Nat.{suc-mul}
use Rattle.zarr_model.specs.Element.{Element, of_bytes, null, fixed, variable, IsOfKind}
use Rattle.zarr_model.specs.ArrayBytes.{fixed_bytes, variable_bytes, pieces, between_offsets, are_offsets, meaning}
use Rattle.zarr_model.specs.ArrayBytes.{bytes_of, ends_from, array_bytes}
use Rattle.zarr_model.proofs.BytesLaws.{when_some, meaning-array_bytes, length-pieces, length-between_offsets}
use Rattle.zarrs_codec_slices.specs.Picking.{AllBelow, piece_of, value_of}

-- a fact of each number of a list, as one of the first and of the others
pub below_rest : (limit x : ℕ) (xs : List ℕ) → AllBelow limit (x ∷ xs) → AllBelow limit xs
below_rest limit x xs all = λ k h. all (suc k) (omega (arith, h))

-- two functions that agree below a limit have the same map over numbers below it
pub map_below : {A : Type 0} (f g : ℕ → A) (limit : ℕ) (xs : List ℕ) → ((k : ℕ) → k < limit → f k ≡ g k) →
    AllBelow limit xs → map f xs ≡ map g xs
map_below f g limit [] same all = refl
map_below f g limit (x ∷ xs) same all =
    ap₂ (λ a b. a ∷ b) (same x (all 0 (omega arith))) (map_below f g limit xs same (below_rest limit x xs all))

-- the element at a pick is one of the first list or of the second
pub pick_of : {A : Type 0} (d : A) (xs ys : List A) (number pick : ℕ) → length xs ≡ number →
    get_or (xs ++ ys) pick d ≡ (if nat_lt pick number then get_or xs pick d else get_or ys (pick - number) d)
pick_of d xs ys number pick long = go (cases_lt pick number)
  where
    not_below : number ≤ pick → nat_lt pick number ≡ false
    not_below high = grind (arith, nat_tests)

    go : (pick < number) ⊎ (number ≤ pick) →
        get_or (xs ++ ys) pick d ≡ (if nat_lt pick number then get_or xs pick d else get_or ys (pick - number) d)
    go (inl low) = get_or_append_left xs ys d pick (subst (λ n. pick < n) (sym long) low)
        ∙ sym (cond-true (nat_lt pick number) _ _ (lt-ltb pick number low))
    go (inr high) =
        get_or-append_right xs ys number pick d long high ∙ sym (cond-false (nat_lt pick number) _ _ (not_below high))

-- pieces and values by their places
pub get_or-pieces : (k n : ℕ) (bytes : List ℕ) (i : ℕ) (d : List ℕ) → i < k →
    get_or (pieces k n bytes) i d ≡ piece_of n bytes i
get_or-pieces zero n bytes i d h = absurd (omega arith)
get_or-pieces (suc k) n bytes zero d h = ap (λ m. take n (drop m bytes)) (let e : 0 ≡ 0 * n = omega arith in e)
get_or-pieces (suc k) n bytes (suc i) d h =
    get_or-pieces k n (drop n bytes) i d (omega arith) ∙ ap (take n) (drop-drop (i * n) n bytes
    ∙ ap (λ m. drop m bytes) (let e : n + i * n ≡ suc i * n = omega (arith, suc-mul i n) in e))

pub get_or-between : (offsets value : List ℕ) (i : ℕ) (d : List ℕ) → i + 1 < length offsets →
    get_or (between_offsets offsets value) i d ≡ value_of value offsets i
get_or-between [] value i d h = absurd (omega arith)
get_or-between (from ∷ []) value i d h = absurd (omega arith)
get_or-between (from ∷ to ∷ offsets) value zero d h = refl
get_or-between (from ∷ to ∷ offsets) value (suc i) d h =
    get_or-between (to ∷ offsets) value i d (omega arith)
    ∙ ap (λ m. take (get_or (from ∷ to ∷ offsets) m 0 - get_or (to ∷ offsets) i 0)
    (drop (get_or (to ∷ offsets) i 0) value)) (let e : suc (i + 1) ≡ suc i + 1 = omega arith in e)

pub fixed_at : (n number : ℕ) (value : List ℕ) (xs : List Element) → meaning (fixed n) number (fixed_bytes value) ≡
    Some xs → (i : ℕ) → i < number → get_or xs i null ≡ of_bytes (piece_of n value i)
fixed_at n number value xs e i h =
    let parts = when_some (length value == number * n) (map of_bytes (pieces number n value)) xs e in
    ap (λ l. get_or l i null) (sym parts.1)
    ∙ (get_or-map of_bytes (pieces number n value) i [] null (subst (λ m. i < m) (sym (length-pieces number n value)) h)
    ∙ ap of_bytes (get_or-pieces number n value i [] h))

pub fixed_long : (n number : ℕ) (value : List ℕ) (xs : List Element) →
    meaning (fixed n) number (fixed_bytes value) ≡ Some xs → length value ≡ number * n
fixed_long n number value xs e =
    eqb-true _ _ (when_some (length value == number * n) (map of_bytes (pieces number n value)) xs e).0

pub variable_at : (number : ℕ) (value offsets : List ℕ) (xs : List Element) →
    meaning variable number (variable_bytes value offsets) ≡ Some xs → (i : ℕ) → i < number →
    get_or xs i null ≡ of_bytes (value_of value offsets i)
variable_at number value [] xs e i h = cc
variable_at number value (first ∷ offsets) xs e i h =
    let parts = when_some (are_offsets number (length value) (first ∷ offsets)) (map of_bytes
    (between_offsets (first ∷ offsets) value)) xs e in
    let counted : length offsets ≡ number = eqb-true _ _ (and_parts (length offsets == number) _ parts.0).0 in
    ap (λ l. get_or l i null) (sym parts.1)
    ∙ (get_or-map of_bytes (between_offsets (first ∷ offsets) value) i [] null
    (subst (λ m. i < m) (sym (length-between_offsets first offsets value ∙ counted)) h)
    ∙ ap of_bytes (get_or-between (first ∷ offsets) value i [] (omega (arith, h, counted))))

-- bytes that are joined mean the elements that were joined
module _ (f : ℕ → List ℕ) where
  joined_bytes : (xs : List ℕ) → flat_map bytes_of (map (λ w. of_bytes (f w)) xs) ≡ flat_map f xs
  joined_bytes [] = refl
  joined_bytes (x ∷ xs) = ap (λ rest. f x ++ rest) (joined_bytes xs)

  bytes_back : (xs : List ℕ) → map bytes_of (map (λ w. of_bytes (f w)) xs) ≡ map f xs
  bytes_back [] = refl
  bytes_back (x ∷ xs) = ap (λ rest. f x ∷ rest) (bytes_back xs)

  are_fixed : (n limit : ℕ) (xs : List ℕ) → ((w : ℕ) → w < limit → length (f w) ≡ n) → AllBelow limit xs →
      AllByRecursion (IsOfKind (fixed n)) (map (λ w. of_bytes (f w)) xs)
  are_fixed n limit [] long all = tt
  are_fixed n limit (x ∷ xs) long all =
      (long x (all 0 (omega arith)), are_fixed n limit xs long (below_rest limit x xs all))

  are_variable : (xs : List ℕ) → AllByRecursion (IsOfKind variable) (map (λ w. of_bytes (f w)) xs)
  are_variable [] = tt
  are_variable (x ∷ xs) = (tt, are_variable xs)

  pub joined_fixed : (n limit : ℕ) (xs : List ℕ) → ((w : ℕ) → w < limit → length (f w) ≡ n) → AllBelow limit xs →
      meaning (fixed n) (length xs) (fixed_bytes (flat_map f xs)) ≡ Some (map (λ w. of_bytes (f w)) xs)
  joined_fixed n limit xs long all =
      subst₂ (λ k v. meaning (fixed n) k (fixed_bytes v) ≡ Some (map (λ w. of_bytes (f w)) xs))
      (length-map xs (λ w. of_bytes (f w))) (joined_bytes xs)
      (meaning-array_bytes (fixed n) (map (λ w. of_bytes (f w)) xs) (are_fixed n limit xs long all))

  pub joined_variable : (xs : List ℕ) → meaning variable (length xs)
      (variable_bytes (flat_map f xs) (0 ∷ ends_from 0 (map f xs))) ≡ Some (map (λ w. of_bytes (f w)) xs)
  joined_variable xs =
      ap₂ (λ v e. meaning variable (length xs) (variable_bytes v (0 ∷ ends_from 0 e))) (sym (joined_bytes xs))
      (sym (bytes_back xs))
      ∙ (ap (λ k. meaning variable k (array_bytes variable (map (λ w. of_bytes (f w)) xs)))
      (sym (length-map xs (λ w. of_bytes (f w))))
      ∙ meaning-array_bytes variable (map (λ w. of_bytes (f w)) xs) (are_variable xs))
