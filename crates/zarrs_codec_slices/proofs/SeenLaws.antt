-- Equality of optional array bytes is an equivalence, and on valid bytes that of the elements.
use Rattle.std.proofs.Common.{◌≡◌, ℕ, zero, suc, ◌+◌, ◌/◌, ◌<◌, ◌==◌, ◌↔◌, Bool, true, false, not, ◌&&◌, nat_lt}
use Rattle.std.proofs.Common.{if◌then◌else◌, List, length, get_or, bytes_eq, Some, None, arith, ap, ap₂, sym, refl, ◌∙◌}
use Rattle.std.proofs.Common.{subst, eqb-true, eq-eqb}
use Rattle.std.specs.List.{list_all, range_with_len}
use Rattle.std.proofs.lemmas.Bool.{and_parts, and_from, cond-true, cond-false}
use Rattle.std.proofs.lemmas.Bool.Decides.{nat_tests}
use Rattle.zarr_model.proofs.FailureLaws.{same_bytes, bytes_eq-refl}
use Rattle.zarr_model.specs.ArrayBytes.{ArrayBytes, fixed_bytes, variable_bytes, optional_bytes}
use Rattle.zarrs_codec_slices.specs.Picking.{piece_of, value_of}
use Rattle.zarrs_codec_slices.specs.Same.{same_shape, same_at, same_under, same_optional, SeenBytes, nothing}
use Rattle.zarrs_codec_slices.specs.Same.{fixed_seen, variable_seen, flag_seen, flagged, seen_at, fixed_shape}
use Rattle.zarrs_codec_slices.specs.Same.{optional_shape, shape_of, IsSame}

-- equality is an equivalence
pub same-refl : (m : List ℕ) (a : ArrayBytes) → IsSame m a m a
same-refl m a = record { masks = refl; shape = refl; each = λ i h e. refl }

pub same-sym : (m : List ℕ) (a : ArrayBytes) (k : List ℕ) (b : ArrayBytes) → IsSame m a k b → IsSame k b m a
same-sym m a k b s = record {
  masks = sym s.masks;
  shape = sym s.shape;
  each = subst (λ l. (i : ℕ) → i < length l → (get_or l i 0 ≡ 0 → ⊥) → seen_at (length l) i b ≡ seen_at (length l) i a)
      s.masks (λ i h e. sym (s.each i h e));
}

pub same-trans : (m : List ℕ) (a : ArrayBytes) (k : List ℕ) (b : ArrayBytes) (l : List ℕ) (c : ArrayBytes) →
    IsSame m a k b → IsSame k b l c → IsSame m a l c
same-trans m a k b l c s t = record {
  masks = s.masks ∙ t.masks;
  shape = s.shape ∙ t.shape;
  each = λ i h e. s.each i h e ∙ subst (λ p. (i : ℕ) → i < length p → (get_or p i 0 ≡ 0 → ⊥) →
      seen_at (length p) i b ≡ seen_at (length p) i c) (sym s.masks) t.each i h e;
}

-- the test of the data's form
pub shape_test : (a b : ArrayBytes) → (same_shape a b ≡ true) ↔ (shape_of a ≡ shape_of b)
shape_test (fixed_bytes a) (fixed_bytes b) = (
  (λ e. ap fixed_shape (eqb-true (length a) (length b) e)),
  (λ e. eq-eqb (length a) (length b) (let same : length a ≡ length b = cc in same)),
)
shape_test (fixed_bytes a) (variable_bytes b q) = ((λ e. cc), (λ e. cc))
shape_test (fixed_bytes a) (optional_bytes b k) = ((λ e. cc), (λ e. cc))
shape_test (variable_bytes a p) (fixed_bytes b) = ((λ e. cc), (λ e. cc))
shape_test (variable_bytes a p) (variable_bytes b q) = ((λ e. refl), (λ e. refl))
shape_test (variable_bytes a p) (optional_bytes b k) = ((λ e. cc), (λ e. cc))
shape_test (optional_bytes a m) (fixed_bytes b) = ((λ e. cc), (λ e. cc))
shape_test (optional_bytes a m) (variable_bytes b q) = ((λ e. cc), (λ e. cc))
shape_test (optional_bytes a m) (optional_bytes b k) =
    let inner = shape_test a b in
    ((λ e. ap optional_shape (inner.0 e)), (λ e. inner.1 (let same : shape_of a ≡ shape_of b = cc in same)))

same_if : (a b : List ℕ) → a ≡ b → bytes_eq a b ≡ true
same_if a b e = subst (λ x. bytes_eq a x ≡ true) e (bytes_eq-refl a)

-- the test of two elements
values_test : (p q : Bool) (x y : List ℕ) → ((if p then (if q then bytes_eq x y else false) else not q) ≡ true) ↔
    (variable_seen (if p then Some x else None) ≡ variable_seen (if q then Some y else None))
values_test true true x y =
    ((λ e. ap (λ v. variable_seen (Some v)) (same_bytes x y e)), (λ e. same_if x y (let same : x ≡ y = cc in same)))
values_test true false x y = ((λ e. cc), (λ e. cc))
values_test false true x y = ((λ e. cc), (λ e. cc))
values_test false false x y = ((λ e. refl), (λ e. refl))

apart : {A : Type 0} (f g : ℕ) (t : Bool) → (if f == g then t else false) ≡ true → (f ≡ g → ⊥) → A
apart {A = A} f g t e differ = go (f == g) refl e
  where
    go : (b : Bool) → (f == g) ≡ b → (if b then t else false) ≡ true → A
    go true is e = absurd (differ (eqb-true f g is))
    go false is e = cc

suc_flags : (f g : ℕ) (t : Bool) (s u : SeenBytes) → (t ≡ true) ↔ (s ≡ u) →
    ((if suc f == suc g then t else false) ≡ true) ↔ (flag_seen (Some (suc f)) s ≡ flag_seen (Some (suc g)) u)
suc_flags f g t s u both = (forth (suc f == suc g) refl, back)
  where
    forth : (b : Bool) → (suc f == suc g) ≡ b → (if b then t else false) ≡ true →
        flag_seen (Some (suc f)) s ≡ flag_seen (Some (suc g)) u
    forth true is e = ap₂ (λ x y. flag_seen (Some x) y) (eqb-true (suc f) (suc g) is) (both.0 e)
    forth false is e = cc

    back : flag_seen (Some (suc f)) s ≡ flag_seen (Some (suc g)) u → (if suc f == suc g then t else false) ≡ true
    back e =
        let under : s ≡ u = cc in
        let number : suc f ≡ suc g = cc in
        cond-true (suc f == suc g) t false (eq-eqb (suc f) (suc g) number) ∙ both.1 under

not_zero : (f : ℕ) (t : Bool) → (if suc f == 0 then true else t) ≡ t
not_zero f t = cond-false (suc f == 0) true t (differs f)
  where
    differs : (f : ℕ) → (suc f == 0) ≡ false
    differs f = grind (arith, nat_tests)

flags_test : (f g : ℕ) (t : Bool) (s u : SeenBytes) → (t ≡ true) ↔ (s ≡ u) →
    ((if f == g then (if f == 0 then true else t) else false) ≡ true) ↔ (flagged f s ≡ flagged g u)
flags_test zero zero t s u both = ((λ e. refl), (λ e. refl))
flags_test zero (suc g) t s u both = (
  (λ e. apart 0 (suc g) true e (λ h. omega (arith, h))),
  (λ e. let number : 0 ≡ suc g = cc in absurd (omega (arith, number))),
)
flags_test (suc f) zero t s u both = (
  (λ e. apart (suc f) 0 (if suc f == 0 then true else t) e (λ h. omega (arith, h))),
  (λ e. let number : suc f ≡ 0 = cc in absurd (omega (arith, number))),
)
flags_test (suc f) (suc g) t s u both = suc_flags f g (if suc f == 0 then true else t) s u
    ((λ e. both.0 (sym (not_zero f t) ∙ e)), (λ e. not_zero f t ∙ both.1 e))

masks_test : (p q : Bool) (f g : ℕ) (t : Bool) (s u : SeenBytes) → (t ≡ true) ↔ (s ≡ u) →
    ((if p then (if q then (if f == g then (if f == 0 then true else t) else false) else false) else not q) ≡ true)
    ↔ ((if p then flagged f s else flag_seen None nothing) ≡ (if q then flagged g u else flag_seen None nothing))
masks_test true true f g t s u both = flags_test f g t s u both
masks_test true false zero g t s u both = ((λ e. cc), (λ e. cc))
masks_test true false (suc f) g t s u both = ((λ e. cc), (λ e. cc))
masks_test false true f zero t s u both = ((λ e. cc), (λ e. cc))
masks_test false true f (suc g) t s u both = ((λ e. cc), (λ e. cc))
masks_test false false f g t s u both = ((λ e. refl), (λ e. refl))

not_flag : (t : Bool) (f : ℕ) (s u : SeenBytes) → ((flag_seen None nothing ≡ u) → ⊥) → ((x : ℕ) (y : SeenBytes) →
    flag_seen (Some x) y ≡ u → ⊥) → (if t then flagged f s else flag_seen None nothing) ≡ u → ⊥
not_flag true zero s u none there e = there 0 nothing e
not_flag true (suc f) s u none there e = there (suc f) s e
not_flag false f s u none there e = none e

pub at_test : (number i : ℕ) (a b : ArrayBytes) →
    (same_at number i a b ≡ true) ↔ (seen_at number i a ≡ seen_at number i b)
at_test number i (fixed_bytes a) (fixed_bytes b) = (
  (λ e. ap fixed_seen (same_bytes (piece_of (length a / number) a i) (piece_of (length b / number) b i) e)),
  (λ e. same_if (piece_of (length a / number) a i) (piece_of (length b / number) b i)
      (let same : piece_of (length a / number) a i ≡ piece_of (length b / number) b i = cc in same)),
)
at_test number i (fixed_bytes a) (variable_bytes b q) = ((λ e. cc), (λ e. cc))
at_test number i (fixed_bytes a) (optional_bytes b k) = (
  (λ e. cc),
  (λ e. absurd (not_flag (nat_lt i (length k)) (get_or
      k i 0) (seen_at number i b) (fixed_seen (piece_of (length a / number) a i)) (λ x. cc) (λ x y z. cc) (sym e))),
)
at_test number i (variable_bytes a p) (fixed_bytes b) = ((λ e. cc), (λ e. cc))
at_test number i (variable_bytes a p) (variable_bytes b q) =
    values_test (nat_lt (i + 1) (length p)) (nat_lt (i + 1) (length q)) (value_of a p i) (value_of b q i)
at_test number i (variable_bytes a p) (optional_bytes b k) = (
  (λ e. cc),
  (λ e. absurd (not_flag (nat_lt i (length k)) (get_or k i 0) (seen_at number i b) (variable_seen
      (if nat_lt (i + 1) (length p) then Some (value_of a p i) else None)) (λ x. cc) (λ x y z. cc) (sym e))),
)
at_test number i (optional_bytes a m) (fixed_bytes b) = (
  (λ e. cc),
  (λ e. absurd (not_flag (nat_lt i (length m))
      (get_or m i 0) (seen_at number i a) (fixed_seen (piece_of (length b / number) b i)) (λ x. cc) (λ x y z. cc) e)),
)
at_test number i (optional_bytes a m) (variable_bytes b q) = (
  (λ e. cc),
  (λ e. absurd (not_flag (nat_lt i (length m)) (get_or m i 0) (seen_at number i a)
      (variable_seen (if nat_lt (i + 1) (length q) then Some (value_of b q i) else None)) (λ x. cc) (λ x y z. cc) e)),
)
at_test number i (optional_bytes a m) (optional_bytes b k) =
    masks_test (nat_lt i (length m)) (nat_lt i (length k)) (get_or m i 0) (get_or k i 0) (same_at number i a b)
    (seen_at number i a) (seen_at number i b) (at_test number i a b)

-- a test of all places below a count
all_places : (f : ℕ → Bool) (from n : ℕ) →
    (list_all f (range_with_len from n) ≡ true) ↔ ((i : ℕ) → i < n → f (from + i) ≡ true)
all_places f from zero = ((λ e i h. absurd (omega arith)), (λ all. refl))
all_places f from (suc n) = (forth (all_places f (from + 1) n).0, back (all_places f (from + 1) n).1)
  where
    forth : (list_all f (range_with_len (from + 1) n) ≡ true → (i : ℕ) → i < n → f (from + 1 + i) ≡ true) →
        list_all f (range_with_len from (suc n)) ≡ true → (i : ℕ) → i < suc n → f (from + i) ≡ true
    forth rest e zero h = ap f (let same : from + 0 ≡ from = omega arith in same)
        ∙ (and_parts (f from) (list_all f (range_with_len (from + 1) n)) e).0
    forth rest e (suc i) h = ap f (let same : from + suc i ≡ from + 1 + i = omega arith in same)
        ∙ rest (and_parts (f from) (list_all f (range_with_len (from + 1) n)) e).1 i (omega arith)

    back : (((i : ℕ) → i < n → f (from + 1 + i) ≡ true) → list_all f (range_with_len (from + 1) n) ≡ true) →
        ((i : ℕ) → i < suc n → f (from + i) ≡ true) → list_all f (range_with_len from (suc n)) ≡ true
    back rest all = and_from (f from) (list_all f (range_with_len (from + 1) n))
        (ap f (let same : from ≡ from + 0 = omega arith in same) ∙ all 0 (omega arith))
        (rest (λ i h.
        ap f (let same : from + 1 + i ≡ from + suc i = omega arith in same) ∙ all (suc i) (omega (arith, h))))

under_test : (m : List ℕ) (a b : ArrayBytes) (i : ℕ) →
    (same_under m a b i ≡ true) ↔ ((get_or m i 0 ≡ 0 → ⊥) → seen_at (length m) i a ≡ seen_at (length m) i b)
under_test m a b i = go (get_or m i 0)
  where
    go : (f : ℕ) → ((if f == 0 then true else same_at (length m) i a b) ≡ true) ↔
        ((f ≡ 0 → ⊥) → seen_at (length m) i a ≡ seen_at (length m) i b)
    go zero = ((λ e there. absurd (there refl)), (λ all. refl))
    go (suc f) = (
      (λ e there. (at_test (length m) i a b).0 (sym (not_zero f (same_at (length m) i a b)) ∙ e)),
      (λ all.
          not_zero f (same_at (length m) i a b) ∙ (at_test (length m) i a b).1 (all (λ e. absurd (omega (arith, e))))),
    )

-- the test is equality
pub optional_test : (m : List ℕ) (a : ArrayBytes) (k : List ℕ) (b : ArrayBytes) →
    (same_optional m a k b ≡ true) ↔ IsSame m a k b
optional_test m a k b = (forth, back)
  where
    forth : same_optional m a k b ≡ true → IsSame m a k b
    forth e =
        let parts =
        and_parts (bytes_eq m k) (same_shape a b && list_all (same_under m a b) (range_with_len 0 (length m))) e in
        let rest = and_parts (same_shape a b) (list_all (same_under m a b) (range_with_len 0 (length m))) parts.1 in
        record {
          masks = same_bytes m k parts.0;
          shape = (shape_test a b).0 rest.0;
          each = λ i h there. (under_test m a b i).0 (ap (same_under m a b) (let same : i ≡ 0 + i = omega arith in same)
              ∙ (all_places (same_under m a b) 0 (length m)).0 rest.1 i h) there;
        }

    back : IsSame m a k b → same_optional m a k b ≡ true
    back s = and_from (bytes_eq m k) (same_shape a b && list_all (same_under m a b) (range_with_len 0 (length m)))
        (same_if m k s.masks)
        (and_from (same_shape a b) (list_all (same_under m a b) (range_with_len 0 (length m)))
        ((shape_test a b).1 s.shape)
        ((all_places (same_under m a b) 0 (length m)).1 (λ i h. ap (same_under m a b)
        (let same : 0 + i ≡ i = omega arith in same) ∙ (under_test m a b i).1 (λ there. s.each i h there))))
