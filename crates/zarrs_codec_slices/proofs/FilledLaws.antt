-- Elements that are all a fill value.
use Rattle.std.proofs.Common.{◌≡◌, ℕ, zero, suc, ◌+◌, ◌-◌, ◌*◌, ◌^◌, ◌<◌, ◌==◌, ◌||◌, Bool, true, false, nat_le}
use Rattle.std.proofs.Common.{if◌then◌else◌, List, [], ◌∷◌, ◌++◌, length, take, drop, map, replicate, Option, Some}
use Rattle.std.proofs.Common.{option_map, slice_index, arith, ap, ap₂, sym, refl, ◌∙◌, subst, eq-eqb, eqb-true}
use Rattle.std.specs.List.{flat_map, list_all, AllByRecursion}
use Rattle.std.proofs.lemmas.Bool.{and_from, cond-true}
use Rattle.std.proofs.lemmas.Bool.Decides.{nat_tests}
use Rattle.std.proofs.lemmas.List.{length-replicate}
use Rattle.std.proofs.Math.Seq.{take-append_seam, drop-append_seam}
use Rattle.zarr_model.specs.Element.{Element, of_bytes, null, some, Kind, fixed, variable, optional, fixed_size}
use Rattle.zarr_model.specs.Element.{IsOfKind, fill_element, optional_fill}
use Rattle.zarr_model.specs.ArrayBytes.{ArrayBytes, fixed_bytes, variable_bytes, optional_bytes, pieces, bytes_of}
use Rattle.zarr_model.specs.ArrayBytes.{ends_from, is_mask, mask_over, meaning, array_bytes}
use Rattle.zarr_model.specs.Command.{has_long_element, has_long_step}
use Rattle.zarr_model.proofs.BytesLaws.{when_some, mapped_some, length-meaning, meaning-array_bytes}
use Rattle.zarrs_data_type_bytes.specs.Pieces.{repeated, ends_in_zero}
use Rattle.zarrs_data_type_bytes.proofs.PieceLaws.{length-repeated}
use Rattle.zarrs_codec_slices.specs.Picking.{size_in}
use Rattle.zarrs_codec_slices.specs.Filling.{inner_fill, innermost_fill, has_size, flag_of, filled_with}

-- pieces of a list that is repeated
pub repeated_pieces : (k n : ℕ) (fill : List ℕ) → length fill ≡ n →
    map of_bytes (pieces k n (repeated k fill)) ≡ replicate k (of_bytes fill)
repeated_pieces zero n fill e = refl
repeated_pieces (suc k) n fill e =
    ap₂ (λ a b. of_bytes a ∷ map of_bytes (pieces k n b))
    (subst (λ m. take m (fill ++ repeated k fill) ≡ fill) e (take-append_seam fill (repeated k fill)))
    (subst (λ m. drop m (fill ++ repeated k fill) ≡ repeated k fill) e (drop-append_seam fill (repeated k fill)))
    ∙ ap (λ l. of_bytes fill ∷ l) (repeated_pieces k n fill e)

fixed_means : (k n : ℕ) (fill : List ℕ) → length fill ≡ n →
    meaning (fixed n) k (fixed_bytes (repeated k fill)) ≡ Some (replicate k (of_bytes fill))
fixed_means k n fill e =
    cond-true (length (repeated k fill) == k * n) _ _
    (eq-eqb (length (repeated k fill)) (k * n) (length-repeated k fill ∙ ap (λ m. k * m) e))
    ∙ ap Some (repeated_pieces k n fill e)

-- values that are all the same
repeated_bytes : (k : ℕ) (fill : List ℕ) → flat_map bytes_of (replicate k (of_bytes fill)) ≡ repeated k fill
repeated_bytes zero fill = refl
repeated_bytes (suc k) fill = ap (λ rest. fill ++ rest) (repeated_bytes k fill)

same_bytes : (k : ℕ) (fill : List ℕ) → map bytes_of (replicate k (of_bytes fill)) ≡ replicate k fill
same_bytes zero fill = refl
same_bytes (suc k) fill = ap (λ rest. fill ∷ rest) (same_bytes k fill)

of_variable : (k : ℕ) (fill : List ℕ) → AllByRecursion (IsOfKind variable) (replicate k (of_bytes fill))
of_variable zero fill = tt
of_variable (suc k) fill = (tt, of_variable k fill)

variable_means : (k : ℕ) (fill : List ℕ) → meaning variable k
    (variable_bytes (repeated k fill) (0 ∷ ends_from 0 (replicate k fill))) ≡ Some (replicate k (of_bytes fill))
variable_means k fill =
    ap₂ (λ v e. meaning variable k (variable_bytes v (0 ∷ ends_from 0 e))) (sym (repeated_bytes k fill))
    (sym (same_bytes k fill))
    ∙ (ap (λ m. meaning variable m (array_bytes variable (replicate k (of_bytes fill))))
    (sym (length-replicate k (of_bytes fill)))
    ∙ meaning-array_bytes variable (replicate k (of_bytes fill)) (of_variable k fill))

-- masks
low_flags : (k b : ℕ) → nat_le b 1 ≡ true → list_all (λ b. nat_le b 1) (replicate k b) ≡ true
low_flags zero b low = refl
low_flags (suc k) b low = and_from (nat_le b 1) (list_all (λ b. nat_le b 1) (replicate k b)) low (low_flags k b low)

same_mask : (k b : ℕ) → nat_le b 1 ≡ true → is_mask k (replicate k b) ≡ true
same_mask k b low = and_from (length (replicate k b) == k) (list_all (λ b. nat_le b 1) (replicate k b))
    (eq-eqb _ _ (length-replicate k b)) (low_flags k b low)

flag_low : (fill : List ℕ) → nat_le (flag_of fill) 1 ≡ true
flag_low fill = go (ends_in_zero fill)
  where
    go : (t : Bool) → nat_le (if t then 0 else 1) 1 ≡ true
    go true = refl
    go false = refl

nulls : (k : ℕ) (xs : List Element) → length xs ≡ k → mask_over (replicate k 0) xs ≡ replicate k null
nulls zero [] e = refl
nulls zero (x ∷ xs) e = absurd (omega (arith, e))
nulls (suc k) [] e = absurd (omega (arith, e))
nulls (suc k) (x ∷ xs) e = ap (λ rest. null ∷ rest) (nulls k xs (omega (arith, e)))

somes : (k : ℕ) (x : Element) → mask_over (replicate k 1) (replicate k x) ≡ replicate k (some x)
somes zero x = refl
somes (suc k) x = ap (λ rest. some x ∷ rest) (somes k x)

over_mask : (kind : Kind) (k b : ℕ) (under : ArrayBytes) (xs : List Element) → nat_le b 1 ≡ true →
    meaning kind k under ≡ Some xs →
    meaning (optional kind) k (optional_bytes under (replicate k b)) ≡ Some (mask_over (replicate k b) xs)
over_mask kind k b under xs low e =
    cond-true (is_mask k (replicate k b)) _ _ (same_mask k b low) ∙ ap (option_map (mask_over (replicate k b))) e

-- zero bytes of a type's size have its size
zeros_end : (n : ℕ) → 0 < n → ends_in_zero (replicate n 0) ≡ true
zeros_end zero h = absurd (omega arith)
zeros_end (suc zero) h = refl
zeros_end (suc (suc n)) h = zeros_end (suc n) (omega arith)

pub zeros_fit : (kind : Kind) → has_size kind (replicate (size_in (fixed_size kind)) 0) ≡ true
zeros_fit (fixed n) = eq-eqb _ _ (length-replicate n 0)
zeros_fit variable = refl
zeros_fit (optional kind) = go (size_in (fixed_size kind)) refl (zeros_fit kind)
  where
    go : (n : ℕ) → size_in (fixed_size kind) ≡ n → has_size kind (replicate (size_in (fixed_size kind)) 0) ≡ true →
        has_size kind (inner_fill kind (replicate n 0)) ≡ true
    go zero is inner = subst (λ n. has_size kind (replicate n 0) ≡ true) is inner
    go (suc n) is inner =
        ap (has_size kind) (cond-true (ends_in_zero (replicate (suc n) 0)) _ _ (zeros_end (suc n) (omega arith)))
        ∙ inner

-- what is filled means a list
pub record Means (kind : Kind) (number : ℕ) (value : ArrayBytes) : Type 0 where
  pub list : List Element
  pub is : meaning kind number value ≡ Some list

pub filled_valid : (kind : Kind) (number : ℕ) (fill : List ℕ) → has_size kind fill ≡ true →
    Means kind number (filled_with kind number fill)
filled_valid (fixed n) number fill e =
    record { list = replicate number (of_bytes fill); is = fixed_means number n fill (eqb-true _ _ e) }
filled_valid variable number fill e =
    record { list = replicate number (of_bytes fill); is = variable_means number fill }
filled_valid (optional kind) number fill e =
    let inner : Means kind number (filled_with kind number (inner_fill kind fill)) =
    filled_valid kind number (inner_fill kind fill) e in
    record {
      list = mask_over (replicate number (flag_of fill)) inner.list;
      is = over_mask kind number (flag_of fill) _ inner.list (flag_low fill) inner.is;
    }

-- the fill value of an optional type is null, or some of what the bytes before the last one denote

-- the fill value of an optional type, by its last byte
pub record IsNullFill (kind : Kind) (fill : List ℕ) (x : Element) : Type 0 where
  pub null_is : x ≡ null
  pub ends : ends_in_zero fill ≡ true

pub record IsSomeFill (kind : Kind) (fill : List ℕ) (x : Element) : Type 0 where
  pub element : Element
  pub some_is : x ≡ some element
  pub ends : ends_in_zero fill ≡ false
  pub inner : fill_element kind (take (length fill - 1) fill) ≡ Some element

pub fill_parts : {Goal : Type 0} (kind : Kind) (fill : List ℕ) (x : Element) →
    fill_element (optional kind) fill ≡ Some x →
    (IsNullFill kind fill x → Goal) → (IsSomeFill kind fill x → Goal) → Goal
fill_parts kind [] x e at_null at_some = cc
fill_parts {Goal = Goal} kind (b ∷ fill) x e at_null at_some = go (slice_index (b ∷ fill) (length fill)) refl e
  where
    inner : Option Element
    inner = fill_element kind (take (length fill) (b ∷ fill))

    shorter : length (b ∷ fill) - 1 ≡ length fill
    shorter = omega arith

    go : (last : ℕ) → slice_index (b ∷ fill) (length fill) ≡ last → optional_fill last inner ≡ Some x → Goal
    go zero is f =
        at_null (record { null_is = (let same : null ≡ x = cc in sym same); ends = ap (λ last. last == 0) is })
    go (suc last) is f =
        let parts = mapped_some some inner x f in
        at_some (record {
          element = parts.0;
          some_is = sym parts.2;
          ends = ap (λ last. last == 0) is
              ∙ (let not_zero : (suc last == 0) ≡ false = grind (arith, nat_tests) in not_zero);
          inner = ap (λ n. fill_element kind (take n (b ∷ fill))) shorter ∙ parts.1;
        })

inner_null : (kind : Kind) (fill : List ℕ) → ends_in_zero fill ≡ true →
    inner_fill kind fill ≡ replicate (size_in (fixed_size kind)) 0
inner_null kind fill e = cond-true (ends_in_zero fill) _ _ e

inner_some : (kind : Kind) (fill : List ℕ) → ends_in_zero fill ≡ false →
    inner_fill kind fill ≡ take (length fill - 1) fill
inner_some kind fill e = ap (λ t. if t then replicate (size_in (fixed_size kind)) 0 else take (length fill - 1) fill) e

-- a fill value that denotes an element has the type's size
pub element_fits : (kind : Kind) (fill : List ℕ) (x : Element) → fill_element kind fill ≡ Some x →
    has_size kind fill ≡ true
element_fits (fixed n) fill x e = (when_some (length fill == n) (of_bytes fill) x e).0
element_fits variable fill x e = refl
element_fits (optional kind) fill x e = fill_parts kind fill x e
    (λ p. ap (has_size kind) (inner_null kind fill p.ends) ∙ zeros_fit kind)
    (λ p. ap (has_size kind) (inner_some kind fill p.ends)
    ∙ element_fits kind (take (length fill - 1) fill) p.element p.inner)

-- elements that are filled mean the fill element again and again
pub filled_means : (kind : Kind) (number : ℕ) (fill : List ℕ) (x : Element) → fill_element kind fill ≡ Some x →
    meaning kind number (filled_with kind number fill) ≡ Some (replicate number x)
filled_means (fixed n) number fill x e =
    let parts = when_some (length fill == n) (of_bytes fill) x e in
    fixed_means number n fill (eqb-true _ _ parts.0) ∙ ap (λ y. Some (replicate number y)) parts.1
filled_means variable number fill x e =
    let same : of_bytes fill ≡ x = cc in variable_means number fill ∙ ap (λ y. Some (replicate number y)) same
filled_means (optional kind) number fill x e = fill_parts kind fill x e at_null
    (λ p. at_some p (filled_means kind number (take (length fill - 1) fill) p.element p.inner))
  where
    valid : Means kind number (filled_with kind number (inner_fill kind fill))
    valid = filled_valid kind number (inner_fill kind fill) (element_fits (optional kind) fill x e)

    at_null : IsNullFill kind fill x →
        meaning (optional kind) number (filled_with (optional kind) number fill) ≡ Some (replicate number x)
    at_null p =
        over_mask kind number (flag_of fill) _ valid.list (flag_low fill) valid.is
        ∙ ap Some (ap (λ t. mask_over (replicate number (if t then 0 else 1)) valid.list) p.ends
        ∙ (nulls number valid.list (length-meaning kind number _ valid.list valid.is)
        ∙ ap (replicate number) (sym p.null_is)))

    at_some : (p : IsSomeFill kind fill x) → meaning kind number
        (filled_with kind number (take (length fill - 1) fill)) ≡ Some (replicate number p.element) →
        meaning (optional kind) number (filled_with (optional kind) number fill) ≡ Some (replicate number x)
    at_some p below =
        let inner : meaning kind number (filled_with kind number (inner_fill kind fill)) ≡
        Some (replicate number p.element) =
        ap (λ f. meaning kind number (filled_with kind number f)) (inner_some kind fill p.ends) ∙ below in
        over_mask kind number (flag_of fill) _ (replicate number p.element) (flag_low fill) inner
        ∙ ap Some (ap (λ t. mask_over (replicate number (if t then 0 else 1)) (replicate number p.element)) p.ends
        ∙ (somes number p.element ∙ ap (replicate number) (sym p.some_is)))

-- and none is long where the innermost fill value is not
steps_short : (k place : ℕ) (fill : List ℕ) → length fill < 2 ^ 32 →
    has_long_step (place ∷ ends_from place (replicate k fill)) ≡ false
steps_short zero place fill h = refl
steps_short (suc k) place fill h =
    ap (λ b. b || has_long_step ((place + length fill) ∷ ends_from (place + length fill) (replicate k fill)))
    (let low : nat_le (place + 2 ^ 32) (place + length fill) ≡ false = grind (arith, nat_tests) in low)
    ∙ steps_short k (place + length fill) fill h

pub filled_short : (kind : Kind) (number : ℕ) (fill : List ℕ) → length (innermost_fill kind fill) < 2 ^ 32 →
    has_long_element (filled_with kind number fill) ≡ false
filled_short (fixed n) number fill h = refl
filled_short variable number fill h = steps_short number 0 fill h
filled_short (optional kind) number fill h = filled_short kind number (inner_fill kind fill) h
