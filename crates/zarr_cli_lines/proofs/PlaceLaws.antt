-- The bytes of the element at a place.
use Rattle.std.proofs.Common.{◌≡◌, ℕ, zero, suc, ◌+◌, ◌-◌, ◌*◌, ◌<◌, ◌≤◌, Bool, true, false, ◌==◌}
use Rattle.std.proofs.Common.{◌&&◌, nat_le, List, [], ◌∷◌, length, map, take, drop, get_or, codes, Option, Some, None}
use Rattle.std.proofs.Common.{IsSome, unwrap_or, option_map, refl, sym, ap, ◌∙◌, subst, arith, if◌then◌else◌, eqb-true}
use Rattle.std.proofs.Math.Nat.{suc-mul}
use Rattle.std.proofs.lemmas.Bool.{and_parts, leb-true, cond-true}
use Rattle.std.proofs.lemmas.List.{drop-drop}
use Rattle.zarr_model.specs.Element.{Element, of_bytes, null, Kind, fixed, variable, optional}
use Rattle.zarr_model.specs.ArrayBytes.{ArrayBytes, fixed_bytes, variable_bytes, optional_bytes, pieces}
use Rattle.zarr_model.specs.ArrayBytes.{between_offsets, offsets_rise_to, are_offsets, is_mask, mask_over, masked}
use Rattle.zarr_model.specs.ArrayBytes.{meaning}
use Rattle.zarr_model.proofs.BytesLaws.{length-meaning, mask_length}
use Rattle.zarr_model.proofs.RefusalLaws.{rise_within}
use Rattle.zarr_cli_lines.specs.ElementText.{hex_text, element_text}
use Rattle.zarr_cli_lines.specs.Place.{IsElementPlace, element_at, text_at}

there_only : {A : Type 0} (b : Bool) (o : Option A) → IsSome (if b then o else None) → (b ≡ true) × IsSome o
there_only true o there = (refl, there)
there_only false o there = cc

-- a piece
piece_at : (k n i : ℕ) (value : List ℕ) → i < k →
    get_or (map of_bytes (pieces k n value)) i null ≡ of_bytes (take n (drop (i * n) value))
piece_at zero n i value inside = absurd (omega (arith, inside))
piece_at (suc k) n zero value inside = let none : 0 ≡ 0 * n = omega arith in
    ap (λ m. of_bytes (take n (drop m value))) none
piece_at (suc k) n (suc i) value inside =
    let more : i * n + n ≡ suc i * n = omega (arith, suc-mul i n) in
    piece_at k n i (drop n value) (omega (arith, inside))
    ∙ ap (λ v. of_bytes (take n v)) (drop-drop (i * n) n value ∙ ap (λ m. drop m value) (omega (arith, more)))

pub fixed_at : (size elements index : ℕ) (value : List ℕ) →
    IsElementPlace (fixed size) elements (fixed_bytes value) index →
    element_at (fixed size) elements (fixed_bytes value) index ≡ of_bytes (take size (drop (index * size) value))
fixed_at size elements index value is =
    let parts =
    there_only (length value == elements * size) (Some (map of_bytes (pieces elements size value))) is.valid in
    ap (λ o. get_or (unwrap_or o []) index null) (cond-true (length value == elements * size)
    (Some (map of_bytes (pieces elements size value))) None parts.0) ∙ piece_at elements size index value is.inside

-- what is between two offsets
between_at : (first i : ℕ) (offsets value : List ℕ) → i < length offsets →
    get_or (map of_bytes (between_offsets (first ∷ offsets) value)) i null ≡
    of_bytes (take (get_or offsets i 0 - get_or (first ∷ offsets) i 0) (drop (get_or (first ∷ offsets) i 0) value))
between_at first i [] value inside = absurd (omega (arith, inside))
between_at first zero (to ∷ offsets) value inside = refl
between_at first (suc i) (to ∷ offsets) value inside = between_at to i offsets value (omega (arith, inside))

ends_at : (end first i : ℕ) (offsets : List ℕ) → i < length offsets → offsets_rise_to end first offsets ≡ true →
    (get_or (first ∷ offsets) i 0 ≤ get_or offsets i 0) × (get_or offsets i 0 ≤ end)
ends_at end first i [] inside rises = absurd (omega (arith, inside))
ends_at end first zero (to ∷ offsets) inside rises =
    let parts = and_parts (nat_le first to) (offsets_rise_to end to offsets) rises in
    (leb-true first to parts.0, rise_within end to offsets parts.1)
ends_at end first (suc i) (to ∷ offsets) inside rises =
    let parts = and_parts (nat_le first to) (offsets_rise_to end to offsets) rises in
    ends_at end to i offsets (omega (arith, inside)) parts.1

-- the parts of valid offsets
pub record Between (elements : ℕ) (value offsets : List ℕ) (index : ℕ) : Type 0 where
  pub count : index + 1 < length offsets
  pub rise : get_or offsets index 0 ≤ get_or offsets (index + 1) 0
  pub within : get_or offsets (index + 1) 0 ≤ length value
  pub at : element_at variable elements (variable_bytes value offsets) index ≡
      of_bytes (take (get_or offsets (index + 1) 0 - get_or offsets index 0) (drop (get_or offsets index 0) value))

pub variable_at : (elements index : ℕ) (value offsets : List ℕ) →
    IsElementPlace variable elements (variable_bytes value offsets) index → Between elements value offsets index
variable_at elements index value [] is = absurd (let no = is.valid in cc)
variable_at elements index value (first ∷ offsets) is =
    let parts = there_only (are_offsets elements (length value)
    (first ∷ offsets)) (Some (map of_bytes (between_offsets (first ∷ offsets) value))) is.valid in
    let counted =
    and_parts (length offsets == elements) ((first == 0) && offsets_rise_to (length value) first offsets) parts.0 in
    let rises = (and_parts (first == 0) (offsets_rise_to (length value) first offsets) counted.1).1 in
    let many : index < length offsets = omega (arith, eqb-true (length offsets) elements counted.0, is.inside) in
    let one : suc index ≡ index + 1 = omega arith in
    let next : get_or offsets index 0 ≡ get_or (first ∷ offsets) (index + 1) 0 =
    ap (λ n. get_or (first ∷ offsets) n 0) one in
    let ends = ends_at (length value) first index offsets many rises in
    record {
      count = omega (arith, many);
      rise = subst (λ n. get_or (first ∷ offsets) index 0 ≤ n) next ends.0;
      within = subst (λ n. n ≤ length value) next ends.1;
      at = ap (λ o. get_or (unwrap_or o []) index null) (cond-true (are_offsets elements (length value)
          (first ∷ offsets)) (Some (map of_bytes (between_offsets (first ∷ offsets) value))) None parts.0)
          ∙ (between_at first index offsets value many ∙ ap (λ n.
          of_bytes (take (n - get_or (first ∷ offsets) index 0) (drop (get_or (first ∷ offsets) index 0) value))) next);
    }

-- an optional element
masked_at : (mask : List ℕ) (list : List Element) (i : ℕ) → i < length mask → length mask ≡ length list →
    get_or (mask_over mask list) i null ≡ masked (get_or mask i 0) (get_or list i null)
masked_at [] list i inside same = absurd (omega (arith, inside))
masked_at (b ∷ mask) [] i inside same = absurd (omega (arith, same))
masked_at (b ∷ mask) (element ∷ list) zero inside same = refl
masked_at (b ∷ mask) (element ∷ list) (suc i) inside same =
    masked_at mask list i (omega (arith, inside)) (omega (arith, same))

pub record Masked (kind : Kind) (elements : ℕ) (under : ArrayBytes) (mask : List ℕ) (index : ℕ) : Type 0 where
  pub count : index < length mask
  pub held : IsElementPlace kind elements under index
  pub at : element_at (optional kind) elements (optional_bytes under mask) index ≡
      masked (get_or mask index 0) (element_at kind elements under index)

pub optional_at : (kind : Kind) (elements index : ℕ) (under : ArrayBytes) (mask : List ℕ) →
    IsElementPlace (optional kind) elements (optional_bytes under mask) index → Masked kind elements under mask index
optional_at kind elements index under mask is =
    let parts =
    there_only (is_mask elements mask) (option_map (mask_over mask) (meaning kind elements under)) is.valid in
    let long : length mask ≡ elements = mask_length elements mask parts.0 in
    go long (cond-true (is_mask elements mask) (option_map (mask_over mask) (meaning kind elements under)) None parts.0)
    (meaning kind elements under) refl parts.1
  where
    go : length mask ≡ elements → meaning (optional kind) elements (optional_bytes under mask) ≡
        option_map (mask_over mask) (meaning kind elements under) →
        (o : Option (List Element)) → meaning kind elements under ≡ o → IsSome (option_map (mask_over mask) o) →
        Masked kind elements under mask index
    go long whole None means there = cc
    go long whole (Some list) means there =
        let counted : length list ≡ elements = length-meaning kind elements under list means in
        let inside : index < length mask = omega (arith, long, is.inside) in
        record {
          count = inside;
          held =
              record { inside = is.inside; valid = subst (λ (o : Option (List Element)). IsSome o) (sym means) refl };
          at = ap (λ o. get_or (unwrap_or o []) index null) (whole ∙ ap (option_map (mask_over mask)) means)
              ∙ (masked_at mask list index inside (long ∙ sym counted)
              ∙ ap (λ o. masked (get_or mask index 0) (get_or (unwrap_or o []) index null)) (sym means));
        }

-- their texts
pub fixed_text : (size elements index : ℕ) (value : List ℕ) → IsElementPlace (fixed size) elements (fixed_bytes value)
    index → hex_text (take (index * size + size - index * size) (drop (index * size) value)) ≡
    text_at (fixed size) elements (fixed_bytes value) index
fixed_text size elements index value is =
    let one : index * size + size - index * size ≡ size = omega arith in
    ap (λ n. hex_text (take n (drop (index * size) value))) one
    ∙ sym (ap element_text (fixed_at size elements index value is))

pub null_text : (kind : Kind) (elements index : ℕ) (under : ArrayBytes) (mask : List ℕ) →
    Masked kind elements under mask index → get_or mask index 0 ≡ 0 →
    text_at (optional kind) elements (optional_bytes under mask) index ≡ codes "-"
null_text kind elements index under mask is none =
    ap element_text (is.at ∙ ap (λ b. masked b (element_at kind elements under index)) none)

some_text : (b : ℕ) (element : Element) → ¬ (b ≡ 0) → element_text (masked b element) ≡ 43 ∷ element_text element
some_text zero element there = absurd (there refl)
some_text (suc b) element there = refl

pub held_text : (kind : Kind) (elements index : ℕ) (under : ArrayBytes) (mask : List ℕ) →
    Masked kind elements under mask index → ¬ (get_or mask index 0 ≡ 0) →
    text_at (optional kind) elements (optional_bytes under mask) index ≡ 43 ∷ text_at kind elements under index
held_text kind elements index under mask is there =
    ap element_text is.at ∙ some_text (get_or mask index 0) (element_at kind elements under index) there

-- the same where the kind and the bytes are known by their parts
pub null_at : (kind inner : Kind) (elements index : ℕ) (bytes under : ArrayBytes) (mask : List ℕ) → optional inner ≡
    kind → bytes ≡ optional_bytes under mask → IsElementPlace kind elements bytes index → get_or mask index 0 ≡ 0 →
    text_at kind elements bytes index ≡ codes "-"
null_at kind inner elements index bytes under mask same parts is none =
    let place : IsElementPlace (optional inner) elements (optional_bytes under mask) index = subst (λ b. IsElementPlace
    (optional inner) elements b index) parts (subst (λ k. IsElementPlace k elements bytes index) (sym same) is) in
    sym (ap (λ k. text_at k elements bytes index) same) ∙ (ap (λ b. text_at (optional inner) elements b index) parts
    ∙ null_text inner elements index under mask (optional_at inner elements index under mask place) none)

pub held_at : (kind inner : Kind) (elements index : ℕ) (bytes under : ArrayBytes) (mask : List ℕ) → optional inner ≡
    kind → bytes ≡ optional_bytes under mask → IsElementPlace kind elements bytes index → ¬ (get_or mask index 0 ≡ 0) →
    IsElementPlace inner elements under index ×
    (text_at kind elements bytes index ≡ 43 ∷ text_at inner elements under index)
held_at kind inner elements index bytes under mask same parts is there =
    let place : IsElementPlace (optional inner) elements (optional_bytes under mask) index = subst (λ b. IsElementPlace
    (optional inner) elements b index) parts (subst (λ k. IsElementPlace k elements bytes index) (sym same) is) in
    let masked = optional_at inner elements index under mask place in (
      masked.held,
      sym (ap (λ k. text_at k elements bytes index) same) ∙ (ap (λ b.
          text_at (optional inner) elements b index) parts ∙ held_text inner elements index under mask masked there),
    )
