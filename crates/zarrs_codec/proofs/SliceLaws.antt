-- The parts that a value in memory gives, as its slices.
use Rattle.std.proofs.Common.{◌≡◌, ℕ, ◌+◌, ◌-◌, ◌≤◌, Bool, true, false, if◌then◌else◌, List, [], ◌∷◌, length, take}
use Rattle.std.proofs.Common.{drop, Some, None, refl, sym, ap, ◌∙◌, arith, eq-eqb}
use Rattle.std.proofs.lemmas.List.{length-take-le, length-drop}
use Rattle.std.proofs.lemmas.Bool.{leb-true}
use Rattle.zarrs_storage.specs.declared.byte_range.ByteRange.{ByteRange}
use Rattle.zarrs_storage.specs.declared.byte_range.ByteRange.TheVariants.{FromStart, Suffix}
use Rattle.zarrs_codec_traits.specs.Prelude.{is_valid, slice_of, slices_of, BytesAnswer, fine, wrong_length}
use Rattle.zarrs_codec_traits.specs.Prelude.{then_answer, Held, value_part, AreParts}
use Rattle.zarrs_codec_traits.specs.Parts.{length_answer, part_lengths_answer}

-- the length of a slice
slice_told : (range : ByteRange) (value : List ℕ) → is_valid range (length value) ≡ true →
    length_answer range (slice_of range value) ≡ fine
slice_told (FromStart offset None) value is = refl
slice_told (FromStart offset (Some n)) value is =
    let fits : offset + n ≤ length value = leb-true _ _ is in
    let rest : length (drop offset value) ≡ length value - offset = length-drop offset value in
    let size : offset + n - offset ≡ n = omega arith in
    let long : length (take (offset + n - offset) (drop offset value)) ≡ n = ap (λ (m : ℕ).
    length (take m (drop offset value))) size ∙ length-take-le n (drop offset value) (omega (arith, rest)) in
    ap (λ (b : Bool). if b then fine else wrong_length (length (take (offset + n - offset) (drop offset value))) n)
    (eq-eqb _ _ long)
slice_told (Suffix n) value is =
    let fits : n ≤ length value = leb-true _ _ is in
    let start : ℕ = length value - n in
    let rest : length (drop start value) ≡ length value - start = length-drop start value in
    let size : length value - start ≡ n = omega arith in
    let long : length (take (length value - start) (drop start value)) ≡ n = ap (λ (m : ℕ).
    length (take m (drop start value))) size ∙ length-take-le n (drop start value) (omega (arith, rest)) in
    ap (λ (b : Bool). if b then fine else wrong_length (length (take (length value - start) (drop start value))) n)
    (eq-eqb _ _ long)

pub record AreSlices (ranges : List ByteRange) (value : List ℕ) (given : List (List ℕ)) : Type 0 where
  pub slices : given ≡ slices_of ranges value
  pub lengths : part_lengths_answer ranges given ≡ fine

pub parts_sliced : (part : ByteRange → Held) (ranges : List ByteRange) (value : List ℕ) (given : List (List ℕ)) →
    ((range : ByteRange) → part range ≡ value_part (Some value) range) → AreParts part ranges given →
    AreSlices ranges value given
parts_sliced part [] value given same are = record { slices = are; lengths = ap (part_lengths_answer []) are }
parts_sliced part (range ∷ ranges) value [] same are = absurd are
parts_sliced part (range ∷ ranges) value (bytes ∷ given) same are =
    go (is_valid range (length value)) refl (sym (same range) ∙ are.0) (parts_sliced part ranges value given same are.1)
  where
    go : (b : Bool) → is_valid range (length value) ≡ b → (if b then Some (Some (slice_of range value)) else None) ≡
        Some (Some bytes) → AreSlices ranges value given → AreSlices (range ∷ ranges) value (bytes ∷ given)
    go false is e rest = cc
    go true is e rest =
        let here : bytes ≡ slice_of range value = cc in
        record {
          slices =
              ap (λ (b : List ℕ). b ∷ given) here ∙ ap (λ (g : List (List ℕ)). slice_of range value ∷ g) rest.slices;
          lengths = ap (λ (t : BytesAnswer). then_answer t (part_lengths_answer ranges given))
              (ap (length_answer range) here ∙ slice_told range value is) ∙ rest.lengths;
        }
