-- Ranges of a slice in its base's value.
use Rattle.std.proofs.Common.{◌≡◌, ◌∙◌, ap, ap₂, sym, refl, ℕ, ◌+◌, ◌-◌, ◌≤◌, Bool, true, false}
use Rattle.std.proofs.Common.{if◌then◌else◌, List, [], ◌∷◌, take, drop, map, length, Some, None, length-take-le}
use Rattle.std.proofs.Common.{length-drop, take-take, drop-drop, arith}
use Rattle.std.proofs.lemmas.Bool.{le-leb}
use Rattle.std.proofs.lemmas.List.{drop-take}
use Rattle.zarrs_storage.specs.declared.byte_range.ByteRange.{ByteRange}
use Rattle.zarrs_storage.specs.ByteRange.{is_valid, start_in, end_in, slice_of, slices_of, first_invalid, shifted}
use Rattle.zarrs_storage.proofs.RangeLemmas.{lies}
use Rattle.zarr_refs.specs.Slices.{bytes_part}

module _ (offset len : ℕ) (value : List ℕ) (within : offset + len ≤ length value) where
  pub long : length (bytes_part offset len value) ≡ len
  long = let left = length-drop offset value in length-take-le len (drop offset value) (omega arith)

  -- the bytes of a range of a slice lie in the value where the range does
  inner : (start n : ℕ) → start + n ≤ len →
      take n (drop start (take len (drop offset value))) ≡ take n (drop (offset + start) value)
  inner start n fits =
      let rest : start + (len - start) ≡ len = omega arith in
      ap (λ m. take n (drop start (take m (drop offset value)))) (sym rest)
      ∙ (ap (take n) (drop-take start (len - start) (drop offset value))
      ∙ (take-take n (len - start) (drop start (drop offset value)) (omega arith)
      ∙ ap (take n) (drop-drop start offset value)))

  pub part_in : (range : ByteRange) → is_valid range len ≡ true →
      slice_of (shifted offset len range) value ≡ slice_of range (bytes_part offset len value)
  part_in range valid =
      let l = lies range len valid in
      let rises : start_in range len ≤ end_in range len = l.rises in
      let inside : end_in range len ≤ len = l.within in
      let size : offset + start_in range len + (end_in range len - start_in range len) - (offset + start_in range len) ≡
      end_in range len - start_in range len = omega arith in
      ap (λ n. take n (drop (offset + start_in range len) value)) size
      ∙ (sym (inner (start_in range len) (end_in range len - start_in range len) (omega arith))
      ∙ ap (λ n. take (end_in range n - start_in range n) (drop (start_in range n) (take len (drop offset value))))
      (sym long))

  pub valid_in : (range : ByteRange) → is_valid range len ≡ true →
      is_valid (shifted offset len range) (length value) ≡ true
  valid_in range valid = let l = lies range len valid in let rises : start_in range len ≤ end_in range len = l.rises in
      let inside : end_in range len ≤ len = l.within in le-leb _ _ (omega arith)

  -- the first of ranges that are all valid, and the others
  split : (range : ByteRange) (ranges : List ByteRange) → first_invalid len (range ∷ ranges) ≡ None →
      (is_valid range len ≡ true) × (first_invalid len ranges ≡ None)
  split range ranges e = go (is_valid range len) refl e
    where
      go : (b : Bool) → is_valid range len ≡ b → (if b then first_invalid len ranges else Some range) ≡ None →
          (is_valid range len ≡ true) × (first_invalid len ranges ≡ None)
      go true is e = (is, e)
      go false is e = cc

  pub parts_in : (ranges : List ByteRange) → first_invalid len ranges ≡ None →
      slices_of (map (shifted offset len) ranges) value ≡ slices_of ranges (bytes_part offset len value)
  parts_in [] e = refl
  parts_in (range ∷ ranges) e = let s = split range ranges e in
      ap₂ (λ x xs. x ∷ xs) (part_in range s.0) (parts_in ranges s.1)

  pub all_valid_in : (ranges : List ByteRange) → first_invalid len ranges ≡ None →
      first_invalid (length value) (map (shifted offset len) ranges) ≡ None
  all_valid_in [] e = refl
  all_valid_in (range ∷ ranges) e = let s = split range ranges e in ap (λ b. if b then first_invalid (length value) (map
      (shifted offset len) ranges) else Some (shifted offset len range)) (valid_in range s.0) ∙ all_valid_in ranges s.1
