-- Calls that are given what fits are refused for want of memory alone; and boxes that share nothing.
use Rattle.std.proofs.Common.{◌≡◌, ◌⊎◌, ℕ, ◌+◌, ◌-◌, ◌<◌, ◌≤◌, min, max, ◌&&◌, true, false}
use Rattle.std.proofs.Common.{nat_eq, List, [], ◌∷◌, length, Option, Some, IsSome, refl, sym, ap, ap₂, ◌∙◌, subst, arith}
use Rattle.std.proofs.Common.{nat_le, true≢false}
use Rattle.std.proofs.lemmas.Bool.{and_parts, and_from, leb-true, le-leb}
use Rattle.std.proofs.lemmas.Bool.Decides.{nat_tests}
use Rattle.std.proofs.lemmas.List.{length-map}
use Rattle.zarr_model.specs.Region.{Region, count, count_of, starts, sizes, tuples, place, ends_within}
use Rattle.zarr_model.specs.Element.{Element, null, Kind, fill_element, fixed_size}
use Rattle.zarr_model.specs.ArrayBytes.{ArrayBytes, meaning}
use Rattle.zarr_model.proofs.ElementLaws.{denoted}
use Rattle.zarr_model.proofs.RegionLaws.{length-tuples}
use Rattle.zarrs_array_subset.specs.Boxes.{is_within, overlap_of, moved_back, starts_past}
use Rattle.zarrs_array_subset.specs.Errors.{RefusesOffset, out_of_memory}
use Rattle.zarrs_array_subset.specs.declared.error.ArraySubsetError.{ArraySubsetError}
use Rattle.zarrs_array_subset.specs.declared.error.ArraySubsetError.TheVariants.{IncompatibleDimensionality}
use Rattle.zarrs_array_subset.specs.declared.error.ArraySubsetError.TheVariants.{IncompatibleStartShape}
use Rattle.zarrs_array_subset.specs.declared.error.ArraySubsetError.TheVariants.{IncompatibleStartEnd}
use Rattle.zarrs_array_subset.specs.declared.error.ArraySubsetError.TheVariants.{IncompatibleOffset, OutOfMemory}
use Rattle.zarrs_array_subset.proofs.Ravels.{factors}
use Rattle.zarrs_codec_error.specs.declared.error.CodecError.{CodecError}
use Rattle.zarrs_codec_error.specs.declared.error.CodecError.TheVariants as codec
use Rattle.zarrs_codec_slices.specs.Filling.{has_size}
use Rattle.zarrs_codec_slices.specs.Overlap.{Copied}
use Rattle.zarrs_codec_slices.specs.Picking.{picked, replaced}
use Rattle.zarrs_codec_slices.proofs.FilledLaws.{element_fits}
use Rattle.zarrs_codec_array_bytes.specs.Refusals.{told_by, fill_answer, extract_answer}
use Rattle.zarrs_codec_array_bytes.proofs.ExtractLaws.{extract_told}
use Rattle.zarrs_codec_array_bytes.proofs.ToldLaws.{fill_memory}
use Rattle.zarrs_codec_array_bytes_parts.specs.Pairs.{update_answer}
use Rattle.zarrs_codec_array_bytes_parts.proofs.MeansLaws.{some_list}
use Rattle.zarrs_codec_array_bytes_parts.proofs.UpdateLaws.{update_memory}
use Rattle.zarr_array_boxes.specs.Elements.{list_in, PutsOverlap}
use Rattle.zarr_array_boxes.specs.Shared.{shared_in}
use Rattle.zarr_array_boxes.proofs.PutLaws.{list_long, piece_means}
use Rattle.zarr_array_boxes.proofs.ShareLaws.{places-moved, shares_first, shared_copied}

-- a part of a box starts past the box's start, and lies within its shape once it is moved there
within_starts : (part box : Region) → is_within part box ≡ true → starts_past part (starts box) ≡ true
within_starts [] [] within = refl
within_starts [] (span ∷ box) within = cc
within_starts (own ∷ part) [] within = cc
within_starts (own ∷ part) (span ∷ box) within =
    let parts = and_parts _ (is_within part box) within in
    and_from (nat_le span.start own.start) (starts_past part (starts box)) (and_parts _ _ parts.0).0
    (within_starts part box parts.1)

pub within_moved : (part box : Region) → is_within part box ≡ true →
    ends_within (moved_back part (starts box)) (sizes box) ≡ true
within_moved [] [] within = refl
within_moved [] (span ∷ box) within = cc
within_moved (own ∷ part) [] within = cc
within_moved (own ∷ part) (span ∷ box) within =
    let parts = and_parts _ (is_within part box) within in
    let both = and_parts _ _ parts.0 in
    let low : span.start ≤ own.start = leb-true _ _ both.0 in
    let high : own.start + own.size ≤ span.start + span.size = leb-true _ _ both.1 in
    and_from (nat_le (own.start - span.start + own.size) span.size) (ends_within (moved_back part (starts box)) (sizes
    box)) (le-leb _ _ (omega (arith, low, high))) (within_moved part box parts.1)

pub moved_memory : (part box : Region) (offset : List ℕ) (e : ArraySubsetError) → is_within part box ≡ true →
    offset ≡ starts box → RefusesOffset (starts_past part offset) part offset e → e ≡ out_of_memory
moved_memory part box offset OutOfMemory within is refused = refl
moved_memory part box offset (IncompatibleOffset start by) within is refused =
    let past : starts_past part offset ≡ true = ap (starts_past part) is ∙ within_starts part box within in
    absurd (true≢false (sym past ∙ refused.2))
moved_memory part box offset (IncompatibleDimensionality got expected) within is refused = absurd refused
moved_memory part box offset (IncompatibleStartShape start shape) within is refused = absurd refused
moved_memory part box offset (IncompatibleStartEnd start end inclusive) within is refused = absurd refused

-- the piece of bytes that are valid
pub piece_fits : (part box at : Region) (shape : List ℕ) → is_within part box ≡ true →
    at ≡ moved_back part (starts box) → shape ≡ sizes box → ends_within at shape ≡ true
piece_fits part box at shape within at_is shape_is = ap₂ ends_within at_is shape_is ∙ within_moved part box within

pub piece_memory : (kind : Kind) (part box at : Region) (shape : List ℕ) (bytes : ArrayBytes) (e : CodecError) →
    is_within part box ≡ true → at ≡ moved_back part (starts box) → shape ≡ sizes box →
    IsSome (meaning kind (count box) bytes) → (e ≡ codec.OutOfMemory)
    ⊎ (told_by e ≡ extract_answer kind (ends_within at shape) (count_of shape) bytes) → e ≡ codec.OutOfMemory
piece_memory kind part box at shape bytes e within at_is shape_is means answer =
    extract_told kind (ends_within at shape) (count_of shape) bytes (list_in kind box bytes) e
    (piece_fits part box at shape within at_is shape_is)
    (ap (λ s. meaning kind (count_of s) bytes) shape_is ∙ some_list (meaning kind (count box) bytes) means) answer

-- elements that are a fill value that denotes one
pub filled_memory : (kind : Kind) (fill : List ℕ) (e : CodecError) → IsSome (fill_element kind fill) →
    (e ≡ codec.OutOfMemory) ⊎ (told_by e ≡ fill_answer (has_size kind fill)) → e ≡ codec.OutOfMemory
filled_memory kind fill e there answer =
    fill_memory (has_size kind fill) e (element_fits kind fill _ (denoted (fill_element kind fill) there)) answer

-- what two spans share, the one from a on of length m and the other from b on of length n, lies in both
in_first : (a b m n : ℕ) → 0 < min (a + m) (b + n) - max a b →
    (nat_le a (max a b) && nat_le (max a b + (min (a + m) (b + n) - max a b)) (a + m)) ≡ true
in_first a b m n some =
    let low : a ≤ max a b = omega arith in
    let high : max a b + (min (a + m) (b + n) - max a b) ≤ a + m = omega (arith, some) in
    and_from (nat_le a (max a b)) (nat_le (max a b + (min (a + m) (b + n) - max a b)) (a + m)) (le-leb _ _ low)
    (le-leb _ _ high)

in_second : (a b m n : ℕ) → 0 < min (a + m) (b + n) - max a b →
    (nat_le b (max a b) && nat_le (max a b + (min (a + m) (b + n) - max a b)) (b + n)) ≡ true
in_second a b m n some =
    let low : b ≤ max a b = omega arith in
    let high : max a b + (min (a + m) (b + n) - max a b) ≤ b + n = omega (arith, some) in
    and_from (nat_le b (max a b)) (nat_le (max a b + (min (a + m) (b + n) - max a b)) (b + n)) (le-leb _ _ low)
    (le-leb _ _ high)

-- the part that two boxes share lies within both where it has a place
overlap_first : (a b : Region) → length a ≡ length b → 0 < count (overlap_of a b) → is_within (overlap_of a b) a ≡ true
overlap_first [] [] rank some = refl
overlap_first [] (y ∷ b) rank some = absurd (omega (arith, rank))
overlap_first (x ∷ a) [] rank some = absurd (omega (arith, rank))
overlap_first (x ∷ a) (y ∷ b) rank some =
    and_from _ (is_within (overlap_of a b) a)
    (in_first x.start y.start x.size y.size (factors _ (count (overlap_of a b)) some).0)
    (overlap_first a b (omega (arith, rank)) (factors _ (count (overlap_of a b)) some).1)

overlap_second : (a b : Region) → length a ≡ length b → 0 < count (overlap_of a b) → is_within (overlap_of a b) b ≡ true
overlap_second [] [] rank some = refl
overlap_second [] (y ∷ b) rank some = absurd (omega (arith, rank))
overlap_second (x ∷ a) [] rank some = absurd (omega (arith, rank))
overlap_second (x ∷ a) (y ∷ b) rank some =
    and_from _ (is_within (overlap_of a b) b)
    (in_second x.start y.start x.size y.size (factors _ (count (overlap_of a b)) some).0)
    (overlap_second a b (omega (arith, rank)) (factors _ (count (overlap_of a b)) some).1)

has_some : (part shared : Region) → part ≡ shared → nat_eq (count part) 0 ≡ false → 0 < count shared
has_some part shared is some = subst (λ p. 0 < count p) is (grind (arith, nat_tests))

pub part_first : (a b part : Region) → part ≡ overlap_of a b → length a ≡ length b → nat_eq (count part) 0 ≡ false →
    is_within part a ≡ true
part_first a b part is rank some =
    ap (λ p. is_within p a) is ∙ overlap_first a b rank (has_some part (overlap_of a b) is some)

pub part_second : (a b part : Region) → part ≡ overlap_of a b → length a ≡ length b → nat_eq (count part) 0 ≡ false →
    is_within part b ≡ true
part_second a b part is rank some =
    ap (λ p. is_within p b) is ∙ overlap_second a b rank (has_some part (overlap_of a b) is some)

-- the elements of the part are put into others of their kind
pub put_memory : (kind : Kind) (box source part at : Region) (shape : List ℕ) (size : Option ℕ)
    (bytes old piece : ArrayBytes) (e : CodecError) → length box ≡ length source →
    IsSome (meaning kind (count source) bytes) → IsSome (meaning kind (count box) old) → part ≡ overlap_of box source →
    nat_eq (count part) 0 ≡ false → at ≡ moved_back part (starts box) → shape ≡ sizes box →
    ((xs : List Element) → meaning kind (count source) bytes ≡ Some xs →
    meaning kind (length (shared_in source part)) piece ≡ Some (picked null (shared_in source part) xs)) →
    size ≡ fixed_size kind → (e ≡ codec.OutOfMemory)
    ⊎ (told_by e ≡ update_answer size (ends_within at shape) (count_of shape) old (length (tuples at)) piece) →
    e ≡ codec.OutOfMemory
put_memory kind box source part at shape size bytes old piece e rank means was part_is some at_is shape_is selected
    size_is answer =
    update_memory kind size (ends_within at shape) (count_of shape) (length (tuples at)) old piece
    (list_in kind box old) _ e size_is
    (piece_fits part box at shape (part_first box source part part_is rank some) at_is shape_is)
    (ap (λ s. meaning kind (count_of s) old) shape_is ∙ some_list (meaning kind (count box) old) was)
    (piece_means kind box source part at bytes piece rank means part_is at_is selected) answer

-- where it has none, elements took all that is shared as they are
no_items : {A : Type 0} (xs : List A) → length xs ≡ 0 → xs ≡ []
no_items [] e = refl
no_items (x ∷ xs) e = absurd (omega (arith, e))

pub none_copied : {A : Type 0} (target source part : Region) (z : A) (xs old : List A) → length target ≡ length source →
    part ≡ overlap_of target source → nat_eq (count part) 0 ≡ true → length xs ≡ count source →
    length old ≡ count target → Copied target source xs old old
none_copied target source part z xs old rank is none xs_long old_long =
    let shared = overlap_of target source in
    let empty : count shared ≡ 0 = subst (λ p. count p ≡ 0) is (grind (arith, nat_tests)) in
    let places : shared_in target shared ≡ [] = no_items (shared_in target shared)
    (ap length (places-moved target shared (shares_first target source rank))
    ∙ (length-map (tuples shared) (place target) ∙ (length-tuples shared ∙ empty))) in
    subst (λ l. Copied target source xs old (replaced l (picked z (shared_in source shared) xs) old)) places
    (shared_copied target source rank z xs old xs_long old_long)

pub none_puts : (kind : Kind) (target source part : Region) (bytes old : ArrayBytes) → length target ≡ length source →
    part ≡ overlap_of target source → nat_eq (count part) 0 ≡ true → IsSome (meaning kind (count source) bytes) →
    IsSome (meaning kind (count target) old) → PutsOverlap kind target source bytes old old
none_puts kind target source part bytes old rank is none means was = record {
  held = some_list (meaning kind (count target) old) was;
  copied = none_copied target source part null (list_in kind source bytes) (list_in kind target old) rank is none
      (list_long kind source bytes means) (list_long kind target old was);
}
