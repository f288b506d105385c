-- Pieces that are put in their places.
use Rattle.std.proofs.Common.{◌≡◌, ℕ, ◌<◌, true, List, [], ◌∷◌, ◌++◌, length, set, get_or, replicate, Option}
use Rattle.std.proofs.Common.{Some, None, IsSome, is_some, unwrap_or, arith, ap, ap₂, sym, refl, ◌∙◌, subst}
use Rattle.std.proofs.lemmas.List.{length-append, length-map, length-replicate}
use Rattle.zarr_model.specs.Region.{Region, count, count_of, starts, sizes, tuples, place, linear_index}
use Rattle.zarr_model.specs.Element.{Element, null, Kind, fixed_size}
use Rattle.zarr_model.specs.ArrayBytes.{ArrayBytes, meaning}
use Rattle.zarr_model.proofs.BytesLaws.{length-meaning}
use Rattle.zarrs_array_subset.specs.Boxes.{overlap_of, moved_back}
use Rattle.zarrs_codec_slices.specs.Overlap.{Copied}
use Rattle.zarrs_codec_slices.specs.Picking.{picked, replaced, size_in}
use Rattle.zarrs_codec_slices.specs.PickedRuns.{run_numbers, AreRunsBelow}
use Rattle.zarrs_codec_slices.proofs.ReplaceLaws.{length-replaced}
use Rattle.zarrs_codec_array_bytes.specs.Selection.{linear}
use Rattle.zarr_array_boxes.specs.Elements.{list_in, blanks, PutsOverlap}
use Rattle.zarr_array_boxes.specs.Shared.{shared_in}
use Rattle.zarrs_codec_array_bytes_parts.specs.Joined.{bytes_joined}
use Rattle.zarrs_codec_array_bytes_parts.specs.Overlaps.{CopiesOverlap}
use Rattle.zarrs_codec_array_bytes_parts.specs.OwnedArrayBytes.{owned_raw}
use Rattle.zarr_array_boxes.specs.Given.{given_runs, given_indices, given_meaning, given_list, given_alike}
use Rattle.zarr_array_boxes.specs.Given.{given_joined}
use Rattle.zarr_array_boxes.specs.declared.given.Given.{Given}
use Rattle.zarr_array_boxes.proofs.ShareLaws.{places-moved, shares_first, shares_second, shared_copied, all_long}
use Rattle.zarr_array_boxes.proofs.ShareLaws.{all_picked}
use Rattle.zarrs_codec_array_bytes_parts.proofs.JoinLaws.{joined_means}
use Rattle.zarrs_codec_array_bytes_parts.proofs.MeansLaws.{some_list, alike_means}
use Rattle.zarrs_codec_array_bytes_parts.proofs.OverlapLaws.{copied_means}

-- as many places in the one box as in the other
pub shared_long : (target source : Region) → length target ≡ length source →
    length (shared_in target (overlap_of target source)) ≡ length (shared_in source (overlap_of target source))
shared_long target source rank =
    let part = overlap_of target source in
    ap length (places-moved target part (shares_first target source rank)) ∙ (length-map (tuples part) (place target)
    ∙ sym (ap length (places-moved source part (shares_second target source rank))
    ∙ length-map (tuples part) (place source)))

pub list_long : (kind : Kind) (box : Region) (bytes : ArrayBytes) → IsSome (meaning kind (count box) bytes) →
    length (list_in kind box bytes) ≡ count box
list_long kind box bytes h =
    length-meaning kind (count box) bytes (list_in kind box bytes) (some_list (meaning kind (count box) bytes) h)

-- new array bytes that mean a list which took the elements that two boxes share
puts_list : (kind : Kind) (target source : Region) (bytes old new : ArrayBytes) (list : List Element) →
    meaning kind (count target) new ≡ Some list →
    Copied target source (list_in kind source bytes) (list_in kind target old) list →
    PutsOverlap kind target source bytes old new
puts_list kind target source bytes old new list is copied =
    let listed : list_in kind target new ≡ list = ap (λ o. unwrap_or o []) is in
    record {
      held = is ∙ ap Some (sym listed);
      copied = subst (λ l. Copied target source (list_in kind source bytes) (list_in kind target old) l) (sym listed)
          copied;
    }

-- those that mean the replaced list are so, and elements of one size that were copied level by level
puts_overlap : (kind : Kind) (target source : Region) (bytes old new : ArrayBytes) → length target ≡ length source →
    IsSome (meaning kind (count source) bytes) → IsSome (meaning kind (count target) old) →
    meaning kind (count target) new ≡ Some (replaced (shared_in target (overlap_of target source))
    (picked null (shared_in source (overlap_of target source)) (list_in kind source bytes)) (list_in kind target old)) →
    PutsOverlap kind target source bytes old new
puts_overlap kind target source bytes old new rank means was is =
    puts_list kind target source bytes old new _ is
    (shared_copied target source rank null (list_in kind source bytes) (list_in kind target old)
    (list_long kind source bytes means) (list_long kind target old was))

pub puts_copied : (kind : Kind) (size : ℕ) (target source : Region) (bytes old new : ArrayBytes) →
    size ≡ size_in (fixed_size kind) → 0 < size_in (fixed_size kind) → IsSome (meaning kind (count source) bytes) →
    IsSome (meaning kind (count target) old) → CopiesOverlap size target source bytes old new →
    PutsOverlap kind target source bytes old new
puts_copied kind size target source bytes old new size_is some means was copies =
    let it = copied_means kind target source bytes old new (list_in kind source bytes) (list_in kind target old) some
    (some_list (meaning kind (count source) bytes) means) (some_list (meaning kind (count target) old) was)
    (subst (λ s. CopiesOverlap s target source bytes old new) size_is copies) in
    puts_list kind target source bytes old new it.list it.means it.copied

-- what was given before, and more behind it
pub given_long : (kind : Kind) (given : Option Given) → IsSome (given_meaning kind given) →
    length (given_list kind given) ≡ length (given_indices given)
given_long kind None h = refl
given_long kind (Some given) h = length-meaning kind (length (run_numbers given.runs.items)) (owned_raw given.grown)
    (given_list kind (Some given)) (some_list (given_meaning kind (Some given)) h)

pub given_alike_means : (kind : Kind) (given : Option Given) (m : ℕ) (piece : ArrayBytes) (ys : List Element) →
    IsSome (given_meaning kind given) → meaning kind m piece ≡ Some ys → given_alike given piece ≡ true
given_alike_means kind None m piece ys h e = refl
given_alike_means kind (Some given) m piece ys h e =
    alike_means kind (length (run_numbers given.runs.items)) m (owned_raw given.grown) piece
    (given_list kind (Some given)) ys (some_list (given_meaning kind (Some given)) h) e

pub given_more : (kind : Kind) (given : Option Given) (indices more : List ℕ)
    (bytes piece : ArrayBytes) (ys : List Element) → IsSome (given_meaning kind given) →
    meaning kind (length more) piece ≡ Some ys → indices ≡ given_indices given ++ more →
    bytes ≡ given_joined given piece →
    meaning kind (length indices) bytes ≡ Some (given_list kind given ++ ys)
given_more kind None indices more bytes piece ys h means is joins =
    ap₂ (λ i b. meaning kind (length i) b) is joins ∙ means
given_more kind (Some given) indices more bytes piece ys h means is joins =
    ap₂ (λ i b. meaning kind (length i) b) is joins
    ∙ (ap (λ n. meaning kind n (bytes_joined (owned_raw given.grown) piece))
    (length-append (run_numbers given.runs.items) more)
    ∙ joined_means kind (length (run_numbers given.runs.items)) (length more) (owned_raw given.grown) piece
    (given_list kind (Some given)) ys (some_list (given_meaning kind (Some given)) h) means)

replaced-append : {A : Type 0} (indices more : List ℕ) (xs ys list : List A) → length indices ≡ length xs →
    replaced (indices ++ more) (xs ++ ys) list ≡ replaced more ys (replaced indices xs list)
replaced-append [] more [] ys list e = refl
replaced-append [] more (x ∷ xs) ys list e = absurd (omega (arith, e))
replaced-append (i ∷ indices) more [] ys list e = absurd (omega (arith, e))
replaced-append (i ∷ indices) more (x ∷ xs) ys list e =
    replaced-append indices more xs ys (set list i x) (omega (arith, e))

-- so the list of a box took what the piece's box shares with it
module _ (kind : Kind) (box source : Region) (base : List Element) (bytes piece : ArrayBytes) (given : Option Given)
    (new : Given) (rank : length box ≡ length source)
    (base_long : length base ≡ count box) (given_means : IsSome (given_meaning kind given))
    (means : IsSome (meaning kind (count source) bytes))
    (piece_means : meaning kind (length (shared_in source (overlap_of box source))) piece ≡
    Some (picked null (shared_in source (overlap_of box source)) (list_in kind source bytes)))
    (places : run_numbers new.runs.items ≡ given_indices given ++ shared_in box (overlap_of box source))
    (joins : owned_raw new.grown ≡ given_joined given piece) where
  abbrev taken : List Element
  taken = picked null (shared_in source (overlap_of box source)) (list_in kind source bytes)

  pub new_means : given_meaning kind (Some new) ≡ Some (given_list kind given ++ taken)
  new_means = given_more kind given (run_numbers new.runs.items) (shared_in box (overlap_of box source))
      (owned_raw new.grown) piece taken given_means
      (ap (λ n. meaning kind n piece) (shared_long box source rank) ∙ piece_means) places joins

  pub listed_copied :
      Copied box source (list_in kind source bytes) (replaced (given_indices given) (given_list kind given) base)
      (replaced (given_indices (Some new)) (given_list kind (Some new)) base)
  listed_copied =
      let before = replaced (given_indices given) (given_list kind given) base in
      let after : replaced (given_indices (Some new)) (given_list kind (Some new)) base ≡
      replaced (shared_in box (overlap_of box source)) taken before =
      ap₂ (λ i l. replaced i l base) places (ap (λ o. unwrap_or o []) new_means)
      ∙ replaced-append (given_indices given) (shared_in box (overlap_of box source)) (given_list kind given) taken base
      (sym (given_long kind given given_means)) in
      subst (λ l. Copied box source (list_in kind source bytes) before l) (sym after)
      (shared_copied box source rank null (list_in kind source bytes) before (list_long kind source bytes means)
      (length-replaced (given_indices given) (given_list kind given) base ∙ base_long))

-- the same by the steps that find the part, its place in the box, and the piece
record IsPiece (kind : Kind) (source part : Region) (bytes piece : ArrayBytes) : Type 0 where
  pub means : meaning kind (length (shared_in source part)) piece ≡
      Some (picked null (shared_in source part) (list_in kind source bytes))

piece_of : (kind : Kind) (box source part : Region) (bytes piece : ArrayBytes) →
    IsSome (meaning kind (count source) bytes) → part ≡ overlap_of box source →
    ((xs : List Element) → meaning kind (count source) bytes ≡ Some xs →
    meaning kind (length (shared_in source part)) piece ≡ Some (picked null (shared_in source part) xs)) →
    IsPiece kind source (overlap_of box source) bytes piece
piece_of kind box source part bytes piece means part_is selected =
    subst (λ p. IsPiece kind source p bytes piece) part_is
    (record { means = selected (list_in kind source bytes) (some_list (meaning kind (count source) bytes) means) })

-- bytes over a box that lies inside another one are the piece themselves
pub whole_piece : (kind : Kind) (source : Region) (bytes : ArrayBytes) (xs : List Element) →
    meaning kind (count source) bytes ≡ Some xs →
    meaning kind (length (shared_in source source)) bytes ≡ Some (picked null (shared_in source source) xs)
whole_piece kind source bytes xs means =
    ap (λ n. meaning kind n bytes) (all_long source)
    ∙ (means ∙ ap Some (sym (all_picked source null xs (length-meaning kind (count source) bytes xs means))))

place_in : (box source part at : Region) → part ≡ overlap_of box source → at ≡ moved_back part (starts box) →
    at ≡ moved_back (overlap_of box source) (starts box)
place_in box source part at part_is at_is = at_is ∙ ap (λ p. moved_back p (starts box)) part_is

pub record Took (kind : Kind) (box source : Region) (base : List Element) (bytes : ArrayBytes) (given : Option Given)
    (new : Given) : Type 0 where
  pub means : IsSome (given_meaning kind (Some new))
  pub below : AreRunsBelow (count box) (given_runs (Some new))
  pub copied :
      Copied box source (list_in kind source bytes) (replaced (given_indices given) (given_list kind given) base)
      (replaced (given_indices (Some new)) (given_list kind (Some new)) base)

pub took : (kind : Kind) (box source part at : Region) (shape : List ℕ) (base : List Element)
    (bytes piece : ArrayBytes) (before given : Option Given) (new : Given) → length box ≡ length source →
    length base ≡ count box → IsSome (given_meaning kind given) → AreRunsBelow (count box) (given_runs given) →
    IsSome (meaning kind (count source) bytes) →
    part ≡ overlap_of box source → at ≡ moved_back part (starts box) → shape ≡ sizes box → before ≡ given →
    ((xs : List Element) → meaning kind (count source) bytes ≡ Some xs →
    meaning kind (length (shared_in source part)) piece ≡ Some (picked null (shared_in source part) xs)) →
    run_numbers new.runs.items ≡ given_indices before ++ linear shape (tuples at) →
    (AreRunsBelow (count_of shape) (given_runs before) → AreRunsBelow (count_of shape) new.runs.items) →
    owned_raw new.grown ≡ given_joined before piece →
    Took kind box source base bytes given new
took kind box source part at shape base bytes piece before given new rank base_long given_means below means part_is
    at_is shape_is before_is selected places within joins =
    let taken = piece_of kind box source part bytes piece means part_is selected in
    let at_box : at ≡ moved_back (overlap_of box source) (starts box) = place_in box source part at part_is at_is in
    let new_places : run_numbers new.runs.items ≡ given_indices given ++ shared_in box (overlap_of box source) =
    places ∙ (ap (λ g. given_indices g ++ linear shape (tuples at)) before_is
    ∙ ap₂ (λ s a. given_indices given ++ linear s (tuples a)) shape_is at_box) in
    let new_joins : owned_raw new.grown ≡ given_joined given piece =
    joins ∙ ap (λ g. given_joined g piece) before_is in
    let new_within : AreRunsBelow (count_of (sizes box)) (given_runs before) →
    AreRunsBelow (count_of (sizes box)) new.runs.items =
    subst (λ s. AreRunsBelow (count_of s) (given_runs before) → AreRunsBelow (count_of s) new.runs.items) shape_is
    within in
    record {
      means = ap is_some (new_means kind box source base bytes piece given new rank base_long given_means means
          taken.means new_places new_joins);
      below = new_within (subst (λ g. AreRunsBelow (count box) (given_runs g)) (sym before_is) below);
      copied = listed_copied kind box source base bytes piece given new rank base_long given_means means taken.means
          new_places new_joins;
    }

-- the piece means elements for the places of the part
pub piece_means : (kind : Kind) (box source part at : Region) (bytes piece : ArrayBytes) → length box ≡ length source →
    IsSome (meaning kind (count source) bytes) → part ≡ overlap_of box source → at ≡ moved_back part (starts box) →
    ((xs : List Element) → meaning kind (count source) bytes ≡ Some xs →
    meaning kind (length (shared_in source part)) piece ≡ Some (picked null (shared_in source part) xs)) →
    meaning kind (length (tuples at)) piece
    ≡ Some (picked null (shared_in source (overlap_of box source)) (list_in kind source bytes))
piece_means kind box source part at bytes piece rank means part_is at_is selected =
    let taken = piece_of kind box source part bytes piece means part_is selected in
    let at_box : at ≡ moved_back (overlap_of box source) (starts box) = place_in box source part at part_is at_is in
    let as_many : length (tuples at) ≡ length (shared_in source (overlap_of box source)) =
    ap (λ a. length (tuples a)) at_box ∙ (sym (length-map (tuples (moved_back (overlap_of box source) (starts box)))
    (linear_index (sizes box))) ∙ shared_long box source rank) in
    ap (λ n. meaning kind n piece) as_many ∙ taken.means

pub updated_puts : (kind : Kind) (box source part at : Region) (shape : List ℕ) (bytes old piece new : ArrayBytes) →
    length box ≡ length source →
    IsSome (meaning kind (count source) bytes) → IsSome (meaning kind (count box) old) → part ≡ overlap_of box source →
    at ≡ moved_back part (starts box) → shape ≡ sizes box →
    ((xs : List Element) → meaning kind (count source) bytes ≡ Some xs →
    meaning kind (length (shared_in source part)) piece ≡ Some (picked null (shared_in source part) xs)) →
    ((xs ys : List Element) → meaning kind (count_of shape) old ≡ Some xs → meaning kind (length (tuples at)) piece ≡
    Some ys → meaning kind (count_of shape) new ≡ Some (replaced (linear shape (tuples at)) ys xs)) →
    PutsOverlap kind box source bytes old new
updated_puts kind box source part at shape bytes old piece new rank means was part_is at_is shape_is selected updated =
    let at_box : at ≡ moved_back (overlap_of box source) (starts box) = place_in box source part at part_is at_is in
    let xs = list_in kind box old in
    let ys = picked null (shared_in source (overlap_of box source)) (list_in kind source bytes) in
    let old_is : meaning kind (count_of shape) old ≡ Some xs =
    ap (λ s. meaning kind (count_of s) old) shape_is ∙ some_list (meaning kind (count box) old) was in
    let piece_is : meaning kind (length (tuples at)) piece ≡ Some ys =
    piece_means kind box source part at bytes piece rank means part_is at_is selected in
    puts_overlap kind box source bytes old new rank means was
    (ap (λ s. meaning kind (count_of s) new) (sym shape_is)
    ∙ (updated xs ys old_is piece_is ∙ ap₂ (λ s a. Some (replaced (linear s (tuples a)) ys xs)) shape_is at_box))

-- so many elements that are all the fill value mean a list
pub filled_some : (fill : Option Element) (number : ℕ) (list : Option (List Element)) → IsSome fill →
    ((x : Element) → fill ≡ Some x → list ≡ Some (replicate number x)) → IsSome list
filled_some None number list h filled = cc
filled_some (Some x) number list h filled = ap is_some (filled x refl)

pub blanks_long : (kind : Kind) (number : ℕ) (raw : ArrayBytes) → length (blanks kind number raw) ≡ number
blanks_long kind number raw = length-replicate number (get_or (unwrap_or (meaning kind 1 raw) []) 0 null)
