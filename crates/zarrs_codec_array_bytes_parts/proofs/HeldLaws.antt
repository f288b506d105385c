-- What views and targets hold once they are written.
use Rattle.std.proofs.Common.{◌≡◌, ℕ, zero, suc, ◌*◌, ◌<◌, ◌==◌, true, if◌then◌else◌, List, [], ◌∷◌, ◌++◌, length}
use Rattle.std.proofs.Common.{get_or, map, flat_map, take, drop, Some, refl, sym, ap, ap₂, ◌∙◌, subst, arith, eqb-true}
use Rattle.std.proofs.Common.{eq-eqb}
use Rattle.std.proofs.lemmas.Bool.{cond-true}
use Rattle.std.proofs.lemmas.List.{length-drop, take-append-drop, same_lists, get_or-map, length-map}
use Rattle.std.proofs.Math.Nat.{suc-mul}
use Rattle.zarr_model.specs.Prelude.{Element, of_bytes, null, Kind, fixed, variable, optional, Region, count, sizes}
use Rattle.zarr_model.specs.Prelude.{contains, tuples, place, tuple_at, linear_index, whole, ends_within, Array}
use Rattle.zarr_model.specs.Prelude.{SameArray, elements_in, written, pieces, bytes_of, mask_over, meaning}
use Rattle.zarr_model.specs.ArrayBytes.{ArrayBytes, fixed_bytes, variable_bytes, optional_bytes}
use Rattle.zarr_model.proofs.RegionLaws.{place_below, tuple_at-place, contains-tuple_at, get_or-tuples, length-tuples}
use Rattle.zarr_model.proofs.ArrayLaws.{elements_in-written, inside_shape}
use Rattle.zarr_model.proofs.BytesLaws.{when_some, mask_length}
use Rattle.zarrs_array_subset.specs.ArraySubset.{region}
use Rattle.zarrs_codec_array_bytes.specs.Refusals.{fine, then_answer}
use Rattle.zarrs_codec_slices.specs.Elements.{fixed_elements}
use Rattle.zarrs_codec_slices.specs.Overlap.{Copied}
use Rattle.zarrs_codec_slices.proofs.FixedLaws.{elements_are, length-elements}
use Rattle.zarrs_codec_slices.proofs.MaskLaws.{IsMasked, masked_parts}
use Rattle.zarrs_codec_slices.proofs.LeafLaws.{fixed_long}
use Rattle.zarrs_codec_array_bytes_parts.specs.declared.array_bytes_fixed_disjoint_view.ArrayBytesFixedDisjointView.{
  ArrayBytesFixedDisjointView,
}
use Rattle.zarrs_codec_array_bytes_parts.specs.declared.part.ViewPart.{ViewPart}
use Rattle.zarrs_codec_array_bytes_parts.specs.Held.{box_elements, view_box_bytes, held_by, HasViewElements, IsTargetOf}
use Rattle.zarrs_codec_array_bytes_parts.specs.Held.{HaveBytes}
use Rattle.zarrs_codec_array_bytes_parts.specs.Laws.{WritesArray, HoldsWritten, HoldsMeaning, TakesMeaning}
use Rattle.zarrs_codec_array_bytes_parts.specs.Targets.{IsViewWritten, kinds_answer, view_answer, sizes_answer}

-- an element of a whole shape's list, by its tuple
copied_at : (shape : List ℕ) (box : Region) (source old new : List Element) (tuple : List ℕ) →
    Copied (whole shape) box source old new → contains (whole shape) tuple ≡ true →
    get_or new (linear_index shape tuple) null ≡
    (if contains box tuple then get_or source (place box tuple) null else get_or old (linear_index shape tuple) null)
copied_at shape box source old new tuple copied inside =
    copied.each (place (whole shape) tuple) null (place_below (whole shape) tuple inside)
    ∙ ap (λ t. if contains box t then get_or source (place box t) null else get_or old (place (whole shape) tuple) null)
    (tuple_at-place (whole shape) tuple inside)

-- the array behind bytes
abbrev array_in : ViewPart → List ℕ → Array Element
array_in part bytes = record {
  shape = sizes (region part.array);
  fill = null;
  element = λ tuple. get_or (fixed_elements part.size bytes) (linear_index (sizes (region part.array)) tuple) null;
}

same_array : (part : ViewPart) (bytes old new : List ℕ) → Copied (whole (sizes (region part.array)))
    (region part.subset)
    (fixed_elements part.size bytes) (fixed_elements part.size old) (fixed_elements part.size new) →
    SameArray (array_in part new) (written (region part.subset) (fixed_elements part.size bytes) (array_in part old))
same_array part bytes old new copied = record {
  shape = refl;
  fill = refl;
  inside = λ tuple h. copied_at (sizes (region part.array)) (region part.subset) (fixed_elements part.size bytes)
      (fixed_elements part.size old) (fixed_elements part.size new) tuple copied h;
}

pub writes_array : WritesArray
writes_array bytes old new is =
    subst (λ p. SameArray (array_in p new.bytes.now) (written (region old.part.subset)
    (fixed_elements old.part.size bytes) (array_in old.part old.bytes.now))) (sym is.part)
    (same_array old.part bytes old.bytes.now new.bytes.now is.written)

-- arrays that are the same have the same elements in a box
same_elements : (box : Region) (a b : Array Element) → ends_within box a.shape ≡ true → SameArray a b →
    elements_in box a ≡ elements_in box b
same_elements box a b inside same =
    same_lists (elements_in box a) (elements_in box b)
    (length-map (tuples box) a.element ∙ sym (length-map (tuples box) b.element)) (λ k d h.
    let low : k < length (tuples box) = subst (λ n. k < n) (length-map (tuples box) a.element) h in
    let below : k < count box = subst (λ n. k < n) (length-tuples box) low in
    get_or-map a.element (tuples box) k [] d low
    ∙ (same.inside (get_or (tuples box) k []) (subst (λ t. contains (whole a.shape) t ≡ true) (sym (get_or-tuples box k
    [] below)) (inside_shape box a.shape (tuple_at box k) inside (contains-tuple_at box k below)))
    ∙ sym (get_or-map b.element (tuples box) k [] d low)))

pub holds_written : HoldsWritten
holds_written bytes old new is long =
    let box = region old.part.subset in
    let given : List Element = fixed_elements old.part.size bytes in
    ap (λ p. elements_in (region p.subset) (array_in p new.bytes.now)) is.part
    ∙ (same_elements box (array_in old.part new.bytes.now) (written box given (array_in old.part old.bytes.now))
    old.part.inside (same_array old.part bytes old.bytes.now new.bytes.now is.written)
    ∙ elements_in-written box given (array_in old.part old.bytes.now)
    (length-elements old.part.size old.part.some (count box) bytes long))

-- pieces joined again
joined : (k n : ℕ) (value : List ℕ) → length value ≡ k * n → flat_map bytes_of (map of_bytes (pieces k n value)) ≡ value
joined zero n [] e = refl
joined zero n (b ∷ value) e = absurd (omega arith)
joined (suc k) n value e =
    ap (λ rest. take n value ++ rest) (joined k n (drop n value) (omega (arith, length-drop n value, e, suc-mul k n)))
    ∙ take-append-drop n value

-- the bytes of a mask that was written
mask_bytes : (number : ℕ) (mask : List ℕ) (old new : ArrayBytesFixedDisjointView) → HasViewElements 1 number old →
    IsViewWritten mask old new → length mask ≡ number → view_box_bytes new ≡ mask
mask_bytes number mask old new has is long =
    let ones : length mask ≡ number * 1 = omega (arith, long) in
    let all : length mask ≡ count (region old.part.subset) * old.part.size =
    ones ∙ ap₂ (λ a b. a * b) (sym has.counted) (sym has.sized) in
    let one : 0 < 1 = omega arith in
    ap (flat_map bytes_of) (holds_written mask old new is all
    ∙ (ap (λ size. fixed_elements size mask) has.sized ∙ elements_are 1 one number mask ones))
    ∙ joined number 1 mask ones

-- the innermost elements that were written
inner_elements : (size number : ℕ) (value : List ℕ) (old new : ArrayBytesFixedDisjointView) (xs : List Element) →
    HasViewElements size number old → IsViewWritten value old new →
    meaning (fixed size) number (fixed_bytes value) ≡ Some xs → box_elements new ≡ xs
inner_elements size number value old new xs has is means =
    let parts = when_some (length value == number * size) (map of_bytes (pieces number size value)) xs means in
    let long : length value ≡ number * size = eqb-true (length value) (number * size) parts.0 in
    let positive : 0 < size = subst (λ s. 0 < s) has.sized old.part.some in
    holds_written value old new is (long ∙ ap₂ (λ a b. a * b) (sym has.counted) (sym has.sized))
    ∙ (ap (λ s. fixed_elements s value) has.sized ∙ (elements_are size positive number value long ∙ parts.1))

pub holds_meaning : HoldsMeaning
holds_meaning (fixed size) number (fixed_bytes value) [] news from to xs target means put =
    ap (λ views. held_by views to) put.0 ∙ inner_elements size number value from to xs target put.1 means
holds_meaning (fixed size) number (fixed_bytes value) (old ∷ olds) news from to xs target means put = absurd target
holds_meaning (fixed size) number (variable_bytes value offsets) olds news from to xs target means put = cc
holds_meaning (fixed size) number (optional_bytes under mask) olds news from to xs target means put = cc
holds_meaning variable number bytes olds news from to xs target means put = absurd target
holds_meaning (optional kind) number (fixed_bytes value) olds news from to xs target means put = cc
holds_meaning (optional kind) number (variable_bytes value offsets) olds news from to xs target means put = cc
holds_meaning (optional kind) number (optional_bytes under mask) [] news from to xs target means put = absurd target
holds_meaning (optional kind) number (optional_bytes under mask) (old ∷ olds) [] from to xs target means put =
    absurd put
holds_meaning (optional kind) number (optional_bytes under mask) (old ∷ olds) (new ∷ news) from to xs target means put =
    let parts : IsMasked kind number mask under xs = masked_parts kind number mask under xs means in
    ap₂ mask_over
    (mask_bytes number mask old new target.0 put.0 (mask_length number mask parts.mask_is))
    (holds_meaning kind number under olds news from to parts.list target.1 parts.inner put.1)
    ∙ parts.over

-- bytes that are as many as a view's box are taken by it
view_takes : (size number : ℕ) (value : List ℕ) (view : ArrayBytesFixedDisjointView) →
    HasViewElements size number view → length view.bytes.now ≡ view.part.array_len → length value ≡ number * size →
    view_answer (length value) view ≡ fine
view_takes size number value view has full long =
    cond-true (length view.bytes.now == view.part.array_len) _ _
    (eq-eqb (length view.bytes.now) view.part.array_len full)
    ∙ cond-true (length value == count (region view.part.subset) * view.part.size) _ _
    (eq-eqb (length value)
    (count (region view.part.subset) * view.part.size) (long ∙ ap₂ (λ a b. a * b) (sym has.counted) (sym has.sized)))

kinds_taken : (kind : Kind) (number : ℕ) (bytes : ArrayBytes) (views : List ArrayBytesFixedDisjointView)
    (inner : ArrayBytesFixedDisjointView) (xs : List Element) →
    IsTargetOf kind number views inner → meaning kind number bytes ≡ Some xs → kinds_answer (length views) bytes ≡ fine
kinds_taken (fixed size) number (fixed_bytes value) [] inner xs target means = refl
kinds_taken (fixed size) number (fixed_bytes value) (view ∷ views) inner xs target means = absurd target
kinds_taken (fixed size) number (variable_bytes value offsets) views inner xs target means = cc
kinds_taken (fixed size) number (optional_bytes under mask) views inner xs target means = cc
kinds_taken variable number bytes views inner xs target means = absurd target
kinds_taken (optional kind) number (fixed_bytes value) views inner xs target means = cc
kinds_taken (optional kind) number (variable_bytes value offsets) views inner xs target means = cc
kinds_taken (optional kind) number (optional_bytes under mask) [] inner xs target means = absurd target
kinds_taken (optional kind) number (optional_bytes under mask) (view ∷ views) inner xs target means =
    let parts : IsMasked kind number mask under xs = masked_parts kind number mask under xs means in
    kinds_taken kind number under views inner parts.list target.1 parts.inner

sizes_taken : (kind : Kind) (number : ℕ) (bytes : ArrayBytes) (views : List ArrayBytesFixedDisjointView)
    (inner : ArrayBytesFixedDisjointView) (xs : List Element) →
    IsTargetOf kind number views inner → HaveBytes views inner → meaning kind number bytes ≡ Some xs →
    sizes_answer bytes views inner ≡ fine
sizes_taken (fixed size) number (fixed_bytes value) [] inner xs target full means =
    view_takes size number value inner target full (fixed_long size number value xs means)
sizes_taken (fixed size) number (fixed_bytes value) (view ∷ views) inner xs target full means = absurd target
sizes_taken (fixed size) number (variable_bytes value offsets) views inner xs target full means = cc
sizes_taken (fixed size) number (optional_bytes under mask) views inner xs target full means = cc
sizes_taken variable number bytes views inner xs target full means = absurd target
sizes_taken (optional kind) number (fixed_bytes value) views inner xs target full means = cc
sizes_taken (optional kind) number (variable_bytes value offsets) views inner xs target full means = cc
sizes_taken (optional kind) number (optional_bytes under mask) [] inner xs target full means = absurd target
sizes_taken (optional kind) number (optional_bytes under mask) (view ∷ views) inner xs target full means =
    let parts : IsMasked kind number mask under xs = masked_parts kind number mask under xs means in
    let long : length mask ≡ number = mask_length number mask parts.mask_is in
    ap (λ answer. then_answer answer (sizes_answer under views inner))
    (view_takes 1 number mask view target.0 full.0 (omega (arith, long)))
    ∙ sizes_taken kind number under views inner parts.list target.1 full.1 parts.inner

pub takes_meaning : TakesMeaning
takes_meaning kind number bytes views inner xs target full means =
    ap (λ answer. then_answer answer (sizes_answer bytes views inner))
    (kinds_taken kind number bytes views inner xs target means)
    ∙ sizes_taken kind number bytes views inner xs target full means
