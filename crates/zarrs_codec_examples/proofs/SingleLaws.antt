-- Single bytes as elements, and out of parts.
use Rattle.std.proofs.Common.{◌≡◌, ◌⊎◌, ℕ, ◌+◌, ◌-◌, ◌*◌, ◌<◌, ◌==◌, Bool, true, false, if◌then◌else◌, List, [], ◌∷◌}
use Rattle.std.proofs.Common.{length, take, drop, map, get_or, Option, Some, None, IsSome, Result, Ok, Err, IfOk, IfErr}
use Rattle.std.proofs.Common.{MatchResult, refl, sym, ap, ap₂, ◌∙◌, subst, arith, inl, inr, eq-eqb}
use Rattle.std.proofs.lemmas.Bool.{cond-true, cond-false, ne_eqb}
use Rattle.std.proofs.lemmas.List.{length-map, length-take-le, length-drop}
use Rattle.std.proofs.lemmas.Simd.{map-map}
use Rattle.zarrs_codec_traits.specs.Prelude.{Region, count_of, sizes, ends_within, tuples, linear_index, ArrayBytes}
use Rattle.zarrs_codec_traits.specs.Prelude.{fixed_bytes, variable_bytes, optional_bytes, pieces, meaning, Level}
use Rattle.zarrs_codec_traits.specs.Prelude.{bytes_refusal, slice_of, slices_of, AllBelow, is_fixed, raw_of, linear}
use Rattle.zarrs_codec_traits.specs.Prelude.{IsNoFault, IsDecodeError, RefusesAs, part_lengths_answer, list_at, at_box}
use Rattle.zarrs_codec_traits.specs.Prelude.{select, Gives}
use Rattle.zarr_model.specs.Element.{Element, of_bytes, null, DataType, Kind, fixed, kind_of}
use Rattle.zarr_model.proofs.RegionLaws.{length-tuples}
use Rattle.zarr_model.proofs.Choices.{some_now}
use Rattle.zarrs_chunk_grid_iterators.proofs.BoxFacts.{box_inside}
use Rattle.zarrs_codec_slices.proofs.LeafLaws.{below_rest, map_below, fixed_at, fixed_long}
use Rattle.zarrs_codec_slices.proofs.RowLaws.{indices_below}
use Rattle.zarrs_codec_error.specs.declared.error.CodecError.{CodecError}
use Rattle.zarrs_codec_error.specs.declared.error.CodecError.TheVariants as codec
use Rattle.zarrs_codec_array_bytes.specs.Refusals.{BytesAnswer, fine, refused, wrong_length, unfit, other_fill}
use Rattle.zarrs_codec_array_bytes.specs.Refusals.{no_memory, odd, told_by, validity, then_answer, Answers}
use Rattle.zarrs_codec_array_bytes.specs.declared.array_bytes.ArrayBytes as code
use Rattle.zarrs_codec_array_bytes.proofs.CheckLaws.{sized_fine}
use Rattle.zarrs_codec_array_bytes.proofs.ToldLaws.{says_some}
use Rattle.zarrs_codec_traits.proofs.FaultLaws.{is_known, answers_no_fault, known_then}
use Rattle.zarrs_codec_examples.specs.SingleBytes.{byte_type_unserved, served_kind, range_at, ranges_in, single_list}
use Rattle.zarrs_codec_examples.specs.SingleBytes.{single_answer, singles_answer, data_in, AreJoined}

-- array bytes of one byte each have one size
fixed_kind : (number : ℕ) (raw : ArrayBytes) → bytes_refusal (fixed 1) number raw ≡ None → is_fixed raw ≡ true
fixed_kind number (fixed_bytes value) valid = refl
fixed_kind number (variable_bytes value offsets) valid = cc
fixed_kind number (optional_bytes under mask) valid = cc

pub byte_fixed : (t : DataType) (number : ℕ) (raw : ArrayBytes) → byte_type_unserved t ≡ None →
    validity (kind_of t) number raw ≡ fine → is_fixed raw ≡ true
byte_fixed t number raw served valid =
    fixed_kind number raw
    (ap (λ (k : Kind). bytes_refusal k number raw) (sym (served_kind t served)) ∙ sized_fine _ _ _ valid)

-- bytes as elements
pieces_each : (bytes : List ℕ) → pieces (length bytes) 1 bytes ≡ map (λ byte. byte ∷ []) bytes
pieces_each [] = refl
pieces_each (byte ∷ bytes) = ap (λ (rest : List (List ℕ)). (byte ∷ []) ∷ rest) (pieces_each bytes)

single_means : (kind : Kind) (number : ℕ) (bytes : List ℕ) → kind ≡ fixed 1 → length bytes ≡ number →
    meaning kind number (fixed_bytes bytes) ≡ Some (map of_bytes (map (λ byte. byte ∷ []) bytes))
single_means kind number bytes is long =
    ap (λ (k : Kind). meaning k number (fixed_bytes bytes)) is
    ∙ (ap (λ (n : ℕ). meaning (fixed 1) n (fixed_bytes bytes)) (sym long)
    ∙ (cond-true (length bytes == length bytes * 1) _ _
    (eq-eqb _ _ (let one : length bytes ≡ length bytes * 1 = omega arith in one))
    ∙ ap (λ (p : List (List ℕ)). Some (map of_bytes p)) (pieces_each bytes)))

pub byte_list : (level : Level) (value : List ℕ) → byte_type_unserved level.data_type ≡ None →
    length value ≡ count_of level.shape → Gives (list_at level (fixed_bytes value)) (single_list level value)
byte_list level value served long = record {
  same = refl;
  there = some_now _ _
      (single_means (kind_of level.data_type) (count_of level.shape) value (served_kind level.data_type served) long);
}

pub no_list : (level : Level) (value : List ℕ) (e : CodecError) → byte_type_unserved level.data_type ≡ None →
    ¬ (length value ≡ count_of level.shape) → told_by e ≡ wrong_length (length value) (count_of level.shape)
    → IsDecodeError (single_list level value) (λ e. told_by e ≡ wrong_length (length value) (count_of level.shape)) e
no_list level value e served other told =
    let one : count_of level.shape ≡ count_of level.shape * 1 = omega arith in
    inr (
      ap (λ (k : Kind). meaning k (count_of level.shape) (fixed_bytes value)) (served_kind level.data_type served)
          ∙ cond-false _ _ _ (ne_eqb _ _ (λ same. other (same ∙ sym one))),
      told,
    )

-- parts as bytes
module _ (shape : List ℕ) (region : Region) (bytes : List ℕ) (parts : List (List ℕ))
    (joined : map (λ byte. byte ∷ []) bytes ≡ parts) where
  places_long : length (ranges_in shape region) ≡ count_of (sizes region)
  places_long = length-map (linear shape (tuples region)) range_at
      ∙ (length-map (tuples region) (linear_index shape) ∙ length-tuples region)

  as_long : length parts ≡ length (ranges_in shape region) → length bytes ≡ count_of (sizes region)
  as_long many = sym (length-map bytes (λ byte. byte ∷ [])) ∙ (ap length joined ∙ (many ∙ places_long))

  pub joined_there : (kind : Kind) → kind ≡ fixed 1 → length parts ≡ length (ranges_in shape region) →
      IsSome (meaning kind (count_of (sizes region)) (fixed_bytes bytes))
  joined_there kind is many = some_now _ _ (single_means kind (count_of (sizes region)) bytes is (as_long many))

  pub joined_value : (kind : Kind) (value : List ℕ) (xs : List Element) → kind ≡ fixed 1 →
      ends_within region shape ≡ true → parts ≡ slices_of (ranges_in shape region) value →
      meaning kind (count_of shape) (fixed_bytes value) ≡ Some xs
      → meaning kind (count_of (sizes region)) (fixed_bytes bytes) ≡ Some (select shape region xs)
  joined_value kind value xs is inside slices means =
      let places : List ℕ = linear shape (tuples region) in
      let below : AllBelow (count_of shape) places =
      indices_below shape (tuples region) (box_inside region shape inside) in
      let list : meaning (fixed 1) (count_of shape) (fixed_bytes value) ≡ Some xs =
      ap (λ (k : Kind). meaning k (count_of shape) (fixed_bytes value)) (sym is) ∙ means in
      let many : length parts ≡ length (ranges_in shape region) =
      ap length slices ∙ length-map (ranges_in shape region) (λ range. slice_of range value) in
      single_means kind (count_of (sizes region)) bytes is (as_long many)
      ∙ ap Some (ap (map of_bytes) (joined ∙ slices)
      ∙ (ap (map of_bytes) (map-map (λ range. slice_of range value) range_at places)
      ∙ (map-map of_bytes (λ (p : ℕ). slice_of (range_at p) value) places
      ∙ (map_below (λ (p : ℕ). of_bytes (slice_of (range_at p) value)) (λ (p : ℕ). get_or xs p null) (count_of shape)
      places (λ k h. at_place list k h) below
      ∙ map-map (λ (p : ℕ). get_or xs p null) (linear_index shape) (tuples region)))))
    where
      at_place : meaning (fixed 1) (count_of shape) (fixed_bytes value) ≡ Some xs → (k : ℕ) → k < count_of shape →
          of_bytes (slice_of (range_at k) value) ≡ get_or xs k null
      at_place list k h =
          let one : k + 1 - k ≡ 1 = omega arith in
          let here : k ≡ k * 1 = omega arith in
          ap (λ (n : ℕ). of_bytes (take n (drop k value))) one ∙
          (ap (λ (n : ℕ). of_bytes (take 1 (drop n value))) here ∙ sym (fixed_at 1 (count_of shape) value xs list k h))

-- what is told of parts
pub singles_told : (places : List ℕ) (parts : List (List ℕ)) → length parts ≡ length (map range_at places) →
    part_lengths_answer (map range_at places) parts ≡ singles_answer parts
singles_told [] [] long = refl
singles_told [] (part ∷ parts) long = cc
singles_told (place ∷ places) [] long = cc
singles_told (place ∷ places) (part ∷ parts) long = ap (λ (t : BytesAnswer). then_answer (single_answer part) t)
    (singles_told places parts (let rest : length parts ≡ length (map range_at places) = omega (arith, long) in rest))

pub slices_fine : (value places : List ℕ) → AllBelow (length value) places →
    singles_answer (slices_of (map range_at places) value) ≡ fine
slices_fine value [] all = refl
slices_fine value (place ∷ places) all =
    let here : place < length value = all 0 (omega arith) in
    let rest : length (drop place value) ≡ length value - place = length-drop place value in
    let one : place + 1 - place ≡ 1 = omega arith in
    let long : length (take (place + 1 - place) (drop place value)) ≡ 1 = ap (λ (n : ℕ).
    length (take n (drop place value))) one ∙ length-take-le 1 (drop place value) (omega (arith, here, rest)) in
    ap₂ then_answer (cond-true (length (take (place + 1 - place) (drop place value)) == 1) _ _ (eq-eqb _ _ long))
    (slices_fine value places (below_rest (length value) place places all))

-- the parts of a value that decodes are fine
pub value_fine : (shape : List ℕ) (region : Region) (kind : Kind) (value : List ℕ) (xs : List Element) →
    kind ≡ fixed 1 → ends_within region shape ≡ true → meaning kind (count_of shape) (fixed_bytes value) ≡ Some xs
    → singles_answer (slices_of (ranges_in shape region) value) ≡ fine
value_fine shape region kind value xs is inside means =
    let list : meaning (fixed 1) (count_of shape) (fixed_bytes value) ≡ Some xs =
    ap (λ (k : Kind). meaning k (count_of shape) (fixed_bytes value)) (sym is) ∙ means in
    let long : length value ≡ count_of shape * 1 = fixed_long 1 (count_of shape) value xs list in
    let many : count_of shape ≡ length value = omega (arith, long) in
    slices_fine value (linear shape (tuples region)) (subst (λ (n : ℕ). AllBelow n (linear shape (tuples region))) many
    (indices_below shape (tuples region) (box_inside region shape inside)))

-- the first part of another length
pub first_told : (first rest : BytesAnswer) (e : CodecError) → (e ≡ codec.OutOfMemory) ⊎ (told_by e ≡ first) →
    (e ≡ codec.OutOfMemory) ⊎ (told_by e ≡ then_answer first rest)
first_told first rest e (inl memory) = inl memory
first_told fine rest e (inr told) = absurd (says_some e told)
first_told (refused why) rest e (inr told) = inr told
first_told (wrong_length len expected) rest e (inr told) = inr told
first_told unfit rest e (inr told) = inr told
first_told other_fill rest e (inr told) = inr told
first_told no_memory rest e (inr told) = inr told
first_told odd rest e (inr told) = inr told

pub only_memory : (parts : List (List ℕ)) (e : CodecError) →
    (e ≡ codec.OutOfMemory) ⊎ (told_by e ≡ singles_answer parts) → singles_answer parts ≡ fine → e ≡ codec.OutOfMemory
only_memory parts e (inl memory) good = memory
only_memory parts e (inr told) good = absurd (says_some e (told ∙ good))

pub fine_refuses : {T : Type 0} (told : BytesAnswer) (r : Result T CodecError) → Answers told r → RefusesAs told r
fine_refuses told (Ok v) answers = subst (λ (t : BytesAnswer). RefusesAs t (Ok v)) (sym answers) tt
fine_refuses {T} told (Err e) answers = go told answers
  where
    go : (t : BytesAnswer) → (e ≡ codec.OutOfMemory) ⊎ (told_by e ≡ t) → RefusesAs {T = T} t (Err e)
    go fine answers = tt
    go (refused why) answers = answers
    go (wrong_length len expected) answers = answers
    go unfit answers = answers
    go other_fill answers = answers
    go no_memory answers = answers
    go odd answers = answers

known_single : (part : List ℕ) → is_known (single_answer part) ≡ true
known_single part = go (length part == 1)
  where
    go : (b : Bool) → is_known (if b then fine else wrong_length (length part) 1) ≡ true
    go true = refl
    go false = refl

known_singles : (parts : List (List ℕ)) → is_known (singles_answer parts) ≡ true
known_singles [] = refl
known_singles (part ∷ parts) = known_then _ _ (known_single part) (known_singles parts)

-- elements out of parts
module _ (parts : List (List ℕ)) (r : Result code.ArrayBytes CodecError) where
  abbrev Joined : Type 0
  Joined = IfOk r (λ v. AreJoined parts (raw_of v))

  pub parts_lengths : (shape : List ℕ) (region : Region) → Answers (singles_answer parts) r →
      length parts ≡ length (ranges_in shape region) → RefusesAs (part_lengths_answer (ranges_in shape region) parts) r
  parts_lengths shape region answers many = fine_refuses _ r
      (subst (λ (t : BytesAnswer). Answers t r) (sym (singles_told (linear shape (tuples region)) parts many)) answers)

  pub parts_valid : (level : Level) (region : Region) → byte_type_unserved level.data_type ≡ None → Joined → length
      parts ≡ length (ranges_in level.shape region) → IfOk r (λ v. IsSome (list_at (at_box region level) (raw_of v)))
  parts_valid level region served made many = go r made
    where
      go : (q : Result code.ArrayBytes CodecError) → IfOk q (λ v. AreJoined parts (raw_of v)) →
          IfOk q (λ v. IsSome (list_at (at_box region level) (raw_of v)))
      go (Err e) made = tt
      go (Ok v) made = subst (λ (b : ArrayBytes). IsSome (list_at (at_box region level) b)) (sym made.fixed)
          (joined_there level.shape region (data_in (raw_of v)) parts made.each (kind_of level.data_type)
          (served_kind level.data_type served) many)

  pub parts_value : (level : Level) (region : Region) (value : List ℕ) (xs : List Element) →
      byte_type_unserved level.data_type ≡ None → ends_within region level.shape ≡ true → Joined →
      Answers (singles_answer parts) r → parts ≡ slices_of (ranges_in level.shape region) value
      → single_list level value ≡ Some xs → MatchResult r
      (λ v. list_at (at_box region level) (raw_of v) ≡ Some (select level.shape region xs)) (λ e. e ≡ codec.OutOfMemory)
  parts_value level region value xs served inside made answers slices means = go r made answers
    where
      go : (q : Result code.ArrayBytes CodecError) → IfOk q (λ v. AreJoined parts (raw_of v)) →
          Answers (singles_answer parts) q → MatchResult q (λ v.
          list_at (at_box region level) (raw_of v) ≡ Some (select level.shape region xs)) (λ e. e ≡ codec.OutOfMemory)
      go (Ok v) made answers =
          ap (list_at (at_box region level)) made.fixed
          ∙ joined_value level.shape region (data_in (raw_of v)) parts made.each (kind_of level.data_type) value xs
          (served_kind level.data_type served) inside slices means
      go (Err e) made answers = only_memory parts e answers (ap singles_answer slices ∙ value_fine level.shape region
          (kind_of level.data_type) value xs (served_kind level.data_type served) inside means)

  pub parts_cause : {A : Type 0} (shape : List ℕ) (region : Region) (wanted : Option A) (says : CodecError → Type 0) →
      Answers (singles_answer parts) r → length parts ≡ length (ranges_in shape region) →
      part_lengths_answer (ranges_in shape region) parts ≡ fine
      → IfErr r (IsDecodeError wanted says)
  parts_cause shape region wanted says answers many good = go r answers
    where
      go : (q : Result code.ArrayBytes CodecError) → Answers (singles_answer parts) q →
          IfErr q (IsDecodeError wanted says)
      go (Ok v) answers = tt
      go (Err e) answers =
          inl (only_memory parts e answers (sym (singles_told (linear shape (tuples region)) parts many) ∙ good))

  pub parts_no_fault : Answers (singles_answer parts) r → IfErr r IsNoFault
  parts_no_fault answers = answers_no_fault r (singles_answer parts) (known_singles parts) answers
