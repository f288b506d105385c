-- A region's elements out of the parts of a value that its runs ask for.
use Rattle.std.proofs.Common.{◌≡◌, ◌⊎◌, ℕ, ◌+◌, ◌-◌, ◌*◌, ◌^◌, ◌<◌, ◌≤◌, ◌==◌, Bool, true, false, if◌then◌else◌, List}
use Rattle.std.proofs.Common.{[], ◌∷◌, length, take, drop, map, Option, Some, IsSome, Ok, Err, refl, sym, ap, ap₂, ◌∙◌}
use Rattle.std.proofs.Common.{subst, arith, inl, inr, eq-eqb}
use Rattle.std.specs.List.{concat, AllByRecursion}
use Rattle.std.proofs.lemmas.Bool.{cond-true}
use Rattle.std.proofs.lemmas.List.{length-take-le, length-drop}
use Rattle.std.proofs.Math.Nat.{mul-le-mul_right}
use Rattle.zarrs_codec_traits.specs.Prelude.{Span, Region, count, count_of, ends_within, Element, DataType, Kind}
use Rattle.zarrs_codec_traits.specs.Prelude.{kind_of, fixed_bytes, Level, Options, bytes_codec, decode_array_to_bytes}
use Rattle.zarrs_codec_traits.specs.Prelude.{decode_fixed, slice_of, slices_of, bytes_table, RefusesAs, IsNoFault}
use Rattle.zarrs_codec_traits.specs.Prelude.{part_lengths_answer, list_at, at_box, select, Gives, IsFit}
use Rattle.zarrs_chunk_grid_iterators.specs.Runs.{runs}
use Rattle.zarr_model.proofs.RegionLaws.{count_within}
use Rattle.zarrs_chunk_grid_iterators.proofs.BoxFacts.{box_within}
use Rattle.zarrs_storage.specs.declared.byte_range.ByteRange.{ByteRange}
use Rattle.zarr_model.specs.declared.endianness.Endianness.{Endianness}
use Rattle.zarrs_data_type_bytes.specs.ByteOrder.{in_order}
use Rattle.zarrs_codec_error.specs.declared.error.CodecError.{CodecError}
use Rattle.zarrs_codec_error.specs.declared.error.CodecError.TheVariants as codec
use Rattle.zarrs_codec_array_bytes.specs.Refusals.{BytesAnswer, fine, refused, wrong_length, unfit, other_fill}
use Rattle.zarrs_codec_array_bytes.specs.Refusals.{no_memory, odd, told_by, then_answer}
use Rattle.zarrs_codec_array_bytes.proofs.ToldLaws.{says_some}
use Rattle.zarrs_codec_traits.proofs.FaultLaws.{is_known, known_then, answers_no_fault}
use Rattle.zarr_codecs_to_bytes.specs.BytesCodec.{stored_order, element_bytes}
use Rattle.zarr_codecs_to_bytes.proofs.OrderLaws.{laid, decoded_here}
use Rattle.zarr_codecs_to_bytes.specs.Ranges.{run_range, run_ranges, part_answer, parts_answer, even_answer}
use Rattle.zarr_codecs_to_bytes.proofs.RangeLaws.{ranges_decode}
use Rattle.zarr_codecs_to_bytes.proofs.PartLaws.{runs_told, runs_long}
use Rattle.zarr_codecs_to_bytes.specs.Asking.{long_value}

-- a region's elements can be counted and their bytes be addressed where the shape's can
pub few_here : (shape : List ℕ) (data_type : DataType) (box : Region) → IsFit shape data_type
    → ends_within box shape ≡ true → count box < 2 ^ 64
few_here shape data_type box fits inside =
    let few : count box ≤ count_of shape = count_within box shape inside in omega (arith, few, fits.count)

pub room_here : (shape : List ℕ) (data_type : DataType) (box : Region) → IsFit shape data_type
    → ends_within box shape ≡ true → count box * element_bytes data_type < 2 ^ 64
room_here shape data_type box fits inside =
    let less : count box * element_bytes data_type ≤ count_of shape * element_bytes data_type =
    mul-le-mul_right (element_bytes data_type) (count_within box shape inside) in
    omega (arith, less, fits.bytes)

-- the ranges of a value that decodes have their lengths
slices_fine : (n number : ℕ) (value : List ℕ) (spans : List Span)
    → AllByRecursion (λ span. span.start + span.size ≤ number) spans → length value ≡ number * n
    → part_lengths_answer (map (run_range n) spans) (slices_of (map (run_range n) spans) value) ≡ fine
slices_fine n number value [] within long = refl
slices_fine n number value (s ∷ spans) within long =
    let high : (s.start + s.size) * n ≤ number * n = mul-le-mul_right n within.0 in
    let rest : length (drop (s.start * n) value) ≡ length value - s.start * n = length-drop (s.start * n) value in
    let some : s.start * n + s.size * n - s.start * n ≡ s.size * n = omega arith in
    let here : length (slice_of (run_range n s) value) ≡ s.size * n =
    ap (λ (m : ℕ). length (take m (drop (s.start * n) value))) some
    ∙ length-take-le (s.size * n) (drop (s.start * n) value) (omega (arith, high, rest, long)) in
    ap₂ then_answer (cond-true (length (slice_of (run_range n s) value) == s.size * n) _ _ (eq-eqb _ _ here))
    (slices_fine n number value spans within.1 long)

module _ (order : Option Endianness) (under : Options) (level : Level) (box : Region) (component : ℕ) (parts : List
    (List ℕ)) (served : bytes_table level.data_type ≡ Some component) (inside : ends_within box level.shape ≡ true)
    (many : length parts ≡ length (run_ranges (element_bytes level.data_type) level.shape box)) where
  abbrev Asked : List ByteRange
  Asked = run_ranges (element_bytes level.data_type) level.shape box

  told_here : even_answer (count box * element_bytes level.data_type) parts ≡
      part_lengths_answer Asked parts
  told_here = sym (runs_told (element_bytes level.data_type) level.shape box parts inside many)

  -- where each part has its length they are together the bytes of valid elements
  here_decodes : (joined out : List ℕ) → joined ≡ concat parts → in_order component order joined ≡ Some out
      → part_lengths_answer Asked parts ≡ fine
      → Gives (list_at (at_box box level) (fixed_bytes out)) (decode_array_to_bytes under (bytes_codec (stored_order
      order)) (at_box box level) joined)
  here_decodes joined out is made good =
      decoded_here order under (at_box box level) component joined out served made (ap length is
      ∙ runs_long (element_bytes level.data_type) level.shape box parts inside many good)

  pub here_valid : (joined out : List ℕ) → joined ≡ concat parts → in_order component order joined ≡ Some out
      → even_answer (count box * element_bytes level.data_type) parts ≡ fine
      → IsSome (list_at (at_box box level) (fixed_bytes out))
  here_valid joined out is made good = (here_decodes joined out is made (sym told_here ∙ good)).there

  -- and of a value that decodes the elements of the region
  pub here_value : (joined out value : List ℕ) (xs : List Element) → joined ≡ concat parts
      → in_order component order joined ≡ Some out
      → even_answer (count box * element_bytes level.data_type) parts ≡ fine
      → parts ≡ slices_of Asked value
      → decode_array_to_bytes under (bytes_codec (stored_order order)) level value ≡ Some xs
      → list_at (at_box box level) (fixed_bytes out) ≡ Some (select level.shape box xs)
  here_value joined out value xs is made good slices means =
      let kind : kind_of level.data_type ≡ _ = (laid level.data_type component served).kind in
      (here_decodes joined out is made (sym told_here ∙ good)).same
      ∙ (ap (λ (v : List ℕ). decode_fixed (stored_order order) (at_box box level) (kind_of level.data_type) v) (is
      ∙ ap concat slices)
      ∙ (ap (λ (k : Kind). decode_fixed (stored_order order) (at_box box level) k (concat (slices_of Asked value))) kind
      ∙ ranges_decode (stored_order order) level box (element_bytes level.data_type) value xs inside (ap (λ (k :
      Kind). decode_fixed (stored_order order) level k value) (sym kind) ∙ means)))

  -- what errors tell
  pub here_lengths : {T : Type 0} (v : T)
      → even_answer (count box * element_bytes level.data_type) parts ≡ fine
      → RefusesAs (part_lengths_answer Asked parts) (Ok v)
  here_lengths v good = subst (λ (t : BytesAnswer). RefusesAs t (Ok v)) (sym (sym told_here ∙ good)) tt

  pub here_refuses : (T : Type 0) (e : CodecError)
      → (e ≡ codec.OutOfMemory) ⊎ (told_by e ≡ even_answer (count box * element_bytes level.data_type) parts) →
      RefusesAs {T = T} (part_lengths_answer Asked parts) (Err e)
  here_refuses T e told = subst (λ (t : BytesAnswer). RefusesAs {T = T} t (Err e)) told_here (go _ told)
    where
      go : (t : BytesAnswer) → (e ≡ codec.OutOfMemory) ⊎ (told_by e ≡ t) → RefusesAs {T = T} t (Err e)
      go fine told = tt
      go (refused why) told = told
      go (wrong_length len expected) told = told
      go unfit told = told
      go other_fill told = told
      go no_memory told = told
      go odd told = told

  pub only_memory : (e : CodecError)
      → (e ≡ codec.OutOfMemory) ⊎ (told_by e ≡ even_answer (count box * element_bytes level.data_type) parts) →
      part_lengths_answer Asked parts ≡ fine → e ≡ codec.OutOfMemory
  only_memory e (inl memory) good = memory
  only_memory e (inr told) good = absurd (says_some e (told ∙ (told_here ∙ good)))

  pub here_memory : (e : CodecError) (value : List ℕ) (xs : List Element)
      → (e ≡ codec.OutOfMemory) ⊎ (told_by e ≡ even_answer (count box * element_bytes level.data_type) parts) →
      parts ≡ slices_of Asked value
      → decode_array_to_bytes under (bytes_codec (stored_order order)) level value ≡ Some xs → e ≡ codec.OutOfMemory
  here_memory e value xs told slices means =
      only_memory e told (ap (part_lengths_answer Asked) slices
      ∙ slices_fine (element_bytes level.data_type) (count_of level.shape) value (runs level.shape box) (box_within
      box level.shape inside) (long_value (stored_order order) under level value xs means))

-- no error of parts is a fault of a store
known_part : (size : ℕ) (part : List ℕ) → is_known (part_answer size part) ≡ true
known_part size part = go (length part == size)
  where
    go : (b : Bool) → is_known (if b then fine else wrong_length (length part) size) ≡ true
    go true = refl
    go false = refl

known_parts : (size : ℕ) (parts : List (List ℕ)) → is_known (parts_answer size parts) ≡ true
known_parts size [] = refl
known_parts size (part ∷ parts) = known_then _ _ (known_part size part) (known_parts size parts)

pub here_no_fault : (T : Type 0) (size : ℕ) (parts : List (List ℕ)) (e : CodecError)
    → (e ≡ codec.OutOfMemory) ⊎ (told_by e ≡ parts_answer size parts) → IsNoFault e
here_no_fault T size parts e told = answers_no_fault {T =
    T} (Err e) (parts_answer size parts) (known_parts size parts) told
