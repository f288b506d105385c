-- Elements of one byte, and where they stand in a value.
use Rattle.std.specs.Prelude.{◌≡◌, ◌==◌, ℕ, ◌+◌, ◌*◌, ◌<◌, ◌≤◌, if◌then◌else◌, Bool, true, false, List, [], ◌∷◌, length}
use Rattle.std.specs.Prelude.{map, Option, Some, None, option_and_then, refl}
use Rattle.std.proofs.Common.{sym, ap, ◌∙◌, subst, arith, eqb-true}
use Rattle.std.proofs.lemmas.Bool.{le-leb}
use Rattle.zarrs_codec_traits.specs.Prelude.{Region, count_of, ends_within, tuples, Element, DataType, Kind, fixed}
use Rattle.zarrs_codec_traits.specs.Prelude.{variable, optional, kind_of, ArrayBytes, fixed_bytes, variable_bytes}
use Rattle.zarrs_codec_traits.specs.Prelude.{optional_bytes, meaning, Level, first_invalid, AllBelow, BytesAnswer, fine}
use Rattle.zarrs_codec_traits.specs.Prelude.{wrong_length, then_answer, linear, list_at, taken}
use Rattle.zarrs_chunk_grid_iterators.proofs.BoxFacts.{box_inside}
use Rattle.zarrs_storage.specs.declared.byte_range.ByteRange.{ByteRange}
use Rattle.zarrs_storage.specs.declared.byte_range.ByteRange.TheVariants.{FromStart}
use Rattle.zarrs_data_type_bytes.specs.declared.codec_support.CodecName.TheVariants as names
use Rattle.zarrs_codec_slices.proofs.LeafLaws.{below_rest, fixed_long}
use Rattle.zarrs_codec_slices.proofs.RowLaws.{indices_below}
use Rattle.zarrs_codec_traits.specs.Errors.{Unserved, unsupported}

-- whether elements of a kind have one byte
abbrev pub is_byte : Kind → Bool
is_byte (fixed n) = n == 1
is_byte variable = false
is_byte (optional kind) = false

-- types of other elements are not served
abbrev pub byte_type_unserved : DataType → Option Unserved
byte_type_unserved t = if is_byte (kind_of t) then None else Some (unsupported names.Other)

abbrev pub single_unserved : Option DataType → Option Unserved
single_unserved t = option_and_then byte_type_unserved t

-- a type that is served is so by a call that takes only some of a level
pub single_serves : (t : DataType) (with_type : Bool) → single_unserved (Some t) ≡ None
    → single_unserved (taken with_type t) ≡ None
single_serves t true served = served
single_serves t false served = refl

-- the range of the element at a place, and those of a region's elements
abbrev pub range_at : ℕ → ByteRange
range_at place = FromStart place (Some 1)

abbrev pub ranges_in : List ℕ → Region → List ByteRange
ranges_in shape region = map range_at (linear shape (tuples region))

-- the elements of a value that has a byte for each
abbrev pub single_list : Level → List ℕ → Option (List Element)
single_list level value = list_at level (fixed_bytes value)

-- what is told of parts that have one byte each: the first of another length
abbrev pub single_answer : List ℕ → BytesAnswer
single_answer part = if length part == 1 then fine else wrong_length (length part) 1

abbrev pub singles_answer : List (List ℕ) → BytesAnswer
singles_answer [] = fine
singles_answer (part ∷ parts) = then_answer (single_answer part) (singles_answer parts)

-- array bytes are such parts, one behind the other
abbrev pub data_in : ArrayBytes → List ℕ
data_in (fixed_bytes value) = value
data_in (variable_bytes value offsets) = value
data_in (optional_bytes under mask) = data_in under

pub record AreJoined (parts : List (List ℕ)) (bytes : ArrayBytes) : Type 0 where
  pub fixed : bytes ≡ fixed_bytes (data_in bytes)
  pub each : map (λ byte. byte ∷ []) (data_in bytes) ≡ parts

-- the kind of a type that is served
pub served_kind : (t : DataType) → byte_type_unserved t ≡ None → kind_of t ≡ fixed 1
served_kind t served = go (kind_of t) served
  where
    go : (kind : Kind) → (if is_byte kind then None else Some (unsupported names.Other)) ≡ None
        → kind ≡ fixed 1
    go (fixed n) served = one (n == 1) refl served
      where
        one : (b : Bool) → (n == 1) ≡ b
            → (if b then None else Some (unsupported names.Other)) ≡ None → fixed n ≡ fixed 1
        one true is served = ap fixed (eqb-true n 1 is)
        one false is served = cc
    go variable served = cc
    go (optional kind) served = cc

-- places below a length have valid ranges
places_valid : (n : ℕ) (places : List ℕ) → AllBelow n places
    → first_invalid n (map range_at places) ≡ None
places_valid n [] all = refl
places_valid n (place ∷ places) all =
    let here : place < n = all 0 (omega arith) in
    let fits : place + 1 ≤ n = omega (arith, here) in
    ap (λ (b : Bool). if b then first_invalid n (map range_at places) else Some (range_at place))
    (le-leb _ _ fits)
    ∙ places_valid n places (below_rest n place places all)

-- so a value that leads to another answer has no elements
pub single_asks : (level : Level) (region : Region) (value : List ℕ) (ranges : List ByteRange)
    → byte_type_unserved level.data_type ≡ None → ends_within region level.shape ≡ true
    → Some (ranges_in level.shape region) ≡ Some ranges
    → ¬ (first_invalid (length value) ranges ≡ None) → single_list level value ≡ None
single_asks level region value ranges served inside some invalid =
    go (single_list level value) refl
  where
    go : (list : Option (List Element)) → single_list level value ≡ list → list ≡ None
    go None is = refl
    go (Some xs) is =
        let kind = served_kind level.data_type served in
        let long : length value ≡ count_of level.shape * 1 = fixed_long 1 _ value xs
        (subst (λ (k : Kind). meaning k (count_of level.shape) (fixed_bytes value) ≡ Some xs)
        kind is) in
        let same : ranges_in level.shape region ≡ ranges = cc in
        let many : length value ≡ count_of level.shape = omega (arith, long) in
        absurd (invalid (subst (λ (r : List ByteRange). first_invalid (length value) r ≡ None) same
        (subst (λ (n : ℕ). first_invalid n (ranges_in level.shape region) ≡ None) (sym many)
        (places_valid (count_of level.shape) _
        (indices_below level.shape (tuples region) (box_inside region level.shape inside))))))
