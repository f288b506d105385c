-- An array-to-array codec with its level, over what a handle of elements holds.
use Rattle.std.specs.Prelude.{◌≡◌, ◌&&◌, ℕ, true, false, List, replicate, Option, Some, None, IsSome, option_and_then}
use Rattle.zarrs_codec.specs.Prelude.{Region, whole, count_of, Element, DataType, fill_element, kind_of, ArrayBytes}
use Rattle.zarrs_codec.specs.Prelude.{Level, ArrayCodec, Options, has_long_element, Unserved, unserved_at, level_of}
use Rattle.zarrs_codec.specs.Prelude.{list_at, IsFit, smaller_box, is_kept}
use Rattle.zarrs_data_type_bytes.specs.FillValue.{fill_bytes}
use Rattle.zarrs_codec_error.specs.declared.error.CodecError.{CodecError}
use Rattle.zarrs_codec_traits.specs.declared.codec_traits.ArrayCodecTraits as any
use Rattle.zarrs_codec_traits.specs.declared.array_to_array.ArrayToArrayCodecTraits as array
use Rattle.zarrs_codec.specs.Lists.{Refused, by_codec, by_fill, ListSeen, is_short}
use Rattle.zarrs_codec_partial_elements.specs.Kinds.{kind_code}
use Rattle.zarrs_codec_partial.specs.declared.level.ArrayLevel.{ArrayLevel}

-- its level, and the bytes of its fill value
abbrev pub array_level : {A : Type 0} → ArrayLevel A → Level
array_level level = level_of level.shape.items level.data_type level.fill_value

abbrev pub array_fill : {A : Type 0} → ArrayLevel A → List ℕ
array_fill level = fill_bytes level.fill_value

-- a handle is one of the level below
pub record IsBelow (codec : ArrayCodec) (fill_below : DataType → List ℕ → List ℕ) (level : Level)
    (bytes : List ℕ) (seen : ListSeen) : Type 0 where
  pub shape : seen.level.shape ≡ (codec.level_below level).shape
  pub kind : kind_code (kind_of seen.level.data_type)
      ≡ kind_code (kind_of (codec.level_below level).data_type)
  pub fill : seen.fill ≡ fill_below level.data_type bytes

-- what the laws of a codec that serves its level say of the fill
pub record IsFilled (codec : ArrayCodec) (fill_below : DataType → List ℕ → List ℕ) (level : Level)
    (fill : List ℕ) : Type 0 where
  pub own : fill_element (kind_of level.data_type) fill ≡ Some level.fill
  pub below : fill_element (kind_of (codec.level_below level).data_type)
      (fill_below level.data_type fill) ≡ Some (codec.level_below level).fill
  pub decodes : codec.decode_list level (replicate (count_of (codec.level_below level).shape)
      (codec.level_below level).fill) ≡ Some (replicate (count_of level.shape) level.fill)

-- the box below that is read for what is asked for: that of a smaller box, or all
abbrev pub box_for : (Region → Region) → Region → Option Region → Region
box_for below all None = all
box_for below all (Some box) = below box

abbrev pub asked_box_below : (List ℕ → Region → Region) → List ℕ → List ℕ → Option Region → Region
asked_box_below region_below shape shape_below asked =
    box_for (region_below shape) (whole shape_below) (smaller_box shape asked)

-- why nothing is served: for a fill value that denotes no element, by the codec, or by what is
-- below
abbrev pub first_unserved : Option Unserved → Option Refused → Option Element → Option Refused
first_unserved own below None = Some by_fill
first_unserved (Some why) below (Some element) = Some (by_codec why)
first_unserved None below (Some element) = below

-- what is shown of the handle below
abbrev pub list_raised : Level → List ℕ → Option Unserved → ArrayCodec → (List ℕ → Region → Region)
    → ListSeen → ListSeen
list_raised level fill unserved codec region_below below = record {
  level = level;
  fill = fill;
  short = is_short level fill && below.short;
  unserved = first_unserved unserved below.unserved (fill_element (kind_of level.data_type) fill);
  there = below.there;
  list = λ under. option_and_then (codec.decode_list level) (below.list under);
  shown = below.shown;
  key = below.key;
  place = below.place;
  cost = below.cost;
  taking = λ asked. below.taking
      (Some (asked_box_below region_below level.shape (codec.level_below level).shape asked));
  whole = λ asked. below.whole
      (Some (asked_box_below region_below level.shape (codec.level_below level).shape asked));
  size = below.size;
}

-- a codec with its level: that, and the bytes of its fill value; why these are not served; how it
-- decodes a list below, and its level, fill value and boxes there
pub record CodecSeen : Type 0 where
  pub level : Level
  pub fill : List ℕ
  pub unserved : Option Unserved
  pub meaning : ArrayCodec
  pub fill_below : DataType → List ℕ → List ℕ
  pub region_below : List ℕ → Region → Region

abbrev pub codec_seen : {A : Type 0} → any.Ghosts A → array.Ghosts A → ArrayLevel A → CodecSeen
codec_seen own code above = record {
  level = array_level above;
  fill = array_fill above;
  unserved = unserved_at (own.unserved above.codec) (array_level above) (array_fill above);
  meaning = code.meaning above.codec;
  fill_below = code.fill_below above.codec;
  region_below = code.region_below above.codec;
}

-- its level below, the list above one there, and what is shown of a handle there
abbrev pub level_below : CodecSeen → Level
level_below at = at.meaning.level_below at.level

abbrev pub list_above : CodecSeen → Option (List Element) → Option (List Element)
list_above at list = option_and_then (at.meaning.decode_list at.level) list

abbrev pub seen_above : CodecSeen → ListSeen → ListSeen
seen_above at below =
    list_raised at.level at.fill at.unserved at.meaning at.region_below below

-- the codec serves its level, which fits, and a handle is one of the level below
pub record IsOver (seen : ListSeen) (at : CodecSeen) : Type 0 where
  pub fits : IsFit at.level.shape at.level.data_type
  pub served : at.unserved ≡ None
  pub below : IsBelow at.meaning at.fill_below at.level at.fill seen

-- a box is all of the level below one that fits, and that the codec serves
pub record IsAllBelow (box : Region) (at : CodecSeen) : Type 0 where
  pub fits : IsFit at.level.shape at.level.data_type
  pub served : at.unserved ≡ None
  pub all : box ≡ whole (level_below at).shape

-- some list below that decodes to these elements is not encoded
pub record IsUnencodedBelow (decode : List Element → Option (List Element))
    (unencoded : List Element → CodecError → Type 0) (list : List Element) (e : CodecError)
    : Type 0 where
  pub below : List Element
  pub decodes : decode below ≡ Some list
  pub told : unencoded below e

-- some list below that decodes to these elements is encoded
pub record IsEncodedBelow (decode : List Element → Option (List Element))
    (encodes : List Element → Type 0) (list : List Element) : Type 0 where
  pub below : List Element
  pub decodes : decode below ≡ Some list
  pub taken : encodes below

-- what is handed on of elements: others that decode to them, that are stored where these are, and
-- that are short where these and the fill value are
pub record HandsOn (codec : ArrayCodec) (level : Level) (fill fill_below : List ℕ)
    (under : Options) (bytes encoded : ArrayBytes) : Type 0 where
  pub decodes : (list : List Element) → IsSome (fill_element (kind_of level.data_type) fill)
      → list_at level bytes ≡ Some list → option_and_then (codec.decode_list level)
      (list_at (codec.level_below level) encoded) ≡ Some list
  pub kept : (list ys : List Element) → IsSome (fill_element (kind_of level.data_type) fill)
      → list_at level bytes ≡ Some list → list_at (codec.level_below level) encoded ≡ Some ys
      → is_kept under (fill_element (kind_of (codec.level_below level).data_type) fill_below) ys
      ≡ is_kept under (fill_element (kind_of level.data_type) fill) list
  pub short : IsSome (fill_element (kind_of level.data_type) fill) → is_short level fill ≡ true
      → has_long_element bytes ≡ false → has_long_element encoded ≡ false
