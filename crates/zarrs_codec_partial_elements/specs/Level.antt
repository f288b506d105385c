-- An array-to-bytes codec with its level, over what a handle of bytes holds.
use Rattle.std.specs.Prelude.{◌≡◌, ◌⊎◌, ℕ, not, is_some, Bool, true, false, List, Option, Some, None, option_map}
use Rattle.std.specs.Prelude.{option_and_then}
use Rattle.zarrs_codec_traits.specs.Prelude.{fill_bytes, has_size, RefusesSome}
use Rattle.zarrs_codec.specs.Prelude.{Region, Element, DataType, kind_of, Level, Options, BytesAnswer, fine, told_by}
use Rattle.zarrs_codec.specs.Prelude.{other_fill, Unserved, unserved_at, ArePartsOf, part_lengths_answer, level_of}
use Rattle.zarrs_codec.specs.Prelude.{Held, Seen, GivesParts, smaller_box, ListSeen, by_codec, fills, is_short, IsFit}
use Rattle.zarrs_storage.specs.declared.byte_range.ByteRange.{ByteRange}
use Rattle.zarrs_codec_error.specs.declared.error.CodecError.{CodecError}
use Rattle.zarrs_codec_partial_elements.specs.declared.level.BottomLevel.{BottomLevel}

-- its level, and the bytes of its fill value
abbrev pub level_of_bottom : {B : Type 0} → BottomLevel B → Level
level_of_bottom bottom = level_of bottom.shape.items bottom.data_type bottom.fill_value

abbrev pub bottom_fill : {B : Type 0} → BottomLevel B → List ℕ
bottom_fill bottom = fill_bytes bottom.fill_value

-- the list that is held, by what a value decodes to and by the list of an absent one
abbrev pub list_of : (List ℕ → Option (List Element)) → Option (List Element) → Held
    → Option (List Element)
list_of decode absent None = None
list_of decode absent (Some None) = absent
list_of decode absent (Some (Some value)) = decode value

-- what is held, which is nothing where the value is absent, also where a read of it is refused
abbrev pub found : Bool → Held → Held
found there (Some value) = Some value
found true None = None
found false None = Some None

abbrev pub held_in : Seen → Options → Held
held_in seen under = found seen.there (seen.held under)

-- what is read is refused: the whole value, or some of the ranges that are asked for
abbrev pub IsPartRefused : Held → (ByteRange → Held) → Option (List ByteRange) → Type 0
IsPartRefused held part None = held ≡ None
IsPartRefused held part (Some ranges) = RefusesSome part ranges

-- a fill value of another size than the type's is told as such
abbrev pub IsOtherFill : Level → List ℕ → CodecError → Type 0
IsOtherFill level fill e =
    (has_size (kind_of level.data_type) fill ≡ false) × (told_by e ≡ other_fill)

-- which errors say that a value does not decode
abbrev pub undecoded : (List ℕ → Option (List Element)) → (List ℕ → CodecError → Type 0) → List ℕ
    → CodecError → Type 0
undecoded decode says value e = (decode value ≡ None) × says value e

-- which errors say why there are no elements of parts that are given: that a part has another
-- length than its range, or else one that is said of every value with these parts
abbrev pub parts_say : (List ℕ → CodecError → Type 0) → List ByteRange → List (List ℕ) → BytesAnswer
    → CodecError → Type 0
parts_say says ranges given fine e =
    (value : List ℕ) → ArePartsOf (Some ranges) value given → says value e
parts_say says ranges given why e = told_by e ≡ why

-- the same of what ranges give: of an absent value, those of its fill value
abbrev pub given_say : Level → List ℕ → (List ℕ → CodecError → Type 0) → List ByteRange
    → Option (List (List ℕ)) → CodecError → Type 0
given_say level fill says ranges None e = IsOtherFill level fill e
given_say level fill says ranges (Some given) e =
    parts_say says ranges given (part_lengths_answer ranges given) e

-- ranges are asked for, what they name is given, and the error says why that has no elements
abbrev pub ranges_say : Level → List ℕ → (List ℕ → CodecError → Type 0) → Bool
    → (ByteRange → Held) → Option (List ByteRange) → CodecError → Type 0
ranges_say level fill says there part None e = ⊥
ranges_say level fill says there part (Some ranges) e = (parts : Option (List (List ℕ)))
    × (GivesParts there part ranges parts × given_say level fill says ranges parts e)

-- which errors say why there are no elements of what is held: the codec's of a value; of an absent
-- one, that of its fill value; and of one that is not given as a whole, those of its parts
abbrev pub own_says : Level → List ℕ → (List ℕ → CodecError → Type 0) → (CodecError → Type 0)
    → Held → CodecError → Type 0
own_says level fill says parts None e = parts e
own_says level fill says parts (Some None) e = IsOtherFill level fill e
own_says level fill says parts (Some (Some value)) e = says value e

-- and the handle's where what is read is refused
abbrev pub level_says : Level → List ℕ → (List ℕ → Option (List Element))
    → (List ℕ → CodecError → Type 0)
    → (Option (List ByteRange) → CodecError → Type 0) → Seen → Options
    → Option (List ByteRange) → CodecError → Type 0
level_says level fill decode says tells below under asked e =
    (IsPartRefused (below.held under) (below.part under) asked × tells asked e)
    ⊎ own_says level fill says
    (ranges_say level fill (undecoded decode says) below.there (below.part under) asked)
    (below.held under) e

-- the ranges that are read for what is asked for, or none where the whole value is read
abbrev pub ranges_for : (Region → Option (List ByteRange)) → List ℕ → Option Region
    → Option (List ByteRange)
ranges_for request shape asked = option_and_then request (smaller_box shape asked)

-- what is shown of the handle below
abbrev pub listed : Level → List ℕ → Option Unserved → (Options → List ℕ → Option (List Element))
    → (Region → Option (List ByteRange)) → Seen → ListSeen
listed level fill unserved meaning request below = record {
  level = level;
  fill = fill;
  short = is_short level fill;
  unserved = option_map by_codec unserved;
  there = below.there;
  list = λ under. list_of (meaning under) (fills level fill) (held_in below under);
  shown = below.shown;
  key = below.key;
  place = below.place;
  cost = below.cost;
  taking = λ asked. below.taking (ranges_for request level.shape asked);
  whole = λ asked. not (is_some (ranges_for request level.shape asked));
  size = below.size;
}

-- its level fits
abbrev pub IsFitBottom : {B : Type 0} → BottomLevel B → Type 0
IsFitBottom bottom = IsFit (level_of_bottom bottom).shape (level_of_bottom bottom).data_type

-- The same by the members of a codec: its level is served
abbrev pub IsServedBottom : {B : Type 0}
    → (B → Option (List ℕ) → Option DataType → Option (List ℕ) → Option Unserved)
    → BottomLevel B → Type 0
IsServedBottom unserved bottom =
    unserved_at (unserved bottom.codec) (level_of_bottom bottom) (bottom_fill bottom) ≡ None

-- the list that is held
abbrev pub bottom_list_in : {B : Type 0} → (B → Options → Level → List ℕ → Option (List Element))
    → BottomLevel B → Seen → Options → Option (List Element)
bottom_list_in meaning bottom below under = list_of
    (meaning bottom.codec under (level_of_bottom bottom))
    (fills (level_of_bottom bottom) (bottom_fill bottom)) (held_in below under)

-- which errors say why there are no elements, of ranges or of the whole value
abbrev pub says_in : {B : Type 0} → (B → Options → Level → List ℕ → Option (List Element))
    → (B → Options → Level → List ℕ → CodecError → Type 0)
    → BottomLevel B → (Options → Option (List ByteRange) → CodecError → Type 0) → Seen → Options
    → Option (List ByteRange) → CodecError → Type 0
says_in meaning says bottom tells below under asked = level_says (level_of_bottom bottom)
    (bottom_fill bottom) (meaning bottom.codec under (level_of_bottom bottom))
    (says bottom.codec under (level_of_bottom bottom)) (tells under) below under
    asked

-- the ranges that it asks for to read a box, and to read what is asked for
abbrev pub request_of : {B : Type 0} → (B → List ℕ → DataType → Region → Option (List ByteRange))
    → BottomLevel B → Region → Option (List ByteRange)
request_of request bottom box =
    request bottom.codec (level_of_bottom bottom).shape (level_of_bottom bottom).data_type box

abbrev pub request_for : {B : Type 0}
    → (B → List ℕ → DataType → Region → Option (List ByteRange)) → BottomLevel B → Option Region
    → Option (List ByteRange)
request_for request bottom asked =
    ranges_for (request_of request bottom) (level_of_bottom bottom).shape asked

-- what is shown of the handle below
abbrev pub seen_by : {B : Type 0}
    → (B → Option (List ℕ) → Option DataType → Option (List ℕ) → Option Unserved)
    → (B → Options → Level → List ℕ → Option (List Element))
    → (B → List ℕ → DataType → Region → Option (List ByteRange)) → BottomLevel B → Seen
    → ListSeen
seen_by unserved meaning request bottom below = listed (level_of_bottom bottom) (bottom_fill bottom)
    (unserved_at (unserved bottom.codec) (level_of_bottom bottom) (bottom_fill bottom))
    (λ under. meaning bottom.codec under (level_of_bottom bottom)) (request_of request bottom) below
