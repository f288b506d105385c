-- What a handle of bytes holds, and what it shows of what is below.
use Rattle.std.specs.Prelude.{◌≡◌, ◌≤◌, ℕ, ◌+◌, Bool, is_some, if◌then◌else◌, List, [], length, take, drop, Option}
use Rattle.std.specs.Prelude.{Some, None}
use Rattle.zarr_model.specs.Codec.{Options}
use Rattle.zarr_model.specs.Shown.{Shown}
use Rattle.zarrs_storage.specs.declared.byte_range.ByteRange.{ByteRange}
use Rattle.zarrs_storage.specs.declared.byte_range.ByteRange.TheVariants.{FromStart}
use Rattle.zarrs_storage.specs.ByteRange.{is_valid, slice_of}

-- what a read gives: nothing where it is refused, else the bytes, or none where the value is absent
abbrev pub Held : Type 0
Held = Option (Option (List ℕ))

-- what a handle shows
pub record Seen : Type 0 where
  -- whether the value is there, and what a read of all of it and of one range gives
  pub there : Bool
  pub held : Options → Held
  pub part : Options → ByteRange → Held
  -- the content and the counts of what is below, and the key of the value there
  pub shown : Shown
  pub key : List ℕ
  -- the names of the references that the handle holds, and its key
  pub place : List ℕ
  -- how many reading calls below one here makes, and how many bytes these take for ranges, or for
  -- the whole value
  pub cost : ℕ
  pub taking : Option (List ByteRange) → ℕ
  -- how many bytes of the value are in memory
  pub size : ℕ

-- a part lies within the one that a range from an offset gives
pub record HasPart (part : ByteRange → Held) (offset len : ℕ) (bytes : List ℕ) : Type 0 where
  pub long : length bytes ≡ len
  pub inner : (from n : ℕ) → from + n ≤ len
      → part (FromStart (offset + from) (Some n)) ≡ Some (Some (take n (drop from bytes)))

-- what a read of one range of a value gives, if the value is there
abbrev pub value_part : Option (List ℕ) → ByteRange → Held
value_part None range = Some None
value_part (Some value) range =
    if is_valid range (length value) then Some (Some (slice_of range value)) else None

-- the same of what a read of all of it gives
abbrev pub held_part : Held → ByteRange → Held
held_part None range = None
held_part (Some value) range = value_part value range

-- what is read belongs together
pub record IsSoundSeen (seen : Seen) : Type 0 where
  -- a range of a value that is read whole is its slice
  pub whole : (under : Options) (value : List ℕ) (range : ByteRange)
      → seen.held under ≡ Some (Some value)
      → seen.part under range ≡ value_part (Some value) range
  -- and a range within a range is a slice of that
  pub within : (under : Options) (offset len : ℕ) (bytes : List ℕ)
      → seen.part under (FromStart offset (Some len)) ≡ Some (Some bytes)
      → HasPart (seen.part under) offset len bytes
  -- bytes are given exactly where the value is there
  pub all_there : (under : Options) (value : Option (List ℕ)) → seen.held under ≡ Some value
      → is_some value ≡ seen.there
  pub part_there : (under : Options) (range : ByteRange) (value : Option (List ℕ))
      → seen.part under range ≡ Some value → is_some value ≡ seen.there

-- nothing is below
abbrev pub nothing_below : Shown
nothing_below = record { content = λ key. None; faults = 0; asks = 0; taken = 0; puts = 0 }

-- a value in memory
abbrev pub held_size : Option (List ℕ) → ℕ
held_size None = 0
held_size (Some value) = length value

abbrev pub in_memory : Option (List ℕ) → Seen
in_memory value = record {
  there = is_some value;
  held = λ under. Some value;
  part = λ under. value_part value;
  shown = nothing_below;
  key = [];
  place = [];
  cost = 0;
  taking = λ asked. 0;
  size = held_size value;
}
