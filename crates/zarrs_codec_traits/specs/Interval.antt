-- An interval of the value that a handle holds.
use Rattle.std.specs.Prelude.{ℕ, if◌then◌else◌, List, [], ◌∷◌, map, Option, Some, None}
use Rattle.zarrs_storage.specs.declared.byte_range.ByteRange.{ByteRange}
use Rattle.zarrs_storage.specs.declared.byte_range.ByteRange.TheVariants.{FromStart}
use Rattle.zarrs_storage.specs.declared.byte_range.InvalidByteRangeError.{InvalidByteRangeError}
use Rattle.zarrs_storage.specs.ByteRange.{is_valid, first_invalid, shifted}
use Rattle.zarrs_codec_error.specs.declared.error.CodecError.{CodecError}
use Rattle.zarrs_codec_traits.specs.Held.{Held, Seen}
use Rattle.zarrs_codec_traits.specs.Reads.{IsRangeErrorOf}

-- where all of so many bytes from an offset on, or some ranges of them, lie in the value
abbrev pub all_of : ℕ → ℕ → ByteRange
all_of offset len = FromStart offset (Some len)

abbrev pub asked_within : ℕ → ℕ → Option (List ByteRange) → List ByteRange
asked_within offset len None = all_of offset len ∷ []
asked_within offset len (Some ranges) = map (shifted offset len) ranges

-- a range is refused that is not valid for so many bytes, and else it is that of the value
abbrev pub interval_part : (ByteRange → Held) → ℕ → ℕ → ByteRange → Held
interval_part part offset len range =
    if is_valid range len then part (shifted offset len range) else None

-- what an interval shows of a handle
abbrev pub interval : ℕ → ℕ → Seen → Seen
interval offset len below = record below {
  held = λ under. below.part under (all_of offset len);
  part = λ under. interval_part (below.part under) offset len;
  taking = λ asked. below.taking (Some (asked_within offset len asked));
}

-- the error of a range that it refuses before anything is read: of the first that is not valid for
-- its length, or else that of the handle
abbrev pub error_or : Option ByteRange → ℕ → Option InvalidByteRangeError
    → Option InvalidByteRangeError
error_or (Some range) len below = Some (record { range = range; size = len })
error_or None len below = below

abbrev pub interval_early : ℕ → ℕ → (Option (List ByteRange) → Option InvalidByteRangeError)
    → Option (List ByteRange) → Option InvalidByteRangeError
interval_early offset len below None = below (Some (all_of offset len ∷ []))
interval_early offset len below (Some ranges) =
    error_or (first_invalid len ranges) len (below (Some (map (shifted offset len) ranges)))

-- which errors tell why it refuses what is asked for: where a range is not valid for its length
-- that of the first such one, and else those of the handle for where this lies in the value
abbrev pub range_or : Option ByteRange → (CodecError → Type 0) → (CodecError → Type 0)
    → CodecError → Type 0
range_or (Some range) own below e = own e
range_or None own below e = below e

abbrev pub interval_tells : ℕ → ℕ → (Option (List ByteRange) → CodecError → Type 0)
    → Option (List ByteRange) → CodecError → Type 0
interval_tells offset len below None e = below (Some (all_of offset len ∷ [])) e
interval_tells offset len below (Some ranges) e = range_or (first_invalid len ranges)
    (IsRangeErrorOf ranges len) (below (Some (map (shifted offset len) ranges))) e
