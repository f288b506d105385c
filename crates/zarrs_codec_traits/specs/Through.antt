-- What a bytes-to-bytes codec makes of what a handle holds.
use Rattle.std.specs.Prelude.{ℕ, List, Option, Some, None, option_map}
use Rattle.zarr_model.specs.Codec.{Options}
use Rattle.zarrs_storage.specs.declared.byte_range.ByteRange.{ByteRange}
use Rattle.zarrs_codec_error.specs.declared.error.CodecError.{CodecError}
use Rattle.zarrs_codec_traits.specs.Held.{Held, Seen, held_part}
use Rattle.zarrs_codec_traits.specs.Reads.{TellsRangeOf}

-- what the value decodes to
abbrev pub through : (List ℕ → Option (List ℕ)) → Held → Held
through decode None = None
through decode (Some None) = Some None
through decode (Some (Some value)) = option_map Some (decode value)

-- which errors tell why a read is refused: of a value that decodes, that of a range of what it
-- decodes to, and of one that does not, the codec's
abbrev pub says_through : Option (List ℕ) → (CodecError → Type 0) → Option (List ByteRange)
    → CodecError → Type 0
says_through None says asked e = says e
says_through (Some bytes) says asked e = TellsRangeOf asked (Some bytes) e

-- and where the handle's value is refused, the handle's
abbrev pub through_says : (List ℕ → Option (List ℕ)) → (List ℕ → CodecError → Type 0)
    → (CodecError → Type 0) → Held → Option (List ByteRange) → CodecError → Type 0
through_says decode says tells None asked e = tells e
through_says decode says tells (Some None) asked e = ⊥
through_says decode says tells (Some (Some value)) asked e =
    says_through (decode value) (says value) asked e

-- what is shown: ranges of the decoded value, for each of which the whole value is read
abbrev pub decoded_through : (Options → List ℕ → Option (List ℕ)) → Seen → Seen
decoded_through meaning below = record below {
  held = λ under. through (meaning under) (below.held under);
  part = λ under. held_part (through (meaning under) (below.held under));
  taking = λ asked. below.taking None;
}
