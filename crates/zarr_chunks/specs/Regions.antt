-- What is fetched of a chunk for a region of it, and the ranges of its value that are read.
use Rattle.std.specs.Prelude.{◌≡◌, ◌==◌, ◌⊎◌, if◌then◌else◌, ℕ, Bool, true, false, List, length, Option, Some, None}
use Rattle.std.specs.Prelude.{IsSome, option_map, Result, Ok, Err, IfErr, MatchResult}
use Rattle.zarrs_codec_traits.specs.Prelude.{slices_of, invalid_range, Held, through}
use Rattle.zarr_codec_chain.specs.Prelude.{Region, count, count_of, Element, DataType, ArrayBytes, Level, Options}
use Rattle.zarr_codec_chain.specs.Prelude.{decode_bytes, counted, raw_of, fine, IsDecodeError, list_at, at_box}
use Rattle.zarr_codec_chain.specs.Prelude.{TellsRangeOf, Opening, bottom_level, steps, first_level, byte_codecs, Boxing}
use Rattle.zarr_codec_chain.specs.Prelude.{bottom_box, GivesPart}
use Rattle.zarrs_storage.specs.declared.byte_range.ByteRange.{ByteRange}
use Rattle.zarrs_codec_error.specs.declared.error.CodecError.{CodecError}
use Rattle.zarrs_codec_error.specs.declared.error.CodecError.TheVariants as codec
use Rattle.zarrs_codec_array_bytes.specs.declared.array_bytes.ArrayBytes as code
use Rattle.zarrs_codec_traits.specs.Parts.{ArePartsOf, request_answer}
use Rattle.zarr_codec_chain.specs.declared.chain.CodecChain.{CodecChain}
use Rattle.zarr_codec_chain.specs.declared.levels.ChunkLevels.{ChunkLevels}
use Rattle.zarr_chunks.specs.declared.fetched.Fetched.{Fetched}
use Rattle.zarr_chunks.specs.declared.fetched.Fetched.TheVariants as fetched

-- what was fetched for a region are elements of a chunk's list: all of them, or the region's
abbrev pub GivesRegion : Level → Region → List Element → Fetched → Type 0
GivesRegion level region list (fetched.Chunk bytes) = list_at level (raw_of bytes) ≡ Some list
GivesRegion level region list (fetched.Region bytes) = GivesPart level region list bytes

-- the list that it means, where its array bytes are valid
abbrev pub fetched_list : Level → Region → Fetched → Option (List Element)
fetched_list level region (fetched.Chunk bytes) = list_at level (raw_of bytes)
fetched_list level region (fetched.Region bytes) = list_at (at_box region level) (raw_of bytes)

-- whether it is all of the chunk
abbrev pub gives_chunk : Fetched → Bool
gives_chunk (fetched.Chunk bytes) = true
gives_chunk (fetched.Region bytes) = false

-- its array bytes
abbrev pub fetched_bytes : Fetched → ArrayBytes
fetched_bytes (fetched.Chunk bytes) = raw_of bytes
fetched_bytes (fetched.Region bytes) = raw_of bytes

-- the ranges of its bytes that an array-to-bytes codec asks for, for a box, or none where it needs
-- all of them
abbrev pub Requesting : Type 0 → Type 0
Requesting B = B → List ℕ → DataType → Region → Option (List ByteRange)

-- the same of a chain's, for the box at the bottom that a region of a chunk needs
abbrev pub bottom_request : {A B C : Type 0} → Requesting B → Boxing A → CodecChain A B C
    → ChunkLevels → Region → Option (List ByteRange)
bottom_request request region_below chain levels region =
    request chain.to_bytes (bottom_level levels).shape (bottom_level levels).data_type
    (bottom_box region_below (steps chain levels) region)

-- whether a region inside a chunk is all of it
abbrev pub is_whole_chunk : Level → Region → Bool
is_whole_chunk level region = count region == count_of level.shape

-- the ranges that are asked for to read a region of a chunk: none for all of it, of which all is
-- needed
abbrev pub region_request : {A B C : Type 0} → Requesting B → Boxing A → CodecChain A B C
    → ChunkLevels → Region → Option (List ByteRange)
region_request request region_below chain levels region =
    if is_whole_chunk (first_level levels) region then None
    else bottom_request request region_below chain levels region

-- the ranges of the stored value that are read, or none where all of it is, as it is where
-- bytes-to-bytes codecs stand in the chain
abbrev pub stored_request : {A B C : Type 0} → CodecChain A B C → Option (List ByteRange)
    → Option (List ByteRange)
stored_request chain asked = if length chain.byte_codecs.items == 0 then asked else None

-- what bytes-to-bytes codecs give of a value
abbrev pub given_through : {C : Type 0} → Opening C → Options → List C → List ℕ → Held
given_through opens under codecs value =
    through (decode_bytes (byte_codecs opens under codecs)) (Some (Some value))

-- what the bytes-to-bytes codecs give of what stands under a key: nothing of a value that one of
-- them refuses, and no bytes where the key is absent
abbrev pub given_bytes : {A B C : Type 0} → Opening C → CodecChain A B C → Options
    → Option (List ℕ) → Held
given_bytes opens chain under value =
    through (decode_bytes (byte_codecs opens under chain.byte_codecs.items)) (Some value)

-- the first range that is asked for and does not lie within that
abbrev pub first_outside : Option (List ByteRange) → Held → Option ByteRange
first_outside None given = None
first_outside (Some ranges) None = None
first_outside (Some ranges) (Some bytes) = invalid_range ranges bytes

-- the bytes-to-bytes codecs give something, and what is asked for lies within it
pub record IsGivenAsked (asked : Option (List ByteRange)) (given : Held) : Type 0 where
  pub there : IsSome given
  pub within : first_outside asked given ≡ None

-- bytes have the same ranges as others
abbrev pub IsAlike : List ByteRange → List ℕ → Held → Type 0
IsAlike ranges bytes None = ⊥
IsAlike ranges bytes (Some None) = ⊥
IsAlike ranges bytes (Some (Some other)) = slices_of ranges other ≡ slices_of ranges bytes

-- which errors tell why a region of a chunk has no elements: that of the first range that lies
-- outside, if one does, and else those of the chunk
abbrev pub range_says : Option ByteRange → Option (List ByteRange) → Held
    → (CodecError → Type 0) → CodecError → Type 0
range_says None asked given says e = says e
range_says (Some range) asked None says e = ⊥
range_says (Some range) asked (Some bytes) says e = TellsRangeOf asked bytes e

-- parts are those of some ranges of what these codecs give, and the ranges lie within that
abbrev pub AreGivenParts : List ByteRange → Held → Option (List (List ℕ)) → Type 0
AreGivenParts ranges None parts = ⊥
AreGivenParts ranges (Some bytes) parts =
    (parts ≡ option_map (slices_of ranges) bytes) × (invalid_range ranges bytes ≡ None)

-- which errors tell why there are no such parts
abbrev pub held_parts_say : List ByteRange → Held → (CodecError → Type 0) → CodecError → Type 0
held_parts_say ranges None says e = says e
held_parts_say ranges (Some bytes) says e =
    ¬ (invalid_range ranges bytes ≡ None) × TellsRangeOf (Some ranges) bytes e

-- a call makes one reading call; or memory ran out before it
abbrev pub AsksOnce : {T : Type 0} → ℕ → ℕ → Result T CodecError → Type 0
AsksOnce before now (Ok v) = now ≡ counted before 1
AsksOnce before now (Err e) =
    (now ≡ counted before 1) ⊎ ((e ≡ codec.OutOfMemory) × (now ≡ before))

-- what is so where parts are those of bytes, each as long as it was asked for
abbrev pub WhereParts : Option (List ByteRange) → List ℕ → List (List ℕ) → Type 0 → Type 0
WhereParts asked bytes parts is_so =
    ArePartsOf asked bytes parts → request_answer asked parts ≡ fine → is_so

-- the elements of a box by such parts are those that all of the bytes decode to
abbrev pub GivesByParts : Level → Region → Option (List ByteRange) → List (List ℕ)
    → (Level → List ℕ → Option (List Element)) → Result code.ArrayBytes CodecError → Type 0
GivesByParts level box asked parts decode result = (bytes : List ℕ) (list : List Element)
    → ArePartsOf asked bytes parts → decode level bytes ≡ Some list
    → MatchResult result (GivesPart level box list) (λ e. e ≡ codec.OutOfMemory)

-- and where there are none, these bytes do not decode, which the error tells
abbrev pub FailsByParts : Level → Option (List ByteRange) → List (List ℕ)
    → (Level → List ℕ → Option (List Element)) → (Level → List ℕ → CodecError → Type 0)
    → Result code.ArrayBytes CodecError → Type 0
FailsByParts level asked parts decode says result = (bytes : List ℕ)
    → WhereParts asked bytes parts
    (IfErr result (IsDecodeError (decode level bytes) (says level bytes)))
