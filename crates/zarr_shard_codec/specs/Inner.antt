-- One inner chunk of a shard: what it decodes to, and why it does not.
use Rattle.std.specs.Prelude.{◌≡◌, ℕ, if◌then◌else◌, false, List, length, replicate, Option, Some, None, IsSome}
use Rattle.std.specs.Prelude.{option_map, option_and_then}
use Rattle.zarrs_codec_traits.specs.Prelude.{count_of, Element, Level, has_long_element, raw_of, list_at}
use Rattle.zarrs_storage.specs.declared.byte_range.ByteRange.TheVariants.{FromStart}
use Rattle.zarrs_codec_error.specs.declared.error.CodecError.{CodecError}
use Rattle.zarrs_codec_error.specs.declared.error.CodecError.TheVariants as codec
use Rattle.zarrs_codec_array_bytes.specs.declared.array_bytes.ArrayBytes.{ArrayBytes}
use Rattle.zarr_array_open.specs.ChunkLevels.{ServesShape}
use Rattle.zarr_shard_codec.specs.Index.{Pair, is_absent, part_of}
use Rattle.zarr_shard_codec.specs.ShardCodec.{inner_of, inner_dims, inner_level}
use Rattle.zarr_shard_codec.specs.declared.inner_chunks.InnerChunks.{InnerChunks}

-- levels are those of an inner chunk, and one that is not there has the fill value everywhere
pub record AreInner (inner : InnerChunks) : Type 0 where
  pub serves : ServesShape inner.codec.now.shard.inner (inner_dims inner.codec.now)
      inner.codec.now.shard.inner.chain inner.levels
  pub blank : list_at (inner_level inner.codec.now) (raw_of inner.blank)
      ≡ Some (replicate (count_of (inner_dims inner.codec.now)) (inner_of inner.codec.now).fill)
  pub short : has_long_element (raw_of inner.blank) ≡ false

-- the error that tells that the bytes that a pair names do not lie within so many
abbrev pub pair_says : ℕ → Pair → CodecError → Type 0
pair_says len pair e = e ≡ codec.InvalidByteRangeError
    (record { range = FromStart pair.offset (Some pair.size); size = len })

-- what they decode to, and why they do not
abbrev pub found_at : (List ℕ → Option (List Element)) → List ℕ → Pair → Option (List Element)
found_at decode value pair = option_and_then decode (part_of value pair)

abbrev pub says_found : Option (List ℕ) → (List ℕ → CodecError → Type 0) → ℕ → Pair → CodecError
    → Type 0
says_found None says len pair e = pair_says len pair e
says_found (Some bytes) says len pair e = says bytes e

abbrev pub found_says : (List ℕ → CodecError → Type 0) → List ℕ → Pair → CodecError → Type 0
found_says says value pair e = says_found (part_of value pair) says (length value) pair e

-- the same of an inner chunk that may not be there
abbrev pub inner_at : (List ℕ → Option (List Element)) → List ℕ → Pair
    → Option (Option (List Element))
inner_at decode value pair = if is_absent pair then Some None
    else option_map Some (found_at decode value pair)

-- what was given is what it has
abbrev pub GivesInner : Level → Option (Option (List Element)) → Option ArrayBytes → Type 0
GivesInner level wanted None = wanted ≡ Some None
GivesInner level wanted (Some bytes) = IsSome (list_at level (raw_of bytes))
    × (wanted ≡ option_map Some (list_at level (raw_of bytes)))
