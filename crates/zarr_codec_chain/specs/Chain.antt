-- What a value decodes to through a chain over the levels of a chunk, and which errors tell that it
-- does not.
use Rattle.std.specs.Prelude.{◌≡◌, ℕ, false, List, length, map, Option, Some, None}
use Rattle.zarrs_codec_traits.specs.Prelude.{ArrayBytes, has_long_element, Element, kind_of, fill_element, count_of}
use Rattle.zarrs_codec_traits.specs.Prelude.{filled_with, unserved_at, IsFit}
use Rattle.zarr_model.specs.Codec.{Level, ArrayCodec, Options, Chain, decode_bytes, decode_chain}
use Rattle.zarrs_codec_error.specs.declared.error.CodecError.{CodecError}
use Rattle.zarr_codec_chain.specs.declared.chain.CodecChain.{CodecChain}
use Rattle.zarr_codec_chain.specs.declared.levels.ChunkLevels.{ChunkLevels}
use Rattle.zarr_codec_chain.specs.Levels.{level_at, fill_at, Step, steps_of, first_of, first_fill_of, Serving, AreFit}
use Rattle.zarr_codec_chain.specs.Levels.{AreLinked}
use Rattle.zarr_codec_chain.specs.Values.{byte_codecs, said_at, bytes_says}

-- what the array-to-bytes codec decodes, and what bytes-to-bytes codecs do
abbrev pub Listing : Type 0 → Type 0
Listing B = B → Options → Level → List ℕ → Option (List Element)

abbrev pub Opening : Type 0 → Type 0
Opening C = C → Options → List ℕ → Option (List ℕ)

-- the level of a chunk
abbrev pub first_level : ChunkLevels → Level
first_level levels = first_of levels.above.items (level_at levels.bottom)

-- the bytes of its fill value
abbrev pub first_fill : ChunkLevels → List ℕ
first_fill levels = first_fill_of levels.above.items (fill_at levels.bottom)

-- the level at the bottom, above the array-to-bytes codec
abbrev pub bottom_level : ChunkLevels → Level
bottom_level levels = level_at levels.bottom

-- the array-to-array codecs, each with what stands above it
abbrev pub steps : {A B C : Type 0} → CodecChain A B C → ChunkLevels → List (Step A)
steps chain levels = steps_of chain.array_codecs.items levels.above.items

-- the chain as the model has it
abbrev pub chain_of : {A B C : Type 0} → (A → ArrayCodec) → Listing B → Opening C
    → CodecChain A B C → Options → Chain
chain_of array to_list opens chain under = record {
  array_codecs = map array chain.array_codecs.items;
  to_elements = to_list chain.to_bytes under;
  byte_codecs = byte_codecs opens under chain.byte_codecs.items;
}

-- what a value decodes to
abbrev pub decoded : {A B C : Type 0} → (A → ArrayCodec) → Listing B → Opening C
    → CodecChain A B C → ChunkLevels → Options → List ℕ → Option (List Element)
decoded array to_list opens chain levels under value =
    decode_chain (chain_of array to_list opens chain under) (first_level levels) value

-- which errors tell that it does not decode: those of the first codec, in the order of decoding,
-- that gives nothing
abbrev pub chain_says : {A B C : Type 0} → (B → Options → Level → List ℕ → CodecError → Type 0)
    → Opening C → (C → Options → List ℕ → CodecError → Type 0) → CodecChain A B C → ChunkLevels
    → Options → List ℕ → CodecError → Type 0
chain_says list_says opens says chain levels under value e =
    said_at (decode_bytes (byte_codecs opens under chain.byte_codecs.items) value)
    (bytes_says opens says under chain.byte_codecs.items value)
    (list_says chain.to_bytes under (bottom_level levels)) e

-- levels are those of a chain, each of whose codecs serves its own
pub record IsServedChain {A B C : Type 0} (array : A → ArrayCodec) (unserved : Serving A)
    (unserved_below : Serving B) (chain : CodecChain A B C) (levels : ChunkLevels) : Type 0 where
  -- one above each array-to-array codec
  pub count : length chain.array_codecs.items ≡ length levels.above.items
  -- the elements of each can be counted, and their bytes be addressed
  pub first_fits : IsFit (first_level levels).shape (first_level levels).data_type
  pub fit : AreFit (steps chain levels)
  pub bottom_fits : IsFit (bottom_level levels).shape (bottom_level levels).data_type
  pub linked : AreLinked array unserved (steps chain levels) (bottom_level levels)
  pub served : unserved_at (unserved_below chain.to_bytes) (bottom_level levels)
      (fill_at levels.bottom) ≡ None

-- array bytes of a chunk that has the fill value everywhere
abbrev pub blank_chunk : Level → List ℕ → ArrayBytes
blank_chunk level fill = filled_with (kind_of level.data_type) (count_of level.shape) fill

-- the fill value of a chunk denotes the fill, and is not too long to be stored
pub record HasFill (levels : ChunkLevels) : Type 0 where
  pub denotes : fill_element (kind_of (first_level levels).data_type) (first_fill levels)
      ≡ Some (first_level levels).fill
  pub short : has_long_element (blank_chunk (first_level levels) (first_fill levels)) ≡ false

-- a chain serves chunks with these levels: each codec its level, and their fill value is so
pub record ServesChunks {A B C : Type 0} (array : A → ArrayCodec) (unserved : Serving A)
    (unserved_below : Serving B) (chain : CodecChain A B C) (levels : ChunkLevels) : Type 0 where
  pub served : IsServedChain array unserved unserved_below chain levels
  pub fill : HasFill levels
