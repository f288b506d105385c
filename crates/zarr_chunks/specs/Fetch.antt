-- The elements of a chunk, by what stands under its key.
use Rattle.std.specs.Prelude.{ℕ, List, replicate, Option, Some, None, Result, IfErr}
use Rattle.zarrs_codec_traits.specs.Prelude.{count_of, Element, Level, ArrayCodec}
use Rattle.zarrs_codec_traits.specs.Prelude.{Options, IsDecodeError}
use Rattle.zarrs_codec_error.specs.declared.error.CodecError.{CodecError}
use Rattle.zarr_codec_chain.specs.declared.chain.CodecChain.{CodecChain}
use Rattle.zarr_codec_chain.specs.declared.levels.ChunkLevels.{ChunkLevels}
use Rattle.zarr_codec_chain.specs.Chain.{Listing, Opening, first_level, decoded, chain_says}

-- the elements of a chunk, if it decodes: those of its value, or the fill where its key is absent
abbrev pub chain_content : {A B C : Type 0} → (A → ArrayCodec) → Listing B → Opening C
    → CodecChain A B C → ChunkLevels → Options → Option (List ℕ) → Option (List Element)
chain_content array to_list opens chain levels under None =
    Some (replicate (count_of (first_level levels).shape) (first_level levels).fill)
chain_content array to_list opens chain levels under (Some value) =
    decoded array to_list opens chain levels under value

-- which errors tell that it does not decode
abbrev pub chunk_says : {A B C : Type 0} → (B → Options → Level → List ℕ → CodecError → Type 0)
    → Opening C → (C → Options → List ℕ → CodecError → Type 0) → CodecChain A B C → ChunkLevels
    → Options → Option (List ℕ) → CodecError → Type 0
chunk_says list_says opens says chain levels under None e = ⊥
chunk_says list_says opens says chain levels under (Some value) e =
    chain_says list_says opens says chain levels under value e

-- a call fails for want of memory, or since the chunk does not decode, which the error tells
abbrev pub FailsByContent : {A B C T : Type 0} → (A → ArrayCodec) → Listing B
    → (B → Options → Level → List ℕ → CodecError → Type 0) → Opening C
    → (C → Options → List ℕ → CodecError → Type 0) → CodecChain A B C → ChunkLevels → Options
    → Option (List ℕ) → Result T CodecError → Type 0
FailsByContent array to_list list_says opens says chain levels under value result =
    IfErr result (IsDecodeError (chain_content array to_list opens chain levels under value)
    (chunk_says list_says opens says chain levels under value))
