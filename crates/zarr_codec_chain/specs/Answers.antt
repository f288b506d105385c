-- What calls on the elements of a chunk take and answer.
use Rattle.std.specs.Prelude.{◌≡◌, ℕ, false, List, map, Option, Some, Result, IfOk, IfErr}
use Rattle.zarrs_codec_traits.specs.Prelude.{Element, Region, Level, ArrayCodec, Options, has_long_element}
use Rattle.zarrs_codec_traits.specs.Prelude.{region as box_of, raw_of, IsDecodeError, list_at, at_box, select}
use Rattle.zarrs_array_subset.specs.declared.array_subset.ArraySubset.{ArraySubset}
use Rattle.zarrs_codec_error.specs.declared.error.CodecError.{CodecError}
use Rattle.zarrs_codec_array_bytes.specs.declared.array_bytes.ArrayBytes as code
use Rattle.zarr_codec_chain.specs.declared.chain.CodecChain.{CodecChain}
use Rattle.zarr_codec_chain.specs.declared.levels.ChunkLevels.{ChunkLevels}
use Rattle.zarr_codec_chain.specs.Chain.{Listing, Opening, first_level, steps, decoded, chain_says}
use Rattle.zarr_codec_chain.specs.Regions.{Boxing, boxes_below}

-- the list that array bytes mean as a chunk, if they are valid
abbrev pub levels_list : ChunkLevels → code.ArrayBytes → Option (List Element)
levels_list levels bytes = list_at (first_level levels) (raw_of bytes)

-- array bytes are the region of a chunk's list
abbrev pub GivesPart : Level → Region → List Element → code.ArrayBytes → Type 0
GivesPart level region list bytes =
    list_at (at_box region level) (raw_of bytes) ≡ Some (select level.shape region list)

-- where no element is too long to be stored, none is of what a call gives
abbrev pub StaysShort : {E : Type 0} → code.ArrayBytes → Result code.ArrayBytes E → Type 0
StaysShort bytes result = has_long_element (raw_of bytes) ≡ false
    → IfOk result (λ v. has_long_element (raw_of v) ≡ false)

-- boxes are those below each array-to-array codec that a region of a chunk needs
abbrev pub AreBelow : {A B C : Type 0} → Boxing A → CodecChain A B C → ChunkLevels → ArraySubset
    → List ArraySubset → Type 0
AreBelow region_below chain levels region boxes =
    map box_of boxes ≡ boxes_below region_below (steps chain levels) (box_of region)

-- a call fails for want of memory, or since a value does not decode, which the error tells
abbrev pub FailsToDecode : {A B C T : Type 0} → (A → ArrayCodec) → Listing B
    → (B → Options → Level → List ℕ → CodecError → Type 0) → Opening C
    → (C → Options → List ℕ → CodecError → Type 0) → CodecChain A B C → ChunkLevels → Options
    → List ℕ → Result T CodecError → Type 0
FailsToDecode array to_list list_says opens says chain levels under value result =
    IfErr result (IsDecodeError (decoded array to_list opens chain levels under value)
    (chain_says list_says opens says chain levels under value))
