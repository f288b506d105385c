-- Array-to-array codecs with their levels, over what lies below them.
use Rattle.std.specs.Prelude.{◌≡◌, ◌⊎◌, ℕ, List, [], ◌∷◌, map, Option, Some, None, option_and_then}
use Rattle.zarrs_codec_traits.specs.Prelude.{Element, DataType, fill_element, kind_of, count_of, ArrayBytes, Level}
use Rattle.zarrs_codec_traits.specs.Prelude.{ArrayCodec, fill_bytes, told_by, validity, Unserved, unserved_at, level_of}
use Rattle.zarrs_codec_traits.specs.Prelude.{IsFit, AreBytes}
use Rattle.zarrs_codec_error.specs.declared.error.CodecError.{CodecError}
use Rattle.zarrs_codec_error.specs.declared.error.CodecError.TheVariants as codec
use Rattle.zarr_codec_chain.specs.declared.representation.ChunkRepresentation.{ChunkRepresentation}

-- the level of a shape, a data type and a fill value, and the bytes of the last
abbrev pub level_at : ChunkRepresentation → Level
level_at at = level_of at.shape.items at.data_type at.fill_value

abbrev pub fill_at : ChunkRepresentation → List ℕ
fill_at at = fill_bytes at.fill_value

-- a codec, with what the elements above it are
pub record Step (A : Type 0) : Type 0 where
  pub codec : A
  pub at : ChunkRepresentation

abbrev pub step : {A : Type 0} → A → ChunkRepresentation → Step A
step codec at = record { codec = codec; at = at }

-- codecs, each with what stands above it
abbrev pub steps_of : {A : Type 0} → List A → List ChunkRepresentation → List (Step A)
steps_of (codec ∷ codecs) (at ∷ levels) = step codec at ∷ steps_of codecs levels
steps_of codecs levels = []

-- the first of some levels over a bottom level
abbrev pub first_of : List ChunkRepresentation → Level → Level
first_of [] bottom = bottom
first_of (at ∷ levels) bottom = level_at at

-- the bytes of its fill value
abbrev pub first_fill_of : List ChunkRepresentation → List ℕ → List ℕ
first_fill_of [] bottom = bottom
first_fill_of (at ∷ levels) bottom = fill_at at

-- the level above a codec
abbrev pub above : {A : Type 0} → Step A → Level
above step = level_at step.at

-- the first level of some codecs over a bottom level
abbrev pub top : {A : Type 0} → List (Step A) → Level → Level
top [] bottom = bottom
top (step ∷ steps) bottom = above step

-- each level's elements can be counted and their bytes be addressed
abbrev pub AreFit : {A : Type 0} → List (Step A) → Type 0
AreFit [] = Unit {0}
AreFit (step ∷ steps) = IsFit (above step).shape (above step).data_type × AreFit steps

-- why a codec does not serve a shape, a data type and a fill value
abbrev pub Serving : Type 0 → Type 0
Serving A = A → Option (List ℕ) → Option DataType → Option (List ℕ) → Option Unserved

-- a codec serves its level, whose fill value denotes an element, and the level below it is the
-- next one's
pub record IsLink {A : Type 0} (meaning : A → ArrayCodec) (unserved : Serving A)
    (step : Step A) (next : Level) : Type 0 where
  pub served : unserved_at (unserved step.codec) (above step) (fill_at step.at) ≡ None
  pub denotes : fill_element (kind_of (above step).data_type) (fill_at step.at)
      ≡ Some (above step).fill
  pub proper : AreBytes (above step).fill
  pub below : (meaning step.codec).level_below (above step) ≡ next

abbrev pub AreLinked : {A : Type 0} → (A → ArrayCodec) → Serving A → List (Step A) → Level
    → Type 0
AreLinked meaning unserved [] bottom = Unit {0}
AreLinked meaning unserved (step ∷ steps) bottom =
    IsLink meaning unserved step (top steps bottom) × AreLinked meaning unserved steps bottom

-- the codecs of some levels, as the model has them
abbrev pub array_codecs : {A : Type 0} → (A → ArrayCodec) → List (Step A) → List ArrayCodec
array_codecs meaning steps = map (λ step. meaning step.codec) steps

-- what the bottom's elements decode to at the first level
abbrev pub elements_above : {A : Type 0} → (A → ArrayCodec) → List (Step A)
    → Option (List Element) → Option (List Element)
elements_above meaning [] below = below
elements_above meaning (step ∷ steps) below =
    option_and_then ((meaning step.codec).decode_list (above step))
    (elements_above meaning steps below)

-- an error says why bytes are not valid elements of a level, or that memory ran out
abbrev pub SaysInvalid : Level → ArrayBytes → CodecError → Type 0
SaysInvalid level raw e = (e ≡ codec.OutOfMemory)
    ⊎ (told_by e ≡ validity (kind_of level.data_type) (count_of level.shape) raw)
