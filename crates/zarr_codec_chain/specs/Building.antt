-- Why a chain of codecs is not built, and what it is built from.
use Rattle.std.specs.Prelude.{◌≡◌, ◌⊎◌, ℕ, List, [], ◌∷◌, Option, Some, None}
use Rattle.zarrs_codec_traits.specs.Prelude.{DataType, kind_of, fill_element, Level, ArrayCodec, Unserved}
use Rattle.zarrs_codec_traits.specs.Prelude.{unserved_error, unserved_at, IsFit, AreBytes}
use Rattle.zarrs_codec_error.specs.declared.error.CodecError.{CodecError}
use Rattle.zarrs_codec_error.specs.declared.error.CodecError.TheVariants as codec
use Rattle.zarr_codec_chain.specs.Levels.{Serving}

-- a level's elements can be counted and their bytes be addressed, and its fill value denotes an
-- element, whose numbers are bytes
pub record IsReady (level : Level) (fill : List ℕ) : Type 0 where
  pub fit : IsFit level.shape level.data_type
  pub denotes : fill_element (kind_of level.data_type) fill ≡ Some level.fill
  pub proper : AreBytes level.fill

-- the bytes of the fill value below a codec
abbrev pub Filling : Type 0 → Type 0
Filling A = A → DataType → List ℕ → List ℕ

-- the first of two reasons
abbrev pub first_reason : Option Unserved → Option Unserved → Option Unserved
first_reason None later = later
first_reason (Some why) later = Some why

-- why array-to-array codecs do not serve the levels from this one with its fill value down, the
-- first reason first, or what is said of the last level
abbrev pub levels_unserved : {A : Type 0} → (A → ArrayCodec) → Serving A → Filling A
    → (Level → List ℕ → Option Unserved) → List A → Level → List ℕ → Option Unserved
levels_unserved meaning unserved fill_below last [] level fill = last level fill
levels_unserved meaning unserved fill_below last (codec ∷ codecs) level fill =
    first_reason (unserved_at (unserved codec) level fill)
    (levels_unserved meaning unserved fill_below last codecs ((meaning codec).level_below level)
    (fill_below codec level.data_type fill))

-- the same with the array-to-bytes codec at the last level
abbrev pub chain_unserved : {A B : Type 0} → (A → ArrayCodec) → Serving A → Filling A → Serving B
    → List A → B → Level → List ℕ → Option Unserved
chain_unserved meaning unserved fill_below unserved_below codecs to_bytes level fill =
    levels_unserved meaning unserved fill_below (unserved_at (unserved_below to_bytes)) codecs
    level fill

-- an error is this reason, if there is one
abbrev pub IsReason : Option Unserved → CodecError → Type 0
IsReason None e = ⊥
IsReason (Some why) e = e ≡ unserved_error why

-- why a chain was not built: for this reason, or for want of memory
abbrev pub FailsToBuild : Option Unserved → CodecError → Type 0
FailsToBuild reason e = (e ≡ codec.OutOfMemory) ⊎ IsReason reason e
