-- How the array-to-bytes codec of a chain answers where elements are encoded.
use Rattle.std.specs.Prelude.{◌≡◌, ◌⊎◌, List, [], Some, Result, Ok, Err}
use Rattle.zarrs_codec_traits.specs.Prelude.{Element, ArrayBytes, Level, ArrayCodec, BytesAnswer, fine, told_by}
use Rattle.zarrs_codec_traits.specs.Prelude.{list_at}
use Rattle.zarrs_codec_error.specs.declared.error.CodecError.{CodecError}
use Rattle.zarrs_codec_error.specs.declared.error.CodecError.TheVariants as codec
use Rattle.zarr_codec_chain.specs.Levels.{Step, elements_above}

-- array bytes at the bottom stand for a list of the first level; with no codec above the bottom
-- they are the very bytes that are encoded
pub record StandFor {A : Type 0} (meaning : A → ArrayCodec) (steps : List (Step A))
    (bottom : Level) (list : List Element) (bytes below : ArrayBytes) : Type 0 where
  pub means : elements_above meaning steps (list_at bottom below) ≡ Some list
  pub same : steps ≡ [] → below ≡ bytes

-- the call answers as the array-to-bytes codec, which may refuse bytes that are valid, does for
-- array bytes that stand for the list; or memory ran out
abbrev pub AnswersBelow : {A T : Type 0} → (A → ArrayCodec) → (ArrayBytes → BytesAnswer)
    → List (Step A) → Level → List Element → ArrayBytes → Result T CodecError → Type 0
AnswersBelow meaning beyond steps bottom list bytes (Ok v) =
    (below : ArrayBytes) × StandFor meaning steps bottom list bytes below
    × (beyond below ≡ fine)
AnswersBelow meaning beyond steps bottom list bytes (Err e) = (e ≡ codec.OutOfMemory)
    ⊎ ((below : ArrayBytes) × StandFor meaning steps bottom list bytes below
    × (told_by e ≡ beyond below))
