-- What elements of a level are given.
use Rattle.std.specs.Prelude.{◌≡◌, ℕ, ◌<◌, ◌^◌, false, List, length, Option, Some, IsSome, Result, IfOk}
use Rattle.zarrs_codec_traits.specs.Prelude.{Element, fill_element, kind_of, meaning, Level, has_long_element}
use Rattle.zarrs_codec_traits.specs.Prelude.{innermost_fill, raw_of}
use Rattle.zarrs_codec_array_bytes.specs.declared.array_bytes.ArrayBytes as code
use Rattle.zarrs_codec_error.specs.declared.error.CodecError.{CodecError}
use Rattle.zarrs_codec.specs.Selects.{Choice}

-- the fill value denotes an element, and is short
abbrev pub Denotes : Level → List ℕ → Type 0
Denotes level fill = IsSome (fill_element (kind_of level.data_type) fill)

abbrev pub IsShort : Level → List ℕ → Type 0
IsShort level fill = length (innermost_fill (kind_of level.data_type) fill) < 2 ^ 32

-- those that are asked for of a list, if there is one, as array bytes, which are valid in any case
pub record GivesElements (choice : Choice) (level : Level) (fill : List ℕ)
    (list : Option (List Element)) (result : Result code.ArrayBytes CodecError) : Type 0 where
  pub value : (xs : List Element) → list ≡ Some xs → IfOk result
      (λ v. meaning (kind_of level.data_type) choice.number (raw_of v) ≡ Some (choice.pick xs))
  pub valid : IfOk result
      (λ v. IsSome (meaning (kind_of level.data_type) choice.number (raw_of v)))
  pub short : IsShort level fill → IfOk result (λ v. has_long_element (raw_of v) ≡ false)
