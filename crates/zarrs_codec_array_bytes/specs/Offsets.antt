-- Offsets of variable-length elements.
use Rattle.std.specs.Prelude.{ℕ, ◌-◌, Bool, true, nat_le, ◌&&◌, if◌then◌else◌, List, [], ◌∷◌, length, get_or, Option}
use Rattle.std.specs.Prelude.{Some, None}
use Rattle.zarrs_codec_error.specs.declared.array_bytes_error.ArrayBytesRawOffsetsCreateError.{
  ArrayBytesRawOffsetsCreateError,
}
use Rattle.zarrs_codec_error.specs.declared.array_bytes_error.ArrayBytesRawOffsetsCreateError.TheVariants.{
  ZeroLength,
  NotMonotonicallyIncreasing,
}

-- from this number on none is less than the one before it
abbrev pub rises_from : ℕ → List ℕ → Bool
rises_from from [] = true
rises_from from (to ∷ numbers) = nat_le from to && rises_from to numbers

abbrev pub never_falls : List ℕ → Bool
never_falls [] = true
never_falls (first ∷ numbers) = rises_from first numbers

-- why numbers are no offsets: there is none, or one is less than the one before it
abbrev pub offsets_error : List ℕ → Option ArrayBytesRawOffsetsCreateError
offsets_error [] = Some ZeroLength
offsets_error (first ∷ numbers) =
    if rises_from first numbers then None else Some NotMonotonicallyIncreasing

-- the last number
abbrev pub last_of : List ℕ → ℕ
last_of numbers = get_or numbers (length numbers - 1) 0
