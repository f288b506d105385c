-- Changes after reads.
use Rattle.std.proofs.Common.{◌≡◌, ◌⊎◌, ℕ, ◌+◌, ◌-◌, ◌^◌, ◌≤◌, min}
use Rattle.std.proofs.Common.{arith, inl, inr, ⊎_elim}
use Rattle.zarrs_codec_traits.specs.Prelude.{Rose}
use Rattle.zarrs_codec_error.specs.declared.error.CodecError.{CodecError}
use Rattle.zarrs_codec_error.specs.declared.error.CodecError.TheVariants as codec
use Rattle.zarrs_codec_traits.specs.Reads.{IsFailedRead, IsHandleError}

-- a fault after an earlier count
pub rose_later : (first before now : ℕ) → first ≤ before → Rose before now → Rose first now
rose_later first before now later rose = let r : min (before + 1) (2 ^ 64 - 1) ≤ now = rose in
    let goal : min (first + 1) (2 ^ 64 - 1) ≤ now = omega arith in goal

pub fault_later : (first before now : ℕ) (e : CodecError) → first ≤ before → IsHandleError before now e →
    IsHandleError first now e
fault_later first before now e later cause =
    ⊎_elim (λ (m : e ≡ codec.OutOfMemory). inl m)
    (λ (f : IsFailedRead before now e). inr (f.0, rose_later first before now later f.1)) cause
