-- Codecs in the order of a chain, one after another.
use Rattle.std.proofs.Common.{◌≡◌, ℕ, ◌+◌, List, ◌++◌, length, map, drop, Option}
use Rattle.std.proofs.Common.{option_map}
use Rattle.zarrs_codec_traits.specs.declared.codec.Codec.{Codec}
use Rattle.zarr_basics.specs.kinds.array_to_array.Views.{array_form}
use Rattle.zarr_basics.specs.kinds.array_to_array.declared.array_to_array.BasicArrayToArray.{BasicArrayToArray}
use Rattle.zarr_codecs.specs.BytesToBytes.{BytesToBytes, byte_form}
use Rattle.zarr_codecs.specs.CodecForm.{form_of}
use Rattle.zarr_codecs.specs.declared.codecs.BasicArrayToBytes.{BasicArrayToBytes}
use Rattle.zarr_codecs.specs.declared.bytes_to_bytes.BasicBytesToBytes.{BasicBytesToBytes}
use Rattle.zarr_array_open.specs.Chain.{leading, behind, all_byte_codecs}

abbrev pub Code : Type 0
Code = Codec BasicArrayToArray BasicArrayToBytes BasicBytesToBytes

-- the codecs up to a place are array-to-array ones
pub record AreLeading (all : List Code) (at : ℕ) (first : List BasicArrayToArray) : Type 0 where
  pub arrays : map array_form first ++ leading (map form_of (drop at all)) ≡ leading (map form_of all)
  pub others : behind (map form_of (drop at all)) ≡ behind (map form_of all)
  pub long : length first ≡ at

-- the codecs up to a place are bytes-to-bytes ones
abbrev pub with_front : List BytesToBytes → Option (List BytesToBytes) → Option (List BytesToBytes)
with_front front rest = option_map (λ others. front ++ others) rest

abbrev pub AreByteCodecs : List Code → ℕ → List BasicBytesToBytes → Type 0
AreByteCodecs all at front =
    with_front (map byte_form front) (all_byte_codecs (map form_of (drop at all))) ≡ all_byte_codecs (map form_of all)

-- the codecs up to a place, copied
abbrev pub AreCopies : List BasicArrayToArray → ℕ → List BasicArrayToArray → Type 0
AreCopies all at copies = map array_form copies ++ map array_form (drop at all) ≡ map array_form all
