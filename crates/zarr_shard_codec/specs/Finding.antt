-- The index of a value, and why there is none.
use Rattle.std.specs.Prelude.{◌≡◌, ℕ, Bool, true, false, nat_le, List, length, Option, option_and_then}
use Rattle.zarrs_codec_error.specs.declared.error.CodecError.{CodecError}
use Rattle.zarrs_codec_error.specs.declared.error.CodecError.TheVariants as codec
use Rattle.zarrs_codec_array_bytes.specs.Refusals.{told_by, wrong_length}
use Rattle.zarr_array_open.specs.ShardDocument.{index_size}
use Rattle.zarr_shard_codec.specs.Index.{index_in, index_part}

-- the bytes of the pairs of a value with so many inner chunks
abbrev pub index_found : Bool → Bool → ℕ → List ℕ → Option (List ℕ)
index_found checked validate number value =
    option_and_then (index_in checked validate) (index_part checked number value)

-- which errors tell that there are none: the value is too short, and else the number is wrong
abbrev pub says_index : Bool → Bool → ℕ → List ℕ → CodecError → Type 0
says_index false checked number value e =
    told_by e ≡ wrong_length (length value) (index_size checked number)
says_index true checked number value e = e ≡ codec.InvalidChecksum

abbrev pub index_says : Bool → ℕ → List ℕ → CodecError → Type 0
index_says checked number value e =
    says_index (nat_le (index_size checked number) (length value)) checked number value e
