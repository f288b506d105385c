-- Bytes-to-bytes codecs as plain data: what each means, which errors tell that it gives nothing,
-- and what it is written as.
use Rattle.std.specs.Prelude.{◌≡◌, ℕ, nat_le, List, length, codes, Option, Some}
use Rattle.serde_json.specs.Data.{Members, no_members}
use Rattle.zarr_model.specs.Codec.{Options, checksum_codec}
use Rattle.zarrs_codec_error.specs.declared.error.CodecError.{CodecError}
use Rattle.zarrs_codec_error.specs.declared.bytes_representation.BytesRepresentation.{BytesRepresentation}
use Rattle.zarrs_codec_traits.specs.Errors.{IsNoFault}
use Rattle.zarr_codecs_to_bytes.proofs.DigestLaws.{digested}
use Rattle.zarr_codecs_to_bytes.specs.Sha256.{sha256_says, digest_no_fault, with_digest_size}
use Rattle.zarr_codecs.specs.declared.bytes_to_bytes.BasicBytesToBytes.{BasicBytesToBytes}
use Rattle.zarr_codecs.specs.declared.bytes_to_bytes.BasicBytesToBytes.TheVariants as bytes

-- a digest behind a value
pub data BytesToBytes : Type 0 where
  checksum : BytesToBytes

-- the codec of the model
abbrev pub byte_codec_of : Options → BytesToBytes → List ℕ → Option (List ℕ)
byte_codec_of options checksum value = checksum_codec options.validate_checksums value

-- which errors tell that a value does not decode; none is a fault of a store
abbrev pub byte_says_by : BytesToBytes → List ℕ → CodecError → Type 0
byte_says_by checksum value e = sha256_says value e

pub byte_no_fault : (codec : BytesToBytes) (value : List ℕ) (e : CodecError)
    → byte_says_by codec value e → IsNoFault e
byte_no_fault checksum value e told = digest_no_fault (nat_le 32 (length value)) value e told

-- each value is what some value decodes to
pub byte_encoded : (options : Options) (codec : BytesToBytes) (value : List ℕ)
    → (stored : List ℕ) × (byte_codec_of options codec stored ≡ Some value)
byte_encoded options checksum value = digested options.validate_checksums value

-- how many bytes a value has, encoded
abbrev pub byte_size_by : BytesToBytes → BytesRepresentation → BytesRepresentation
byte_size_by checksum size = with_digest_size size

-- the names and the configurations
abbrev pub byte_name_by : BytesToBytes → List ℕ
byte_name_by checksum = codes "zarr_basics.sha256"

abbrev pub byte_members_by : BytesToBytes → Members
byte_members_by checksum = no_members

-- the codecs of the code
abbrev pub byte_form : BasicBytesToBytes → BytesToBytes
byte_form (bytes.Sha256 codec) = checksum
