-- The codec `zarr_basics.sha256`.
use Rattle.std.specs.Prelude.{◌≡◌, ℕ, ◌+◌, ◌-◌, ◌^◌, Bool, true, false, nat_le, nat_lt, if◌then◌else◌, List, length}
use Rattle.std.specs.Prelude.{take, drop, codes, bytes_eq, Option, Some, Result, Ok, Err}
use Rattle.serde_json.specs.Data.{Members, no_members}
use Rattle.sha2.specs.Sha256.{sha256}
use Rattle.zarrs_codec_traits.specs.Prelude.{is_none_or_empty, Extension, told_by, wrong_length, IsNoFault}
use Rattle.zarrs_plugin.specs.Making.{Unmade, unsupported, config}
use Rattle.zarrs_codec_error.specs.declared.bytes_representation.BytesRepresentation.{BytesRepresentation}
use Rattle.zarrs_codec_error.specs.declared.bytes_representation.BytesRepresentation.TheVariants.{FixedSize}
use Rattle.zarrs_codec_error.specs.declared.bytes_representation.BytesRepresentation.TheVariants.{BoundedSize}
use Rattle.zarrs_codec_error.specs.declared.bytes_representation.BytesRepresentation.TheVariants.{UnboundedSize}
use Rattle.zarrs_codec_error.specs.declared.error.CodecError.{CodecError}
use Rattle.zarrs_codec_error.specs.declared.error.CodecError.TheVariants as codec
use Rattle.std.proofs.Common.{refl, sym, subst, ◌∙◌}
use Rattle.zarrs_codec_traits.proofs.FaultLaws.{told_no_fault}

-- the codec of metadata, which has its name
abbrev pub sha256_created : Extension → Result (Option Members) Unmade
sha256_created e = if bytes_eq e.name (codes "zarr_basics.sha256")
    then (if is_none_or_empty e.configuration then Ok (Some no_members) else Err config)
    else Err (unsupported e.name)

-- 32 bytes more, where so many can be named
abbrev pub with_digest_size : BytesRepresentation → BytesRepresentation
with_digest_size (FixedSize n) =
    if nat_lt (n + 32) (2 ^ 64) then FixedSize (n + 32) else UnboundedSize
with_digest_size (BoundedSize n) =
    if nat_lt (n + 32) (2 ^ 64) then BoundedSize (n + 32) else UnboundedSize
with_digest_size UnboundedSize = UnboundedSize

-- the last 32 bytes are the digest of those before them
abbrev pub ends_in_digest : List ℕ → Bool
ends_in_digest value =
    bytes_eq (sha256 (take (length value - 32) value)) (drop (length value - 32) value)

-- a value without room for a digest is too short, and another one has a wrong digest
abbrev pub says_digest : Bool → List ℕ → CodecError → Type 0
says_digest false value e = told_by e ≡ wrong_length (length value) 32
says_digest true value e = e ≡ codec.InvalidChecksum

abbrev pub sha256_says : List ℕ → CodecError → Type 0
sha256_says value e = says_digest (nat_le 32 (length value)) value e

-- neither of the two errors is a fault of a store
abbrev IsDigestError : CodecError → Type 0
IsDigestError codec.InvalidChecksum = Unit {0}
IsDigestError _ = ⊥

pub digest_no_fault : (long : Bool) (value : List ℕ) (e : CodecError) → says_digest long value e
    → IsNoFault e
digest_no_fault false value e told =
    told_no_fault e (wrong_length (length value) 32) refl told
digest_no_fault true value e is = record {
  unlike = λ fault same. subst IsDigestError (sym is ∙ same) tt;
}
