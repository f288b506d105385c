-- What a `ShardCodec` serves: chunks of the shape, the data type and the fill value that it was
-- made for.
use Rattle.std.specs.Prelude.{◌≡◌, ℕ, ◌&&◌, Bool, true, false, List, bytes_eq, Option, Some, None, refl}
use Rattle.std.proofs.Common.{ap}
use Rattle.std.proofs.lemmas.Bool.{and_parts, and_from}
use Rattle.zarrs_codec_traits.specs.Prelude.{DataType, Level, fill_bytes, taken}
use Rattle.zarrs_data_type_bytes.specs.declared.codec_support.CodecName.TheVariants as names
use Rattle.zarrs_data_type.specs.DataType.{same_type}
use Rattle.zarrs_codec_traits.specs.Errors.{Unserved, unsupported, unserved_at}
use Rattle.zarr_shard_codec.specs.ShardCodec.{inner_of}
use Rattle.zarr_shard_codec.specs.declared.shard_codec.ShardCodec.{ShardCodec}

-- what a call takes passes a test, if it takes it
abbrev pub if_taken : {A : Type 0} → (A → Bool) → Option A → Bool
if_taken test None = true
if_taken test (Some x) = test x

-- a shape and a data type are the codec's, and so are the bytes of a fill value
abbrev pub is_own_chunk : ShardCodec → Option (List ℕ) → Option DataType → Bool
is_own_chunk codec dims type = if_taken (bytes_eq (inner_of codec).shape) dims
    && if_taken (same_type (inner_of codec).data_type) type

abbrev pub is_own : ShardCodec → Option (List ℕ) → Option DataType → Option (List ℕ) → Bool
is_own codec dims type fill =
    if_taken (bytes_eq (fill_bytes codec.fill_value)) fill && is_own_chunk codec dims type

-- others are not served
abbrev pub unserved_unless : Bool → Option Unserved
unserved_unless true = None
unserved_unless false = Some (unsupported names.Sharding)

abbrev pub shard_unserved : ShardCodec → Option (List ℕ) → Option DataType → Option (List ℕ)
    → Option Unserved
shard_unserved codec dims type fill = unserved_unless (is_own codec dims type fill)

-- what is served passes the test
pub served_own : (own : Bool) → unserved_unless own ≡ None → own ≡ true
served_own true served = refl
served_own false served = cc

-- and is so by a call that takes only some of it
taken_own : {A : Type 0} (test : A → Bool) (x : A) (with_it : Bool) → test x ≡ true
    → if_taken test (taken with_it x) ≡ true
taken_own test x true own = own
taken_own test x false own = refl

pub shard_serves : (codec : ShardCodec) (level : Level) (fill : List ℕ)
    → unserved_at (shard_unserved codec) level fill ≡ None
    → (with_shape with_type with_fill : Bool)
    → shard_unserved codec (taken with_shape level.shape) (taken with_type level.data_type)
    (taken with_fill fill) ≡ None
shard_serves codec level fill served with_shape with_type with_fill =
    let own_shape = bytes_eq (inner_of codec).shape in
    let own_type = same_type (inner_of codec).data_type in
    let own_fill = bytes_eq (fill_bytes codec.fill_value) in
    let own = and_parts (own_fill fill) (own_shape level.shape && own_type level.data_type)
    (served_own (is_own codec (Some level.shape) (Some level.data_type) (Some fill)) served) in
    let chunk = and_parts (own_shape level.shape) (own_type level.data_type) own.1 in
    ap unserved_unless (and_from (if_taken own_fill (taken with_fill fill))
    (is_own_chunk codec (taken with_shape level.shape) (taken with_type level.data_type))
    (taken_own own_fill fill with_fill own.0)
    (and_from (if_taken own_shape (taken with_shape level.shape))
    (if_taken own_type (taken with_type level.data_type))
    (taken_own own_shape level.shape with_shape chunk.0)
    (taken_own own_type level.data_type with_type chunk.1)))
