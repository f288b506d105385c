-- No error that tells that a shard does not decode is a fault of a store.
use Rattle.std.specs.Prelude.{◌≡◌, ℕ, Bool, true, false, nat_le, List, [], ◌∷◌, length, Option, Some, None, refl}
use Rattle.std.proofs.Common.{sym, ◌∙◌}
use Rattle.zarrs_codec_traits.specs.Prelude.{count_of, Options, decode_bytes, wrong_length, IsNoFault}
use Rattle.zarrs_storage.specs.declared.byte_range.InvalidByteRangeError.{InvalidByteRangeError}
use Rattle.zarrs_storage.specs.declared.store.StorageError.{StorageError}
use Rattle.zarrs_codec_error.specs.declared.error.CodecError.{CodecError}
use Rattle.zarrs_codec_error.specs.declared.error.CodecError.TheVariants as codec
use Rattle.zarrs_codec_traits.proofs.FaultLaws.{told_no_fault}
use Rattle.zarr_codecs.specs.BytesToBytes.{byte_no_fault, byte_form}
use Rattle.zarr_codecs.specs.declared.bytes_to_bytes.BasicBytesToBytes.{BasicBytesToBytes}
use Rattle.zarr_codecs.specs.Laws.{plain_no_fault}
use Rattle.zarr_codecs.specs.Views.{plain_of}
use Rattle.zarr_codec_chain.specs.Chain.{bottom_level}
use Rattle.zarr_codec_chain.specs.Values.{byte_codecs, said_at, bytes_says}
use Rattle.zarr_array_open.specs.Codecs.{list_says, bytes_meaning, bytes_codec_says as codec_says}
use Rattle.zarr_array_open.specs.ShardDocument.{index_size}
use Rattle.zarr_codecs_to_bytes.specs.Crc32cCodec.{number_no_fault}
use Rattle.zarr_shard_codec.specs.Index.{Pair, pair_at, part_of}
use Rattle.zarr_shard_codec.specs.Finding.{says_index, index_found}
use Rattle.zarr_shard_codec.specs.Inner.{says_found}
use Rattle.zarr_shard_codec.specs.ShardCodec.{inner_of, InnerSays}
use Rattle.zarr_shard_codec.specs.Whole.{says_of, shard_says}
use Rattle.zarr_shard_codec.specs.declared.shard_codec.ShardCodec.{ShardCodec}

-- what is said by one of two
said_no_fault : (before : Option (List ℕ)) (earlier : CodecError → Type 0)
    (says : List ℕ → CodecError → Type 0) (e : CodecError) → (earlier e → IsNoFault e)
    → ((value : List ℕ) → says value e → IsNoFault e) → said_at before earlier says e
    → IsNoFault e
said_no_fault None earlier says e first last told = first told
said_no_fault (Some value) earlier says e first last told = last value told

bytes_no_fault : (under : Options) (codecs : List BasicBytesToBytes) (value : List ℕ)
    (e : CodecError) → bytes_says bytes_meaning codec_says under codecs value e → IsNoFault e
bytes_no_fault under [] value e told = absurd told
bytes_no_fault under (c ∷ codecs) value e told =
    said_no_fault (decode_bytes (byte_codecs bytes_meaning under codecs) value)
    (bytes_says bytes_meaning codec_says under codecs value) (codec_says c under) e
    (bytes_no_fault under codecs value e)
    (λ before said. byte_no_fault (byte_form c) before e said) told

inner_no_fault : (codec : ShardCodec) (under : Options) (value : List ℕ) (e : CodecError)
    → InnerSays codec under value e → IsNoFault e
inner_no_fault codec under value e says =
    let chain = codec.shard.inner.chain in
    let bottom = bottom_level says.levels in
    said_no_fault (decode_bytes (byte_codecs bytes_meaning under chain.byte_codecs.items) value)
    (bytes_says bytes_meaning codec_says under chain.byte_codecs.items value)
    (list_says chain.to_bytes under bottom) e
    (bytes_no_fault under chain.byte_codecs.items value e)
    (λ bytes said. plain_no_fault (plain_of chain.to_bytes) (count_of bottom.shape) bottom.data_type
    bytes e said) says.said

-- a range past the value
pub range_error_no_fault : (error : InvalidByteRangeError) (e : CodecError)
    → e ≡ codec.InvalidByteRangeError error → IsNoFault e
range_error_no_fault error e is = record { unlike = λ fault same. other fault (sym is ∙ same) }
  where
    other : (fault : StorageError) → codec.InvalidByteRangeError error ≡ codec.StorageError fault
        → ⊥
    other fault same = cc

pub found_no_fault : (codec : ShardCodec) (under : Options) (bytes : Option (List ℕ)) (len : ℕ)
    (pair : Pair) (e : CodecError) → says_found bytes (InnerSays codec under) len pair e
    → IsNoFault e
found_no_fault codec under None len pair e told = range_error_no_fault _ e told
found_no_fault codec under (Some bytes) len pair e told = inner_no_fault codec under bytes e told

-- the index
index_no_fault : (long checked : Bool) (number : ℕ) (value : List ℕ) (e : CodecError)
    → says_index long checked number value e → IsNoFault e
index_no_fault false checked number value e told =
    told_no_fault e (wrong_length (length value) (index_size checked number)) refl told
index_no_fault true checked number value e is = number_no_fault true value e is

says_no_fault : (index : Option (List ℕ)) (codec : ShardCodec) (under : Options) (number : ℕ)
    (value : List ℕ) (e : CodecError) → says_of index codec under number value e → IsNoFault e
says_no_fault None codec under number value e told =
    index_no_fault (nat_le (index_size codec.shard.checked number) (length value))
    codec.shard.checked number value e told
says_no_fault (Some index) codec under number value e told = found_no_fault codec under
    (part_of value (pair_at index told.number)) (length value)
    (pair_at index told.number) e told.why.said

pub shard_no_fault : (codec : ShardCodec) (under : Options) (value : List ℕ) (e : CodecError)
    → shard_says codec under value e → IsNoFault e
shard_no_fault codec under value e told = let number = count_of (inner_of codec).grid.grid_shape in
    says_no_fault (index_found codec.shard.checked under.validate_checksums number value) codec
    under number value e told
