use Rattle.std.proofs.Common.{◌≡◌, Some, MatchResult, sym, subst}
use Rattle.zarrs_codec_traits.specs.Prelude.{raw_of, options_of, list_at}
use Rattle.zarrs_codec_error.specs.declared.error.CodecError.TheVariants as errors
use Rattle.zarr_shard_codec.specs.Encoding.{IsEncoded}
use Rattle.zarr_shard_codec.specs.ShardCodec.{own_level}
use Rattle.zarr_shard_codec.specs.declared.shard_codec.ShardCodec.{ShardCodec}
use Rattle.zarr_shard_codec.proofs.OwnLaws.{encoded_chunk}
use Rattle.zarr_shard_codec.proofs.shard_codec.ShardCodec.encode_chunk.Goals as goal

pub returns : goal.returns
returns c = λ list means.
    let same = c.in_ok-inner.ensures.codec in
    let under = options_of c.args.options.now in
    encoded_chunk (λ v. v.items) c.args.self.now under list (raw_of c.args.bytes.now) c.encode_within.result means
    (subst (λ (codec : ShardCodec).
    MatchResult c.encode_within.result (λ v. IsEncoded codec under list v.items) (λ e. e ≡ errors.OutOfMemory)) same
    (c.encode_within.ensures list
    (subst (λ (codec : ShardCodec). list_at (own_level codec) (raw_of c.args.bytes.now) ≡ Some list) (sym same) means)))
