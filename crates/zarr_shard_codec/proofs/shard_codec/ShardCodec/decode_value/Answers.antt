use Rattle.std.proofs.Common.{subst, MatchResult}
use Rattle.zarrs_codec_traits.specs.Prelude.{raw_of, options_of, list_at, Gives, IsDecodeError}
use Rattle.zarr_shard_codec.specs.ShardCodec.{own_level, shard_meaning}
use Rattle.zarr_shard_codec.specs.Whole.{shard_says}
use Rattle.zarr_shard_codec.specs.declared.shard_codec.ShardCodec.{ShardCodec}
use Rattle.zarr_shard_codec.proofs.OwnLaws.{value_decoded}
use Rattle.zarr_shard_codec.proofs.shard_codec.ShardCodec.decode_value.Goals as goal

pub returns-clause-value : goal.returns-clause-value
returns-clause-value c =
    let under = options_of c.args.options.now in
    let value = c.args.value.now in
    subst (λ (codec : ShardCodec). MatchResult c.decode_within.result
    (λ v. Gives (list_at (own_level codec) (raw_of v)) (shard_meaning codec under (own_level codec) value))
    (IsDecodeError (shard_meaning codec under (own_level codec) value) (shard_says codec under value)))
    c.in_ok-inner.ensures.codec
    (value_decoded c.in_ok-inner.inner.codec.now under value c.decode_within.result c.decode_within.ensures.value
    c.decode_within.ensures.failed)
