use Rattle.std.proofs.Common.{sym, subst, ℕ, List, MatchResult}
use Rattle.zarrs_codec_traits.specs.Prelude.{Level, raw_of, IsDecodeError, options_of, list_at, Gives}
use Rattle.zarr_shard_codec.specs.ShardCodec.{own_level, shard_meaning}
use Rattle.zarr_shard_codec.specs.Whole.{shard_says}
use Rattle.zarr_shard_codec.proofs.OwnLaws.{served_level}
use Rattle.zarr_shard_codec.proofs.traits.ShardCodecArrayToBytesCodecTraits.decode.Goals as goal

pub returns-clause-value : goal.returns-clause-value
returns-clause-value c = λ served.
    let under = options_of c.args.options.now in
    let own = c.args.self.now in
    subst (λ (level : Level). MatchResult c.decode_value.result
    (λ v. Gives (list_at level (raw_of v)) (shard_meaning own under level c.args.bytes.items))
    (IsDecodeError (shard_meaning own under level c.args.bytes.items) (shard_says own under c.args.bytes.items)))
    (sym (served_level own c.args.shape.now c.args.data_type.now c.args.fill_value.now served))
    (subst (λ (value : List ℕ). MatchResult c.decode_value.result
    (λ v. Gives (list_at (own_level own) (raw_of v)) (shard_meaning own under (own_level own) value))
    (IsDecodeError (shard_meaning own under (own_level own) value) (shard_says own under value))) c.deref.ensures.value
    c.decode_value.ensures.value)
