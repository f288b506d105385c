use Rattle.std.proofs.Common.{◌≡◌, List, Some, sym, subst, IfOk}
use Rattle.zarrs_codec_traits.specs.Prelude.{Element, Level, Options, kind_of, count_of, raw_of, validity, then_answer}
use Rattle.zarrs_codec_traits.specs.Prelude.{Answers, options_of, list_at}
use Rattle.zarr_shard_codec.specs.Encoding.{IsEncoded}
use Rattle.zarr_shard_codec.specs.ShardCodec.{shard_meaning}
use Rattle.zarr_shard_codec.specs.Taking.{long_refusal}
use Rattle.zarr_shard_codec.proofs.OwnLaws.{served_level}
use Rattle.zarr_shard_codec.proofs.traits.ShardCodecArrayToBytesCodecTraits.encode.Goals as goal

pub returns-clause-exact : goal.returns-clause-exact
returns-clause-exact c = λ served.
    subst (λ (level : Level). Answers (then_answer (validity (kind_of level.data_type) (count_of level.shape)
    (raw_of c.args.bytes)) (long_refusal (raw_of c.args.bytes))) c.encode_value.result)
    (sym (served_level c.args.self.now c.args.shape.now c.args.data_type.now c.args.fill_value.now served))
    c.encode_value.ensures.exact

pub returns-clause-value : goal.returns-clause-value
returns-clause-value c = λ served.
    subst (λ (level : Level). IfOk c.encode_value.result
    (λ v. (under : Options) → shard_meaning c.args.self.now under level v.items ≡ list_at level (raw_of c.args.bytes)))
    (sym (served_level c.args.self.now c.args.shape.now c.args.data_type.now c.args.fill_value.now served))
    c.encode_value.ensures.value

pub returns-clause-laid : goal.returns-clause-laid
returns-clause-laid c = λ served.
    subst (λ (level : Level). (list : List Element) → list_at level (raw_of c.args.bytes) ≡ Some list →
    IfOk c.encode_value.result (λ v. IsEncoded c.args.self.now (options_of c.args.options.now) list v.items))
    (sym (served_level c.args.self.now c.args.shape.now c.args.data_type.now c.args.fill_value.now served))
    c.encode_value.ensures.laid
