use Rattle.std.proofs.Common.{◌∙◌, sym}
use Rattle.zarrs_codec_traits.specs.Prelude.{raw_of, options_of}
use Rattle.zarr_shard_codec.specs.ShardCodec.{own_level}
use Rattle.zarr_shard_codec.proofs.OwnLaws.{valid_list, short_answers, encoded_laid, encoded_means}
use Rattle.zarr_shard_codec.proofs.shard_codec.ShardCodec.encode_valid.Goals as goal

pub returns-clause-exact : goal.returns-clause-exact
returns-clause-exact c =
    let codec = c.args.self.now in
    let raw = raw_of c.args.bytes.now in
    let (list, is) = valid_list (own_level codec) raw c.requires.valid in
    short_answers (λ v. v.items) codec (options_of c.args.options.now) list raw c.encode_chunk.result
    (sym c.has_long_element.ensures ∙ c.if-has_long_element.false) (c.encode_chunk.ensures list is)

pub returns-clause-laid : goal.returns-clause-laid
returns-clause-laid c = λ list is.
    encoded_laid (λ v. v.items) c.args.self.now (options_of c.args.options.now) list (raw_of c.args.bytes.now)
    c.encode_chunk.result (c.encode_chunk.ensures list is)

pub returns-clause-value : goal.returns-clause-value
returns-clause-value c =
    let codec = c.args.self.now in
    let raw = raw_of c.args.bytes.now in
    let (list, is) = valid_list (own_level codec) raw c.requires.valid in
    encoded_means (λ v. v.items) codec (options_of c.args.options.now) list raw c.encode_chunk.result is
    (c.encode_chunk.ensures list is)
