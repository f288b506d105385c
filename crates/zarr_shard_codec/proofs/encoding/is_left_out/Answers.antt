use Rattle.std.proofs.Common.{sym, ◌∙◌}
use Rattle.std.proofs.lemmas.Bool.{true≢false}
use Rattle.zarr_model.specs.Prelude.{count_of, kind}
use Rattle.zarr_shard_codec.specs.ShardCodec.{inner_of, inner_dims}
use Rattle.zarr_shard_codec.proofs.CodecFacts.{dims_some}
use Rattle.zarr_shard_codec.proofs.encoding.is_left_out.Goals as goal

pub returns-clause-out : goal.returns-clause-out
returns-clause-out c = λ list means is.
    let codec = c.args.codec.now in
    let fill = c.is_fill_value.ensures.elements (kind (inner_of codec)) (count_of (inner_dims codec)) list
    (inner_of codec).fill means (dims_some codec) c.fill_value.ensures.element in
    (sym c.store_empty_chunks.ensures ∙ c.if-store_empty_chunks.false, fill.0 is)

pub returns-clause-kept : goal.returns-clause-kept
returns-clause-kept c = λ list means is off same.
    let codec = c.args.codec.now in
    let fill = c.is_fill_value.ensures.elements (kind (inner_of codec)) (count_of (inner_dims codec)) list
    (inner_of codec).fill means (dims_some codec) c.fill_value.ensures.element in
    true≢false (sym (fill.1 same) ∙ is)
