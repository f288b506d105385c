use Rattle.std.proofs.Common.{length, map, sym, ap, ◌∙◌}
use Rattle.zarr_codecs.specs.CodecForm.{form_of}
use Rattle.zarr_array_open.specs.Chain.{all_ranked, chain_in, chain_form}
use Rattle.zarr_array_open.specs.Opening.{chain_order, or_refused}
use Rattle.zarr_array_open.proofs.ShardLaws.{chain_ranked}
use Rattle.zarr_array_open.proofs.inner.inner_parts.Goals as goal

pub with_parts-requires-clause-ranked : goal.with_parts-requires-clause-ranked
with_parts-requires-clause-ranked c =
    let shard = c.args.shard.now in
    let form = chain_form c.in_ok-chain.chain in
    ap (λ dims. all_ranked (length dims) form.array_codecs) (c.in_ok-grid.ensures.shape ∙ c.deref.ensures.value)
    ∙ chain_ranked (length shard.chunk_shape.items) (map form_of shard.codecs.items) form shard.ranked
    (ap (λ codecs. or_refused chain_order (chain_in (map form_of codecs))) (sym c.deref-3.ensures.value)
    ∙ c.in_ok-chain.ensures)
