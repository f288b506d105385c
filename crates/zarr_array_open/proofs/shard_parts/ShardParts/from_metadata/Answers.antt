use Rattle.std.proofs.Common.{map, sym, ap, ◌∙◌}
use Rattle.zarrs_codec_traits.specs.Prelude.{registry_of, extensions_seen}
use Rattle.zarr_basics.specs.GridForms.{regular}
use Rattle.zarr_array_open.specs.Opening.{chain_order, or_refused}
use Rattle.zarr_array_open.specs.ShardOpening.{only_sharding}
use Rattle.zarr_array_open.specs.Views.{codecs_seen, made_codec_seen}
use Rattle.zarr_array_open.proofs.CodecLaws.{only_for}
use Rattle.zarr_array_open.proofs.shard_parts.ShardParts.from_metadata.Goals as goal

pub with_shard-requires : goal.with_shard-requires
with_shard-requires c =
    let same = only_for c.deref-2.result.now (registry_of c.args.registries.now.codecs) (extensions_seen
    c.deref-3.result.now) (map made_codec_seen c.in_ok-codecs.codecs.items) (codecs_seen c.in_ok-inner.inner.now)
    c.in_ok-codecs.ensures (ap (λ codecs. or_refused chain_order (only_sharding (map made_codec_seen codecs)))
    (sym c.deref-4.ensures.value) ∙ c.in_ok-inner.ensures) in
    c.in_ok-grid.ensures.form ∙ ap regular
    (sym c.in_ok-chunk_shape.ensures ∙ (sym c.deref-2.ensures.value ∙ (sym same ∙ sym c.in_ok-shard.ensures.shape)))
