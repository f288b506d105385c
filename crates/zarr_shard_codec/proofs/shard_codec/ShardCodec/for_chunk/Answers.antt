use Rattle.std.proofs.Common.{◌<◌, ◌∙◌, sym, ap, ap₂, subst}
use Rattle.zarrs_codec_traits.specs.Prelude.{count_of, kind_of, fill_element, registry_of, extension_seen, fill_bytes}
use Rattle.zarrs_codec_traits.specs.Prelude.{type_of, lengths}
use Rattle.zarrs_codec_traits.proofs.CountLaws.{lengths_some}
use Rattle.zarr_array_open.specs.Views.{shard_form}
use Rattle.zarr_array_open.specs.declared.shard.Shard.{Shard}
use Rattle.zarr_array_open.proofs.ChunkLaws.{IsMadeFor, made_for}
use Rattle.zarr_shard_codec.proofs.MakingLaws.{made_served}
use Rattle.zarr_shard_codec.proofs.shard_codec.ShardCodec.for_chunk.Goals as goal

pub with_fill-requires-clause-filled : goal.with_fill-requires-clause-filled
with_fill-requires-clause-filled c =
    let made = made_for (registry_of c.args.registries.now.codecs) (lengths c.args.shape.now)
    (type_of c.args.data_type.now) (fill_bytes c.args.fill_value.now) (extension_seen c.args.metadata.now)
    (shard_form c.in_ok-shard.shard) c.in_ok-shard.ensures in
    ap₂ (λ t f. fill_element (kind_of t) f) made.data_type c.in_ok-fill_value.ensures ∙ made.fill

pub with_fill-requires-clause-some : goal.with_fill-requires-clause-some
with_fill-requires-clause-some c =
    let made = made_for (registry_of c.args.registries.now.codecs) (lengths c.args.shape.now)
    (type_of c.args.data_type.now) (fill_bytes c.args.fill_value.now) (extension_seen c.args.metadata.now)
    (shard_form c.in_ok-shard.shard) c.in_ok-shard.ensures in
    subst (λ dims. 0 < count_of dims) (sym made.shape) (lengths_some c.args.shape.now)

pub returns-clause-served : goal.returns-clause-served
returns-clause-served c =
    let e = extension_seen c.args.metadata.now in
    let made = made_for (registry_of c.args.registries.now.codecs) (lengths c.args.shape.now) (type_of
    c.args.data_type.now) (fill_bytes c.args.fill_value.now) e (shard_form c.in_ok-shard.shard) c.in_ok-shard.ensures in
    made_served c.in_ok-codec.codec c.args.shape.now c.args.data_type.now c.args.fill_value.now e
    (subst (λ (s : Shard). IsMadeFor (lengths c.args.shape.now) (type_of c.args.data_type.now)
    (fill_bytes c.args.fill_value.now) e (shard_form s)) (sym c.in_ok-codec.ensures.shard) made)
    (ap fill_bytes c.in_ok-codec.ensures.fill ∙ c.in_ok-fill_value.ensures)
