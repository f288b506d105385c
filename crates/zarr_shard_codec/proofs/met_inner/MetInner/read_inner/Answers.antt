use Rattle.std.proofs.Common.{◌<◌, sym, ap, ◌∙◌, subst, arith}
use Rattle.zarrs_codec_traits.specs.Prelude.{count_of, IsChunk, Copied, raw_of, options_of}
use Rattle.zarr_array_boxes.specs.BoxElements.{kind_held, box_held, list_held}
use Rattle.zarr_array_boxes.specs.Elements.{list_in}
use Rattle.zarr_shard_codec.specs.Index.{pair_at}
use Rattle.zarr_shard_codec.specs.MetInner.{met_codec, region_met, met_inner_at, value_under, HasInner}
use Rattle.zarr_shard_codec.specs.Pair.{pair_seen}
use Rattle.zarr_shard_codec.specs.Placing.{inner_number}
use Rattle.zarr_shard_codec.specs.ShardCodec.{inner_grid}
use Rattle.zarr_shard_codec.proofs.FetchSteps.{put_read, put_absent, put_unread}
use Rattle.zarr_shard_codec.proofs.MetLaws.{met_chunk, below_pairs}
use Rattle.zarr_shard_codec.proofs.met_inner.MetInner.read_inner.Goals as goal

pub number_of-place-requires : goal.number_of-place-requires
number_of-place-requires g c =
    let met = c.args.self.now in
    subst (IsChunk (inner_grid (met_codec met))) (sym (c.as_slice-indices.ensures ∙ c.in_ok-tuple.ensures))
    (met_chunk met c.requires.met c.args.number c.requires.below)

pub pair_at-pair-requires : goal.pair_at-pair-requires
pair_at-pair-requires g c =
    let met = c.args.self.now in
    let at = c.as_slice-indices.ensures ∙ c.in_ok-tuple.ensures in
    let below : c.number_of-place.result < count_of (inner_grid (met_codec met)).grid_shape =
    subst (λ n. n < count_of (inner_grid (met_codec met)).grid_shape)
    (sym (c.number_of-place.ensures ∙ ap (inner_number (met_codec met)) at)) (below_pairs (met_codec met)
    (met_inner_at met c.args.number) (met_chunk met c.requires.met c.args.number c.requires.below)) in
    let indexed = c.requires.met.indexed in
    omega (arith, below, indexed)

pub put-requires-clause-chunk : goal.put-requires-clause-chunk
put-requires-clause-chunk g c =
    let met = c.args.self.now in
    subst (IsChunk (inner_grid (met_codec met))) (sym (c.as_slice-indices.ensures ∙ c.in_ok-tuple.ensures))
    (met_chunk met c.requires.met c.args.number c.requires.below)

pub put-requires-in-Ok-None-clause-chunk : goal.put-requires-in-Ok-None-clause-chunk
put-requires-in-Ok-None-clause-chunk g c =
    let met = c.args.self.now in
    subst (IsChunk (inner_grid (met_codec met))) (sym (c.as_slice-indices.ensures ∙ c.in_ok-tuple.ensures))
    (met_chunk met c.requires.met c.args.number c.requires.below)

pub returns-in-Ok-Some-clause-read : goal.returns-in-Ok-Some-clause-read
returns-in-Ok-Some-clause-read g c =
    let met = c.args.self.now in
    let codec = met_codec met in
    let under = options_of c.args.options.now in
    let before = g.S.Store.shown c.args.store.now in
    let now = g.S.Store.shown c.fetch_inner.new.store in
    let chunk = met_inner_at met c.args.number in
    let at = c.as_slice-indices.ensures ∙ c.in_ok-tuple.ensures in
    let pair = pair_seen c.pair_at-pair.result in
    put_read codec under (value_under met before) met.index.now (region_met met) chunk
    (met_chunk met c.requires.met c.args.number c.requires.below) pair
    (c.pair_at-pair.ensures ∙ ap (pair_at met.index.now) (c.number_of-place.ensures ∙ ap (inner_number codec) at))
    before now c.args.elements.now c.put.new.elements c.in-Ok-Some.bytes c.requires.holds
    (subst (HasInner codec under (value_under met before) pair before now) c.in-Ok-Some.field-0-is
    c.in-Ok-Some.ensures.read)
    (subst (λ i. Copied (box_held c.args.elements.now) ((inner_grid codec).chunk_box i)
    (list_in (kind_held c.args.elements.now) ((inner_grid codec).chunk_box i) (raw_of c.in-Ok-Some.bytes))
    (list_held c.args.elements.now) (list_held c.put.new.elements))
    at c.in_ok-put-in-Ok-Some.ensures.copied)

pub returns-in-Ok-None-clause-read : goal.returns-in-Ok-None-clause-read
returns-in-Ok-None-clause-read g c =
    let met = c.args.self.now in
    let codec = met_codec met in
    let under = options_of c.args.options.now in
    let before = g.S.Store.shown c.args.store.now in
    let now = g.S.Store.shown c.fetch_inner.new.store in
    let chunk = met_inner_at met c.args.number in
    let at = c.as_slice-indices.ensures ∙ c.in_ok-tuple.ensures in
    let pair = pair_seen c.pair_at-pair.result in
    let blank = raw_of met.inner.blank in
    put_absent codec under (value_under met before) met.index.now (region_met met) chunk
    (met_chunk met c.requires.met c.args.number c.requires.below) pair
    (c.pair_at-pair.ensures ∙ ap (pair_at met.index.now) (c.number_of-place.ensures ∙ ap (inner_number codec) at))
    before now c.args.elements.now c.put-in-Ok-None.new.elements blank c.requires.holds c.requires.met.inner.blank
    (subst (HasInner codec under (value_under met before) pair before now) c.in-Ok-None.field-0-is
    c.in-Ok-None.ensures.read)
    (subst (λ i. Copied (box_held c.args.elements.now) ((inner_grid codec).chunk_box i)
    (list_in (kind_held c.args.elements.now) ((inner_grid codec).chunk_box i) blank) (list_held c.args.elements.now)
    (list_held c.put-in-Ok-None.new.elements))
    at c.in_ok-put-in-Ok-None.ensures.copied)

pub returns-clause-read : goal.returns-clause-read
returns-clause-read g c =
    let met = c.args.self.now in
    let codec = met_codec met in
    let before = g.S.Store.shown c.args.store.now in
    let at = c.as_slice-indices.ensures ∙ c.in_ok-tuple.ensures in
    put_unread codec (options_of c.args.options.now) (value_under met before) met.index.now (region_met met)
    (met_inner_at met c.args.number) (met_chunk met c.requires.met c.args.number c.requires.below)
    (pair_seen c.pair_at-pair.result)
    (c.pair_at-pair.ensures ∙ ap (pair_at met.index.now) (c.number_of-place.ensures ∙ ap (inner_number codec) at))
    before (g.S.Store.shown c.fetch_inner.new.store) c.in-Err.error c.in-Err.ensures.read
