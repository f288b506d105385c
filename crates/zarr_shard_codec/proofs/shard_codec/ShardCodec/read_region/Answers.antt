use Rattle.std.proofs.Common.{Ok, sym, ◌∙◌}
use Rattle.zarrs_codec_traits.specs.Prelude.{region as region_of, raw_of, options_of}
use Rattle.zarr_shard_codec.proofs.FetchLaws.{no_cost}
use Rattle.zarr_shard_codec.proofs.ReadSteps.{of_some, none_read, selected}
use Rattle.zarr_shard_codec.proofs.shard_codec.ShardCodec.read_region.Goals as goal

pub returns-then-is_empty-clause-read : goal.returns-then-is_empty-clause-read
returns-then-is_empty-clause-read g c =
    let store = g.S.Store.shown c.args.store.now in
    none_read c.args.self.now (options_of c.args.options.now) (region_of c.args.region.now)
    (store.content c.args.key.now) store (raw_of c.in_ok-bytes.bytes) (sym c.is_empty.ensures ∙ c.if-is_empty.true)
    c.in_ok-bytes.ensures.means c.in_ok-bytes.ensures.short
    (no_cost store (g.met.S.Store.counts_fit c.args.store.now).1 (g.met.S.Store.counts_fit c.args.store.now).2)

pub returns-then-is_empty-clause-selects : goal.returns-then-is_empty-clause-selects
returns-then-is_empty-clause-selects g c = λ value list is means.
    let store = g.S.Store.shown c.args.store.now in
    selected c.args.self.now (options_of c.args.options.now) (region_of c.args.region.now)
    (store.content c.args.key.now) value list store store (Ok c.in_ok-bytes.bytes) is means c.requires.inside
    (returns-then-is_empty-clause-read g c)

pub returns-clause-selects : goal.returns-clause-selects
returns-clause-selects g c = λ value list is means.
    let codec = c.args.self.now in
    let under = options_of c.args.options.now in
    let region = region_of c.args.region.now in
    let before = g.S.Store.shown c.args.store.now in
    let now = g.S.Store.shown c.read_some.new.store in
    let content = before.content c.args.key.now in
    selected codec under region content value list before now c.read_some.result is means c.requires.inside
    (of_some codec under region content before now c.read_some.result
    (sym c.is_empty.ensures ∙ c.if-is_empty.false) c.read_some.ensures.read)
