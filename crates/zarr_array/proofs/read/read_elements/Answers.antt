use Rattle.std.proofs.Common.{sym, ap, ◌∙◌, subst}
use Rattle.zarrs_codec_traits.specs.Prelude.{count, kind, region, raw_of, options_of}
use Rattle.zarr_array_boxes.specs.BoxElements.{kind_held, box_held, list_held}
use Rattle.zarr_array_boxes.proofs.HeldLaws.{length-list_held}
use Rattle.zarr_array.specs.Access.{described}
use Rattle.zarr_array.specs.RegionChunks.{Meets}
use Rattle.zarr_array.proofs.ReadSteps.{none_to_read, read_means}
use Rattle.zarr_array.proofs.ShortLaws.{region_fill_short}
use Rattle.zarr_array.proofs.read.read_elements.Goals as goal

pub read_all-requires-clause-holds : goal.read_all-requires-clause-holds
read_all-requires-clause-holds g c =
    let are = subst (Meets g.C.ChunkAccess.seen c.args.array.now c.args.subset.now) c.in-Some.is c.in_ok-met.ensures in
    record {
      of_kind = c.in_ok-elements.ensures.kind
          ∙ (c.data_type.ensures.kind ∙ ap (λ a. kind (described (g.C.ChunkAccess.seen a))) (sym are.of_array));
      over = c.in_ok-elements.ensures.subset ∙ ap region (sym are.of_subset);
      short = c.in_ok-elements.ensures.short
          (λ some.
          region_fill_short (g.C.ChunkAccess.seen c.args.array.now) (g.met.C.ChunkAccess.served c.args.array.now)
          (region c.args.subset.now) _ _ c.data_type.ensures.kind c.fill_value.ensures.short c.requires.inside some);
    }

pub read_all-requires-clause-as_long : goal.read_all-requires-clause-as_long
read_all-requires-clause-as_long g c =
    let are = subst (Meets g.C.ChunkAccess.seen c.args.array.now c.args.subset.now) c.in-Some.is c.in_ok-met.ensures in
    length-list_held c.in_ok-elements.elements
    ∙ (ap count c.in_ok-elements.ensures.subset ∙ ap (λ s. count (region s)) (sym are.of_subset))

pub returns-in_ok-bytes-in-None-clause-read : goal.returns-in_ok-bytes-in-None-clause-read
returns-in_ok-bytes-in-None-clause-read g c =
    let elements = c.in_ok-elements.elements in
    let store = g.S.Store.shown c.args.store.now in
    read_means (g.C.ChunkAccess.seen c.args.array.now) (options_of c.args.options.now) (region c.args.subset.now)
    (raw_of c.in_ok-bytes-in-None.bytes) (kind_held elements) (box_held elements) (list_held elements) store store
    (c.in_ok-elements.ensures.kind ∙ c.data_type.ensures.kind) c.in_ok-elements.ensures.subset
    c.in_ok-bytes-in-None.ensures.means
    (c.in_ok-bytes-in-None.ensures.short (c.in_ok-elements.ensures.short
    (λ some. region_fill_short (g.C.ChunkAccess.seen c.args.array.now) (g.met.C.ChunkAccess.served c.args.array.now)
    (region c.args.subset.now) _ _ c.data_type.ensures.kind c.fill_value.ensures.short c.requires.inside some)))
    (none_to_read (g.C.ChunkAccess.seen c.args.array.now) (options_of c.args.options.now) (region c.args.subset.now)
    (g.met.C.ChunkAccess.served c.args.array.now) (list_held elements) store c.requires.inside
    (subst (Meets g.C.ChunkAccess.seen c.args.array.now c.args.subset.now) c.in-None.is c.in_ok-met.ensures)
    (length-list_held elements ∙ ap count c.in_ok-elements.ensures.subset) (g.met.S.Store.counts_fit c.args.store.now).1
    (g.met.S.Store.counts_fit c.args.store.now).2)
