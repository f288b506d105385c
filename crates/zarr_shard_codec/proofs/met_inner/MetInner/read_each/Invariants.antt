use Rattle.zarrs_codec_traits.specs.Views.{options_of}
use Rattle.zarr_array_boxes.specs.BoxElements.{list_held}
use Rattle.zarr_shard_codec.specs.MetInner.{met_codec, region_met, value_under}
use Rattle.zarr_shard_codec.specs.Whole.{HoldsOver}
use Rattle.zarr_shard_codec.proofs.RegionLaws.{HasReadSome}
use Rattle.zarr_shard_codec.proofs.met_inner.MetInner.read_each.Given as goal

abbrev pub invariant-loop-number : goal.invariant-loop-number
invariant-loop-number g l =
    HoldsOver (met_codec l.self) (region_met l.self) l.elements
    × HasReadSome (met_codec l.self) (options_of l.options) (value_under l.self (g.S.Store.shown l.fn.store))
    l.self.index.now (region_met l.self) l.number (list_held l.elements) (g.S.Store.shown l.fn.store)
    (g.S.Store.shown l.store)
    × g.S.Store.kept l.fn.store l.store
