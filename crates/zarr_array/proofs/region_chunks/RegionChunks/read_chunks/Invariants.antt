use Rattle.std.specs.Prelude.{IfSome}
use Rattle.zarrs_codec_traits.specs.Prelude.{region, options_of}
use Rattle.zarr_array_boxes.specs.BoxElements.{list_held}
use Rattle.zarr_array.specs.Read.{HoldsRegion}
use Rattle.zarr_array.specs.Access.{IsInHand}
use Rattle.zarr_array.proofs.ReadSteps.{HasReadSome}
use Rattle.zarr_array.proofs.region_chunks.RegionChunks.read_chunks.Given as goal

abbrev pub invariant-loop-number : goal.invariant-loop-number
invariant-loop-number g l =
    HoldsRegion (g.C.ChunkAccess.seen l.self.array.now) (region l.self.subset.now) l.elements
    × HasReadSome (g.C.ChunkAccess.seen l.self.array.now) (options_of l.options) (region l.self.subset.now) l.number
    (list_held l.elements) (g.S.Store.shown l.fn.store) (g.S.Store.shown l.store)
    × g.S.Store.kept l.fn.store l.store
    × IfSome l.hand (IsInHand (g.C.ChunkAccess.serves l.self.array.now))
