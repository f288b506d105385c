use Rattle.std.specs.Prelude.{IfSome}
use Rattle.zarrs_codec_traits.specs.Prelude.{region, raw_of, options_of}
use Rattle.zarr_array.specs.Access.{IsInHand}
use Rattle.zarr_array.proofs.WriteSteps.{HasWrittenSome}
use Rattle.zarr_array.proofs.region_chunks.RegionChunks.write_chunks.Given as goal

abbrev pub invariant-loop-number : goal.invariant-loop-number
invariant-loop-number g l =
    HasWrittenSome (g.C.ChunkAccess.seen l.self.array.now) (options_of l.options) (region l.self.subset.now)
    (raw_of l.bytes) l.number (g.S.Store.shown l.fn.store) (g.S.Store.shown l.store)
    × IfSome l.hand (IsInHand (g.C.ChunkAccess.serves l.self.array.now))
