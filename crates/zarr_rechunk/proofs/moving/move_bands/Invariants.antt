use Rattle.std.proofs.Common.{map}
use Rattle.zarrs_codec_traits.specs.Prelude.{region as region_of, options_of}
use Rattle.zarr_array.specs.OpenArray.{described_array}
use Rattle.zarr_rechunk.specs.Moved.{AreMoved}
use Rattle.zarr_rechunk.proofs.moving.move_bands.Given as goal

abbrev pub invariant-loop-number : goal.invariant-loop-number
invariant-loop-number g l = record {
  moved : AreMoved (described_array l.source) (described_array l.target) (options_of l.options) (map region_of l.bands)
      l.number
      (g.S.Store.shown l.fn.from) (g.S.Store.shown l.from) (g.T.Store.shown l.fn.to) (g.T.Store.shown l.to);
  kept : g.S.Store.kept l.fn.from l.from;
}
