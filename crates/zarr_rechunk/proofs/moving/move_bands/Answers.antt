use Rattle.std.proofs.Common.{map, refl, ◌∙◌, arith}
use Rattle.zarrs_codec_traits.specs.Prelude.{region as region_of, options_of}
use Rattle.zarr_array.specs.OpenArray.{documented, described_array}
use Rattle.zarr_rechunk.proofs.MovedLaws.{none_moved, one_more_moved, region_here}
use Rattle.zarr_rechunk.proofs.FailLaws.{cause_on, left_on}
use Rattle.zarr_rechunk.proofs.moving.move_bands.Goals as goal

pub loop-number-init : goal.loop-number-init
loop-number-init g c =
    let from = g.met.S.Store.counts_fit c.args.from.now in
    let to = g.met.T.Store.counts_fit c.args.to.now in record {
      moved = none_moved (described_array c.args.source.now) (described_array c.args.target.now)
          (options_of c.args.options.now) (map region_of c.args.bands.now) (g.S.Store.shown c.args.from.now)
          (g.T.Store.shown c.args.to.now) from.1 to.1 to.3;
      kept = g.met.S.Store.kept_self c.args.from.now;
    }

pub move_band-requires : goal.move_band-requires
move_band-requires g c = record {
  alike = c.requires.alike;
  accepted = c.requires.accepted c.loop-number.number (region_of c.index-bands-number.result)
      (region_here region_of c.args.bands.now c.loop-number.number c.index-bands-number.result c.loop-number-test.true
      c.index-bands-number.is);
}

pub loop-number-preserved : goal.loop-number-preserved
loop-number-preserved g c =
    let here = region_here region_of c.args.bands.now c.loop-number.number c.index-bands-number.result
    c.loop-number-test.true c.index-bands-number.is in record {
      moved = one_more_moved (described_array c.args.source.now) (described_array c.args.target.now)
          (options_of c.args.options.now) (map region_of c.args.bands.now) c.loop-number.number
          (region_of c.index-bands-number.result)
          (g.S.Store.shown c.args.from.now) (g.S.Store.shown c.loop-number.from) (g.S.Store.shown c.move_band.new.from)
          (g.T.Store.shown c.args.to.now) (g.T.Store.shown c.loop-number.to) (g.T.Store.shown c.move_band.new.to)
          c.requires.alike here c.loop-number.invariant.moved c.in-Ok.ensures.moved;
      kept = g.met.S.Store.kept_twice c.args.from.now c.loop-number.from c.move_band.new.from
          c.loop-number.invariant.kept c.in-Ok.ensures.kept;
    }

pub returns-in-Err-clause-source : goal.returns-in-Err-clause-source
returns-in-Err-clause-source g c = record {
  same = λ key. c.in-Err.ensures.source.same key ∙ c.loop-number.invariant.moved.same key;
  later = omega (arith, c.loop-number.invariant.moved.later_from, c.in-Err.ensures.source.later);
  puts = c.in-Err.ensures.source.puts
      ∙ g.met.S.Store.kept_puts c.args.from.now c.loop-number.from c.loop-number.invariant.kept;
}

pub returns-clause-source : goal.returns-clause-source
returns-clause-source g c = record {
  same = c.loop-number.invariant.moved.same;
  later = c.loop-number.invariant.moved.later_from;
  puts = g.met.S.Store.kept_puts c.args.from.now c.loop-number.from c.loop-number.invariant.kept;
}

pub returns-in-Err-clause-kept : goal.returns-in-Err-clause-kept
returns-in-Err-clause-kept g c = g.met.S.Store.kept_twice c.args.from.now c.loop-number.from c.move_band.new.from
    c.loop-number.invariant.kept c.in-Err.ensures.kept

pub returns-in-Err-clause-left : goal.returns-in-Err-clause-left
returns-in-Err-clause-left g c =
    left_on (described_array c.args.source.now) (described_array c.args.target.now) (options_of c.args.options.now)
    (map region_of c.args.bands.now) c.loop-number.number
    (g.S.Store.shown c.args.from.now) (g.S.Store.shown c.loop-number.from) (g.T.Store.shown c.args.to.now)
    (g.T.Store.shown c.loop-number.to) (g.T.Store.shown c.move_band.new.to)
    c.loop-number.invariant.moved c.in-Err.ensures.left

pub returns-in-Err-clause-fails : goal.returns-in-Err-clause-fails
returns-in-Err-clause-fails g c = record {
  number = c.loop-number.number;
  band = region_of c.index-bands-number.result;
  from_mid = g.S.Store.shown c.loop-number.from;
  to_mid = g.T.Store.shown c.loop-number.to;
  is_at = refl;
  here = region_here region_of c.args.bands.now c.loop-number.number c.index-bands-number.result c.loop-number-test.true
      c.index-bands-number.is;
  moved = c.loop-number.invariant.moved;
  rest = c.in-Err.ensures.rest;
  cause = cause_on (documented c.args.source.now) (documented c.args.target.now) (options_of c.args.options.now)
      (map region_of c.args.bands.now) c.loop-number.number (region_of c.index-bands-number.result)
      (g.S.Store.shown c.args.from.now) (g.S.Store.shown c.loop-number.from) (g.S.Store.shown c.move_band.new.from)
      (g.T.Store.shown c.args.to.now) (g.T.Store.shown c.loop-number.to) (g.T.Store.shown c.move_band.new.to)
      c.loop-number.invariant.moved c.in-Err.kind c.in-Err.ensures.fails;
}
