use Rattle.zarrs_codec_traits.specs.Prelude.{region as region_of, options_of}
use Rattle.zarr_array.specs.OpenArray.{documented}
use Rattle.zarr_rechunk.proofs.FailLaws.{read_fails}
use Rattle.zarr_rechunk.proofs.band.read_band.Goals as goal

pub returns-in-Err-clause-fails : goal.returns-in-Err-clause-fails
returns-in-Err-clause-fails g c =
    read_fails (documented c.args.source.now) (options_of c.args.options.now) (region_of c.args.band.now)
    (g.S.Store.shown c.args.from.now) (g.S.Store.shown c.read.new.store)
    c.source_kind.result c.in-Err.error.kind c.in-Err.error.at c.requires c.source_kind.ensures
    c.in-Err.ensures.runs.on.failed.cause c.in-Err.ensures.told

pub returns-in-Err-clause-source : goal.returns-in-Err-clause-source
returns-in-Err-clause-source g c = record {
  same = c.read.ensures.read.same;
  later = c.read.ensures.runs.on.later;
  puts = g.met.S.Store.kept_puts c.args.from.now c.read.new.store c.read.ensures.kept;
}
