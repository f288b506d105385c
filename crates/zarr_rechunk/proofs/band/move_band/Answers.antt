use Rattle.std.proofs.Common.{subst, sym}
use Rattle.zarrs_codec_traits.specs.Prelude.{count, kind_of, DataType, region as region_of, raw_of, options_of}
use Rattle.zarr_array.specs.OpenArray.{documented, described_array}
use Rattle.zarr_rechunk.specs.Cleared.{AreElements}
use Rattle.zarr_rechunk.specs.Band.{AreCleared}
use Rattle.zarr_rechunk.proofs.RechunkLaws.{are_some, write_accepted, moved_by}
use Rattle.zarr_rechunk.proofs.FailLaws.{written_failed}
use Rattle.zarr_rechunk.proofs.band.move_band.Goals as goal

pub clear_band-requires : goal.clear_band-requires
clear_band-requires g c =
    subst (λ (t : DataType). AreElements (kind_of t) (raw_of c.in-Ok.bytes)) (sym c.data_type.ensures.data_type)
    (are_some (kind_of (described_array c.args.source.now).data_type) (count (region_of c.args.band.now))
    (raw_of c.in-Ok.bytes) c.in-Ok.ensures.read.valid)

pub write_band-requires : goal.write_band-requires
write_band-requires g c =
    write_accepted (described_array c.args.source.now) (described_array c.args.target.now) (region_of c.args.band.now)
    (raw_of c.in-Ok.bytes) (raw_of c.in-Ok-clear_band.cleared)
    c.requires.alike c.requires.accepted c.in-Ok.ensures.read.valid c.in-Ok.ensures.read.short
    (subst (λ (t : DataType). AreCleared (kind_of t) (raw_of c.in-Ok.bytes) (raw_of c.in-Ok-clear_band.cleared))
    c.data_type.ensures.data_type c.in-Ok-clear_band.ensures.cleared)

pub returns-in-Ok-clear_band-clause-moved : goal.returns-in-Ok-clear_band-clause-moved
returns-in-Ok-clear_band-clause-moved g c =
    let bytes = raw_of c.in-Ok.bytes in
    let cleared = raw_of c.in-Ok-clear_band.cleared in
    moved_by (described_array c.args.source.now) (described_array c.args.target.now) (options_of c.args.options.now)
    (region_of c.args.band.now) bytes cleared
    (g.S.Store.shown c.args.from.now) (g.S.Store.shown c.read_band.new.from) (g.T.Store.shown c.args.to.now)
    (g.T.Store.shown c.write_band.new.to) c.write_band.result
    c.in-Ok.ensures.read
    (subst (λ (t : DataType). AreCleared (kind_of t) bytes cleared) c.data_type.ensures.data_type
    c.in-Ok-clear_band.ensures.cleared)
    c.write_band.ensures.written

pub returns-in-Ok-clear_band-clause-fails : goal.returns-in-Ok-clear_band-clause-fails
returns-in-Ok-clear_band-clause-fails g c =
    written_failed (documented c.args.source.now) (documented c.args.target.now) (options_of c.args.options.now)
    (region_of c.args.band.now)
    (g.S.Store.shown c.args.from.now) (g.S.Store.shown c.read_band.new.from) (g.T.Store.shown c.args.to.now)
    (g.T.Store.shown c.write_band.new.to) c.write_band.result c.write_band.ensures.fails
