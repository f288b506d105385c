use Rattle.std.proofs.Common.{[], ◌∷◌, Ok, Err, subst}
use Rattle.zarrs_codec_traits.specs.Prelude.{write, region as region_of, raw_of, options_of}
use Rattle.zarr_array.specs.OpenArray.{documented, described_array}
use Rattle.zarr_array.specs.Ended.{ended_one}
use Rattle.zarr_array.specs.Runs.{Runs}
use Rattle.zarr_array.proofs.ServedLaws.{described_covers, described_sound}
use Rattle.zarr_rechunk.proofs.RunLaws.{write_done, written_done, leaves, stays_outside}
use Rattle.zarr_rechunk.proofs.FailLaws.{write_fails}
use Rattle.zarr_rechunk.proofs.band.write_band.Goals as goal

pub returns-in-Ok-Done-clause-written : goal.returns-in-Ok-Done-clause-written
returns-in-Ok-Done-clause-written g c =
    let array = described_array c.args.target.now in
    let options = options_of c.args.options.now in
    let band = region_of c.args.band.now in
    let bytes = raw_of c.args.bytes.now in
    let before = g.T.Store.shown c.args.to.now in
    let now = g.T.Store.shown c.write.new.store in
    write_done array options band bytes before now (described_covers c.args.target.now.parts)
    (described_sound c.args.target.now.parts options) c.requires
    (subst (λ r. Runs array options (write band bytes ∷ []) before now (ended_one (Ok r))) c.in-Ok-Done.field-0-is
    c.in-Ok-Done.ensures.runs)

pub returns-in-Ok-Done-clause-left : goal.returns-in-Ok-Done-clause-left
returns-in-Ok-Done-clause-left g c =
    let options = options_of c.args.options.now in
    leaves (described_array c.args.target.now) options (described_covers c.args.target.now.parts)
    (described_sound c.args.target.now.parts options) (write (region_of c.args.band.now) (raw_of c.args.bytes.now))
    (g.T.Store.shown c.args.to.now) (g.T.Store.shown c.write.new.store) (ended_one (Ok c.in-Ok-Done.field-0))
    c.in-Ok-Done.ensures.runs

pub returns-in-Ok-Done-clause-rest : goal.returns-in-Ok-Done-clause-rest
returns-in-Ok-Done-clause-rest g c =
    stays_outside (described_array c.args.target.now) (options_of c.args.options.now) (region_of c.args.band.now)
    (raw_of c.args.bytes.now)
    (g.T.Store.shown c.args.to.now) (g.T.Store.shown c.write.new.store) (ended_one (Ok c.in-Ok-Done.field-0)) c.requires
    c.in-Ok-Done.ensures.runs

pub unreachable-requires : goal.unreachable-requires
unreachable-requires g c =
    let array = described_array c.args.target.now in
    let options = options_of c.args.options.now in
    let band = region_of c.args.band.now in
    let bytes = raw_of c.args.bytes.now in
    let before = g.T.Store.shown c.args.to.now in
    let now = g.T.Store.shown c.write.new.store in
    written_done array options band bytes (raw_of c.in-Ok-Elements.field-0-0) before now
    (described_covers c.args.target.now.parts) (described_sound c.args.target.now.parts options) c.requires
    (subst (λ r. Runs array options (write band bytes ∷ []) before now (ended_one (Ok r))) c.in-Ok-Elements.field-0-is
    c.in-Ok-Elements.ensures.runs)

pub returns-clause-left : goal.returns-clause-left
returns-clause-left g c =
    let options = options_of c.args.options.now in
    leaves (described_array c.args.target.now) options (described_covers c.args.target.now.parts)
    (described_sound c.args.target.now.parts options) (write (region_of c.args.band.now) (raw_of c.args.bytes.now))
    (g.T.Store.shown c.args.to.now) (g.T.Store.shown c.write.new.store) (ended_one (Err c.in-Err.error))
    c.in-Err.ensures.runs

pub returns-clause-rest : goal.returns-clause-rest
returns-clause-rest g c =
    stays_outside (described_array c.args.target.now) (options_of c.args.options.now) (region_of c.args.band.now)
    (raw_of c.args.bytes.now)
    (g.T.Store.shown c.args.to.now) (g.T.Store.shown c.write.new.store) (ended_one (Err c.in-Err.error)) c.requires
    c.in-Err.ensures.runs

pub returns-clause-fails : goal.returns-clause-fails
returns-clause-fails g c =
    write_fails (documented c.args.target.now) (options_of c.args.options.now) (region_of c.args.band.now)
    (raw_of c.args.bytes.now) (g.T.Store.shown c.args.to.now) (g.T.Store.shown c.write.new.store)
    c.target_kind.result c.in-Err.error.kind c.in-Err.error.at c.requires c.target_kind.ensures
    c.in-Err.ensures.runs.on.failed.cause c.in-Err.ensures.told
