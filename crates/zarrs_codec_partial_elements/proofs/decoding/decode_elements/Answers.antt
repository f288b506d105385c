use Rattle.std.proofs.Common.{refl}
use Rattle.zarrs_codec.specs.Prelude.{options_of, indexed}
use Rattle.zarrs_codec_partial_elements.proofs.StepLaws.{indexed_fit, indexed_unserved, indexed_unfit}
use Rattle.zarrs_codec_partial_elements.proofs.decoding.decode_elements.Goals as goal

pub fitting_numbers-requires : goal.fitting_numbers-requires
fitting_numbers-requires g c =
    rw (c.deref.ensures.value, c.shape.ensures) (g.met.L.LevelReads.fits c.args.level.now).count

pub returns-in-Ok-expect_served-clause-reads : goal.returns-in-Ok-expect_served-clause-reads
returns-in-Ok-expect_served-clause-reads g c =
    let old = g.L.LevelReads.seen c.args.level.now in
    let by = g.I.Indexer in
    indexed_fit (options_of c.args.options.now)
    (indexed by.fits by.refuses by.as_region by.places old.level.shape c.args.indexer.now)
    (g.L.LevelReads.tells c.args.level.now) old _ c.decode_fit.result
    (rw (c.deref.ensures.value, c.shape.ensures) at c.in-Ok.ensures.fit) c.decode_fit.ensures.selects

pub returns-in-Ok-clause-reads : goal.returns-in-Ok-clause-reads
returns-in-Ok-clause-reads g c =
    let old = g.L.LevelReads.seen c.args.level.now in
    let by = g.I.Indexer in
    let tests = c.in-Err-expect_served.ensures in
    indexed_unserved (options_of c.args.options.now)
    (indexed by.fits by.refuses by.as_region by.places old.level.shape c.args.indexer.now)
    (g.L.LevelReads.tells c.args.level.now) _ old c.in-Err-expect_served.error
    (rw (c.deref.ensures.value, c.shape.ensures) at c.in-Ok.ensures.fit) tests.named tests.memory tests.no_fault

pub returns-clause-reads : goal.returns-clause-reads
returns-clause-reads g c =
    let old = g.L.LevelReads.seen c.args.level.now in
    let by = g.I.Indexer in
    indexed_unfit (options_of c.args.options.now)
    (indexed by.fits by.refuses by.as_region by.places old.level.shape c.args.indexer.now)
    (g.L.LevelReads.tells c.args.level.now) old c.in-Err.error
    (rw (c.deref.ensures.value, c.shape.ensures) at c.in-Err.ensures.answer)
    (rw (c.deref.ensures.value, c.shape.ensures) at c.in-Err.ensures.unfit)

pub returns-in-Ok-expect_served-clause-unserved : goal.returns-in-Ok-expect_served-clause-unserved
returns-in-Ok-expect_served-clause-unserved g c = λ unserved. absurd (unserved c.in-Ok-expect_served.ensures.served)

pub returns-in-Ok-clause-unserved : goal.returns-in-Ok-clause-unserved
returns-in-Ok-clause-unserved g c = λ unserved. record { asks = refl; taken = refl; faults = refl }

pub returns-clause-unserved : goal.returns-clause-unserved
returns-clause-unserved g c = λ unserved. record { asks = refl; taken = refl; faults = refl }
