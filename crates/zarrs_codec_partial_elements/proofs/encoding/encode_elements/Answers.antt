use Rattle.std.proofs.Common.{length, refl}
use Rattle.zarrs_codec.specs.Prelude.{kind_of, raw_of, options_of, change_of}
use Rattle.zarrs_codec.proofs.NamedLaws.{refused_still}
use Rattle.zarrs_codec.proofs.UpdateLaws.{updates_early}
use Rattle.zarrs_codec_partial_elements.proofs.ServedLaws.{answer_named, given_valid}
use Rattle.zarrs_codec_partial_elements.proofs.WriteLaws.{given_memory, given_no_fault}
use Rattle.zarrs_codec_partial_elements.proofs.encoding.encode_elements.Goals as goal

pub expect_given-requires : goal.expect_given-requires
expect_given-requires g c = record {
  fits = rw (c.deref.ensures.value, c.shape.ensures, c.element_type.ensures)
      (g.met.L.LevelReads.fits c.args.level.now);
  few = rw c.element_type.ensures c.requires.few;
}

pub returns-in-Ok-expect_served-clause-named : goal.returns-in-Ok-expect_served-clause-named
returns-in-Ok-expect_served-clause-named g c = λ order.
    let level = (g.L.LevelReads.seen c.args.level.now).level in
    c.encode_fit.ensures.named (given_valid (kind_of level.data_type) (g.I.Indexer.fits c.args.indexer.now level.shape)
    (length (g.I.Indexer.places c.args.indexer.now)) (raw_of c.args.bytes.now) order)

pub returns-in-Ok-clause-updates : goal.returns-in-Ok-clause-updates
returns-in-Ok-clause-updates g c =
    let seen = g.L.LevelReads.seen c.args.level.now in
    let level = seen.level in
    let change = change_of level (g.I.Indexer.fits c.args.indexer.now level.shape)
    (g.I.Indexer.as_region c.args.indexer.now) (g.I.Indexer.places c.args.indexer.now) (raw_of c.args.bytes.now) in
    updates_early (options_of c.args.options.now) change _ _ _ _ seen c.in-Err-expect_served.error
    (λ given served fits means. c.in-Err-expect_served.ensures.memory served) c.in-Err-expect_served.ensures.no_fault

pub returns-in-Ok-clause-named : goal.returns-in-Ok-clause-named
returns-in-Ok-clause-named g c = λ order. refused_still _ _ (g.L.LevelReads.seen c.args.level.now).unserved
    c.in-Err-expect_served.error c.in-Err-expect_served.ensures.named

pub returns-clause-updates : goal.returns-clause-updates
returns-clause-updates g c =
    let seen = g.L.LevelReads.seen c.args.level.now in
    let level = seen.level in
    let fits = g.I.Indexer.fits c.args.indexer.now level.shape in
    let places = g.I.Indexer.places c.args.indexer.now in
    let bytes = raw_of c.args.bytes.now in
    let change = change_of level fits (g.I.Indexer.as_region c.args.indexer.now) places bytes in
    let answer = rw (c.deref.ensures.value, c.shape.ensures, c.element_type.ensures) at c.in-Err.ensures.answer in
    updates_early (options_of c.args.options.now) change _ _ _ _ seen c.in-Err.error
    (λ given served fit means.
    given_memory (kind_of level.data_type) fits (length places) bytes given c.in-Err.error fit means answer)
    (given_no_fault (kind_of level.data_type) fits (length places) bytes c.in-Err.error answer)

pub returns-clause-named : goal.returns-clause-named
returns-clause-named g c = λ order.
    answer_named _ (g.L.LevelReads.seen c.args.level.now).unserved _ c.in-Err.error order
    (rw (c.deref.ensures.value, c.shape.ensures, c.element_type.ensures) at c.in-Err.ensures.answer)

pub returns-in-Ok-expect_served-clause-unserved : goal.returns-in-Ok-expect_served-clause-unserved
returns-in-Ok-expect_served-clause-unserved g c = λ unserved. absurd (unserved c.in-Ok-expect_served.ensures.served)

pub returns-in-Ok-clause-unserved : goal.returns-in-Ok-clause-unserved
returns-in-Ok-clause-unserved g c = λ unserved. record { asks = refl; taken = refl; faults = refl }

pub returns-clause-unserved : goal.returns-clause-unserved
returns-clause-unserved g c = λ unserved. record { asks = refl; taken = refl; faults = refl }
