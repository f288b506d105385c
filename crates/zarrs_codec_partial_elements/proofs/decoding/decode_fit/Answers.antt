use Rattle.std.proofs.Common.{◌∙◌, sym, ap, option_map}
use Rattle.zarrs_codec.specs.Prelude.{region as box_of, options_of, placed}
use Rattle.zarrs_codec_partial_elements.proofs.StepLaws.{smaller_is, boxed_selected, boxed_valid, memory_selected}
use Rattle.zarrs_codec_partial_elements.proofs.decoding.decode_fit.Goals as goal

pub returns-in-Ok-Some-clause-selects : goal.returns-in-Ok-Some-clause-selects
returns-in-Ok-Some-clause-selects g c =
    let asked = g.I.Indexer.as_region c.args.indexer.now in
    let box = box_of c.in-Ok-Some.region in
    let is = sym c.in-Ok-Some.ensures ∙ ap (option_map box_of) c.in-Ok-Some.field-0-is in
    boxed_selected box (g.I.Indexer.places c.args.indexer.now)
    (g.met.I.Indexer.boxed c.args.indexer.now box (smaller_is c.args.numbers.now asked box is)).0
    (c.decode_box.ensures.reads.selects asked (rw c.requires.shape at is))

pub returns-in-Ok-Some-clause-valid : goal.returns-in-Ok-Some-clause-valid
returns-in-Ok-Some-clause-valid g c = λ served.
    let asked = g.I.Indexer.as_region c.args.indexer.now in
    let box = box_of c.in-Ok-Some.region in
    let is = sym c.in-Ok-Some.ensures ∙ ap (option_map box_of) c.in-Ok-Some.field-0-is in
    boxed_valid (g.L.LevelReads.seen c.args.level.now).level box (g.I.Indexer.places c.args.indexer.now)
    c.decode_box.result (g.met.I.Indexer.boxed c.args.indexer.now box (smaller_is c.args.numbers.now asked box is)).0
    (c.decode_box.ensures.reads.valid served)

pub returns-in-Ok-None-clause-selects : goal.returns-in-Ok-None-clause-selects
returns-in-Ok-None-clause-selects g c =
    let is = sym c.in-Ok-None.ensures ∙ ap (option_map box_of) c.in-Ok-None.field-0-is in
    c.decode_listed.ensures.reads.selects (g.I.Indexer.as_region c.args.indexer.now) (rw c.requires.shape at is)

pub returns-in-Err-clause-selects : goal.returns-in-Err-clause-selects
returns-in-Err-clause-selects g c =
    let seen = g.L.LevelReads.seen c.args.level.now in
    memory_selected (options_of c.args.options.now) (g.I.Indexer.as_region c.args.indexer.now)
    (placed (g.I.Indexer.places c.args.indexer.now) seen.level) _ seen _ c.from.ensures

pub returns-in-Err-clause-kept : goal.returns-in-Err-clause-kept
returns-in-Err-clause-kept g c = record {
  same = g.met.L.LevelReads.same_self c.args.level.now;
  tells = λ under asked e told. told;
}
