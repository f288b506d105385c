use Rattle.zarrs_codec.specs.Prelude.{raw_of, options_of, change_of}
use Rattle.zarrs_codec.proofs.NamedLaws.{refused_still}
use Rattle.zarrs_codec.proofs.UpdateLaws.{updates_after, updates_not}
use Rattle.zarrs_codec_partial_elements.proofs.ServedLaws.{step_named}
use Rattle.zarrs_codec_partial_elements.proofs.StepLaws.{given_or_read}
use Rattle.zarrs_codec_partial_elements.proofs.encoding.encode_fit.Goals as goal

pub store_elements-requires : goal.store_elements-requires
store_elements-requires g c = record {
  served = g.met.L.LevelReads.same_served c.args.level.now c.new_elements.new.level c.in-Ok.ensures.same
      c.requires.served;
}

pub returns-in-Ok-clause-updates : goal.returns-in-Ok-clause-updates
returns-in-Ok-clause-updates g c =
    let writes = g.L.LevelWrites in
    let laws = g.met.L.LevelWrites in
    let first = c.args.level.now in
    let then = c.new_elements.new.level in
    let seen = g.L.LevelReads.seen in
    let change = change_of (seen first).level (g.I.Indexer.fits c.args.indexer.now (seen first).level.shape)
    (g.I.Indexer.as_region c.args.indexer.now) (g.I.Indexer.places c.args.indexer.now) (raw_of c.args.bytes.now) in
    let makes = c.in-Ok.ensures in
    updates_after (options_of c.args.options.now) change _ (writes.unencoded first) (writes.encodes first)
    (writes.encodes_short first) (writes.unencoded then) (writes.encodes then) (writes.encodes_short then)
    (seen first) (seen then) (seen c.store_elements.new.self) c.in-Ok.elements c.store_elements.result makes.makes.made
    makes.makes.reads c.store_elements.ensures.stores
    (λ list e told. laws.same_unencoded first then list e makes.same told)
    (λ list is. laws.same_encodes first then list makes.same is) (λ takes. laws.same_short first then makes.same takes)

pub returns-in-Ok-clause-named : goal.returns-in-Ok-clause-named
returns-in-Ok-clause-named g c = λ there.
    let first = g.L.LevelReads.seen c.args.level.now in
    let then = g.L.LevelReads.seen c.new_elements.new.level in
    let makes = c.in-Ok.ensures.makes in
    step_named first.unserved then.unserved c.in-Ok.elements _ c.store_elements.result makes.reads.keeps.unserved
    (given_or_read _ makes.served (λ all. makes.valid all there))
    (λ valid. c.store_elements.ensures.named (rw makes.reads.keeps.level valid))

pub returns-in-Ok-clause-same : goal.returns-in-Ok-clause-same
returns-in-Ok-clause-same g c = g.met.L.LevelReads.same_twice c.args.level.now c.new_elements.new.level
    c.store_elements.new.self c.in-Ok.ensures.same c.store_elements.ensures.same

pub returns-in-Err-clause-updates : goal.returns-in-Err-clause-updates
returns-in-Err-clause-updates g c =
    let seen = g.L.LevelReads.seen in
    let first = seen c.args.level.now in
    let change = change_of first.level (g.I.Indexer.fits c.args.indexer.now first.level.shape)
    (g.I.Indexer.as_region c.args.indexer.now) (g.I.Indexer.places c.args.indexer.now) (raw_of c.args.bytes.now) in
    updates_not (options_of c.args.options.now) change _ _ _ _ first (seen c.new_elements.new.level) c.in-Err.error
    c.in-Err.ensures.makes.made c.in-Err.ensures.makes.reads

pub returns-in-Err-clause-named : goal.returns-in-Err-clause-named
returns-in-Err-clause-named g c = λ there. refused_still _ _ (g.L.LevelReads.seen c.args.level.now).unserved
    c.in-Err.error c.in-Err.ensures.makes.named
