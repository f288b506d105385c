use Rattle.std.proofs.Common.{◌∙◌, sym, ap, not, length, Ok, None}
use Rattle.zarrs_codec.specs.Prelude.{has_long_element, raw_of, options_of, change_of}
use Rattle.zarrs_codec.proofs.UpdateLaws.{reads_none}
use Rattle.zarrs_codec_partial_elements.proofs.ServedLaws.{copied_valid}
use Rattle.zarrs_codec_partial_elements.proofs.StepLaws.{both_ways, makes_so, makes_early}
use Rattle.zarrs_codec_partial_elements.proofs.WriteLaws.{all_places, all_gives}
use Rattle.zarrs_codec_partial_elements.proofs.encoding.new_elements.Goals as goal

pub returns-in-Ok-clause-makes : goal.returns-in-Ok-clause-makes
returns-in-Ok-clause-makes g c =
    let old = g.L.LevelReads.seen c.args.level.now in
    let level = old.level in
    let under = options_of c.args.options.now in
    let asked = g.I.Indexer.as_region c.args.indexer.now in
    let places = g.I.Indexer.places c.args.indexer.now in
    let change =
    change_of level (g.I.Indexer.fits c.args.indexer.now level.shape) asked places (raw_of c.args.bytes.now) in
    let covers = sym c.in-Ok-true.field-0-test ∙ (rw c.requires.shape at c.in-Ok-true.ensures) in
    let long =
    all_places level.shape asked places (sym covers) (λ box is. (g.met.I.Indexer.boxed c.args.indexer.now box is).0) in
    record {
      made = record {
        gives = λ given served means. all_gives level change.all places change.indices given (old.list under)
            (raw_of c.args.bytes.now) (raw_of c.in-Ok.copy) covers long c.in-Ok.ensures.value means;
        failed = λ given served means. tt;
        short = λ served few short. ap has_long_element c.in-Ok.ensures.value ∙ short;
        fault = tt;
      };
      reads = reads_none _ None old (Ok c.in-Ok.copy) (ap not (sym covers));
      named = tt;
      served = λ none. both_ways change.all covers none;
      valid = λ all there. copied_valid level (length places) (raw_of c.args.bytes.now) (raw_of c.in-Ok.copy) long
          c.in-Ok.ensures.value there;
    }

pub returns-in-Err-try_clone-clause-makes : goal.returns-in-Err-try_clone-clause-makes
returns-in-Err-try_clone-clause-makes g c = makes_early (options_of c.args.options.now) _ _
    (g.L.LevelReads.seen c.args.level.now) _ c.from.ensures

pub returns-in-Ok-false-clause-makes : goal.returns-in-Ok-false-clause-makes
returns-in-Ok-false-clause-makes g c = makes_so
    (sym c.in-Ok-false.field-0-test ∙ (rw c.requires.shape at c.in-Ok-false.ensures)) c.updated_elements.ensures.makes

pub returns-in-Err-clause-makes : goal.returns-in-Err-clause-makes
returns-in-Err-clause-makes g c = makes_early (options_of c.args.options.now) _ _
    (g.L.LevelReads.seen c.args.level.now) _ c.from-in-Err.ensures
