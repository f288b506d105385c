use Rattle.std.proofs.Common.{rules, [], length}
use Rattle.zarrs_codec.specs.Prelude.{kind_of, raw_of, options_of, chosen}
use Rattle.zarrs_codec.proofs.SelectsLaws.{put_holds, put_written, put_framed, selects_into, selects_not}
use Rattle.zarrs_codec.proofs.SelectsLaws.{counts_after, counts_still}
use Rattle.zarrs_codec.proofs.into_target.read_into_fixed.Goals as goal

pub returns-in-Ok-clause-reads : goal.returns-in-Ok-clause-reads
returns-in-Ok-clause-reads g c = record {
  counts = counts_after _ _ _ _ c.in-Ok.elements c.put_fixed.result
      (rw c.num_elements-num.ensures at c.in-Ok.ensures.counts);
  selects = selects_into (options_of c.args.options.now) (g.I.Indexer.as_region c.args.indexer.now)
      (g.I.Indexer.places c.args.indexer.now) _ _ [] c.args.view.now _ _ c.in-Ok.elements
      c.put_fixed.result (rw c.num_elements-num.ensures at c.in-Ok.ensures.selects) c.put_fixed.ensures.exact;
}

pub returns-in-Ok-clause-puts : goal.returns-in-Ok-clause-puts
returns-in-Ok-clause-puts g c =
    let level = (g.H.ArrayPartialDecoderTraits.seen c.args.handle.now).level in
    let places = g.I.Indexer.places c.args.indexer.now in
    record {
      put = λ list served is target. put_holds (kind_of level.data_type) (length places) (raw_of c.in-Ok.elements)
          [] [] c.args.view.now c.put_fixed.new.data (chosen level places list)
          c.put_fixed.result (c.in-Ok.ensures.selects.value list served is) target c.put_fixed.ensures.put;
      written = λ list served is. put_written (kind_of level.data_type) (length places) (raw_of c.in-Ok.elements)
          [] [] c.args.view.now c.put_fixed.new.data (chosen level places list)
          c.put_fixed.result (c.in-Ok.ensures.selects.value list served is) c.put_fixed.ensures.put;
      framed = put_framed (raw_of c.in-Ok.elements) [] [] c.args.view.now
          c.put_fixed.new.data c.put_fixed.result c.put_fixed.ensures.put;
      kept = search rules;
    }

pub returns-in-Err-clause-reads : goal.returns-in-Err-clause-reads
returns-in-Err-clause-reads g c = record {
  counts = counts_still _ _ _ _ c.in-Err.error (rw c.num_elements-num.ensures at c.in-Err.ensures.counts);
  selects = selects_not (options_of c.args.options.now) (g.I.Indexer.as_region c.args.indexer.now)
      (g.I.Indexer.places c.args.indexer.now) _ _ [] c.args.view.now _ _ c.in-Err.error
      (rw c.num_elements-num.ensures at c.in-Err.ensures.selects);
}
