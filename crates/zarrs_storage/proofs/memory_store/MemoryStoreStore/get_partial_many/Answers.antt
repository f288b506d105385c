use Rattle.std.proofs.Common.{◌≡◌, ◌∙◌, ap, sym, subst, Some, None, option_map, rules, arith}
use Rattle.std.proofs.lemmas.Grind.{common_steps}
use Rattle.zarrs_storage.specs.ByteRange.{slices_of}
use Rattle.zarrs_storage.specs.Store.{invalid_range, IsRangeError, range_fault}
use Rattle.zarrs_storage.specs.MemoryStore.{content_of}
use Rattle.zarrs_storage.proofs.MemoryStoreLemmas.{get-held_by}
use Rattle.zarrs_storage.proofs.RangeLemmas.{range_error}
use Rattle.zarrs_storage.proofs.memory_store.MemoryStoreStore.get_partial_many.Goals as goal

pub returns-in_default-clause-reads : goal.returns-in_default-clause-reads
returns-in_default-clause-reads c =
    let found = get-held_by c.self.inside.map c.args.key.now in
    let absent : None ≡ content_of c.args.self.now c.args.key.now =
    rw (← c.self.view_is, found) (grind (arith, common_steps)) in
    record {
      value = ap (option_map (slices_of c.args.ranges.now)) absent;
      valid = ap (invalid_range c.args.ranges.now) (sym absent);
      error = search rules;
      same = search rules;
      asks = search rules;
      taken = search rules;
      taken_err = search rules;
      cause = search rules;
    }

pub returns-in_err-parts-clause-reads : goal.returns-in_err-parts-clause-reads
returns-in_err-parts-clause-reads c =
    let found = get-held_by c.self.inside.map c.args.key.now in
    let here : Some c.deref.result.now ≡ content_of c.args.self.now c.args.key.now =
    rw (← c.self.view_is, found) (grind (arith, common_steps)) in
    let told :
    IsRangeError c.args.ranges.now (content_of c.args.self.now c.args.key.now) (range_fault c.in_err-parts.field-0.0) =
    subst (λ held. IsRangeError c.args.ranges.now held (range_fault c.in_err-parts.field-0.0)) here
    (range_error c.args.ranges.now c.deref.result.now c.in_err-parts.field-0.0 c.in_err-parts.ensures.refused) in
    record {
      value = search rules;
      valid = search rules;
      error = search rules;
      same = search rules;
      asks = search rules;
      taken = search rules;
      taken_err = search rules;
      cause = search rules;
    }

pub returns-clause-reads : goal.returns-clause-reads
returns-clause-reads c =
    let found = get-held_by c.self.inside.map c.args.key.now in
    let here : Some c.deref.result.now ≡ content_of c.args.self.now c.args.key.now =
    rw (← c.self.view_is, found) (grind (arith, common_steps)) in
    record {
      value = ap Some c.in_ok-parts.ensures.value ∙ ap (option_map (slices_of c.args.ranges.now)) here;
      valid = ap (invalid_range c.args.ranges.now) (sym here) ∙ c.in_ok-parts.ensures.valid;
      error = search rules;
      same = search rules;
      asks = search rules;
      taken = search rules;
      taken_err = search rules;
      cause = search rules;
    }
