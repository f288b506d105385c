use Rattle.std.proofs.Common.{rules, arith}
use Rattle.std.proofs.lemmas.Grind.{common_steps}
use Rattle.zarrs_storage.proofs.MemoryStoreLemmas.{get-held_by}
use Rattle.zarrs_storage.proofs.memory_store.MemoryStoreStore.size_key.Goals as goal

pub returns-in_default-clause-reads : goal.returns-in_default-clause-reads
returns-in_default-clause-reads c = record {
  value =
      let found = get-held_by c.self.inside.map c.args.key.now in
      rw (← c.self.view_is, found) (grind (arith, common_steps));
  failed = search rules;
  same = search rules;
  asks = search rules;
  taken = search rules;
  cause = search rules;
}

pub returns-clause-reads : goal.returns-clause-reads
returns-clause-reads c = record {
  value =
      let found = get-held_by c.self.inside.map c.args.key.now in
      rw (← c.self.view_is, found) (grind (arith, common_steps));
  failed = search rules;
  same = search rules;
  asks = search rules;
  taken = search rules;
  cause = search rules;
}
