use Rattle.std.proofs.Common.{rules, ◌≡◌, ℕ, List, Some, None, inl, sym, subst}
use Rattle.std.specs.Ordering.{nat_cmp}
use Rattle.std.specs.Cmp.Lexicographic.{slice_cmp}
use Rattle.std.specs.BTreeMap.{get_by}
use Rattle.zarr_model.specs.Prelude.{PutsKey, MayPutKey}
use Rattle.zarrs_storage.specs.MemoryStore.{content_of, memory_of}
use Rattle.zarrs_storage.specs.Parts.{held_bytes, with_parts}
use Rattle.zarrs_storage.proofs.MemoryStoreLemmas.{PutsKey-parts, PutsKey-new, same-written, on_err}
use Rattle.zarrs_storage.proofs.memory_store.MemoryStoreStore.set_partial_many.Goals as goal

pub returns-in_err-put_parts : goal.returns-in_err-put_parts
returns-in_err-put_parts c =
    let key = c.args.key.now in
    let w = c.put_parts.new.value in
    let now = memory_of (c.get_mut.follows.lender w) c.self.inside.asks c.self.inside.taken c.self.inside.puts in
    let here : get_by (slice_cmp nat_cmp key) c.self.inside.map ≡ Some c.in-Some.value.now =
    sym c.in-Some.ensures.value in
    let kept = same-written c.self.inside.map (c.get_mut.follows.lender w) key c.in-Some.value.now w
    (c.get_mut.follows.holds w) here c.in_err-put_parts.ensures.err in
    let same : (q : List ℕ) → content_of now q ≡ content_of c.args.self.now q =
    subst (λ old. (q : List ℕ) → content_of now q ≡ content_of old q) c.self.view_is kept in
    let may : MayPutKey (content_of c.args.self.now) (content_of now) key
    (Some (with_parts c.args.parts.now (held_bytes (content_of c.args.self.now key)))) =
    record { here = inl (same key); others = λ q apart. same q } in
    record {
      ok = search rules;
      failed = on_err c.from_residual.result may;
      memory = λ _ q. same q;
      plain = search rules;
      puts = search rules;
      asks = search rules;
      taken = search rules;
      cause = search rules;
    }

pub returns-in-Some : goal.returns-in-Some
returns-in-Some c =
    let key = c.args.key.now in
    let w = c.put_parts.new.value in
    let now = memory_of (c.get_mut.follows.lender w) c.self.inside.asks c.self.inside.taken c.self.inside.puts in
    let here : get_by (slice_cmp nat_cmp key) c.self.inside.map ≡ Some c.in-Some.value.now =
    sym c.in-Some.ensures.value in
    let put = PutsKey-parts c.self.inside.map (c.get_mut.follows.lender w) key c.in-Some.value.now w c.args.parts.now
    (c.get_mut.follows.holds w) here c.in_ok-put_parts.ensures.ok in
    record {
      ok = subst (λ old. PutsKey (content_of old) (content_of now) key
          (Some (with_parts c.args.parts.now (held_bytes (content_of old key))))) c.self.view_is put;
      failed = search rules;
      memory = search rules;
      plain = search rules;
      puts = search rules;
      asks = search rules;
      taken = search rules;
      cause = search rules;
    }

pub returns : goal.returns
returns c =
    let key = c.args.key.now in
    let now = memory_of c.insert.new.self c.self.inside.asks c.self.inside.taken c.self.inside.puts in
    let absent : get_by (slice_cmp nat_cmp key) c.self.inside.map ≡ None = sym c.in_default.ensures.value in
    let put = PutsKey-new c.self.inside.map c.get_mut.follows.lender-at-none c.insert.new.self key c.in_ok-key.key
    c.new-value.result.items c.put_parts-2.new.value c.args.parts.now
    c.get_mut.follows.holds-at-none c.in_ok-insert.ensures.updates c.in_ok-key.ensures absent c.new-value.ensures.items
    c.in_ok-put_parts-2.ensures.ok in
    record {
      ok = subst (λ old. PutsKey (content_of old) (content_of now) key
          (Some (with_parts c.args.parts.now (held_bytes (content_of old key))))) c.self.view_is put;
      failed = search rules;
      memory = search rules;
      plain = search rules;
      puts = search rules;
      asks = search rules;
      taken = search rules;
      cause = search rules;
    }
