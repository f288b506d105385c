-- What a reading call keeps of a store of slices.
use Rattle.std.specs.Prelude.{◌≡◌, ℕ, ◌+◌, ◌-◌, ◌^◌, ◌<◌, ◌≤◌, refl}
use Rattle.std.proofs.Common.{◌∙◌, arith, le_trans, le_refl}
use Rattle.zarrs_storage.specs.Store.{SameContent}
use Rattle.zarr_refs.specs.Over.{Over}

-- a count of its own never falls, and that of its base rose by no more, as long as its own one is
-- below the last value
pub record CountsNoMore (own own_new below below_new : ℕ) : Type 0 where
  pub rises : own ≤ own_new
  pub no_more : own_new < 2 ^ 64 - 1 → below_new + own ≤ below + own_new

-- the base is the same reference, under the same slices; it holds what it held, had no writing
-- call, and was asked and has handed out no more than its reads were; no failure is its own
pub record KeepsOver (old new : Over) : Type 0 where
  pub same_reference : new.name ≡ old.name
  pub same_slices : new.slices ≡ old.slices
  pub same_faults : new.own_faults ≡ old.own_faults
  pub same : SameContent old.base new.base
  pub puts : new.base.puts ≡ old.base.puts
  pub later : old.base.faults ≤ new.base.faults
  pub asks : CountsNoMore old.asks new.asks old.base.asks new.base.asks
  pub taken : CountsNoMore old.taken new.taken old.base.taken new.base.taken

counts_self : (own below : ℕ) → CountsNoMore own own below below
counts_self own below = record { rises = le_refl _; no_more = λ h. le_refl _ }

counts_twice : {a b c k l m : ℕ} → CountsNoMore a b k l → CountsNoMore b c l m →
    CountsNoMore a c k m
counts_twice {a} {b} {c} {k} {l} {m} first second = record {
  rises = le_trans first.rises second.rises;
  no_more = λ below.
      let rises : b ≤ c = second.rises in
      let early : b < 2 ^ 64 - 1 = omega (arith, rises, below) in
      let one = first.no_more early in
      let two = second.no_more below in
      omega (arith, one, two);
}

pub keeps_self : {store : Over} → KeepsOver store store
keeps_self {store} = record {
  same_reference = refl;
  same_slices = refl;
  same_faults = refl;
  same = λ key. refl;
  puts = refl;
  later = le_refl _;
  asks = counts_self store.asks store.base.asks;
  taken = counts_self store.taken store.base.taken;
}

pub keeps_twice : {a b c : Over} → KeepsOver a b → KeepsOver b c → KeepsOver a c
keeps_twice first second = record {
  same_reference = second.same_reference ∙ first.same_reference;
  same_slices = second.same_slices ∙ first.same_slices;
  same_faults = second.same_faults ∙ first.same_faults;
  same = λ key. second.same key ∙ first.same key;
  puts = second.puts ∙ first.puts;
  later = le_trans first.later second.later;
  asks = counts_twice first.asks second.asks;
  taken = counts_twice first.taken second.taken;
}
