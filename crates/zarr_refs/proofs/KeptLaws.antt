-- What a read keeps of a store of slices.
use Rattle.std.proofs.Common.{◌≡◌, refl, ℕ, ◌+◌, ◌-◌, ◌^◌, ◌≤◌, arith, le_refl}
use Rattle.zarrs_codec_traits.specs.Prelude.{Shown, counted, SameContent}
use Rattle.zarr_refs.specs.Over.{Over}
use Rattle.zarr_refs.specs.Kept.{CountsNoMore, KeepsOver}

pub counts_more : (own own_new n below below_new : ℕ) → own ≤ 2 ^ 64 - 1 → own_new ≡ counted own n →
    below_new ≤ below + n → CountsNoMore own own_new below below_new
counts_more own own_new n below below_new fits is more = record {
  rises = omega (arith, fits, is);
  no_more = λ early. omega (arith, is, more, early);
}

pub counts_taken : (own own_new n below below_new : ℕ) → own ≤ 2 ^ 64 - 1 → own_new ≡ counted own n →
    below_new ≡ counted below n → CountsNoMore own own_new below below_new
counts_taken own own_new n below below_new fits is more =
    counts_more own own_new n below below_new fits is (omega (arith, more))

pub counts_same : (own below below_new : ℕ) → below_new ≡ below → CountsNoMore own own below below_new
counts_same own below below_new is = record { rises = le_refl _; no_more = λ early. omega (arith, is) }

pub read_kept : (store : Over) (asks_new taken_new : ℕ) (new : Shown) →
    SameContent store.base new → new.puts ≡ store.base.puts → store.base.faults ≤ new.faults → store.asks ≤ 2 ^ 64 - 1 →
    asks_new ≡ counted store.asks 1 → new.asks ≤ store.base.asks + 1 →
    CountsNoMore store.taken taken_new store.base.taken new.taken →
    KeepsOver store (record store { asks = asks_new; taken = taken_new; base = new })
read_kept store asks_new taken_new new same puts later fits asked below handed = record {
  same_reference = refl;
  same_slices = refl;
  same_faults = refl;
  same = same;
  puts = puts;
  later = later;
  asks = counts_more store.asks asks_new 1 store.base.asks new.asks fits asked below;
  taken = handed;
}
