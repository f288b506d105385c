-- What a store of slices is, and what it shows.
use Rattle.std.specs.Prelude.{ℕ, ◌+◌, List}
use Rattle.std.specs.Borrow.{GName}
use Rattle.std.specs.BTreeMap.{BTreeMap}
use Rattle.zarr_model.specs.Prelude.{Shown}
use Rattle.zarrs_storage.specs.Calls.{capped_count}
use Rattle.zarr_refs.specs.declared.slices.Slice.{Slice}
use Rattle.zarr_refs.specs.Slices.{slice_at, slice_held}

-- which reference its base is, its slices, its own counts, and what its base shows
pub record Over : Type 0 where
  pub name : GName
  pub slices : BTreeMap (List ℕ) Slice
  pub own_faults : ℕ
  pub asks : ℕ
  pub taken : ℕ
  pub base : Shown

-- under each key the bytes of its slice; the faults of the base and its own; its own other counts,
-- and a writing call for each fault of its own
abbrev pub over_shown : Over → Shown
over_shown store = record {
  content = λ key. slice_held store.base.content (slice_at store.slices key);
  faults = capped_count (store.base.faults + store.own_faults);
  asks = capped_count store.asks;
  taken = capped_count store.taken;
  puts = capped_count store.own_faults;
}
