-- A store of slices as what it is over.
use Rattle.zarrs_storage.specs.declared.store.Store.{Ghosts}
use Rattle.zarr_refs.specs.declared.ref_store.RefStore.{RefStore}
use Rattle.zarr_refs.specs.Over.{Over}

abbrev pub over_of : {X : Type 0} → (g : Ghosts X) → RefStore X g → Over
over_of g store = record {
  name = store.base.ghost_name;
  slices = store.slices;
  own_faults = store.own_faults;
  asks = store.asks;
  taken = store.taken;
  base = g.shown store.base.now;
}
