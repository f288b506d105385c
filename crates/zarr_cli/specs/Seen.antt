-- What a source, a sink and a store show to the contract of a program.
use Rattle.zarr_model.specs.Prelude.{Told, Given, Shown}

pub record ProgramSeen : Type 0 where
  pub source : Told
  pub sink : Given
  pub store : Shown

abbrev pub seen : Told → Given → Shown → ProgramSeen
seen source sink store = record { source = source; sink = sink; store = store }
