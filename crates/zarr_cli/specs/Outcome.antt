-- What an early ending tells of words, source and store, over any source.
use Rattle.zarr_cli_runs.specs.Ending.{Ending, done, bad_words, bad_input, refused_document, damaged_chunk}
use Rattle.zarr_cli_runs.specs.Ending.{store_fault, read_fault, write_fault, too_long, out_of_memory}

-- a type says whether the words are bad, others whether the source and a store failed, and that the
-- stores are as before
pub record Outcome : Type 1 where
  pub bad : Type 0
  pub read_failed : Type 0
  pub store_failed : Type 0
  pub untouched : Type 0

-- what an ending that is not the last one tells
abbrev pub TellsEarly : Outcome → Ending → Type 0
TellsEarly o done = ⊥
TellsEarly o bad_words = o.bad × o.untouched
TellsEarly o (bad_input line) = o.untouched
TellsEarly o (refused_document why) = o.untouched
TellsEarly o (damaged_chunk key) = Unit {0}
TellsEarly o store_fault = o.store_failed
TellsEarly o read_fault = o.read_failed × o.untouched
TellsEarly o write_fault = ⊥
TellsEarly o too_long = o.untouched
TellsEarly o out_of_memory = Unit {0}
