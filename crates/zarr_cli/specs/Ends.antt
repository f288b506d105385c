-- What a run of a program owes over any source.
use Rattle.std.specs.Prelude.{◌≡◌}
use Rattle.zarr_model.specs.Prelude.{Rose, IsUntouched}
use Rattle.zarr_cli_runs.specs.Ending.{Ending, IsOrMemory, IsGivenLine, ending_line, IsBeforeStore}
use Rattle.zarr_cli_runs.specs.Ending as end
use Rattle.zarr_cli.specs.Seen.{ProgramSeen}

-- what a run owes over any source; the type says that the words are bad
pub record EndsBy (bad : Type 0) (before now : ProgramSeen) (ending : Ending) : Type 0 where
  -- bad words are answered as such, but for want of memory, nothing is read, and the store is as
  -- before
  pub bad_words : ending ≡ end.bad_words → bad
  pub exactly_words : bad → IsOrMemory ending end.bad_words
  pub unread : bad → now.source ≡ before.source
  pub unstored : bad → IsUntouched before.store now.store
  -- a fault from outside is answered only where its count rose
  pub store : ending ≡ end.store_fault → Rose before.store.faults now.store.faults
  pub read : ending ≡ end.read_fault → Rose before.source.faults now.source.faults
  pub write : ending ≡ end.write_fault → Rose before.sink.faults now.sink.faults
  -- on an early end the sink was given its line, or a front of it where the sink failed
  pub line : IsGivenLine (ending_line ending) before.sink now.sink
  -- where the words, the reading or the input decided, the store is as before
  pub untouched : IsBeforeStore ending → IsUntouched before.store now.store
