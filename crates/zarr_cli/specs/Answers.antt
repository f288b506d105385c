-- What a run of lines owes.
use Rattle.std.specs.Prelude.{◌≡◌, ℕ, List, false}
use Rattle.zarr_model.specs.Prelude.{with_keys, Given, Shown, Rose, Description, SeesNoDamage, AreRefused}
use Rattle.zarr_model.specs.Prelude.{IsUntouched}
use Rattle.zarr_cli_runs.specs.Between.{LeavesBetween}
use Rattle.zarr_cli_runs.specs.Ending.{Ending, IsOrMemory, IsWritten, IsGiven, IsGivenFront, IsGivenLine, ending_line}
use Rattle.zarr_cli_runs.specs.Ending.{IsBeforeStore}
use Rattle.zarr_cli_runs.specs.Ending as end
use Rattle.zarr_cli.specs.Words.{Settings}
use Rattle.zarr_cli.specs.Lines.{LinesRun, IsOutOfForm, line_entries, with_entries}
use Rattle.zarr_cli_runs.specs.Job.{IsUnasked}
use Rattle.zarr_cli.specs.Run.{RunCosts, CostsAll, LinesWent, EndedByDamage, SameButLines}

-- what a sink and a store show to the contract of a run
pub record Outside : Type 0 where
  pub sink : Given
  pub store : Shown

abbrev pub outside : Given → Shown → Outside
outside sink store = record { sink = sink; store = store }

-- an ending that lines have: none by the words, the reading or the document
abbrev pub IsOfLines : Ending → Type 0
IsOfLines end.bad_words = ⊥
IsOfLines (end.refused_document why) = ⊥
IsOfLines end.read_fault = ⊥
IsOfLines end.too_long = ⊥
IsOfLines _ = Unit {0}

-- what a run of lines owes: a document, which was opened, key lines and commands
pub record AnswersLines (costs : RunCosts) (description : Description) (settings : Settings)
    (lines : List (List ℕ)) (before now : Outside) (ending : Ending) : Type 0 where
  -- done: the sink has the replies of one plain array and the keys that were asked for
  pub done : ending ≡ end.done →
      LinesWent description settings lines before.store.content now.store.content
      (λ output. IsGiven output before.sink.bytes now.sink.bytes)
  -- a sink that failed on the replies has a front of them
  pub front : ending ≡ end.write_fault →
      LinesWent description settings lines before.store.content now.store.content
      (λ output. IsGivenFront output before.sink.bytes now.sink.bytes)
  -- where replies are written, the commands cost what the array says, and a dump its asks
  pub cost : (run : LinesRun description lines) → IsWritten ending →
      CostsAll costs settings run.commands (with_entries (line_entries lines) before.store)
      now.store
  -- a line out of form is told, the first one, and exactly where there is one
  pub bad_input : (line : ℕ) → ending ≡ end.bad_input line → IsOutOfForm description lines line
  pub exactly_input : (line : ℕ) → IsOutOfForm description lines line →
      IsOrMemory ending (end.bad_input line)
  -- a damaged chunk is the first that a command saw
  pub chunk : (key : List ℕ) → ending ≡ end.damaged_chunk key → (run : LinesRun description lines)
      × EndedByDamage costs.once description settings.options run.commands
      (with_entries (line_entries lines) before.store) now.store key
  -- lines in form that see no damage, as over an honest store, are done, where nothing failed
  pub complete : (run : LinesRun description lines) →
      SeesNoDamage description settings.options run.commands
      (with_keys (line_entries lines) before.store.content) →
      ¬ Rose before.sink.faults now.sink.faults → ¬ Rose before.store.faults now.store.faults →
      IsOrMemory ending end.done
  -- after every end: all keys but those of key lines and of chunks that an accepted command changes
  -- are as before
  pub unchanged : SameButLines description lines before.store.content now.store.content
  -- after every end the store has some key lines set, is left as by a session with this error, or
  -- as by all commands
  pub between : (run : LinesRun description lines) → LeavesBetween costs.once description
      settings.options (line_entries lines) run.commands before.store now.store ending
  -- where replies are written, all commands are refused and no keys are asked for, the store is as
  -- the key lines left it
  pub refused : (run : LinesRun description lines) → IsWritten ending →
      AreRefused description run.commands → settings.dump ≡ false →
      IsUntouched (with_entries (line_entries lines) before.store) now.store
  -- where these are refused and no keys are asked for, nothing is asked, however it ends
  pub unasked : (run : LinesRun description lines) → AreRefused description run.commands →
      settings.dump ≡ false → IsUnasked before.store now.store
  -- a fault from outside is answered only where its count rose
  pub store : ending ≡ end.store_fault → (run : LinesRun description lines)
      × Rose before.store.faults now.store.faults
  pub write : ending ≡ end.write_fault → Rose before.sink.faults now.sink.faults
  -- on an early end the sink was given its line, or a front of it where the sink failed
  pub line : IsGivenLine (ending_line ending) before.sink now.sink
  -- where a line decided, the store is as before
  pub untouched : IsBeforeStore ending → IsUntouched before.store now.store
  -- and there are no other endings
  pub own : IsOfLines ending
