-- What a run of the program owes.
use Rattle.std.specs.Prelude.{◌≡◌, ℕ, ◌+◌, List, [], length, false, Some}
use Rattle.zarr_model.specs.Prelude.{Rose, all_asks, all_puts, counted, AreRefused, IsUntouched}
use Rattle.zarr_cli_runs.specs.array.parts.Document.{describe}
use Rattle.zarr_cli_runs.specs.array.parts.Opening.{OpenRefusal}
use Rattle.zarr_cli.specs.Words.{HasBadWords}
use Rattle.zarr_cli.specs.ProgramInput.{input_entries, with_entries, store_after_keys, HasLongInput, HasBadLine}
use Rattle.zarr_cli.specs.ProgramInput.{HasRefusedDocument}
use Rattle.zarr_cli.specs.Program.{Run, HasRunDamage, IsCutAtDamage, WentThrough, IsRunnable, LeavesInput}
use Rattle.zarr_cli.specs.Program.{SameButChanged}
use Rattle.zarr_cli_runs.specs.Commands.{TakesRun}
use Rattle.zarr_cli_runs.specs.Keys.{IsDumpAsks}
use Rattle.zarr_cli_runs.specs.Ending.{Ending, IsOrMemory, IsWritten, IsGiven, IsGivenFront}
use Rattle.zarr_cli_runs.specs.Ending as end
use Rattle.zarr_cli.specs.Ends.{EndsBy}
use Rattle.zarr_cli.specs.Seen.{ProgramSeen}

-- what a run owes over a source that tells its bytes, which are the input
pub record AnswersWords (words : List (List ℕ)) (input : List ℕ) (before now : ProgramSeen)
    (ending : Ending) : Type 0 where
  -- done: the sink has the replies of one plain array and the keys that were asked for
  pub done : ending ≡ end.done → WentThrough words input before.store.content now.store.content
      (λ output. IsGiven output before.sink.bytes now.sink.bytes)
  -- the source has no byte left
  pub read_whole : ending ≡ end.done → now.source.left ≡ Some []
  -- where replies are written, there were as many reading calls as chunks that its reads and writes
  -- meet, and those of a dump
  pub asks : (run : Run words input) → IsWritten ending →
      (more : ℕ) × IsDumpAsks run.settings.dump now.store.content more
      × (now.store.asks ≡ counted before.store.asks
      (all_asks (describe run.document) run.commands + more))
  -- as many writing calls as key lines and chunks that its writes and erases change
  pub puts : (run : Run words input) → IsWritten ending →
      now.store.puts ≡ counted before.store.puts
      (length (input_entries input) + all_puts (describe run.document) run.commands)
  -- and where the codec `bytes` is all of the chain and no keys are asked for, exactly the bytes
  -- that its commands need were taken, where presence before each is known
  pub taken : (run : Run words input) → IsWritten ending → run.settings.dump ≡ false →
      TakesRun run.document run.settings.options run.commands
      (with_entries (input_entries input) before.store) now.store
  -- each early answer has its cause
  pub bad_input : (line : ℕ) → ending ≡ end.bad_input line → HasBadLine words input line
  pub document : (why : OpenRefusal) → ending ≡ end.refused_document why →
      HasRefusedDocument words input why
  pub too_long : ending ≡ end.too_long → HasLongInput words input
  -- a damaged chunk is the first that a command saw, and its value stands; the run ended there as a
  -- session does
  pub chunk : (key : List ℕ) → ending ≡ end.damaged_chunk key →
      HasRunDamage words input before.store.content key
      × (now.store.content key ≡ store_after_keys input before.store.content key)
      × IsCutAtDamage words input before.store now.store key
  -- where the source did not fail, each cause in the input has its answer, but for want of memory
  pub exactly_long : ¬ Rose before.source.faults now.source.faults → HasLongInput words input →
      IsOrMemory ending end.too_long
  pub exactly_input : (line : ℕ) → ¬ Rose before.source.faults now.source.faults →
      HasBadLine words input line →
      IsOrMemory ending (end.bad_input line)
  pub exactly_document : (why : OpenRefusal) → ¬ Rose before.source.faults now.source.faults →
      HasRefusedDocument words input why → IsOrMemory ending (end.refused_document why)
  -- a run in form that sees no damage, as over an honest store, is done, where nothing failed
  pub complete : IsRunnable words input before.store.content →
      ¬ Rose before.source.faults now.source.faults →
      ¬ Rose before.sink.faults now.sink.faults → ¬ Rose before.store.faults now.store.faults →
      IsOrMemory ending end.done
  -- a sink that failed on the replies has a front of them
  pub front : ending ≡ end.write_fault →
      WentThrough words input before.store.content now.store.content
      (λ output. IsGivenFront output before.sink.bytes now.sink.bytes)
  -- after every end: all keys but those of key lines and of chunks that an accepted command changes
  -- are as before
  pub unchanged : SameButChanged words input before.store.content now.store.content
  -- after every end the store has some key lines set, is left as by a session with this error, or
  -- as by all commands
  pub between : LeavesInput words input before.store now.store ending
  -- where replies are written, all commands are refused and no keys are asked for, the store is as
  -- the key lines left it
  pub refused : (run : Run words input) → IsWritten ending →
      AreRefused (describe run.document) run.commands →
      run.settings.dump ≡ false → IsUntouched (with_entries (input_entries input) before.store)
      now.store
  -- where these are refused and no keys are asked for, nothing is asked, however it ends
  pub unasked : (run : Run words input) → AreRefused (describe run.document) run.commands →
      run.settings.dump ≡ false →
      (now.store.asks ≡ before.store.asks) × (now.store.taken ≡ before.store.taken)

-- what a run owes over any source
abbrev pub Ends : List (List ℕ) → ProgramSeen → ProgramSeen → Ending → Type 0
Ends words before now ending = EndsBy (HasBadWords words) before now ending
