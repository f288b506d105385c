-- A run that is made from a number: what it prints, what it leaves, and what it owes.
use Rattle.std.specs.Prelude.{◌≡◌, true, ℕ, ◌+◌, List, []}
use Rattle.zarr_model.specs.Prelude.{Options, Content, Rose, all_asks, all_puts, counted, IsDamageSeen, SeesNoDamage}
use Rattle.zarr_cli_runs.specs.MadeCommands.{made_commands}
use Rattle.zarr_cli_runs.specs.Between.{LeavesBetween}
use Rattle.zarr_cli_runs.specs.Commands.{IsChangedKey, EndsAtDamage}
use Rattle.zarr_cli_runs.specs.Ending.{Ending, IsOrMemory, IsGiven, IsGivenFront, IsWritten, IsBeforeStore}
use Rattle.zarr_cli_runs.specs.Ending as end
use Rattle.zarr_cli.specs.Seen.{ProgramSeen}
use Rattle.zarr_cli_runs.specs.Made.{made_array, SumsUp}

-- the made commands went through, and wrote what passes the test: all of their text, or a front
abbrev pub WentMade : ℕ → Options → Content → Content → (List ℕ → Type 0) → Type 0
WentMade number options old new wrote = (output : List ℕ)
    × SumsUp made_array options (made_commands number) old new output × wrote output

-- what a run that is made from a number owes
pub record AnswersMade (number : ℕ) (options : Options) (before now : ProgramSeen)
    (ending : Ending) : Type 0 where
  -- done: the sink has the summary of the replies of one plain array, and of the final keys
  pub done : ending ≡ end.done → WentMade number options before.store.content now.store.content
      (λ output. IsGiven output before.sink.bytes now.sink.bytes)
  -- where its text is written, there were as many reading calls as chunks that reads and writes
  -- meet, and one for the keys
  pub asks : IsWritten ending → now.store.asks
      ≡ counted before.store.asks (all_asks made_array (made_commands number) + 1)
  -- and as many writing calls as chunks that writes and erases change
  pub puts : IsWritten ending → now.store.puts
      ≡ counted before.store.puts (all_puts made_array (made_commands number))
  -- nothing is read, and no ending is one of the words, the reading or an input
  pub unread : now.source ≡ before.source
  pub begun : ¬ IsBeforeStore ending
  -- a damaged chunk is the first that a command saw, and its value stands; the run ended there as a
  -- session does
  pub chunk : (key : List ℕ) → ending ≡ end.damaged_chunk key →
      IsDamageSeen made_array options (made_commands number) before.store.content key
      × (now.store.content key ≡ before.store.content key)
      × EndsAtDamage true made_array options (made_commands number) before.store now.store key
  -- after every end the store is unchanged, left as by a session with this error, or as by all
  -- commands
  pub between : LeavesBetween true made_array options [] (made_commands number)
      before.store now.store ending
  -- a run that sees no damage, as over an honest store, is done, where nothing failed
  pub complete : SeesNoDamage made_array options (made_commands number) before.store.content →
      ¬ Rose before.sink.faults now.sink.faults → ¬ Rose before.store.faults now.store.faults →
      IsOrMemory ending end.done
  -- a sink that failed on the summary has a front of it
  pub front : ending ≡ end.write_fault →
      WentMade number options before.store.content now.store.content
      (λ output. IsGivenFront output before.sink.bytes now.sink.bytes)
  -- after every end: all keys but those of chunks that an accepted command changes are as before
  pub unchanged : (key : List ℕ) → ¬ IsChangedKey made_array (made_commands number) key →
      now.store.content key ≡ before.store.content key
