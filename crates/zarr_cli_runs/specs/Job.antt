-- A job: entries that are set, and commands that an array then runs; and what is owed where it was
-- done or ended early.
use Rattle.std.specs.Prelude.{◌≡◌, ℕ, ◌≤◌, Bool, List, Result, IfOk, IfErr, OnOk}
use Rattle.zarr_model.specs.Prelude.{Options, Shown, Rose, Command, Description, SeesNoDamage, AreRefused, IsUntouched}
use Rattle.zarr_cli_runs.specs.Between.{IsKeyOf, with_entries, LeavesBetween}
use Rattle.zarr_cli_runs.specs.Status.{ending_of}
use Rattle.zarr_cli_runs.specs.Commands.{IsChangedKey, IsRunFault}
use Rattle.zarr_cli_runs.specs.declared.status.Status.{Status}
use Rattle.zarr_cli_runs.specs.declared.status.Status.TheVariants.{OutOfMemory}

-- what is run: entries are set, and then an array runs commands, by one reading call for each chunk
-- or not
pub record Job : Type 0 where
  pub once : Bool
  pub description : Description
  pub options : Options
  pub entries : List (List ℕ × List ℕ)
  pub commands : List Command

abbrev pub job : Bool → Description → Options → List (List ℕ × List ℕ) → List Command → Job
job once description options entries commands = record {
  once = once;
  description = description;
  options = options;
  entries = entries;
  commands = commands;
}

-- nothing was asked of a store, and it handed out nothing
abbrev pub IsUnasked : Shown → Shown → Type 0
IsUnasked before now = (now.asks ≡ before.asks) × (now.taken ≡ before.taken)

-- A job was done over a store, with a result that passes the test, or ended early by its cause. The
-- last type says that nothing else asks of the store.
pub record Did {T : Type 0} (job : Job) (quiet : Type 0) (before now : Shown)
    (result : Result T Status) (passes : T → Type 0) : Type 0 where
  pub done : IfOk result passes
  pub fault : IfErr result (λ status. IsRunFault job.once job.description job.options
      job.commands (with_entries job.entries before) now status)
  pub between : IfErr result (λ status. LeavesBetween job.once job.description job.options
      job.entries job.commands before now (ending_of status))
  pub complete : SeesNoDamage job.description job.options job.commands
      (with_entries job.entries before).content →
      ¬ Rose before.faults now.faults → IfErr result (λ status. status ≡ OutOfMemory)
  pub unchanged : (key : List ℕ) → ¬ IsKeyOf job.entries key →
      ¬ IsChangedKey job.description job.commands key → now.content key ≡ before.content key
  pub refused : AreRefused job.description job.commands → quiet →
      OnOk result (IsUntouched (with_entries job.entries before) now)
  pub unasked : AreRefused job.description job.commands → quiet → IsUnasked before now
  pub later : before.faults ≤ now.faults
