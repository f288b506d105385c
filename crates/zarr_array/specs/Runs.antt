-- What running commands over a store owes.
use Rattle.std.specs.Prelude.{◌≡◌, ◌≤◌, List, IfOk, IfErr, OnOk}
use Rattle.zarr_model.specs.Prelude.{Options, Shown, IsHonest, Command, Description, layout, all_asks, all_puts}
use Rattle.zarr_model.specs.Prelude.{AsksUpTo, counted, Rose, SeesNoDamage, ErasesKeys, KeepsDamage, LeavesKeys}
use Rattle.zarr_model.specs.Prelude.{ServesArray, RefusesRight, AreRefused, IsUntouched, MeetsNoDamage, RanOver}
use Rattle.zarr_model.specs.Prelude.{AnswersUndamaged}
use Rattle.zarr_array.specs.Session.{FailsAt}
use Rattle.zarr_array.specs.Stored.{StoresForAll}
use Rattle.zarr_array.specs.Ended.{Ended}
use Rattle.zarr_array.specs.declared.command_error.SessionErrorKind.TheVariants.{OutOfMemory}

-- what running commands over a store owes, however it ends, but for its reading calls
pub record RunsOn (array : Description) (options : Options) (commands : List Command)
    (before now : Shown) (ended : Ended) : Type 0 where
  -- over an honest store: the answers of one plain array, which is left; and where it did not fail,
  -- only memory can be wanting
  pub serves : IfOk ended (λ answers. IsHonest (layout array options) before.content →
      ServesArray array options commands before.content now.content answers)
  pub complete : IsHonest (layout array options) before.content → ¬ Rose before.faults now.faults →
      IfErr ended (λ error. error.kind ≡ OutOfMemory)
  -- and so over any store where no damage is met
  pub unmet : MeetsNoDamage array options commands before.content →
      ¬ Rose before.faults now.faults → IfErr ended (λ error. error.kind ≡ OutOfMemory)
  -- where they ran, over any store: the refusals, and that each chunk met decodes, but for reads of
  -- parts whose pieces are there; where all are refused, nothing is touched however they end
  pub refusals : IfOk ended (λ answers. RefusesRight array commands answers)
  pub refused : AreRefused array commands → IsUntouched before now
  -- as many writing calls as chunks that the commands change
  pub puts : OnOk ended (now.puts ≡ counted before.puts (all_puts array commands))
  pub undamaged : OnOk ended (SeesNoDamage array options commands before.content)
  -- over any store: what is left is, without its damage, as one plain array has it; and where no
  -- damage is met the answers are those of each array that the store means without it
  pub mended : IfOk ended (λ answers.
      RanOver array options commands before.content now.content answers)
  pub answers : IfOk ended (λ answers.
      AnswersUndamaged array options commands before.content answers)
  -- commands without a write leave exactly those chunks present that they do not erase
  pub erased : OnOk ended (ErasesKeys array options commands before.content now.content)
  -- a value that does not decode stands until its chunk is erased
  pub damage : OnOk ended (KeepsDamage array options commands before.content now.content)
  -- each chunk that was written or erased decodes under all options, and alike
  pub stored : OnOk ended (StoresForAll array options commands before.content now.content)
  -- after every end: the keys that stay
  pub keys : LeavesKeys array options commands before.content now.content
  pub later : before.faults ≤ now.faults
  -- an error has its place, the writing calls up to it, and its cause
  pub failed : IfErr ended (λ error. FailsAt array options commands before now error.at error.kind)

-- the same where one reading call fetches a chunk: as many as chunks that the commands meet, up to
-- where an error is
pub record Runs (array : Description) (options : Options) (commands : List Command)
    (before now : Shown) (ended : Ended) : Type 0 where
  pub on : RunsOn array options commands before now ended
  pub asks : OnOk ended (now.asks ≡ counted before.asks (all_asks array commands))
  pub stopped : IfErr ended (λ error. AsksUpTo array commands before.asks now.asks error.at)
