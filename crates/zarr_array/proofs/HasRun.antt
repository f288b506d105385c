-- What commands that ran did to a store.
use Rattle.std.specs.Prelude.{◌≡◌, ◌≤◌, List}
use Rattle.zarr_model.specs.Prelude.{Options, Shown, Command, Description, Answer, all_puts, counted, KeepsDamage}
use Rattle.zarr_model.specs.Prelude.{SeesNoDamage, ErasesKeys, ServesWhole, RefusesRight, AreRefused, IsUntouched}
use Rattle.zarr_model.specs.Prelude.{RanOver}
use Rattle.zarr_array.specs.Stored.{StoresForAll}

-- some commands ran over a store and were answered so
pub record HasRun (description : Description) (options : Options) (commands : List Command)
    (before now : Shown)
    (answers : List Answer) : Type 0 where
  pub serves : ServesWhole description options commands before.content now.content answers
  pub refusals : RefusesRight description commands answers
  pub refused : AreRefused description commands → IsUntouched before now
  pub puts : now.puts ≡ counted before.puts (all_puts description commands)
  pub damage : KeepsDamage description options commands before.content now.content
  pub undamaged : SeesNoDamage description options commands before.content
  pub erased : ErasesKeys description options commands before.content now.content
  pub stored : StoresForAll description options commands before.content now.content
  pub over : RanOver description options commands before.content now.content answers
  pub later : before.faults ≤ now.faults
