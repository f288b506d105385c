-- The bytes that commands take, one after another.
use Rattle.std.proofs.Common.{◌≡◌, ℕ, ◌+◌, ◌-◌, ◌^◌, ◌≤◌, List, [], ◌∷◌, ◌++◌, Option, None, sym, ap, ◌∙◌, arith}
use Rattle.std.proofs.Common.{Ok}
use Rattle.zarr_model.specs.Prelude.{CoversShape, Options, IsSound, layout, Shown, Command, erase, Refusal, Description}
use Rattle.zarr_model.specs.Prelude.{refusal, Answer, present_in, bytes_under, counted, TakesNeeded}
use Rattle.zarr_model.proofs.NeededLaws.{one_more_taken}
use Rattle.zarr_array.specs.Runs.{RunsOn}
use Rattle.zarr_array.proofs.RunsLaws.{wholly_honest, whole_of}

-- one command
pub one_takes : (description : Description) (options : Options) (command : Command) (why : Option Refusal)
    (before now : Shown) → refusal description command ≡ why →
    now.taken ≡ counted before.taken (bytes_under description why command (present_in description before.content)) →
    TakesNeeded description options (command ∷ []) before now
one_takes description options command why before now is taken array tells =
    taken ∙ ap (counted before.taken)
    (ap (λ w. bytes_under description w command (present_in description before.content)) (sym is) ∙ and_none _)
  where
    and_none : (n : ℕ) → n ≡ n + 0
    and_none n = omega arith

pub erase_takes : (description : Description) (options : Options) (chunk : List ℕ) (before now : Shown) →
    refusal description (erase chunk) ≡ None → now.taken ≡ before.taken → before.taken ≤ 2 ^ 64 - 1 →
    TakesNeeded description options (erase chunk ∷ []) before now
erase_takes description options chunk before now accepted same fits =
    one_takes description options (erase chunk) None before now accepted (omega (arith, same, fits))

-- one more command
pub more_takes : (description : Description) (options : Options) → CoversShape description.shape description.grid →
    IsSound (layout description options) → (commands : List Command) (command : Command) (before mid now : Shown)
    (answers : List Answer) → RunsOn description options commands before mid (Ok answers) →
    TakesNeeded description options commands before mid → TakesNeeded description options (command ∷ []) mid now →
    TakesNeeded description options (commands ++ command ∷ []) before now
more_takes description options covers sound commands command before mid now answers ran first second =
    one_more_taken description options commands command before mid now
    (λ array means. (
      answers,
      whole_of description options covers sound commands before.content mid.content answers
          (ran.serves (wholly_honest description options before.content array means)),
    )) ran.erased first second
