-- Jobs: what is known of one from what was run, and of one behind which a store was read.
use Rattle.std.proofs.Common.{◌≡◌, ℕ, ◌-◌, ◌^◌, ◌<◌, ◌≤◌, Bool, List, [], Result, Ok, Err, IfOk, IfErr, OnOk, refl, sym}
use Rattle.std.proofs.Common.{ap, ◌∙◌, subst, arith, le_trans}
use Rattle.zarr_array.proofs.RunsLaws.{untouched_then}
use Rattle.zarr_model.specs.Prelude.{Command, Content, Description, counted, LeavesArray, IsDamageSeen, SeesNoDamage}
use Rattle.zarr_model.specs.Prelude.{AreRefused, IsUntouched, Rose, Shown, Options}
use Rattle.zarr_cli_runs.specs.Keys.{IsDumpFault}
use Rattle.zarr_cli_runs.specs.Between.{IsKeyOf, with_entries, LeavesBetween}
use Rattle.zarr_cli_runs.specs.Status.{ending_of}
use Rattle.zarr_cli_runs.specs.Commands.{IsChangedKey, IsRunFault, LeavesUndamaged}
use Rattle.zarr_cli_runs.specs.Job.{Job, job, Did}
use Rattle.zarr_cli_runs.specs.declared.status.Status.{Status}
use Rattle.zarr_cli_runs.specs.declared.status.Status.TheVariants.{Done, BadWords, BadInput, Document, Chunk, Store}
use Rattle.zarr_cli_runs.specs.declared.status.Status.TheVariants.{Read, Write, TooLong, OutOfMemory}
use Rattle.zarr_cli_runs.proofs.BetweenLaws.{between_still, between_untouched, earlier_failed}

-- a fault seen from a store that shows the same but for its faults
run_fault-earlier : (once : Bool) (description : Description) (options : Options) (commands : List Command)
    (before mid now : Shown) → mid.content ≡ before.content → mid.asks ≡ before.asks → mid.puts ≡ before.puts →
    before.faults ≤ mid.faults → (status : Status) →
    IsRunFault once description options commands mid now status →
    IsRunFault once description options commands before now status
run_fault-earlier once description options commands before mid now same asks puts later (Chunk key) fault = (
  subst (λ content. IsDamageSeen description options commands content key) same fault.0,
  subst (λ content. now.content key ≡ content key) same fault.1,
  (
    fault.2.0,
    fault.2.1,
    fault.2.2,
    earlier_failed description options commands before mid now same asks puts later once
        fault.2.0 fault.2.1 fault.2.3,
  ),
)
run_fault-earlier once description options commands before mid now same asks puts later Store fault =
    omega (arith, fault)
run_fault-earlier once description options commands before mid now same asks puts later OutOfMemory fault = tt
run_fault-earlier once description options commands before mid now same asks puts later Done fault = fault
run_fault-earlier once description options commands before mid now same asks puts later BadWords fault = fault
run_fault-earlier once description options commands before mid now same asks puts later (BadInput line) fault = fault
run_fault-earlier once description options commands before mid now same asks puts later (Document error) fault = fault
run_fault-earlier once description options commands before mid now same asks puts later Read fault = fault
run_fault-earlier once description options commands before mid now same asks puts later Write fault = fault
run_fault-earlier once description options commands before mid now same asks puts later TooLong fault = fault

pub earlier_fault : {T : Type 0} (once : Bool) (description : Description) (options : Options) (commands : List Command)
    (before mid now : Shown) → mid.content ≡ before.content → mid.asks ≡ before.asks → mid.puts ≡ before.puts →
    before.faults ≤ mid.faults → (result : Result T Status) →
    IfErr result (λ status. IsRunFault once description options commands mid now status) →
    IfErr result (λ status. IsRunFault once description options commands before now status)
earlier_fault once description options commands before mid now same asks puts later (Ok value) fault = tt
earlier_fault once description options commands before mid now same asks puts later (Err status) fault =
    run_fault-earlier once description options commands before mid now same asks puts later status fault

-- an untouched store seen so
pub untouched_earlier : {T : Type 0} (before mid now : Shown) → mid.content ≡ before.content → mid.asks ≡ before.asks →
    mid.taken ≡ before.taken → mid.puts ≡ before.puts → (result : Result T Status) →
    OnOk result (IsUntouched mid now) → OnOk result (IsUntouched before now)
untouched_earlier before mid now same asks taken puts (Ok value) is = record {
  content = λ key. is.content key ∙ ap (λ (store : Content). store key) same;
  asks = is.asks ∙ asks;
  taken = is.taken ∙ taken;
  puts = is.puts ∙ puts;
}
untouched_earlier before mid now same asks taken puts (Err status) is = tt

none_set : (before : Shown) → before.puts ≤ 2 ^ 64 - 1 → before.puts ≡ counted before.puts 0
none_set before few = omega (arith, few)

pub on_ok : {T E : Type 0} (P : Type 0) (result : Result T E) → P → OnOk result P
on_ok P (Ok value) p = p
on_ok P (Err error) p = tt

-- commands alone
pub did_alone : {T : Type 0} (once : Bool) (description : Description) (options : Options) (commands : List Command)
    (before now : Shown) → before.puts ≤ 2 ^ 64 - 1 → (result : Result T Status) (passes : T → Type 0) →
    IfOk result passes → (AreRefused description commands → IsUntouched before now) →
    ((key : List ℕ) → ¬ IsChangedKey description commands key → now.content key ≡ before.content key) →
    before.faults ≤ now.faults →
    IfErr result (λ status. IsRunFault once description options commands before now status) →
    IfErr result (λ status. LeavesBetween once description options [] commands before now (ending_of status)) →
    (SeesNoDamage description options commands before.content → ¬ Rose before.faults now.faults →
    IfErr result (λ status. status ≡ OutOfMemory)) →
    Did (job once description options [] commands) (Unit {0}) before now result passes
did_alone once description options commands before now few result passes ok refused unchanged later fault between
    complete = record {
      done = ok;
      fault = earlier_fault once description options commands (with_entries [] before) before now refl refl
          (none_set before few) (omega arith) result fault;
      between = between;
      complete = complete;
      unchanged = λ key free none. unchanged key none;
      refused = λ all still. untouched_earlier (with_entries [] before) before now refl refl refl
          (none_set before few) result (on_ok (IsUntouched before now) result (refused all));
      unasked = λ all still. ((refused all).asks, (refused all).taken);
      later = later;
    }

pub no_key : (key : List ℕ) → IsKeyOf [] key → ⊥
no_key key (value, (number, within, is)) = let below : number < 0 = within in absurd (omega (arith, below))

-- how they ended early
pub alone_fault : {T : Type 0} (once : Bool) (description : Description) (options : Options) (commands : List Command)
    (quiet : Type 0) (before now : Shown) → before.puts ≤ 2 ^ 64 - 1 → (result : Result T Status)
    (passes : T → Type 0) → Did (job once description options [] commands) quiet before now result passes →
    IfErr result (λ status. IsRunFault once description options commands before now status)
alone_fault once description options commands quiet before now few result passes did =
    earlier_fault once description options commands before (with_entries [] before) now refl refl
    (sym (none_set before few)) (omega arith) result did.fault

-- memory ran out before them
pub did_starved : {T : Type 0} (once : Bool) (description : Description) (options : Options) (commands : List Command)
    (quiet : Type 0) (before : Shown) (passes : T → Type 0) →
    Did {T = T} (job once description options [] commands) quiet before before (Err OutOfMemory) passes
did_starved once description options commands quiet before passes = record {
  done = tt;
  fault = tt;
  between = between_untouched once description options [] commands before before (ending_of OutOfMemory)
      (λ key. refl);
  complete = λ sees calm. refl;
  unchanged = λ key free none. refl;
  refused = λ all still. tt;
  unasked = λ all still. (refl, refl);
  later = omega arith;
}

-- an early end is one of what stands on it
pub still_early : {T U : Type 0} (what : Job) (quiet : Type 0) (before now : Shown) (passes : T → Type 0)
    (gives : U → Type 0) (status : Status) →
    Did {T = T} what (Unit {0}) before now (Err status) passes → Did {T = U} what quiet before now (Err status) gives
still_early what quiet before now passes gives status did = record {
  done = tt;
  fault = did.fault;
  between = did.between;
  complete = did.complete;
  unchanged = did.unchanged;
  refused = λ all still. tt;
  unasked = λ all still. did.unasked all tt;
  later = did.later;
}

-- a fault of reading keys is one of the run
dump_run_fault : (once : Bool) (description : Description) (options : Options) (commands : List Command)
    (before mid now : Shown) (status : Status) → before.faults ≤ mid.faults →
    IsDumpFault mid now status → IsRunFault once description options commands before now status
dump_run_fault once description options commands before mid now Store later fault = omega (arith, later, fault)
dump_run_fault once description options commands before mid now OutOfMemory later fault = tt
dump_run_fault once description options commands before mid now Done later fault = fault
dump_run_fault once description options commands before mid now BadWords later fault = fault
dump_run_fault once description options commands before mid now (BadInput line) later fault = fault
dump_run_fault once description options commands before mid now (Document error) later fault = fault
dump_run_fault once description options commands before mid now (Chunk key) later fault = absurd fault
dump_run_fault once description options commands before mid now Read later fault = fault
dump_run_fault once description options commands before mid now Write later fault = fault
dump_run_fault once description options commands before mid now TooLong later fault = fault

dump_memory : (before mid now : Shown) (status : Status) → before.faults ≤ mid.faults → IsDumpFault mid now status →
    ¬ Rose before.faults now.faults → status ≡ OutOfMemory
dump_memory before mid now Store later fault calm = absurd (calm (omega (arith, later, fault)))
dump_memory before mid now OutOfMemory later fault calm = refl
dump_memory before mid now Done later fault calm = absurd fault
dump_memory before mid now BadWords later fault calm = absurd fault
dump_memory before mid now (BadInput line) later fault calm = absurd fault
dump_memory before mid now (Document error) later fault calm = absurd fault
dump_memory before mid now (Chunk key) later fault calm = absurd fault
dump_memory before mid now Read later fault calm = absurd fault
dump_memory before mid now Write later fault calm = absurd fault
dump_memory before mid now TooLong later fault calm = absurd fault

-- a store that was read behind commands that ran, which changed nothing in it
module _ (once : Bool) (description : Description) (options : Options) (commands : List Command)
    (quiet : Type 0) (before mid now : Shown) {T : Type 0} (held : T) (passes : T → Type 0)
    (did : Did (job once description options [] commands) (Unit {0}) before mid (Ok held) passes)
    (same : now.content ≡ mid.content) (still : quiet → IsUntouched mid now) (later : mid.faults ≤ now.faults) where
  here_still : (key : List ℕ) → ¬ IsKeyOf [] key → ¬ IsChangedKey description commands key →
      now.content key ≡ before.content key
  here_still key free none = ap (λ (store : Content). store key) same ∙ did.unchanged key free none

  none_asked : AreRefused description commands → quiet → (now.asks ≡ before.asks) × (now.taken ≡ before.taken)
  none_asked all calm = let first = did.unasked all tt in ((still calm).asks ∙ first.0, (still calm).taken ∙ first.1)

  pub did_behind : {U : Type 0} (result : Result U Status) (gives : U → Type 0) →
      LeavesArray description options commands before.content mid.content →
      LeavesUndamaged description options commands before.content mid.content → IfOk result gives →
      IfErr result (IsDumpFault mid now) →
      Did (job once description options [] commands) quiet before now result gives
  did_behind (Ok value) gives left mended given fault = record {
    done = given;
    fault = tt;
    between = tt;
    complete = λ sees calm. tt;
    unchanged = here_still;
    refused = λ all calm. untouched_then (with_entries [] before) mid now (did.refused all tt) (still calm);
    unasked = none_asked;
    later = le_trans did.later later;
  }
  did_behind (Err status) gives left mended given fault = record {
    done = tt;
    fault = dump_run_fault once description options commands (with_entries [] before) mid now status did.later fault;
    between = between_still once description options commands before now mid (ending_of status) left mended same;
    complete = λ sees calm. dump_memory before mid now status did.later fault calm;
    unchanged = here_still;
    refused = λ all calm. tt;
    unasked = none_asked;
    later = le_trans did.later later;
  }
