-- What a run over references comes to, by what its lines, its input and its words say, before its
-- text is written.
use Rattle.std.specs.Prelude.{◌≡◌, ◌⊎◌, ℕ, List, [], Vec, Result, IfErr, OnOk, Some, None}
use Rattle.zarr_model.specs.Prelude.{Shown, Told, Rose, IsUntouched}
use Rattle.zarr_cli.specs.Outcome.{Outcome, TellsEarly}
use Rattle.zarr_cli_runs.specs.array.parts.OpenError.{open_refusal_of}
use Rattle.zarr_cli_runs.specs.declared.status.Status.{Status}
use Rattle.zarr_cli_runs.specs.declared.status.Status.TheVariants as Status
use Rattle.zarr_refs.specs.declared.reference.RefError.{RefError}
use Rattle.zarr_refs.specs.declared.reference.RefError.TheVariants as RefError
use Rattle.zarr_refs.specs.declared.status.RefStatus.{RefStatus}
use Rattle.zarr_refs.specs.declared.status.RefStatus.TheVariants.{Cli, Reference, ReadOnly}
use Rattle.zarr_refs.specs.Ending.{RefEnding, cli, repeated_key, missing_base, slice_out_of_bounds, read_only}
use Rattle.zarr_refs.specs.Ending.{ref_ending_of}
use Rattle.zarr_refs.specs.Input.{Verdict, runs, stops}
use Rattle.zarr_refs.specs.Reads.{RanRefs}

-- a status that holds no fault of the store and no want of memory under another name
abbrev pub IsNamed : RefStatus → Type 0
IsNamed (Cli (Status.Document error)) = ¬ (open_refusal_of error ≡ None)
IsNamed (Cli _) = Unit {0}
IsNamed (Reference error) = ¬ (error ≡ RefError.Store) × ¬ (error ≡ RefError.OutOfMemory)
IsNamed (ReadOnly line) = Unit {0}

-- the store is as before, and the run was stopped by this ending, or memory ran out
pub record Stopped {Z : Type 0} (told : RefEnding) (before now : Shown)
    (result : Result (Vec ℕ Z) RefStatus) : Type 0 where
  pub untouched : IsUntouched before now
  pub failed : OnOk result ⊥
  pub ends : IfErr result (λ status.
      (ref_ending_of status ≡ told) ⊎ (status ≡ Cli Status.OutOfMemory))

-- what was run, by what was said
abbrev pub RanBy : {Z : Type 0} → Verdict → Shown → Shown → Result (Vec ℕ Z) RefStatus → Type 0
RanBy (runs run) before now result = RanRefs run before now result
RanBy (stops told) before now result = Stopped told before now result

-- where a source tells its bytes, what was run by what they say, unless it failed
pub record RanInput {Z : Type 0} (says : List ℕ → Verdict) (source_before source_now : Told)
    (before now : Shown) (result : Result (Vec ℕ Z) RefStatus) : Type 0 where
  pub ran : (input : List ℕ) → source_before.left ≡ Some input →
      RanBy (says input) before now result
      ⊎ (IsUntouched before now × OnOk result ⊥ × IfErr result (λ status. status ≡ Cli Status.Read))
  pub whole : (input : List ℕ) → source_before.left ≡ Some input →
      OnOk result (source_now.left ≡ Some [])

-- what an early ending of a run over references tells
abbrev pub Tells : Outcome → RefEnding → Type 0
Tells o (cli ending) = TellsEarly o ending
Tells o (repeated_key key) = Unit {0}
Tells o (missing_base key) = Unit {0}
Tells o (slice_out_of_bounds key) = Unit {0}
Tells o (read_only line) = o.untouched

abbrev pub outcome : Type 0 → Type 0 → Shown → Shown → Outcome
outcome bad read_failed before now = record {
  bad = bad;
  read_failed = read_failed;
  store_failed = Rose before.faults now.faults;
  untouched = IsUntouched before now;
}

-- a status whose ending tells so, under its own name
pub record IsPlainRef (o : Outcome) (status : RefStatus) : Type 0 where
  pub told : Tells o (ref_ending_of status)
  pub named : IsNamed status
