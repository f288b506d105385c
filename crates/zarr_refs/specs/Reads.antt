-- What reads over references come to before their text is written.
use Rattle.std.specs.Prelude.{◌≡◌, ◌⊎◌, ℕ, ◌≤◌, List, map, Vec, Result, IfOk, IfErr, OnOk, Some}
use Rattle.zarr_model.specs.Prelude.{Element, Array, Options, Content, Command, Description, Shown, Rose, replies}
use Rattle.zarr_model.specs.Prelude.{SeesNoDamage, IsDamageSeen, SetsSome}
use Rattle.zarr_cli_lines.specs.Text.{replies_text}
use Rattle.zarr_array.specs.boxes.Command.{command_of}
use Rattle.zarr_cli_runs.specs.Commands.{MeansUndamaged}
use Rattle.zarr_cli_runs.specs.declared.status.Status.{Status}
use Rattle.zarr_cli_runs.specs.declared.status.Status.TheVariants as Status
use Rattle.zarr_cli.specs.Lines.{IsKeyOf}
use Rattle.zarr_refs.specs.declared.reference.RefError.{RefError}
use Rattle.zarr_refs.specs.declared.reference.RefError.TheVariants as RefError
use Rattle.zarr_refs.specs.declared.lines.RefLines.{RefLines}
use Rattle.zarr_refs.specs.declared.status.RefStatus.{RefStatus}
use Rattle.zarr_refs.specs.declared.status.RefStatus.TheVariants.{Cli, Reference, ReadOnly}
use Rattle.zarr_refs.specs.Input.{RefRun}
use Rattle.zarr_refs.specs.Run.{reference_fault, base_of, AreFitRefs, SeesNone, SeesDamage, IsAllSet, PrintsReads}

-- the cause of an early end of reads over some content; a type says whether the store failed
abbrev pub IsReadsFault : Description → Options → List Command → Content → Type 0 → Status → Type 0
IsReadsFault description options reads content rose (Status.Chunk key) =
    IsDamageSeen description options reads content key
IsReadsFault description options reads content rose Status.Store = rose
IsReadsFault description options reads content rose Status.OutOfMemory = Unit {0}
IsReadsFault _ _ _ _ _ _ = ⊥

-- reads ran over some content: the replies of the plain array that it means, or an early end
pub record ReadsBack {Z : Type 0} (description : Description) (options : Options)
    (reads : List Command) (content : Content) (rose : Type 0)
    (result : Result (Vec ℕ Z) Status) : Type 0 where
  pub replied : IfOk result (λ text. (array : Array Element) →
      MeansUndamaged description options reads content array →
      text.items ≡ replies_text (replies description reads array))
  pub undamaged : OnOk result (SeesNoDamage description options reads content)
  pub fault : IfErr result (IsReadsFault description options reads content rose)
  pub complete : SeesNoDamage description options reads content → ¬ rose →
      IfErr result (λ status. status ≡ Status.OutOfMemory)

-- the run of an opened array over what its lines say
abbrev pub run_of : Description → Options → List (List ℕ × List ℕ) → RefLines → RefRun
run_of description options entries lines = record {
  description = description;
  options = options;
  entries = entries;
  references = lines.references.items;
  reads = map command_of lines.reads.items;
}

-- the cause of an early end of a run
abbrev pub IsRefsFault : RefRun → Shown → Shown → RefStatus → Type 0
IsRefsFault run before now (Reference error) =
    (reference_fault run.references (base_of run before.content) ≡ Some error)
    × ¬ (error ≡ RefError.Store) × ¬ (error ≡ RefError.OutOfMemory) × IsAllSet run before now
IsRefsFault run before now (Cli (Status.Chunk key)) =
    AreFitRefs run before.content × IsAllSet run before now × SeesDamage run before.content key
IsRefsFault run before now (Cli Status.Store) = Rose before.faults now.faults
IsRefsFault run before now (Cli Status.OutOfMemory) = Unit {0}
IsRefsFault run before now (Cli _) = ⊥
IsRefsFault run before now (ReadOnly line) = ⊥

-- a run over a store, before its text is written
pub record RanRefs {Z : Type 0} (run : RefRun) (before now : Shown)
    (result : Result (Vec ℕ Z) RefStatus) : Type 0 where
  pub prints : IfOk result (λ text. PrintsReads run before.content text.items)
  pub fault : IfErr result (IsRefsFault run before now)
  pub refused : (why : RefError) →
      reference_fault run.references (base_of run before.content) ≡ Some why →
      ¬ Rose before.faults now.faults →
      IfErr result (λ status. (status ≡ Reference why) ⊎ (status ≡ Cli Status.OutOfMemory))
  pub complete : AreFitRefs run before.content → SeesNone run before.content →
      ¬ Rose before.faults now.faults →
      IfErr result (λ status. status ≡ Cli Status.OutOfMemory)
  pub set : (n : ℕ) × SetsSome run.entries n before.content now.content
  pub all_set : OnOk result (IsAllSet run before now)
  pub elsewhere : (key : List ℕ) → ¬ IsKeyOf run.entries key →
      now.content key ≡ before.content key
  pub later : before.faults ≤ now.faults
