-- What a run over references prints, and what it leaves.
use Rattle.std.specs.Prelude.{◌≡◌, ℕ, List, length, Option, Some, None}
use Rattle.zarr_model.specs.Prelude.{Element, Array, Content, Shown, replies, counted, with_keys, SeesNoDamage}
use Rattle.zarr_model.specs.Prelude.{IsDamageSeen}
use Rattle.zarr_cli_lines.specs.Text.{replies_text}
use Rattle.zarr_cli_runs.specs.Commands.{MeansUndamaged}
use Rattle.zarr_refs.specs.declared.reference.Reference.{Reference}
use Rattle.zarr_refs.specs.declared.reference.RefError.{RefError}
use Rattle.zarr_refs.specs.declared.reference.RefError.TheVariants.{RepeatedKey}
use Rattle.zarr_refs.specs.References.{first_repeated, unfit}
use Rattle.zarr_refs.specs.Slices.{sliced}
use Rattle.zarr_refs.specs.Input.{RefRun}

-- why references make no store over some values
abbrev pub repeated_or : Option (List ℕ) → Option RefError → Option RefError
repeated_or (Some key) other = Some (RepeatedKey key)
repeated_or None other = other

abbrev pub reference_fault : List Reference → Content → Option RefError
reference_fault references content = repeated_or (first_repeated references)
    (unfit content references)

-- what the base holds once the key lines are set, and the map of slices then
abbrev pub base_of : RefRun → Content → Content
base_of run content = with_keys run.entries content

abbrev pub run_slices : RefRun → Content → Content
run_slices run content = sliced run.references (base_of run content)

-- all key lines are set, each by one writing call
pub record IsAllSet (run : RefRun) (before now : Shown) : Type 0 where
  pub content : now.content ≡ base_of run before.content
  pub puts : now.puts ≡ counted before.puts (length run.entries)

-- the references make a store
abbrev pub AreFitRefs : RefRun → Content → Type 0
AreFitRefs run content = reference_fault run.references (base_of run content) ≡ None

-- the reads see no damage in the slices
abbrev pub SeesNone : RefRun → Content → Type 0
SeesNone run content = SeesNoDamage run.description run.options run.reads (run_slices run content)

-- a chunk's slice that a read sees is damaged
abbrev pub SeesDamage : RefRun → Content → List ℕ → Type 0
SeesDamage run content key = IsDamageSeen run.description run.options run.reads
    (run_slices run content) key

-- the replies of the plain array that the slices mean
pub record PrintsReads (run : RefRun) (content : Content) (text : List ℕ) : Type 0 where
  pub fit : AreFitRefs run content
  pub undamaged : SeesNone run content
  pub replied : (array : Array Element) → MeansUndamaged run.description run.options run.reads
      (run_slices run content) array → text ≡ replies_text (replies run.description run.reads array)
