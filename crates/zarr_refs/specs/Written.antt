-- What a sink is given by a run over references, and the status then.
use Rattle.std.specs.Prelude.{◌≡◌, ℕ, ◌⊎◌, List}
use Rattle.zarr_model.specs.Prelude.{Given, Rose}
use Rattle.zarr_cli_runs.specs.Ending.{IsGiven, IsGivenFront, IsGivenLine}
use Rattle.zarr_cli_runs.specs.declared.status.Status.TheVariants.{Done, Write, OutOfMemory}
use Rattle.zarr_refs.specs.Ending.{ref_line, ref_ending_of}
use Rattle.zarr_refs.specs.declared.status.RefStatus.{RefStatus}
use Rattle.zarr_refs.specs.declared.status.RefStatus.TheVariants.{Cli}

-- a text was written whole, or a front of it where the sink failed
abbrev pub WritesRefs : List ℕ → Given → Given → RefStatus → Type 0
WritesRefs text before now status =
    ((status ≡ Cli Done) × IsGiven text before.bytes now.bytes)
    ⊎ ((status ≡ Cli Write) × Rose before.faults now.faults
    × IsGivenFront text before.bytes now.bytes)

-- a status was answered, or want of memory in its place, and the sink was given its line
pub record EndsRef (status : RefStatus) (before now : Given) (last : RefStatus) : Type 0 where
  pub which : (last ≡ status) ⊎ (last ≡ Cli OutOfMemory)
  pub line : IsGivenLine (ref_line (ref_ending_of last)) before now
