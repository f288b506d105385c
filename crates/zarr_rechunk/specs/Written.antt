-- What a sink is given by moving an array, and the status then.
use Rattle.std.specs.Prelude.{◌≡◌, ℕ, ◌⊎◌, List}
use Rattle.zarr_model.specs.Prelude.{Given, Rose}
use Rattle.zarr_cli_runs.specs.Ending.{IsGiven, IsGivenFront, IsGivenLine}
use Rattle.zarr_cli_runs.specs.declared.status.Status.TheVariants.{Done, Write, OutOfMemory}
use Rattle.zarr_rechunk.specs.Ending.{move_line, move_ending_of}
use Rattle.zarr_rechunk.specs.declared.status.RechunkStatus.{RechunkStatus}
use Rattle.zarr_rechunk.specs.declared.status.RechunkStatus.TheVariants.{Cli}

-- a text was written whole, or a front of it where the sink failed
abbrev pub WritesKeys : List ℕ → Given → Given → RechunkStatus → Type 0
WritesKeys text before now status =
    ((status ≡ Cli Done) × IsGiven text before.bytes now.bytes)
    ⊎ ((status ≡ Cli Write) × Rose before.faults now.faults
    × IsGivenFront text before.bytes now.bytes)

-- a status was answered, or want of memory in its place, and the sink was given its line
pub record EndsMove (status : RechunkStatus) (before now : Given) (last : RechunkStatus)
    : Type 0 where
  pub which : (last ≡ status) ⊎ (last ≡ Cli OutOfMemory)
  pub line : IsGivenLine (move_line (move_ending_of last)) before now
