-- What a sink is given, and the status then.
use Rattle.std.specs.Prelude.{◌≡◌, ℕ, ◌⊎◌, List}
use Rattle.zarr_model.specs.Prelude.{Given, Rose}
use Rattle.zarr_cli_runs.specs.Ending.{IsGiven, IsGivenFront, IsGivenLine, ending_line}
use Rattle.zarr_cli_runs.specs.Status.{ending_of}
use Rattle.zarr_cli_runs.specs.declared.status.Status.{Status}
use Rattle.zarr_cli_runs.specs.declared.status.Status.TheVariants.{Done, Store, Write, OutOfMemory}

-- a text was written whole, or a front of it where the sink failed
abbrev pub WritesText : List ℕ → Given → Given → Status → Type 0
WritesText text before now status = ((status ≡ Done) × IsGiven text before.bytes now.bytes)
    ⊎ ((status ≡ Write) × Rose before.faults now.faults
    × IsGivenFront text before.bytes now.bytes)

-- a status was answered, or want of memory in place of one other than a fault of the store, and the
-- sink was given its line
pub record EndsWith (status : Status) (before now : Given) (last : Status) : Type 0 where
  pub which : (last ≡ status) ⊎ (last ≡ OutOfMemory)
  pub kept : status ≡ Store → last ≡ Store
  pub line : IsGivenLine (ending_line (ending_of last)) before now
