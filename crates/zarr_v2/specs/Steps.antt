-- What each step of a run promises to the next one.
use Rattle.std.specs.Prelude.{◌≡◌, ◌⊎◌, ℕ, List, Result, Ok, Err}
use Rattle.zarr_model.specs.Prelude.{Given}
use Rattle.zarr_array.specs.OpenArray.{documented}
use Rattle.zarr_array.specs.declared.open.OpenArray.{OpenArray}
use Rattle.zarr_array_open.specs.OpenError.{open_refusal_of}
use Rattle.zarr_cli_runs.specs.Ending.{IsGivenLine, read_fault, out_of_memory}
use Rattle.zarr_cli_runs.specs.declared.status.Status.TheVariants.{Document, OutOfMemory}
use Rattle.zarr_v2.specs.declared.translation_error.V2Error.TheVariants as Why
use Rattle.zarr_v2.specs.Opening.{AnswerV2, opened_v2, refused_v2, IsNotOpened}
use Rattle.zarr_v2.specs.Ending.{EndingV2, cli, ending_v2, line_v2}
use Rattle.zarr_v2.specs.Says.{says_v2, stops, IsOfInputV2}
use Rattle.zarr_v2.specs.declared.status.V2Status.{V2Status}
use Rattle.zarr_v2.specs.declared.status.V2Status.TheVariants.{Cli, Refused}

-- a status was answered, or want of memory in its place, and the sink was given its line
pub record EndsWithV2 (status : V2Status) (before now : Given) (last : V2Status) : Type 0 where
  pub which : (last ≡ status) ⊎ (last ≡ Cli OutOfMemory)
  pub line : IsGivenLine (line_v2 (ending_v2 last)) before now

-- a first line was not opened, by its reason, or memory ran out
abbrev pub IsOpenFaultV2 : V2Status → AnswerV2 → Type 0
IsOpenFaultV2 (Cli (Document error)) answer = IsNotOpened (open_refusal_of error) answer
IsOpenFaultV2 (Cli OutOfMemory) answer = Unit {0}
IsOpenFaultV2 (Cli _) answer = ⊥
IsOpenFaultV2 (Refused why) answer = (answer ≡ refused_v2 why) × ¬ (why ≡ Why.OutOfMemory)

-- it was opened as the array of its document, or was not
abbrev pub OpensLineV2 : Result OpenArray V2Status → AnswerV2 → Type 0
OpensLineV2 (Ok array) answer = answer ≡ opened_v2 (documented array)
OpensLineV2 (Err status) answer = IsOpenFaultV2 status answer

-- an ending before the lines are run, for an input that is known: the one that the input calls for,
-- one by the source, which failed if the type says so, or want of memory
abbrev pub IsEarlyV2 : List ℕ → Type 0 → EndingV2 → Type 0
IsEarlyV2 input rose ending = (says_v2 input ≡ stops ending × IsOfInputV2 ending)
    ⊎ ((ending ≡ cli read_fault) × rose ⊎ (ending ≡ cli out_of_memory))
