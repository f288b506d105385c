-- How a run over a version 2 document ends, and what the sink is given then.
use Rattle.std.specs.Prelude.{◌≡◌, ◌⊎◌, ℕ, List, ◌++◌, codes, Option, Some}
use Rattle.zarr_cli_runs.specs.lines.Text.{line_of}
use Rattle.zarr_cli_runs.specs.Ending.{Ending, ending_code, ending_line, out_of_memory}
use Rattle.zarr_cli_runs.specs.Status.{ending_of}
use Rattle.zarr_v2.specs.declared.translation_error.V2Error.{V2Error}
use Rattle.zarr_v2.specs.declared.translation_error.V2Error.TheVariants.{InvalidJson, FloatNumber, InvalidMetadata}
use Rattle.zarr_v2.specs.declared.translation_error.V2Error.TheVariants.{RankMismatch, UnsupportedDataType}
use Rattle.zarr_v2.specs.declared.translation_error.V2Error.TheVariants.{UnsupportedFillValue, UnsupportedCodec}
use Rattle.zarr_v2.specs.declared.translation_error.V2Error.TheVariants.{OutOfMemory}
use Rattle.zarr_v2.specs.declared.status.V2Status.{V2Status}
use Rattle.zarr_v2.specs.declared.status.V2Status.TheVariants.{Cli, Refused}

-- as the program over a document of version 3 ends, or by a refused document of version 2
pub data EndingV2 : Type 0 where
  cli : Ending → EndingV2
  refused : V2Error → EndingV2

abbrev pub ending_v2 : V2Status → EndingV2
ending_v2 (Cli status) = cli (ending_of status)
ending_v2 (Refused why) = refused why

-- the name of a refusal
abbrev pub v2_error_name : V2Error → List ℕ
v2_error_name InvalidJson = codes "InvalidJson"
v2_error_name FloatNumber = codes "FloatNumber"
v2_error_name InvalidMetadata = codes "InvalidMetadata"
v2_error_name RankMismatch = codes "RankMismatch"
v2_error_name UnsupportedDataType = codes "UnsupportedDataType"
v2_error_name UnsupportedFillValue = codes "UnsupportedFillValue"
v2_error_name UnsupportedCodec = codes "UnsupportedCodec"
v2_error_name OutOfMemory = codes "OutOfMemory"

-- the status code
abbrev pub code_v2 : EndingV2 → ℕ
code_v2 (cli ending) = ending_code ending
code_v2 (refused why) = 4

-- the one line that stands in place of the replies
abbrev pub line_v2 : EndingV2 → Option (List ℕ)
line_v2 (cli ending) = ending_line ending
line_v2 (refused why) = Some (line_of (codes "document " ++ v2_error_name why))

-- an ending is this one, or want of memory, which is free
abbrev pub IsOrMemoryV2 : EndingV2 → EndingV2 → Type 0
IsOrMemoryV2 ending called_for = (ending ≡ called_for) ⊎ (ending ≡ cli out_of_memory)
