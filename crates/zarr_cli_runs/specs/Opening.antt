-- A first line opened by the built-in names.
use Rattle.std.specs.Prelude.{◌≡◌, Option, Some, None, Result, Ok, Err}
use Rattle.zarr_cli_runs.specs.array.parts.Opening.{OpenRefusal, OpenAnswer, opened, not_opened}
use Rattle.zarr_array.specs.OpenArray.{documented}
use Rattle.zarr_cli_runs.specs.array.parts.OpenError.{open_refusal_of}
use Rattle.zarr_array.specs.declared.open.OpenArray.{OpenArray}
use Rattle.zarr_cli_runs.specs.declared.status.Status.{Status}
use Rattle.zarr_cli_runs.specs.declared.status.Status.TheVariants.{Document, OutOfMemory}

-- opening refused for a reason other than memory
abbrev pub IsRefusal : Option OpenRefusal → OpenAnswer → Type 0
IsRefusal None answer = ⊥
IsRefusal (Some why) answer = answer ≡ not_opened why

-- a first line was opened as the array of its document, or refused, or memory ran out
abbrev pub IsOpenFault : Status → OpenAnswer → Type 0
IsOpenFault (Document error) answer = IsRefusal (open_refusal_of error) answer
IsOpenFault OutOfMemory answer = Unit {0}
IsOpenFault _ _ = ⊥

abbrev pub OpensLine : Result OpenArray Status → OpenAnswer → Type 0
OpensLine (Ok array) answer = answer ≡ opened (documented array)
OpensLine (Err status) answer = IsOpenFault status answer
