-- What each step of a run promises to the next one.
use Rattle.std.specs.Prelude.{◌≡◌, ◌⊎◌, ℕ, List, Option, Some, None, Result, Ok, Err}
use Rattle.zarr_array_open.specs.Opening.{OpenRefusal}
use Rattle.zarr_array_open.specs.OpenError.{open_refusal_of}
use Rattle.zarr_cli_runs.specs.Ending.{Ending, read_fault, out_of_memory}
use Rattle.zarr_cli_runs.specs.declared.status.Status.{Status}
use Rattle.zarr_cli_runs.specs.declared.status.Status.TheVariants.{Document, OutOfMemory}
use Rattle.zarr_array_open.specs.ShardOpening.{ShardAnswer, opened, not_opened}
use Rattle.zarr_shard.specs.Says.{input_says, stops, IsOfInput}
use Rattle.zarr_shard.specs.ShardArray.{documented_shards}
use Rattle.zarr_shard.specs.declared.array.ShardArray.{ShardArray}

-- opening refused for a reason other than memory
abbrev pub IsShardRefusal : Option OpenRefusal → ShardAnswer → Type 0
IsShardRefusal None answer = ⊥
IsShardRefusal (Some why) answer = answer ≡ not_opened why

-- a first line was opened as the array of its document, or refused, or memory ran out
abbrev pub IsShardOpenFault : Status → ShardAnswer → Type 0
IsShardOpenFault (Document error) answer = IsShardRefusal (open_refusal_of error) answer
IsShardOpenFault OutOfMemory answer = Unit {0}
IsShardOpenFault _ _ = ⊥

abbrev pub OpensShardLine : Result ShardArray Status → ShardAnswer → Type 0
OpensShardLine (Ok array) answer = answer ≡ opened (documented_shards array)
OpensShardLine (Err status) answer = IsShardOpenFault status answer

-- an ending before the lines are run, for an input that is known: the one that the input calls for,
-- one by the source, which failed if the type says so, or want of memory
abbrev pub IsEarly : List ℕ → Type 0 → Ending → Type 0
IsEarly input rose ending = (input_says input ≡ stops ending × IsOfInput ending)
    ⊎ ((ending ≡ read_fault) × rose ⊎ (ending ≡ out_of_memory))
