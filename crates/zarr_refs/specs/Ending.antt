-- How a run over references ends, and what the sink is given then.
use Rattle.std.specs.Prelude.{◌≡◌, ◌⊎◌, ℕ, List, ◌++◌, codes, decimal, Option, Some}
use Rattle.zarr_cli_lines.specs.Text.{line_of}
use Rattle.zarr_cli_runs.specs.Ending.{Ending, ending_code, ending_line, IsBeforeStore}
use Rattle.zarr_cli_runs.specs.Ending as end
use Rattle.zarr_cli_runs.specs.Status.{ending_of}
use Rattle.zarr_refs.specs.declared.reference.RefError.{RefError}
use Rattle.zarr_refs.specs.declared.reference.RefError.TheVariants.{RepeatedKey, MissingBase, SliceOutOfBounds, Store}
use Rattle.zarr_refs.specs.declared.reference.RefError.TheVariants.{OutOfMemory}
use Rattle.zarr_refs.specs.declared.status.RefStatus.{RefStatus}
use Rattle.zarr_refs.specs.declared.status.RefStatus.TheVariants.{Cli, Reference, ReadOnly}

-- the endings: those of every program, by a reference, and by a line that writes or erases
pub data RefEnding : Type 0 where
  cli : Ending → RefEnding
  repeated_key : List ℕ → RefEnding
  missing_base : List ℕ → RefEnding
  slice_out_of_bounds : List ℕ → RefEnding
  read_only : ℕ → RefEnding

-- the status code
abbrev pub ref_code : RefEnding → ℕ
ref_code (cli ending) = ending_code ending
ref_code (repeated_key key) = 11
ref_code (missing_base key) = 11
ref_code (slice_out_of_bounds key) = 11
ref_code (read_only line) = 11

-- the one line that stands in place of the replies, as `ending_line` has it
abbrev pub ref_line : RefEnding → Option (List ℕ)
ref_line (cli ending) = ending_line ending
ref_line (repeated_key key) = Some (line_of (codes "refused RepeatedKey " ++ key))
ref_line (missing_base key) = Some (line_of (codes "refused MissingBase " ++ key))
ref_line (slice_out_of_bounds key) = Some (line_of (codes "refused SliceOutOfBounds " ++ key))
ref_line (read_only line) = Some (line_of (codes "refused ReadOnly " ++ decimal line))

-- the ending by why references make no store
abbrev pub by_reference : RefError → RefEnding
by_reference (RepeatedKey key) = repeated_key key
by_reference (MissingBase key) = missing_base key
by_reference (SliceOutOfBounds key) = slice_out_of_bounds key
by_reference Store = cli end.store_fault
by_reference OutOfMemory = cli end.out_of_memory

-- the ending that a status stands for
abbrev pub ref_ending_of : RefStatus → RefEnding
ref_ending_of (Cli status) = cli (ending_of status)
ref_ending_of (Reference error) = by_reference error
ref_ending_of (ReadOnly line) = read_only line

-- an ending is this one, or want of memory, which is free
abbrev pub IsRefOrMemory : RefEnding → RefEnding → Type 0
IsRefOrMemory ending called_for = (ending ≡ called_for) ⊎ (ending ≡ cli end.out_of_memory)

-- an ending that tells that all key lines were set
abbrev pub IsBehindKeys : RefEnding → Type 0
IsBehindKeys (cli end.done) = Unit {0}
IsBehindKeys (cli end.write_fault) = Unit {0}
IsBehindKeys (cli (end.damaged_chunk key)) = Unit {0}
IsBehindKeys (cli _) = ⊥
IsBehindKeys (repeated_key key) = Unit {0}
IsBehindKeys (missing_base key) = Unit {0}
IsBehindKeys (slice_out_of_bounds key) = Unit {0}
IsBehindKeys (read_only line) = ⊥

-- an ending by the words, the reading or the input, before the store is touched
abbrev pub IsEarlyRef : RefEnding → Type 0
IsEarlyRef (cli ending) = IsBeforeStore ending
IsEarlyRef (repeated_key key) = ⊥
IsEarlyRef (missing_base key) = ⊥
IsEarlyRef (slice_out_of_bounds key) = ⊥
IsEarlyRef (read_only line) = Unit {0}

-- an ending by a reference
abbrev pub IsByReference : RefEnding → Type 0
IsByReference (cli ending) = ⊥
IsByReference (repeated_key key) = Unit {0}
IsByReference (missing_base key) = Unit {0}
IsByReference (slice_out_of_bounds key) = Unit {0}
IsByReference (read_only line) = ⊥
