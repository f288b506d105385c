-- The ending that a status stands for.
use Rattle.std.specs.Prelude.{Option, Some, None}
use Rattle.zarr_cli_runs.specs.declared.status.Status.{Status}
use Rattle.zarr_cli_runs.specs.declared.status.Status.TheVariants.{Done, BadWords, BadInput, Document, Chunk, Store}
use Rattle.zarr_cli_runs.specs.declared.status.Status.TheVariants.{Read, Write, TooLong, OutOfMemory}
use Rattle.zarr_cli_runs.specs.array.parts.Opening.{OpenRefusal}
use Rattle.zarr_cli_runs.specs.array.parts.OpenError.{open_refusal_of}
use Rattle.zarr_cli_runs.specs.Ending.{Ending, done, bad_words, bad_input, refused_document, damaged_chunk, store_fault}
use Rattle.zarr_cli_runs.specs.Ending.{read_fault, write_fault, too_long, out_of_memory}

-- an ending by a refused document
abbrev pub refused_by : Option OpenRefusal → Ending
refused_by (Some why) = refused_document why
refused_by None = out_of_memory

-- the ending that a status stands for
abbrev pub ending_of : Status → Ending
ending_of Done = done
ending_of BadWords = bad_words
ending_of (BadInput line) = bad_input line
ending_of (Document error) = refused_by (open_refusal_of error)
ending_of (Chunk key) = damaged_chunk key
ending_of Store = store_fault
ending_of Read = read_fault
ending_of Write = write_fault
ending_of TooLong = too_long
ending_of OutOfMemory = out_of_memory
