-- Where one command fails.
use Rattle.std.specs.Prelude.{ℕ, List}
use Rattle.zarrs_codec_error.specs.declared.error.CodecError.{CodecError}
use Rattle.zarr_array.specs.declared.command_error.CommandError.{CommandError}
use Rattle.zarr_array.specs.declared.command_error.SessionErrorKind.TheVariants.{OutOfMemory}
use Rattle.zarr_array.specs.Chunk.{chunk_kind}

-- want of memory after so many chunks, and before the first one
abbrev pub starved_after : ℕ → CommandError
starved_after chunks_done = record { chunks_done = chunks_done; kind = OutOfMemory }

abbrev pub before_chunks : CommandError
before_chunks = starved_after 0

-- the chunk of a key was not fetched or not stored after so many chunks
abbrev pub stopped_at : ℕ → List ℕ → CodecError → CommandError
stopped_at chunks_done key error = record { chunks_done = chunks_done; kind = chunk_kind key error }
