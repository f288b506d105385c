-- The grid in a chunk grid that was made.
use Rattle.std.specs.Prelude.{Result, Ok, Err}
use Rattle.zarrs_plugin.specs.declared.error.PluginCreateError.{PluginCreateError}
use Rattle.zarrs_chunk_grid.specs.declared.chunk_grid.ChunkGrid.{ChunkGrid}

abbrev pub grid_made : {G : Type 0} → Result (ChunkGrid G) PluginCreateError
    → Result G PluginCreateError
grid_made (Ok made) = Ok made.grid
grid_made (Err error) = Err error
