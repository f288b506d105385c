-- The damage of a store that still stands after some commands, and a store without it.
use Rattle.std.specs.Prelude.{ℕ, ◌&&◌, not, Bool, List}
use Rattle.std.specs.List.{list_any}
use Rattle.zarr_model.specs.Codec.{Options}
use Rattle.zarr_model.specs.Store.{Content}
use Rattle.zarr_model.specs.Command.{Command, Description, layout}
use Rattle.zarr_model.specs.Failure.{without_chunks, is_damaged}
use Rattle.zarr_model.specs.Causes.{erases_chunk}

-- whether a chunk's value did not decode at the start, and none of the accepted commands since
-- erases the chunk
abbrev pub is_still_damaged : Description → Options → List Command → Content → List ℕ → Bool
is_still_damaged description options commands old chunk =
    is_damaged (layout description options) old chunk
    && not (list_any (erases_chunk description chunk) commands)

-- a store after commands, without the damage of the start that still stands
abbrev pub mended : Description → Options → List Command → Content → Content → Content
mended description options commands old new = without_chunks (layout description options)
    (is_still_damaged description options commands old) new
