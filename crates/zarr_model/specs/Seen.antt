-- Damaged values that commands see, and those that a read of a part does not notice.
use Rattle.std.specs.Prelude.{◌≡◌, ℕ, Bool, true, false, ◌&&◌, List, take, slice_get, Contains, Option, Some, None}
use Rattle.std.specs.List.{list_any}
use Rattle.zarr_model.specs.Region.{Region, sizes, part_of_box, is_in_part}
use Rattle.zarr_model.specs.Codec.{Options}
use Rattle.zarr_model.specs.Store.{Content, chunk_content}
use Rattle.zarr_model.specs.Command.{Command, read, write, erase, Description, layout}
use Rattle.zarr_model.specs.Cost.{command_chunks, asks_store}
use Rattle.zarr_model.specs.Causes.{erases_chunk}
use Rattle.zarr_model.specs.Parts.{chain_finds}

-- whether what stands under a chunk's key holds the part of the chunk that a region shares
abbrev pub finds_shared : Description → Options → Region → List ℕ → Option (List ℕ) → Bool
finds_shared description options region chunk None = false
finds_shared description options region chunk (Some value) =
    is_in_part region (description.grid.chunk_box chunk)
    && chain_finds (description.finds options) (description.chain options) (record {
      shape = sizes (description.grid.chunk_box chunk);
      data_type = description.data_type;
      fill = description.fill;
    }) (part_of_box region (description.grid.chunk_box chunk)) value

-- whether a command may pass over a chunk's value that does not decode: a read of a part of the
-- chunk whose pieces are there
abbrev pub passes_over : Description → Options → Content → Command → List ℕ → Bool
passes_over description options store (read region) chunk =
    finds_shared description options region chunk (store (description.key chunk))
passes_over description options store (write region value) chunk = false
passes_over description options store (erase other) chunk = false

-- a key is that of a chunk whose value does not decode in a store, and that an accepted read or
-- write meets with no accepted erase of it before, which may not pass over it
abbrev pub IsDamageSeen : Description → Options → List Command → Content → List ℕ → Type 0
IsDamageSeen description options commands store key =
    (m : ℕ) × (command : Command) × (slice_get commands m ≡ Some command)
    × (asks_store command ≡ true)
    × (chunk : List ℕ) × Contains (command_chunks description command) chunk
    × (description.key chunk ≡ key)
    × (list_any (erases_chunk description chunk) (take m commands) ≡ false)
    × (chunk_content (layout description options) store chunk ≡ None)
    × (passes_over description options store command chunk ≡ false)

-- each value that an accepted read or write of a list meets decodes, if no accepted command before
-- it erases the chunk, or a read passes over it
pub record SeesNoDamage (description : Description) (options : Options) (commands : List Command)
    (store : Content) : Type 0 where
  pub no_key : (key : List ℕ) → ¬ IsDamageSeen description options commands store key
