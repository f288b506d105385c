-- The bytes that commands take of a store where the codec `bytes` stands alone.
use Rattle.std.specs.Prelude.{◌≡◌, ◌⊎◌, ℕ, ◌*◌, Bool, true, false, not, ◌&&◌, ◌||◌, if◌then◌else◌, List, [], ◌∷◌}
use Rattle.std.specs.Prelude.{length, filter, unwrap_or}
use Rattle.std.specs.List.{list_any}
use Rattle.zarr_model.specs.Region.{Region, count, contains, tuples}
use Rattle.zarr_model.specs.Element.{Element, fixed_size}
use Rattle.zarr_model.specs.Array.{Array}
use Rattle.zarr_model.specs.Grid.{IsChunk}
use Rattle.zarr_model.specs.Codec.{Options}
use Rattle.zarr_model.specs.Store.{Content, WhollyMeans}
use Rattle.zarr_model.specs.Command.{Command, read, write, erase, Description, kind, layout}
use Rattle.zarr_model.specs.Cost.{present_in, present_after, all_bytes, counted}
use Rattle.zarr_model.specs.Shown.{Shown}

-- whether a command writes, and whether none of some commands does
abbrev pub is_write : Command → Bool
is_write (read region) = false
is_write (write region value) = true
is_write (erase chunk) = false

abbrev pub are_none : List Command → Bool
are_none [] = true
are_none (command ∷ commands) = false

-- no command of a list follows a write
abbrev pub writes_last : List Command → Bool
writes_last [] = true
writes_last (command ∷ commands) = (are_none commands || not (is_write command))
    && writes_last commands

-- Which chunks are present before each command of a list is told by the array that a store wholly
-- means, and where no command follows a write by the store's keys.
abbrev pub TellsPresence : Description → Options → List Command → Content → Array Element → Type 0
TellsPresence description options commands store array =
    WhollyMeans (layout description options) store array ⊎ (writes_last commands ≡ true)

-- commands that ran took of a store exactly the bytes that they need
abbrev pub TakesNeeded : Description → Options → List Command → Shown → Shown → Type 0
TakesNeeded description options commands before now = (array : Array Element) →
    TellsPresence description options commands before.content array →
    now.taken ≡ counted before.taken
    (all_bytes description options commands array (present_in description before.content))

-- commands without a write left exactly those chunks present that they do not erase
abbrev pub ErasesKeys : Description → Options → List Command → Content → Content → Type 0
ErasesKeys description options commands old new = list_any is_write commands ≡ false →
    (array : Array Element) (chunk : List ℕ) → IsChunk description.grid chunk →
    present_in description new chunk
    ≡ present_after description options commands array (present_in description old) chunk

-- the bytes that a read of a region needs of a chunk, and those that a write needs
abbrev pub read_bytes : Description → Region → Content → List ℕ → ℕ
read_bytes description region store chunk = if present_in description store chunk
    then unwrap_or (fixed_size (kind description)) 0
    * length (filter (contains (description.grid.chunk_box chunk)) (tuples region))
    else 0

abbrev pub write_bytes : Description → Content → List ℕ → ℕ
write_bytes description store chunk = if present_in description store chunk
    then unwrap_or (fixed_size (kind description)) 0 * count (description.grid.chunk_box chunk)
    else 0
