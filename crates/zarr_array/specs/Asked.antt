-- The part of a chunk that a call asks for, and whether what stands under the chunk's key holds it.
use Rattle.std.specs.Prelude.{◌==◌, not, if◌then◌else◌, ℕ, Bool, false, List, Option, Some, None}
use Rattle.zarr_model.specs.Prelude.{Region, count, is_in_part, part_of_box, Options, Description, chain_finds}
use Rattle.zarr_array_open.specs.ChunkLevels.{chunk_level}

-- a box inside another where it is not all of that
abbrev pub part_asked : Region → Region → Option Region
part_asked box within = if not (count within == count box) then Some within else None

-- of a read of a region what the region shares with a chunk, unless that is all of it; else no part
abbrev pub chunk_asked : Description → Option Region → List ℕ → Option Region
chunk_asked description None chunk = None
chunk_asked description (Some region) chunk =
    if is_in_part region (description.grid.chunk_box chunk)
    then Some (part_of_box region (description.grid.chunk_box chunk)) else None

-- whether a value that need not decode holds the part of a chunk that is asked for
abbrev pub finds_asked : Description → Options → List ℕ → Option Region → Option (List ℕ) → Bool
finds_asked description options chunk None value = false
finds_asked description options chunk (Some within) None = false
finds_asked description options chunk (Some within) (Some value) =
    chain_finds (description.finds options) (description.chain options)
    (chunk_level description chunk) within value
