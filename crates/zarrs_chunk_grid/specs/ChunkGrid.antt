-- Words on any chunk grid.
use Rattle.std.specs.Prelude.{◌≡◌, ℕ, ◌<◌, ◌≤◌, Bool, true, false, ◌==◌, ◌&&◌, ◌||◌, nat_lt, if◌then◌else◌, List, []}
use Rattle.std.specs.Prelude.{◌∷◌, length, replicate, Option, Some, None, IsTrue}
use Rattle.zarr_model.specs.Region.{Region, starts, sizes, count, whole, contains, tuples, ends_within}
use Rattle.zarr_model.specs.Grid.{Grid, IsChunk, chunks_meeting}
use Rattle.zarrs_array_subset.specs.Boxes.{is_box, differences, region_between, last_indices, ends}

-- the box of a chunk, where there is such a chunk, ends within 64 bits
abbrev pub BoxFits : Grid → List ℕ → Type 0
BoxFits grid chunk =
    IsChunk grid chunk →
    is_box (starts (grid.chunk_box chunk)) (sizes (grid.chunk_box chunk)) ≡ true

-- the boxes of all chunks do
abbrev pub AllFit : Grid → Type 0
AllFit grid = (chunk : List ℕ) → BoxFits grid chunk

-- a part of the box of a chunk, if these are the indices of one
abbrev pub in_chunk : {X : Type 0} → (Region → X) → Grid → List ℕ → Option X
in_chunk part grid chunk =
    if contains (whole grid.grid_shape) chunk then Some (part (grid.chunk_box chunk)) else None

-- the indices of a chunk whose box has an element
abbrev pub HasElement : Grid → List ℕ → List ℕ → Type 0
HasElement grid tuple chunk = IsChunk grid chunk × IsTrue (contains (grid.chunk_box chunk) tuple)

-- where an element is in the chunk that has it, from that chunk's start on
abbrev pub IsPlaceInChunk : Grid → List ℕ → List ℕ → Type 0
IsPlaceInChunk grid tuple place = (chunk : List ℕ) → HasElement grid tuple chunk →
    place ≡ differences tuple (starts (grid.chunk_box chunk))

-- the chunks that a region inside the shape meets, as a box of chunks, no more than its elements
abbrev pub AreMet : Grid → Region → Region → Type 0
AreMet grid region chunks =
    (tuples chunks ≡ chunks_meeting grid region) × (count chunks ≤ count region)

-- the empty region of a rank
abbrev pub empty_region : ℕ → Region
empty_region rank = whole (replicate rank 0)

-- the region from the start of the first chunk to the end of the last one
abbrev pub between_chunks : Grid → Region → Region
between_chunks grid chunks = region_between (starts (grid.chunk_box (starts chunks)))
    (ends (grid.chunk_box (last_indices chunks)))

-- the same where it may hold no chunk, and none where an index is past the grid
abbrev pub region_of_chunks : Grid → Region → Option Region
region_of_chunks grid chunks =
    if count chunks == 0 then Some (empty_region (length grid.grid_shape))
    else if ends_within chunks grid.grid_shape then Some (between_chunks grid chunks) else None

-- the box of the last chunk, if there is one, ends within 64 bits
abbrev pub LastFits : Grid → Region → Type 0
LastFits grid chunks = 0 < count chunks → BoxFits grid (last_indices chunks)

-- each index is below the length in its place, where every index is below a length of 0
abbrev pub are_inbounds : List ℕ → List ℕ → Bool
are_inbounds [] [] = true
are_inbounds (n ∷ shape) (index ∷ indices) =
    ((n == 0) || nat_lt index n) && are_inbounds shape indices
are_inbounds [] (index ∷ indices) = false
are_inbounds (n ∷ shape) [] = false
