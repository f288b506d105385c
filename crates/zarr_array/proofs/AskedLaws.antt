-- The part of a chunk that a read of a region asks for.
use Rattle.std.proofs.Common.{◌≡◌, ℕ, Bool, true, false, ◌==◌, not, if◌then◌else◌, List, Option, Some, None, refl}
use Rattle.std.proofs.Common.{ap₂}
use Rattle.zarr_model.specs.Prelude.{Region, count, overlap_of, is_in_part, part_of_box, Options, Description}
use Rattle.zarr_model.specs.Prelude.{finds_shared}
use Rattle.zarr_array.specs.Asked.{part_asked, chunk_asked, finds_asked}

-- a box that is what a region shares with a chunk is asked for so
pub shared_asked : (description : Description) (region : Region) (chunk : List ℕ) (within : Region) →
    within ≡ part_of_box region (description.grid.chunk_box chunk) →
    count within ≡ count (overlap_of region (description.grid.chunk_box chunk)) →
    part_asked (description.grid.chunk_box chunk) within ≡ chunk_asked description (Some region) chunk
shared_asked description region chunk within is many =
    ap₂ (λ (n : ℕ) (w : Region). if not (n == count (description.grid.chunk_box chunk)) then Some w else None) many is

-- a value holds it where it holds what is shared
pub asked_shared :
    (description : Description) (options : Options) (region : Region) (chunk : List ℕ) (value : Option (List ℕ)) →
    finds_asked description options chunk (chunk_asked description (Some region) chunk) value ≡
    finds_shared description options region chunk value
asked_shared description options region chunk value =
    go (is_in_part region (description.grid.chunk_box chunk)) refl value
  where
    go : (part : Bool) → is_in_part region (description.grid.chunk_box chunk) ≡ part → (value : Option (List ℕ)) →
        finds_asked description options chunk (chunk_asked description (Some region) chunk) value ≡
        finds_shared description options region chunk value
    go true part None = rw part refl
    go false whole None = rw whole refl
    go true part (Some value) = rw part refl
    go false whole (Some value) = rw whole refl
