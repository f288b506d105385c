-- An array as those see it who read and write it chunk by chunk.
use Rattle.std.specs.Prelude.{◌≡◌, ℕ, Bool, true, false, List, Option, Some, None}
use Rattle.zarr_model.specs.Prelude.{Region, Options, Description, CoversShape, IsSound, layout, kind, fixed_size}
use Rattle.zarr_basics.specs.Limits.{has_large_chunk}
use Rattle.zarrs_codec_error.specs.declared.error.CodecError.{CodecError}

-- what reading calls cost: how many there are, and how many bytes they take
pub record Cost : Type 0 where
  pub asks : ℕ
  pub taken : ℕ

-- what a box of a chunk costs, by what stands under the chunk's key
abbrev pub PartCost : Type 0
PartCost = Options → List ℕ → Region → Option (List ℕ) → Cost

-- What fetching a chunk costs: one call, by which exactly the bytes that are needed are taken where
-- that is told; or, for what is read of it, what the parts of its value cost that hold it.
pub data Costs : Type 0 where
  by_chunk : Bool → Costs
  by_part : PartCost → Costs

-- whether one call fetches a chunk
abbrev pub is_once : Costs → Bool
is_once (by_chunk alone) = true
is_once (by_part cost) = false

-- which errors tell that the value of a chunk, of which all was asked for or a part, does not
-- decode
abbrev pub Says : Type 1
Says = Options → List ℕ → Option Region → List ℕ → CodecError → Type 0

-- the same of what stands under its key
abbrev pub stored_by : Says → Options → List ℕ → Option Region → Option (List ℕ) → CodecError
    → Type 0
stored_by says options chunk asked None e = ⊥
stored_by says options chunk asked (Some value) e = says options chunk asked value e

-- what an array is, what tells that a chunk's value does not decode, and what fetching chunks costs
pub record Access : Type 1 where
  pub description : Description
  pub says : Says
  pub costs : Costs

abbrev pub described : Access → Description
described array = array.description

-- an array whose chunks cover it, have keys of their own and decode to their lists, and none of
-- which is too large
pub record IsServed (description : Description) : Type 0 where
  pub covers : CoversShape description.shape description.grid
  pub sound : (options : Options) → IsSound (layout description options)
  pub small : has_large_chunk description.grid (fixed_size (kind description)) ≡ false

-- what serves for the chunks of one shape, and was made for one of them
abbrev pub IsInHand : {L : Type 0} → (List ℕ → L → Type 0) → L → Type 0
IsInHand serves levels = (chunk : List ℕ) × serves chunk levels
