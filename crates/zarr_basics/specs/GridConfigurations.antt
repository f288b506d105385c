-- The forms of the configurations of grids: that of the grid `regular`, beside that of boundaries.
use Rattle.std.specs.Prelude.{ℕ, Bool, ◌==◌, ◌&&◌, nat_le, if◌then◌else◌, List, length, codes, Option, Some, None}
use Rattle.std.specs.List.{list_all}
use Rattle.serde_json.specs.Data.{Members}
use Rattle.zarrs_metadata_values.specs.Configuration.{only_member}
use Rattle.zarrs_metadata_values.specs.Reading.{◌>>=◌, whole_numbers}
pub use Rattle.zarr_basics.specs.BoundaryConfigurations.{lengths_in, lengths_members, chunk_shape_members, members_of}

-- a positive length for each dimension of a shape
abbrev pub are_chunk_lengths : List ℕ → List ℕ → Bool
are_chunk_lengths shape lengths = (length lengths == length shape)
    && list_all (λ p. nat_le 1 p) lengths

abbrev pub if_chunk_lengths : List ℕ → List ℕ → Option (List ℕ)
if_chunk_lengths shape lengths = if are_chunk_lengths shape lengths then Some lengths else None

-- the grid `regular`: exactly `chunk_shape`
unfoldable pub chunk_shape_in : List ℕ → Option Members → Option (List ℕ)
chunk_shape_in shape configuration = do
  ms ← configuration
  value ← only_member (codes "chunk_shape") ms
  lengths ← whole_numbers value
  if_chunk_lengths shape lengths
