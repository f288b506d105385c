-- The form of the configuration of a grid of boundaries, and how those of grids are written.
use Rattle.std.specs.Prelude.{ℕ, if◌then◌else◌, List, map, codes, Option, Some, None}
use Rattle.serde_json.specs.Data.{Data, array, Members, no_members, member}
use Rattle.serde_json.specs.Find.{as_array}
use Rattle.serde_json.specs.View.{items_of}
use Rattle.zarr_model.specs.Prelude.{are_cut}
use Rattle.zarrs_metadata_values.specs.Configuration.{only_member}
use Rattle.zarrs_metadata_values.specs.Reading.{◌>>=◌, each, whole_numbers}
use Rattle.zarrs_metadata_values.specs.Writing.{numbers_data}
use Rattle.zarr_basics.specs.GridForms.{ChunkGrid, regular, boundaries}

-- a list of lists of whole numbers
unfoldable pub number_lists : Data → Option (List (List ℕ))
number_lists value = as_array value >>= each whole_numbers

-- lengths that cut each dimension of a shape
abbrev pub if_cut : List ℕ → List (List ℕ) → Option (List (List ℕ))
if_cut shape lengths = if are_cut shape lengths then Some lengths else None

-- the grid of boundaries: exactly `lengths`
unfoldable pub lengths_in : List ℕ → Option Members → Option (List (List ℕ))
lengths_in shape configuration = do
  ms ← configuration
  value ← only_member (codes "lengths") ms
  lengths ← number_lists value
  if_cut shape lengths

-- it is written so
abbrev pub number_lists_data : List (List ℕ) → Data
number_lists_data lists = array (items_of (map numbers_data lists))

abbrev pub lengths_members : List (List ℕ) → Members
lengths_members lengths = member (codes "lengths") (number_lists_data lengths) no_members

-- a chunk shape is written so
abbrev pub chunk_shape_members : List ℕ → Members
chunk_shape_members lengths = member (codes "chunk_shape") (numbers_data lengths) no_members

-- the members of the configuration of a grid by name
abbrev pub members_of : ChunkGrid → Members
members_of (regular chunk_shape) = chunk_shape_members chunk_shape
members_of (boundaries lengths) = lengths_members lengths
