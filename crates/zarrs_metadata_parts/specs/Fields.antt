-- Fields that documents of both versions have.
use Rattle.std.specs.Prelude.{ℕ, ⊤, List, Option, codes}
use Rattle.serde_json.specs.Data.{unsigned, Data, number, string, Members, put}
use Rattle.zarrs_metadata_values.specs.Reading.{◌>>=◌, read_under, is_number, is_text}
use Rattle.zarrs_metadata_values.specs.Writing.{numbers_data}

-- the version and the kind of a node are these
unfoldable pub is_kind : ℕ → List ℕ → Members → Option ⊤
is_kind version kind ms = do
  _ ← read_under (codes "zarr_format") (is_number version) ms
  read_under (codes "node_type") (is_text kind) ms

-- they are put
abbrev pub put_node_kind : ℕ → List ℕ → Members → Members
put_node_kind version kind ms =
    put (codes "zarr_format") (number (unsigned version)) (put (codes "node_type") (string kind) ms)

-- what arrays of both versions have is put
abbrev pub put_array : ℕ → List ℕ → Data → Members → Members
put_array version shape fill_value ms =
    put_node_kind version (codes "array")
    (put (codes "shape") (numbers_data shape) (put (codes "fill_value") fill_value ms))
