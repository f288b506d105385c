-- The names and the configurations that data types are written with.
use Rattle.std.specs.Prelude.{ℕ, ◌*◌, List, [], ◌++◌, codes, decimal, Option, Some, None}
use Rattle.serde_json.specs.Data.{string, object, Members, no_members, member}
use Rattle.zarr_model.specs.Element.{DataType, bool_type, int_type, uint_type, raw_type, string_type, bytes_type}
use Rattle.zarr_model.specs.Element.{optional_type}
use Rattle.zarrs_plugin.specs.declared.zarr_version.ZarrVersion.{ZarrVersion}
use Rattle.zarrs_plugin.specs.declared.zarr_version.ZarrVersion.TheVariants.{V2, V3}

-- a word, and behind it so many bytes in bits
abbrev pub sized_name : List ℕ → ℕ → List ℕ
sized_name word size = word ++ decimal (size * 8)

-- the name of a type in version 3 (Zarr v3 core, "Data types")
abbrev pub name_in_v3 : DataType → List ℕ
name_in_v3 bool_type = codes "bool"
name_in_v3 (int_type n) = sized_name (codes "int") n
name_in_v3 (uint_type n) = sized_name (codes "uint") n
name_in_v3 (raw_type n) = sized_name (codes "r") n
name_in_v3 string_type = codes "string"
name_in_v3 bytes_type = codes "bytes"
name_in_v3 (optional_type inner) = codes "zarrs.optional"

-- In version 2 only optional types have a name.
abbrev pub type_name : ZarrVersion → DataType → Option (List ℕ)
type_name V3 t = Some (name_in_v3 t)
type_name V2 (optional_type inner) = Some (codes "zarrs.optional")
type_name V2 _ = None

-- a text, or the empty one
abbrev pub text_or_empty : Option (List ℕ) → List ℕ
text_or_empty None = []
text_or_empty (Some text) = text

-- The configuration of an optional type has the configuration and the name of the type inside; all
-- others are empty.
abbrev pub type_configuration : ZarrVersion → DataType → Members
type_configuration version (optional_type inner) =
    member (codes "configuration") (object (type_configuration version inner))
    (member (codes "name") (string (text_or_empty (type_name version inner))) no_members)
type_configuration version _ = no_members
