-- Which data type a document names, by the names of a registry.
use Rattle.std.specs.Prelude.{ℕ, Bool, ◌&&◌, if◌then◌else◌, List, codes, bytes_eq, Option, Some, Result, Ok, Err}
use Rattle.serde_json.specs.Data.{Data, string, object, Members, no_members, member}
use Rattle.zarr_model.specs.Element.{DataType, optional_type}
use Rattle.zarrs_plugin.specs.Registry.{Names, find}
use Rattle.zarrs_plugin.specs.declared.error.PluginKind.TheVariants as plugin
use Rattle.zarrs_plugin.specs.declared.error.PluginCreateError.{PluginCreateError}
use Rattle.zarrs_metadata_values.specs.Configuration.{members_or_none, is_empty}
use Rattle.zarrs_metadata_parts.specs.MetadataV3.{Extension, extension_seen}
use Rattle.zarrs_metadata_parts.specs.DataTypeV2.{DataTypeV2, simple, structured, data_type_v2_seen}
use Rattle.zarrs_plugin.specs.Making.{Unmade, config, other}
use Rattle.zarrs_plugin.specs.Making as extension
use Rattle.zarrs_data_type.specs.Kinds.{kind_type}
use Rattle.zarrs_data_type.specs.declared.data_type.kind.DataTypeKind as kinds
use Rattle.zarrs_data_type.specs.declared.data_type.kind.DataTypeKind.TheVariants.{RawBits}
use Rattle.zarrs_data_type.specs.declared.data_type.create.DataTypeMetadata.{DataTypeMetadata}
use Rattle.zarrs_data_type.specs.declared.data_type.create.DataTypeMetadata.TheVariants.{V3, V2}

-- an optional type, if the type inside is one
abbrev pub made_optional : Result DataType Unmade → Result DataType Unmade
made_optional (Ok inner) = Ok (optional_type inner)
made_optional (Err why) = Err why

-- the two keys that it has
abbrev pub are_named : List ℕ → List ℕ → Bool
are_named k l = bytes_eq k (codes "configuration") && bytes_eq l (codes "name")

-- The type inside an optional one is said by exactly the members `configuration`, an object, and
-- `name`, a text, which stand in this order.
abbrev mutual
  pub optional_pair : Names kinds.DataTypeKind → Members → Result DataType Unmade
  optional_pair names no_members = Err config
  optional_pair names (member k d no_members) = Err config
  optional_pair names (member k d (member l e no_members)) =
      if are_named k l then pair_type names d e else Err config
  optional_pair names (member k d (member l e (member m f ms))) = Err config

  pub pair_type : Names kinds.DataTypeKind → Data → Data → Result DataType Unmade
  pair_type names (object ms) (string s) =
      made_optional (kind_type s (find s names) (is_empty ms) (optional_pair names ms))
  pair_type names _ _ = Err config

-- the type of a name and the members of its configuration
abbrev pub type_in : Names kinds.DataTypeKind → List ℕ → Members → Result DataType Unmade
type_in names name ms = kind_type name (find name names) (is_empty ms) (optional_pair names ms)

-- the type of an extension, which must be understood; none and an empty configuration are the same
abbrev pub type_by : Names kinds.DataTypeKind → Extension → Result DataType Unmade
type_by names e =
    if e.must_understand then type_in names e.name (members_or_none e.configuration) else Err other

-- In version 2 a type has its name alone, and no raw type has one.
abbrev pub unless_raw : Option kinds.DataTypeKind → Result DataType Unmade
    → Result DataType Unmade
unless_raw (Some RawBits) made = Err config
unless_raw _ made = made

-- the name that is looked up, one for all structured types
abbrev pub name_v2 : DataTypeV2 → List ℕ
name_v2 (simple name) = name
name_v2 (structured fields) = codes "structured_v2"

abbrev pub type_in_v2 : Names kinds.DataTypeKind → List ℕ → Result DataType Unmade
type_in_v2 names name = unless_raw (find name names) (type_in names name no_members)

abbrev pub type_by_v2 : Names kinds.DataTypeKind → DataTypeV2 → Result DataType Unmade
type_by_v2 names d = type_in_v2 names (name_v2 d)

-- the type of the metadata of either version
abbrev pub type_by_metadata : Names kinds.DataTypeKind → DataTypeMetadata
    → Result DataType Unmade
type_by_metadata names (V3 metadata) = type_by names (extension_seen metadata.now)
type_by_metadata names (V2 metadata) = type_by_v2 names (data_type_v2_seen metadata.now)

-- what a call made is seen as the type, or it refused so, or memory ran out
abbrev pub MakesType : {X : Type 0} → (X → DataType) → Result X PluginCreateError
    → Result DataType Unmade → Type 0
MakesType seen result expected = extension.Makes plugin.DataType seen result expected
