-- The codec `bytes`.
use Rattle.std.specs.Prelude.{◌≡◌, ◌⊎◌, ◌<◌, ℕ, ◌*◌, ◌==◌, if◌then◌else◌, Bool, true, false, List, codes, bytes_eq}
use Rattle.std.specs.Prelude.{Result, Err, Option, Some, None, option_map, option_and_then, refl}
use Rattle.serde_json.specs.Data.{Data, null, boolean, number, string, array, object, Members, no_members, member}
use Rattle.zarrs_codec_traits.specs.Prelude.{count_of, DataType, kind_of, fixed_size, fixed, Extension, ◌>>=◌, Unmade}
use Rattle.zarrs_codec_traits.specs.Prelude.{or_config, bytes_table, size_in, taken}
use Rattle.zarr_model.specs.Codec.{ByteOrder, little, big, component_size, Level}
use Rattle.zarrs_metadata_values.specs.Configuration.{is_empty, only_member}
use Rattle.zarrs_plugin.specs.Making as making
use Rattle.zarr_model.specs.declared.endianness.Endianness.{Endianness}
use Rattle.zarr_model.specs.declared.endianness.Endianness.TheVariants.{Little, Big}
use Rattle.zarrs_data_type_bytes.specs.declared.codec_support.CodecName.TheVariants as names
use Rattle.zarrs_codec_traits.specs.Errors.{Unserved, unsupported, endianness_missing}

-- the byte order that elements are stored in; without a name their components have one byte, and
-- every order is the same
abbrev pub stored_order : Option Endianness → ByteOrder
stored_order (Some Little) = little
stored_order (Some Big) = big
stored_order None = little

-- components of several bytes need an order; types without components are not served
abbrev pub component_unserved : Option Endianness → Option ℕ → Option Unserved
component_unserved order None = Some (unsupported names.Bytes)
component_unserved (Some order) (Some n) = None
component_unserved None (Some n) = if n == 1 then None else Some endianness_missing

abbrev pub type_unserved : Option Endianness → DataType → Option Unserved
type_unserved order data_type = component_unserved order (bytes_table data_type)

-- why a call with this type, or with none, is refused
abbrev pub bytes_unserved : Option Endianness → Option DataType → Option Unserved
bytes_unserved order data_type = option_and_then (type_unserved order) data_type

-- a type that is served is so by a call that takes only some of a level
pub bytes_serves : (order : Option Endianness) (data_type : DataType) (with_type : Bool)
    → bytes_unserved order (Some data_type) ≡ None
    → bytes_unserved order (taken with_type data_type) ≡ None
bytes_serves order data_type true served = served
bytes_serves order data_type false served = refl

-- the size of the elements of a level, and how many bytes they have together
abbrev pub element_bytes : DataType → ℕ
element_bytes data_type = size_in (fixed_size (kind_of data_type))

abbrev pub bytes_size : Level → ℕ
bytes_size level = count_of level.shape * element_bytes level.data_type

-- elements have this size, and their components that one
pub record IsLaid (data_type : DataType) (size component : ℕ) : Type 0 where
  pub kind : kind_of data_type ≡ fixed size
  pub parts : component_size data_type ≡ component
  pub some : 0 < component
  pub whole : (component ≡ 1) ⊎ (component ≡ size)

-- the configuration of a byte order
abbrev pub byte_order_text : Endianness → List ℕ
byte_order_text Little = codes "little"
byte_order_text Big = codes "big"

abbrev pub byte_order_members : Option Endianness → Members
byte_order_members None = no_members
byte_order_members (Some order) =
    member (codes "endian") (string (byte_order_text order)) no_members

-- a byte order by its text, or null
abbrev pub order_named : List ℕ → Option (Option Endianness)
order_named s = if bytes_eq s (codes "little") then Some (Some Little)
    else if bytes_eq s (codes "big") then Some (Some Big) else None

abbrev pub order_or_null : Data → Option (Option Endianness)
order_or_null null = Some None
order_or_null (boolean b) = None
order_or_null (number n) = None
order_or_null (string s) = order_named s
order_or_null (array ds) = None
order_or_null (object ms) = None

unfoldable pub given_order : Members → Option (Option Endianness)
given_order ms = only_member (codes "endian") ms >>= order_or_null

-- nothing, or exactly `endian`
abbrev pub byte_order_in : Option Members → Option (Option Endianness)
byte_order_in None = Some None
byte_order_in (Some ms) = if is_empty ms then Some None else given_order ms

-- the codec of metadata, which has its name
abbrev pub bytes_created : Extension → Result (Option Members) Unmade
bytes_created e = if bytes_eq e.name (codes "bytes")
    then or_config
    (option_map (λ order. Some (byte_order_members order)) (byte_order_in e.configuration))
    else Err (making.unsupported e.name)
