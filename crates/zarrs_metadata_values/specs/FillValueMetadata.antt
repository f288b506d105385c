-- The data that a `FillValueMetadataV3` stands for.
use Rattle.std.specs.Prelude.{ℕ, nat_lt, if◌then◌else◌, List, map, Option, Some, None, String, string_bytes}
use Rattle.std.specs.declared.alloc.Global.{Global}
use Rattle.serde_json.specs.Data.{Data, null, boolean, number, string, array, object, Items, Members}
use Rattle.serde_json.specs.Find.{as_number, as_u64}
use Rattle.serde_json.specs.View.{number_view, items_of, members_of}
use Rattle.zarrs_metadata_values.specs.Reading.{◌>>=◌, each}
use Rattle.zarrs_metadata_values.specs.declared.fill_value.FillValueMetadataV3.{FillValueMetadataV3}
use Rattle.zarrs_metadata_values.specs.declared.fill_value.FillValueMetadataV3.{fold-FillValueMetadataV3}
use Rattle.zarrs_metadata_values.specs.declared.fill_value.FillValueMetadataV3.TheOpen.{FillValueMetadataV3-F}

abbrev pub fill_step : FillValueMetadataV3-F Data → Data
fill_step FillValueMetadataV3-F.Null = null
fill_step (FillValueMetadataV3-F.Bool b) = boolean b
fill_step (FillValueMetadataV3-F.Number x) = number (number_view x)
fill_step (FillValueMetadataV3-F.String s) = string (string_bytes s)
fill_step (FillValueMetadataV3-F.Array v) = array (items_of v.items)
fill_step (FillValueMetadataV3-F.Object m) = object (members_of m.entries)

abbrev pub fill_view : FillValueMetadataV3 → Data
fill_view = fold-FillValueMetadataV3 Data fill_step

abbrev pub fills_view : List FillValueMetadataV3 → Items
fills_view vs = items_of (map fill_view vs)

abbrev pub fields_view : List (String Global × FillValueMetadataV3) → Members
fields_view ms = members_of (map (λ m. (m.0, fill_view m.1)) ms)

-- whole numbers from 0 to 255
abbrev pub byte : Data → Option ℕ
byte d = as_number d >>= as_u64 >>= λ n. if nat_lt n 256 then Some n else None

abbrev pub bytes_in_items : Option Items → Option (List ℕ)
bytes_in_items None = None
bytes_in_items (Some ds) = each byte ds
