-- The configuration of the codec `transpose`.
use Rattle.std.specs.Prelude.{ℕ, if◌then◌else◌, codes, bytes_eq, List, Option, Some, None, option_map, Result, Err}
use Rattle.serde_json.specs.Data.{Members, no_members, member}
use Rattle.zarrs_metadata_values.specs.Reading.{◌>>=◌, whole_numbers}
use Rattle.zarrs_metadata_values.specs.Writing.{numbers_data}
use Rattle.zarrs_codec_traits.specs.Prelude.{Extension, Unmade, only_member, or_config}
use Rattle.zarrs_plugin.specs.Making as making
use Rattle.zarr_codecs_elements.specs.Order.{is_order}

-- the configuration of an order
abbrev pub order_members : List ℕ → Members
order_members order = member (codes "order") (numbers_data order) no_members

abbrev pub if_order : List ℕ → Option (List ℕ)
if_order order = if is_order order then Some order else None

-- exactly `order`, a list of the numbers below its length, each once
unfoldable pub order_in : Option Members → Option (List ℕ)
order_in configuration = do
  ms ← configuration
  value ← only_member (codes "order") ms
  numbers ← whole_numbers value
  if_order numbers

-- the codec of metadata, which has its name
abbrev pub transpose_created : Extension → Result (Option Members) Unmade
transpose_created e = if bytes_eq e.name (codes "transpose")
    then or_config (option_map (λ order. Some (order_members order)) (order_in e.configuration))
    else Err (making.unsupported e.name)
