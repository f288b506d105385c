-- The forms of the configurations of extensions.
use Rattle.std.specs.Prelude.{ℕ, if◌then◌else◌, List, codes, bytes_eq, Option, Some, None}
use Rattle.serde_json.specs.Data.{Members}
use Rattle.serde_json.specs.Find.{as_str}
use Rattle.zarrs_metadata_values.specs.Configuration.{is_none_or_empty}
use Rattle.zarrs_metadata_values.specs.Reading.{◌>>=◌}
pub use Rattle.zarr_basics.specs.GridConfigurations.{are_chunk_lengths, if_chunk_lengths, chunk_shape_in}
pub use Rattle.zarr_basics.specs.GridConfigurations.{chunk_shape_members}
use Rattle.zarrs_metadata_values.specs.Configuration.{only_member}

-- a separator by its text
abbrev pub separator_named : List ℕ → Option ℕ
separator_named s = if bytes_eq s (codes "/") then Some 47 else if bytes_eq s (codes ".")
    then Some 46 else None

unfoldable pub given_separator : Option Members → Option ℕ
given_separator configuration = do
  ms ← configuration
  value ← only_member (codes "separator") ms
  text ← as_str value
  separator_named text

-- the keys `default` and `v2`: nothing, or exactly `separator`; this one unless it is given
abbrev pub separator_in : ℕ → Option Members → Option ℕ
separator_in separator configuration = if is_none_or_empty configuration then Some separator
    else given_separator configuration
