-- The names of dimensions: what they are, how they are read and how they are written.
use Rattle.std.specs.Prelude.{ℕ, List, map, Option, option_map, String, string_bytes}
use Rattle.std.specs.declared.alloc.Global.{Global}
use Rattle.serde_json.specs.Data.{Data, string}
use Rattle.serde_json.specs.Find.{as_str}
use Rattle.zarrs_metadata_values.specs.Reading.{list_by, null_or, optional_by}
use Rattle.zarrs_metadata_values.specs.Writing.{list_data, null_or_data}

abbrev pub dimension_names_seen : List (Option (String Global)) → List (Option (List ℕ))
dimension_names_seen ns = map (option_map string_bytes) ns

-- nothing, null, or a list of nulls and texts
abbrev pub dimension_names : Option Data → Option (Option (List (Option (List ℕ))))
dimension_names = optional_by (list_by (null_or as_str))

-- written as a list of nulls and texts
abbrev pub dimension_names_data : List (Option (List ℕ)) → Data
dimension_names_data = list_data (null_or_data string)
