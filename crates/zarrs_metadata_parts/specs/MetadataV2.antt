-- The metadata of a version 2 codec: an id, and a configuration beside it.
use Rattle.std.specs.Prelude.{ℕ, List, Option, Some, codes, string_bytes}
use Rattle.serde_json.specs.Data.{Data, string, object, Members, put}
use Rattle.serde_json.specs.Find.{get_member, as_str, as_object}
use Rattle.zarrs_metadata_values.specs.Reading.{◌>>=◌, without}
use Rattle.zarrs_metadata_values.specs.Configuration.{configuration_seen}
use Rattle.zarrs_metadata_parts.specs.declared.metadata_v2.MetadataV2.{MetadataV2}

pub record CodecV2 : Type 0 where
  pub id : List ℕ
  pub configuration : Members

abbrev pub codec_v2_seen : MetadataV2 → CodecV2
codec_v2_seen m =
    record { id = string_bytes m.id; configuration = configuration_seen m.configuration }

-- An object with `id` a text; every other key is of the configuration.
unfoldable pub codec_v2_members : Members → Option CodecV2
codec_v2_members ms = get_member (codes "id") ms >>= as_str
    >>= λ id. Some (record { id = id; configuration = without (codes "id") ms })

abbrev pub codec_v2_of : Data → Option CodecV2
codec_v2_of d = as_object d >>= codec_v2_members

-- Written as its `id` and the configuration's other keys.
abbrev pub codec_v2_data : CodecV2 → Data
codec_v2_data c = object (put (codes "id") (string c.id) c.configuration)
