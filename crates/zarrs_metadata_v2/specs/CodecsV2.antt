-- The compressor and the filters of a version 2 array.
use Rattle.std.specs.Prelude.{List, [], ◌∷◌, map, Option, Some, None, option_map, codes}
use Rattle.serde_json.specs.Data.{Data, string, put}
use Rattle.zarrs_metadata_values.specs.Reading.{◌>>=◌, list_by, optional_by, without}
use Rattle.zarrs_metadata_values.specs.Writing.{list_data, null_or_data}
use Rattle.zarrs_metadata_parts.specs.MetadataV2.{CodecV2, codec_v2_seen, codec_v2_of, codec_v2_data}
use Rattle.zarrs_metadata_parts.specs.declared.metadata_v2.MetadataV2.{MetadataV2}

abbrev pub codecs_v2_seen : List MetadataV2 → List CodecV2
codecs_v2_seen codecs = map codec_v2_seen codecs

-- an empty list of filters stands for none
abbrev pub unless_empty : List CodecV2 → Option (List CodecV2)
unless_empty [] = None
unless_empty (c ∷ cs) = Some (c ∷ cs)

abbrev pub present_filters : Option (List CodecV2) → Option (List CodecV2)
present_filters None = None
present_filters (Some cs) = unless_empty cs

-- nothing, null, or a codec; nothing, null, or a list of codecs
abbrev pub compressor_of : Option Data → Option (Option CodecV2)
compressor_of = optional_by codec_v2_of

abbrev pub filters_of : Option Data → Option (Option (List CodecV2))
filters_of o = optional_by (list_by codec_v2_of) o >>= λ codecs. Some (present_filters codecs)

-- null where there is none
abbrev pub compressor_data : Option CodecV2 → Data
compressor_data = null_or_data codec_v2_data

abbrev pub filters_data : Option (List CodecV2) → Data
filters_data codecs = null_or_data (list_data codec_v2_data) (present_filters codecs)

-- What a codec reads back as, once it is written: without an `id` in its configuration.
abbrev pub normal_codec_v2 : CodecV2 → CodecV2
normal_codec_v2 c = record {
  id = c.id;
  configuration = without (codes "id") (put (codes "id") (string c.id) c.configuration);
}

abbrev pub normal_compressor : Option CodecV2 → Option CodecV2
normal_compressor = option_map normal_codec_v2

abbrev pub normal_filters : Option (List CodecV2) → Option (List CodecV2)
normal_filters codecs = option_map (map normal_codec_v2) (present_filters codecs)
