-- Options of single codecs.
use Rattle.std.specs.Prelude.{ℕ, List, map, string_bytes}
use Rattle.std.specs.Ordering.{nat_cmp}
use Rattle.std.specs.Cmp.Lexicographic.{slice_cmp}
use Rattle.std.specs.FinMap.{FinMap, from_entries}
use Rattle.std.specs.declared.alloc.Global.{Global}
use Rattle.std.specs.declared.string.String.{String}
use Rattle.serde_json.specs.Data.{Members}
use Rattle.zarrs_metadata_values.specs.declared.configuration.Configuration.{Configuration}
use Rattle.zarrs_metadata_values.specs.Configuration.{configuration_seen}
use Rattle.zarrs_codec_error.specs.declared.codec_specific_options.CodecSpecificOptions.{CodecSpecificOptions}

-- names and configurations, without where they lie in memory
abbrev pub entries_seen : List (String Global × Configuration) → List (List ℕ × Members)
entries_seen entries = map (λ e. (string_bytes e.0, configuration_seen e.1)) entries

-- the configuration under each name
abbrev pub options_seen : CodecSpecificOptions → FinMap (slice_cmp nat_cmp) Members
options_seen o = from_entries (entries_seen o.options.entries)
