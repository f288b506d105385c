-- A named extension: what it says, how it is read and how it is written.
use Rattle.std.specs.Prelude.{ℕ, Bool, true, false, ◌||◌, ◌&&◌, ◌++◌, if◌then◌else◌, List, map, Option, Some, None}
use Rattle.std.specs.Prelude.{option_map, codes, string_bytes}
use Rattle.std.specs.Str.{bytes_eq}
use Rattle.serde_json.specs.Data.{Data, boolean, string, object, Members, no_members, member}
use Rattle.serde_json.specs.Find.{get_member, as_str}
use Rattle.serde_json.specs.Written.{compact_text}
use Rattle.zarrs_metadata_values.specs.Reading.{◌>>=◌, boolean_or, optional_object, list_by}
use Rattle.zarrs_metadata_values.specs.Configuration.{configuration_seen}
use Rattle.zarrs_metadata_parts.specs.declared.v3.metadata.MetadataV3.{MetadataV3}

pub record Extension : Type 0 where
  pub name : List ℕ
  pub configuration : Option Members
  pub must_understand : Bool

-- a `MetadataV3` without where it lies in memory
abbrev pub extension_seen : MetadataV3 → Extension
extension_seen m = record {
  name = string_bytes m.name;
  configuration = option_map configuration_seen m.configuration;
  must_understand = m.must_understand;
}

abbrev pub extensions_seen : List MetadataV3 → List Extension
extensions_seen ms = map extension_seen ms

abbrev pub is_extension_key : List ℕ → Bool
is_extension_key key = bytes_eq key (codes "name") || bytes_eq key (codes "configuration")
    || bytes_eq key (codes "must_understand")

abbrev pub has_only_extension_keys : Members → Bool
has_only_extension_keys no_members = true
has_only_extension_keys (member key value ms) = is_extension_key key && has_only_extension_keys ms

-- A text, or an object with `name` a text, optional `configuration` null or an object, optional
-- `must_understand` a boolean, and no other key.
unfoldable pub object_extension : Members → Option Extension
object_extension ms = do
  name ← get_member (codes "name") ms >>= as_str
  configuration ← optional_object (get_member (codes "configuration") ms)
  must_understand ← boolean_or true (get_member (codes "must_understand") ms)
  if has_only_extension_keys ms
      then Some (record {
        name = name;
        configuration = configuration;
        must_understand = must_understand;
      })
      else None

unfoldable pub extension_of : Data → Option Extension
extension_of (string s) = Some (record { name = s; configuration = None; must_understand = true })
extension_of (object ms) = object_extension ms
extension_of _ = None

-- a list of them
abbrev pub extensions_of : Data → Option (List Extension)
extensions_of = list_by extension_of

-- Written as the bare name, as an object with the name alone, or with the configuration, and then
-- with `must_understand`.
abbrev pub configured : List ℕ → Option Members → Bool → Data
configured name None must_understand = string name
configured name (Some no_members) must_understand =
    object (member (codes "name") (string name) no_members)
configured name (Some (member k d ms)) true =
    object (member (codes "configuration") (object (member k d ms))
    (member (codes "name") (string name) no_members))
configured name (Some (member k d ms)) false =
    object (member (codes "configuration") (object (member k d ms))
    (member (codes "must_understand") (boolean false)
    (member (codes "name") (string name) no_members)))

abbrev pub extension_data : Extension → Data
extension_data e = configured e.name e.configuration e.must_understand

-- Without a configuration, or with an empty one, the name alone is kept.
abbrev pub normal_by : List ℕ → Option Members → Bool → Extension
normal_by name None must_understand =
    record { name = name; configuration = None; must_understand = true }
normal_by name (Some no_members) must_understand =
    record { name = name; configuration = None; must_understand = true }
normal_by name (Some (member k d ms)) must_understand =
    record { name = name; configuration = Some (member k d ms); must_understand = must_understand }

abbrev pub normal_form : Extension → Extension
normal_form e = normal_by e.name e.configuration e.must_understand

-- As a text: the name, then a space and the configuration where there is one.
abbrev pub display_text : List ℕ → Option Members → List ℕ
display_text name None = name
display_text name (Some ms) = name ++ codes " " ++ compact_text (object ms)
