-- What codecs are made of metadata.
use Rattle.std.specs.Prelude.{ℕ, if◌then◌else◌, List, Option, Some, None, Result, Ok, Err}
use Rattle.serde_json.specs.Data.{Members, no_members}
use Rattle.zarrs_metadata_values.specs.Configuration.{is_none_or_empty}
use Rattle.zarrs_plugin.specs.Making.{Unmade, IsUnmade, Makes, unsupported, config}
use Rattle.zarrs_plugin.specs.declared.error.PluginCreateError.{PluginCreateError}
use Rattle.zarrs_plugin.specs.declared.error.PluginKind.TheVariants as kinds

-- no configuration, or an empty one
abbrev pub none_form : Option Members → Result Members Unmade
none_form configuration = if is_none_or_empty configuration then Ok no_members else Err config

-- an error tells why no codec is made
abbrev pub Refuses : Unmade → PluginCreateError → Type 0
Refuses why error = IsUnmade {Y = Option Members} kinds.Codec error (Err why)

-- a kind that goes by the name gave this, by what its maker may give; a name that no kind goes by
-- is refused
abbrev pub MakesByKind : {K M : Type 0} → (K → Result M PluginCreateError → Type 0) → List ℕ
    → Option K → Result M PluginCreateError → Type 0
MakesByKind gives name (Some kind) result = gives kind result
MakesByKind {M = M} gives name None result =
    Makes kinds.Codec (λ (made : M). made) result (Err (unsupported name))
