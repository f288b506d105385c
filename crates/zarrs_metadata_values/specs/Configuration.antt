-- Configurations, and values that are read from them.
use Rattle.std.specs.Prelude.{◌≡◌, ℕ, Bool, true, false, if◌then◌else◌, List, bytes_eq, Option, Some, None, option_map}
use Rattle.std.specs.Prelude.{Result, Ok, Err, string_bytes}
use Rattle.std.specs.declared.alloc.AllocError.{AllocError}
use Rattle.serde_json.specs.Data.{Data, Members, no_members, member}
use Rattle.serde_json.specs.View.{members_view}
use Rattle.zarrs_metadata_values.specs.declared.configuration.Configuration.{Configuration}
use Rattle.zarrs_metadata_values.specs.declared.configuration.ConfigurationError.{ConfigurationError}
use Rattle.zarrs_metadata_values.specs.declared.configuration.ToConfigurationFault.{ToConfigurationFault}
use Rattle.zarrs_metadata_values.specs.declared.configuration.ToConfigurationFault.TheVariants as fault
use Rattle.zarrs_metadata_values.specs.declared.error.FromConfigurationError.{FromConfigurationError}
use Rattle.zarrs_metadata_values.specs.declared.error.FromConfigurationError.TheVariants.{Mismatch, OutOfMemory}

-- a configuration without where it lies in memory
abbrev pub configuration_seen : Configuration → Members
configuration_seen c = members_view c.map.entries

-- the members of a configuration, none where there is no configuration
abbrev pub members_or_none : Option Members → Members
members_or_none None = no_members
members_or_none (Some ms) = ms

abbrev pub is_empty : Members → Bool
is_empty no_members = true
is_empty (member k d ms) = false

abbrev pub is_none_or_empty : Option Members → Bool
is_none_or_empty None = true
is_none_or_empty (Some ms) = is_empty ms

-- the value of the only member, which has this name
abbrev pub only_member : List ℕ → Members → Option Data
only_member name no_members = None
only_member name (member key value no_members) = if bytes_eq key name then Some value else None
only_member name (member key value (member other next ms)) = None

-- a name and a configuration that go with each other
pub record NamedConfiguration : Type 0 where
  pub name : List ℕ
  pub configuration : Option Members

abbrev pub configuration_error_seen : ConfigurationError → NamedConfiguration
configuration_error_seen e = record {
  name = string_bytes e.name;
  configuration = option_map configuration_seen e.configuration;
}

-- What is read from a configuration: a value that it denotes where it is accepted, else `Mismatch`,
-- unless memory ran out.
abbrev pub Typed : {T : Type 0} → Result T FromConfigurationError → Bool → (T → Type 0) → Type 0
Typed (Ok x) accepted Denotes = (accepted ≡ true) × Denotes x
Typed (Err Mismatch) accepted Denotes = accepted ≡ false
Typed (Err OutOfMemory) accepted Denotes = Unit {0}

-- the same, where the refusal holds the name and the configuration
abbrev pub TypedOf : {T : Type 0} → NamedConfiguration → Result T ToConfigurationFault → Bool
    → (T → Type 0) → Type 0
TypedOf named (Ok x) accepted Denotes = (accepted ≡ true) × Denotes x
TypedOf named (Err (fault.Mismatch e)) accepted Denotes =
    (accepted ≡ false) × (configuration_error_seen e ≡ named)
TypedOf named (Err fault.OutOfMemory) accepted Denotes = Unit {0}

-- the same, where nothing is read of what is no object, or of one that isn't accepted
abbrev pub TypedIf : {T : Type 0} → Result (Option T) AllocError → Option Members → (Members → Bool)
    → (Members → T → Type 0) → Type 0
TypedIf (Ok (Some x)) (Some ms) accepts Denotes = (accepts ms ≡ true) × Denotes ms x
TypedIf (Ok (Some x)) None accepts Denotes = ⊥
TypedIf (Ok None) (Some ms) accepts Denotes = accepts ms ≡ false
TypedIf (Ok None) None accepts Denotes = Unit {0}
TypedIf (Err e) found accepts Denotes = Unit {0}
