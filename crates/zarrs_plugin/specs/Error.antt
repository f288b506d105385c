-- An extension that is not supported.
use Rattle.std.specs.Prelude.{ℕ, List, string_bytes}
use Rattle.zarrs_plugin.specs.declared.error.PluginKind.{PluginKind}
use Rattle.zarrs_plugin.specs.declared.error.PluginUnsupportedError.{PluginUnsupportedError}

-- its name, as bytes, and its kind
pub record UnsupportedName : Type 0 where
  pub name : List ℕ
  pub kind : PluginKind

abbrev pub unsupported_seen : PluginUnsupportedError → UnsupportedName
unsupported_seen e = record { name = string_bytes e.name; kind = e.kind }
