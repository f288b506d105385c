-- A registry, and what its names find.
use Rattle.std.specs.Prelude.{ℕ, zero, suc, Bool, true, false, if◌then◌else◌, List, [], ◌∷◌, ◌++◌, map, Option, Some}
use Rattle.std.specs.Prelude.{None, option_map}
use Rattle.zarrs_plugin.specs.NamePattern.{Pattern, pattern_of, patterns_of, matches, matches_any}
use Rattle.zarrs_plugin.specs.declared.name_pattern.NamePattern.{NamePattern}
use Rattle.zarrs_plugin.specs.declared.registry.Entry.{Entry}
use Rattle.zarrs_plugin.specs.declared.registry.Registry.{Registry}

-- what was registered at each place, if it is still there, and the built-in entries
pub record Names (K : Type 0) : Type 0 where
  pub registered : List (Option (List Pattern × K))
  pub builtin : List (Pattern × K)

abbrev pub entry_of : {K : Type 0} → Entry K → List Pattern × K
entry_of e = (patterns_of e.names.items, e.kind)

abbrev pub registered_of : {K : Type 0} → List (Option (Entry K)) → List (Option (List Pattern × K))
registered_of es = map (option_map entry_of) es

abbrev pub builtin_of : {K : Type 0} → List (NamePattern × K) → List (Pattern × K)
builtin_of es = map (λ e. (pattern_of e.0, e.1)) es

abbrev pub registry_of : {K : Type 0} → Registry K → Names K
registry_of r =
    record { registered = registered_of r.registered.items; builtin = builtin_of r.builtin.items }

-- the first of two that is there
abbrev pub or_else : {K : Type 0} → Option K → Option K → Option K
or_else (Some k) later = Some k
or_else None later = later

-- an entry's kind, if one of its names matches
abbrev pub named : {K : Type 0} → List ℕ → Option (List Pattern × K) → Option K
named name None = None
named name (Some e) = if matches_any e.0 name then Some e.1 else None

abbrev pub find_registered : {K : Type 0} → List ℕ → List (Option (List Pattern × K)) → Option K
find_registered name [] = None
find_registered name (e ∷ es) = or_else (named name e) (find_registered name es)

abbrev pub find_builtin : {K : Type 0} → List ℕ → List (Pattern × K) → Option K
find_builtin name [] = None
find_builtin name (e ∷ es) = if matches e.0 name then Some e.1 else find_builtin name es

-- the first registered entry one of whose names matches, else the first built-in one
abbrev pub find : {K : Type 0} → List ℕ → Names K → Option K
find name names = or_else (find_registered name names.registered) (find_builtin name names.builtin)

-- a new entry has the next place
abbrev pub with_entry : {K : Type 0} → List Pattern → K → Names K → Names K
with_entry patterns kind names =
    record names { registered = names.registered ++ Some (patterns, kind) ∷ [] }

-- whether an entry is at a place, and the rest without it; places are not used again
abbrev pub has_entry : {K : Type 0} → ℕ → List (Option (List Pattern × K)) → Bool
has_entry place [] = false
has_entry zero (None ∷ es) = false
has_entry zero (Some e ∷ es) = true
has_entry (suc place) (e ∷ es) = has_entry place es

abbrev pub is_there : {K : Type 0} → ℕ → Names K → Bool
is_there place names = has_entry place names.registered

abbrev pub remove_at : {K : Type 0} → ℕ → List (Option (List Pattern × K))
    → List (Option (List Pattern × K))
remove_at place [] = []
remove_at zero (e ∷ es) = None ∷ es
remove_at (suc place) (e ∷ es) = e ∷ remove_at place es

abbrev pub without_entry : {K : Type 0} → ℕ → Names K → Names K
without_entry place names = record names { registered = remove_at place names.registered }
