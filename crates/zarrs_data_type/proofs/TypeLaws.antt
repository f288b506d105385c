-- What is named is a type: raw types have at least one byte.
use Rattle.std.proofs.Common.{◌≡◌, ℕ, ◌<◌, ◌≤◌, ◌/◌, ◌%◌, ◌==◌, ◌&&◌, nat_le, nat_lt, Bool, true, false, if◌then◌else◌}
use Rattle.std.proofs.Common.{List, Option, Some, None, Result, Ok, Err, refl, subst, arith, option_and_then}
use Rattle.std.specs.Result.{IfOk}
use Rattle.std.proofs.lemmas.Bool.{and_parts}
use Rattle.std.proofs.lemmas.Bool.Decides.{nat_tests}
use Rattle.std.proofs.lemmas.Nat.{div-add-mod'}
use Rattle.serde_json.specs.Data.{Data, string, object, Members, no_members, member}
use Rattle.zarr_model.specs.Element.{DataType}
use Rattle.zarr_model.proofs.BytesLaws.{when_some}
use Rattle.zarrs_plugin.specs.Registry.{Names, find}
use Rattle.zarrs_metadata_values.specs.Configuration.{is_empty}
use Rattle.zarrs_data_type.specs.DataType.{is_type}
use Rattle.zarrs_plugin.specs.Number.{number_of}
use Rattle.zarrs_data_type.specs.Kinds.{behind_byte, whole_bytes, raw_size, raw_of_size, kind_type}
use Rattle.zarrs_data_type.specs.Making.{made_optional, are_named, optional_pair, pair_type, type_in, type_by}
use Rattle.zarrs_data_type.specs.Making.{unless_raw, name_v2, type_by_v2, MakesType}
use Rattle.zarrs_data_type.specs.declared.data_type.kind.DataTypeKind as kinds
use Rattle.zarrs_data_type.specs.declared.data_type.kind.DataTypeKind.TheVariants as kind
use Rattle.zarrs_plugin.specs.Making.{Unmade, config, other}
use Rattle.zarrs_plugin.specs.declared.error.PluginCreateError.{PluginCreateError}
use Rattle.zarrs_metadata_values.specs.Configuration.{members_or_none}
use Rattle.zarrs_metadata_parts.specs.MetadataV3.{Extension}
use Rattle.zarrs_metadata_parts.specs.DataTypeV2.{DataTypeV2}
use Rattle.zarrs_data_type.specs.DataType.{type_of}
use Rattle.zarrs_data_type.specs.declared.data_type.DataType as types

abbrev IsMade : Result DataType Unmade → Type 0
IsMade (Ok t) = is_type t ≡ true
IsMade (Err why) = Unit {0}

made_if : (b : Bool) (r : Result DataType Unmade) → IsMade r → IsMade (if b then r else Err config)
made_if true r h = h
made_if false r h = tt

whole_some : (bits n : ℕ) → whole_bytes bits ≡ Some n → nat_le 1 n ≡ true
whole_some bits n e =
    let parts = when_some (nat_lt 0 bits && (bits % 8 == 0)) (bits / 8) n e in
    let tests = and_parts (nat_lt 0 bits) (bits % 8 == 0) parts.0 in
    let some : 0 < bits = let h = tests.0 in grind (arith, nat_tests) in
    let none : bits % 8 ≡ 0 = let h = tests.1 in grind (arith, nat_tests) in
    let same = parts.1 in
    let long : 1 ≤ n = omega (arith, some, none, same, div-add-mod' bits 8) in
    grind (arith, nat_tests)

raw_made : (o : Option ℕ) → ((n : ℕ) → o ≡ Some n → nat_le 1 n ≡ true) → IsMade (raw_of_size o)
raw_made None h = tt
raw_made (Some n) h = h n refl

raw_some : (text : Option (List ℕ)) (n : ℕ) →
    option_and_then (λ digits. option_and_then whole_bytes (number_of digits)) text ≡ Some n → nat_le 1 n ≡ true
raw_some None n e = cc
raw_some (Some digits) n e = go (number_of digits) e
  where
    go : (bits : Option ℕ) → option_and_then whole_bytes bits ≡ Some n → nat_le 1 n ≡ true
    go None e = cc
    go (Some bits) e = whole_some bits n e

kind_made : (name : List ℕ) (found : Option kinds.DataTypeKind) (empty : Bool) (pair : Result DataType Unmade) →
    IsMade pair → IsMade (kind_type name found empty pair)
kind_made name None empty pair h = tt
kind_made name (Some kind.RawBits) empty pair h =
    made_if empty (raw_of_size (raw_size name)) (raw_made (raw_size name) (raw_some (behind_byte 114 name)))
kind_made name (Some kind.Optional) empty pair h = h
kind_made name (Some kind.Bool) empty pair h = made_if empty _ refl
kind_made name (Some kind.Int8) empty pair h = made_if empty _ refl
kind_made name (Some kind.Int16) empty pair h = made_if empty _ refl
kind_made name (Some kind.Int32) empty pair h = made_if empty _ refl
kind_made name (Some kind.Int64) empty pair h = made_if empty _ refl
kind_made name (Some kind.UInt8) empty pair h = made_if empty _ refl
kind_made name (Some kind.UInt16) empty pair h = made_if empty _ refl
kind_made name (Some kind.UInt32) empty pair h = made_if empty _ refl
kind_made name (Some kind.UInt64) empty pair h = made_if empty _ refl
kind_made name (Some kind.String) empty pair h = made_if empty _ refl
kind_made name (Some kind.Bytes) empty pair h = made_if empty _ refl

optional_made : (r : Result DataType Unmade) → IsMade r → IsMade (made_optional r)
optional_made (Ok t) h = h
optional_made (Err why) h = tt

mutual
  pair_made : (names : Names kinds.DataTypeKind) (ms : Members) → IsMade (optional_pair names ms)
  pair_made names no_members = tt
  pair_made names (member k d no_members) = tt
  pair_made names (member k d (member l e no_members)) =
      made_if (are_named k l) (pair_type names d e) (data_made names d e)
  pair_made names (member k d (member l e (member m f ms))) = tt

  data_made : (names : Names kinds.DataTypeKind) (d e : Data) → IsMade (pair_type names d e)
  data_made names (object ms) (string s) =
      optional_made (kind_type s (find s names) (is_empty ms) (optional_pair names ms))
      (kind_made s (find s names) (is_empty ms) (optional_pair names ms) (pair_made names ms))
  data_made names _ _ = tt

type_made : (names : Names kinds.DataTypeKind) (name : List ℕ) (ms : Members) → IsMade (type_in names name ms)
type_made names name ms = kind_made name (find name names) (is_empty ms) (optional_pair names ms) (pair_made names ms)

pub named_is : (names : Names kinds.DataTypeKind) (name : List ℕ) (ms : Members) (t : DataType) →
    type_in names name ms ≡ Ok t → is_type t ≡ true
named_is names name ms t e = subst IsMade e (type_made names name ms)

made_ok : (expected : Result DataType Unmade) → IsMade expected → (r : Result types.DataType PluginCreateError) →
    MakesType type_of r expected → IfOk r (λ t. is_type (type_of t) ≡ true)
made_ok expected h (Ok t) m = subst IsMade m h
made_ok expected h (Err e) m = tt

pub extension_is : (names : Names kinds.DataTypeKind) (e : Extension) (r : Result types.DataType PluginCreateError) →
    MakesType type_of r (type_by names e) → IfOk r (λ t. is_type (type_of t) ≡ true)
extension_is names e = made_ok (type_by names e) (go e.must_understand)
  where
    go : (b : Bool) → IsMade (if b then type_in names e.name (members_or_none e.configuration) else Err other)
    go true = type_made names e.name (members_or_none e.configuration)
    go false = tt

unless_made : (found : Option kinds.DataTypeKind) (r : Result DataType Unmade) → IsMade r → IsMade (unless_raw found r)
unless_made None r h = h
unless_made (Some kind.RawBits) r h = tt
unless_made (Some _) r h = h

pub v2_is : (names : Names kinds.DataTypeKind) (d : DataTypeV2) (r : Result types.DataType PluginCreateError) →
    MakesType type_of r (type_by_v2 names d) → IfOk r (λ t. is_type (type_of t) ≡ true)
v2_is names d = made_ok (type_by_v2 names d) (unless_made (find (name_v2 d) names)
    (type_in names (name_v2 d) no_members) (type_made names (name_v2 d) no_members))
