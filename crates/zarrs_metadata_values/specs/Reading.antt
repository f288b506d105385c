-- What a reader of documents gives, and fields by their names.
use Rattle.std.specs.Prelude.{◌≡◌, ◌==◌, ℕ, ⊤, Bool, if◌then◌else◌, List, [], ◌∷◌, Option, Some, None, Result, Ok, Err}
use Rattle.std.specs.Ordering.{nat_cmp, match_ordering}
use Rattle.std.specs.Cmp.Lexicographic.{slice_cmp}
use Rattle.std.specs.Str.{bytes_eq}
use Rattle.serde_json.specs.Data.{Data, null, boolean, object, Items, no_items, item, Members, no_members, member}
use Rattle.serde_json.specs.Find.{get_member, as_str, as_array, as_object, as_number, as_u64}
use Rattle.serde_json.specs.Written.{has_float}
use Rattle.zarrs_metadata_values.specs.declared.error.MetadataError.{MetadataError}
use Rattle.zarrs_metadata_values.specs.declared.error.MetadataError.TheVariants.{InvalidJson, FloatNumber}
use Rattle.zarrs_metadata_values.specs.declared.error.MetadataError.TheVariants.{InvalidMetadata, OutOfMemory}

-- A grammar is a function from values to what they denote; None: the value isn't of the grammar.
infixl 10 ◌>>=◌
abbrev pub ◌>>=◌ : {A B : Type 0} → Option A → (A → Option B) → Option B
(Some x) >>= f = f x
None >>= f = None

-- An error of a reader: memory, or there is nothing to read.
abbrev pub Fails : {Y : Type 0} → MetadataError → Option Y → Type 0
Fails OutOfMemory read = Unit {0}
Fails InvalidMetadata read = read ≡ None
Fails _ read = ⊥

-- What a reader returned, as it is seen, is what the grammar reads, unless memory ran out.
abbrev pub Reads : {X Y : Type 0} → (X → Y) → Result X MetadataError → Option Y → Type 0
Reads seen (Ok x) read = read ≡ Some (seen x)
Reads seen (Err e) read = Fails e read

-- The same for a call that names the refusal.
abbrev pub FailsReading : {Y : Type 0} → MetadataError → Result Y MetadataError → Type 0
FailsReading OutOfMemory expected = Unit {0}
FailsReading InvalidMetadata expected = expected ≡ Err InvalidMetadata
FailsReading InvalidJson expected = expected ≡ Err InvalidJson
FailsReading FloatNumber expected = expected ≡ Err FloatNumber

abbrev pub GivesRead : {X Y : Type 0} → (X → Y) → Result X MetadataError → Result Y MetadataError
    → Type 0
GivesRead seen (Ok x) expected = expected ≡ Ok (seen x)
GivesRead seen (Err e) expected = FailsReading e expected

abbrev pub or_invalid : {Y : Type 0} → Option Y → Result Y MetadataError
or_invalid None = Err InvalidMetadata
or_invalid (Some y) = Ok y

-- what a value gives by a grammar, and what a text gives
abbrev pub from_data : {Y : Type 0} → (Data → Option Y) → Data → Result Y MetadataError
from_data grammar d = if has_float d then Err FloatNumber else or_invalid (grammar d)

abbrev pub from_json : {Y : Type 0} → (Data → Option Y) → Option Data → Result Y MetadataError
from_json grammar None = Err InvalidJson
from_json grammar (Some d) = from_data grammar d

-- each item by a grammar
abbrev pub each : {Y : Type 0} → (Data → Option Y) → Items → Option (List Y)
each grammar no_items = Some []
each grammar (item d ds) = do
  y ← grammar d
  ys ← each grammar ds
  Some (y ∷ ys)

-- a list of them
abbrev pub list_by : {Y : Type 0} → (Data → Option Y) → Data → Option (List Y)
list_by grammar d = as_array d >>= each grammar

-- what a grammar reads of the value under a key that must be there
abbrev pub read_under : {Y : Type 0} → List ℕ → (Data → Option Y) → Members → Option Y
read_under key grammar ms = get_member key ms >>= grammar

-- null, or what a grammar reads
abbrev pub null_or : {Y : Type 0} → (Data → Option Y) → Data → Option (Option Y)
null_or grammar null = Some None
null_or grammar d = grammar d >>= λ y. Some (Some y)

-- the same, or nothing
abbrev pub optional_by : {Y : Type 0} → (Data → Option Y) → Option Data → Option (Option Y)
optional_by grammar None = Some None
optional_by grammar (Some d) = null_or grammar d

-- a boolean, or what it is where there is none
abbrev pub boolean_or : Bool → Option Data → Option Bool
boolean_or b None = Some b
boolean_or b (Some (boolean c)) = Some c
boolean_or b (Some _) = None

-- nothing, null, or an object
abbrev pub optional_object : Option Data → Option (Option Members)
optional_object None = Some None
optional_object (Some null) = Some None
optional_object (Some (object ms)) = Some (Some ms)
optional_object (Some _) = None

-- an object, or an empty one where there is none
unfoldable pub object_or_empty : Option Data → Option Members
object_or_empty None = Some no_members
object_or_empty (Some d) = as_object d

-- a whole number from 0 to 2 ^ 64 - 1
abbrev pub whole_number : Data → Option ℕ
whole_number d = as_number d >>= as_u64

-- a list of them
unfoldable pub whole_numbers : Data → Option (List ℕ)
whole_numbers d = as_array d >>= each whole_number

-- a whole number from 1 to 2 ^ 64 - 1
unfoldable pub positive_number : Data → Option ℕ
positive_number d = whole_number d >>= λ n. if n == 0 then None else Some n

-- exactly this number, this text
unfoldable pub is_number : ℕ → Data → Option ⊤
is_number n d = whole_number d >>= λ m. if m == n then Some tt else None

unfoldable pub is_text : List ℕ → Data → Option ⊤
is_text s d = as_str d >>= λ t. if bytes_eq t s then Some tt else None

-- the members but for the one at k
abbrev pub without : List ℕ → Members → Members
without k no_members = no_members
without k (member l e ms) = match_ordering (slice_cmp nat_cmp k l) (member l e (without k ms)) ms
    (member l e (without k ms))

-- what is read again of a value that was written, if it holds no float
abbrev pub unless_float : {Y : Type 0} → Data → Y → Result Y MetadataError
unless_float d y = if has_float d then Err FloatNumber else Ok y
