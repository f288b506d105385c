-- The configuration of the codec `sharding_indexed`: how a chunk keeps inner chunks.
use Rattle.std.specs.Prelude.{ℕ, ⊤, ◌==◌, ◌%◌, ◌&&◌, ◌||◌, nat_le, Bool, true, false, if◌then◌else◌, List, [], ◌∷◌}
use Rattle.std.specs.Prelude.{codes, bytes_eq, Option, Some, None}
use Rattle.serde_json.specs.Data.{Data, Members, no_members, member}
use Rattle.serde_json.specs.Find.{get_member}
use Rattle.zarrs_metadata_values.specs.Configuration.{only_member, is_none_or_empty}
use Rattle.zarrs_metadata_values.specs.Reading.{◌>>=◌, whole_numbers, is_text}
use Rattle.zarrs_metadata_parts.specs.MetadataV3.{Extension, extensions_of}

-- the shape of inner chunks, the codecs of one, and whether the index has a CRC-32C behind it
pub record Sharding : Type 0 where
  pub inner_shape : List ℕ
  pub codecs : List Extension
  pub checked : Bool

-- nothing more, where a test holds
abbrev pub expect : Bool → Option ⊤
expect b = if b then Some tt else None

-- the keys that a configuration may have
abbrev pub is_sharding_key : List ℕ → Bool
is_sharding_key key = bytes_eq key (codes "chunk_shape") || bytes_eq key (codes "codecs")
    || bytes_eq key (codes "index_codecs") || bytes_eq key (codes "index_location")

abbrev pub has_only_sharding_keys : Members → Bool
has_only_sharding_keys no_members = true
has_only_sharding_keys (member key value ms) =
    is_sharding_key key && has_only_sharding_keys ms

-- the index stands at the end, where anything is said of its place
abbrev pub at_end : Option Data → Option ⊤
at_end None = Some tt
at_end (Some d) = is_text (codes "end") d

-- a positive length for each dimension of a chunk, which divides that of the chunk
abbrev pub are_inner_lengths : List ℕ → List ℕ → Bool
are_inner_lengths [] [] = true
are_inner_lengths (n ∷ shape) (p ∷ lengths) =
    nat_le 1 p && (n % p == 0) && are_inner_lengths shape lengths
are_inner_lengths [] (p ∷ lengths) = false
are_inner_lengths (n ∷ shape) [] = false

abbrev pub if_inner_lengths : List ℕ → List ℕ → Option (List ℕ)
if_inner_lengths shape lengths = if are_inner_lengths shape lengths then Some lengths else None

-- the shape of inner chunks, under `chunk_shape`
unfoldable pub inner_shape_in : List ℕ → Members → Option (List ℕ)
inner_shape_in shape ms = do
  value ← get_member (codes "chunk_shape") ms
  lengths ← whole_numbers value
  if_inner_lengths shape lengths

-- the codecs of an inner chunk, under `codecs`
unfoldable pub inner_codecs_in : Members → Option (List Extension)
inner_codecs_in ms = get_member (codes "codecs") ms >>= extensions_of

-- `bytes` with exactly `endian`, which is `little`
unfoldable pub little_bytes : Extension → Option ⊤
little_bytes e = do
  _ ← expect (bytes_eq e.name (codes "bytes"))
  ms ← e.configuration
  value ← only_member (codes "endian") ms
  is_text (codes "little") value

-- `crc32c` with no configuration, or an empty one
abbrev pub is_crc32c : Extension → Bool
is_crc32c e = bytes_eq e.name (codes "crc32c") && is_none_or_empty e.configuration

-- the codecs of an index: whether a CRC-32C stands behind the numbers
unfoldable pub checked_by : List Extension → Option Bool
checked_by [] = None
checked_by (e ∷ []) = little_bytes e >>= λ _. Some false
checked_by (e ∷ f ∷ []) = little_bytes e >>= λ _. if is_crc32c f then Some true else None
checked_by (e ∷ f ∷ g ∷ es) = None

-- which stand under `index_codecs`
unfoldable pub index_codecs_in : Members → Option Bool
index_codecs_in ms = do
  value ← get_member (codes "index_codecs") ms
  extensions ← extensions_of value
  checked_by extensions

-- the members of a configuration for chunks of a shape, and no others
unfoldable pub sharding_members : List ℕ → Members → Option Sharding
sharding_members shape ms = do
  inner_shape ← inner_shape_in shape ms
  codecs ← inner_codecs_in ms
  checked ← index_codecs_in ms
  Some (record { inner_shape = inner_shape; codecs = codecs; checked = checked })

unfoldable pub sharding_in : List ℕ → Option Members → Option Sharding
sharding_in shape configuration = do
  ms ← configuration
  _ ← expect (has_only_sharding_keys ms)
  _ ← at_end (get_member (codes "index_location") ms)
  sharding_members shape ms
