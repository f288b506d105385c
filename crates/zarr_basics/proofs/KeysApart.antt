-- Different chunks of a grid have different keys.
use Rattle.std.proofs.Common.{◌≡◌, ℕ, suc, ◌<◌, true, List, [], ◌∷◌, length, refl, sym, ap, ◌∙◌, arith}
use Rattle.std.proofs.lemmas.Bool.{and_parts}
use Rattle.zarr_model.specs.Prelude.{Grid, IsChunk, whole, contains, is_in, chunk_key}
use Rattle.zarr_model.proofs.GridLaws.{first_index}
use Rattle.zarr_model.proofs.KeyLaws.{IsDigit, AreIndices, default_keys-apart, v2_keys-apart}
use Rattle.zarrs_metadata_parts.specs.Names.{separator_code}
use Rattle.zarrs_metadata_parts.specs.declared.array.chunk_key_separator.ChunkKeySeparator.{ChunkKeySeparator}
use Rattle.zarrs_metadata_parts.specs.declared.array.chunk_key_separator.ChunkKeySeparator.TheVariants.{Slash, Dot}
use Rattle.zarr_basics.specs.Keys.{keys_of, IsCountable}
use Rattle.zarr_basics.specs.declared.chunk_key_encoding.ChunkKeyEncoding.{ChunkKeyEncoding}
use Rattle.zarr_basics.specs.declared.chunk_key_encoding.ChunkKeyEncoding.TheVariants.{Default, V2}

-- no separator is a digit
pub no_digit : (separator : ChunkKeySeparator) → ¬ IsDigit (separator_code separator)
no_digit Slash = λ digit. absurd (omega (arith, digit.0))
no_digit Dot = λ digit. absurd (omega (arith, digit.0))

chunk_indices : (counts chunk : List ℕ) → IsCountable counts → contains (whole counts) chunk ≡ true → AreIndices chunk
chunk_indices [] [] small h = small
chunk_indices [] (index ∷ chunk) small h = cc
chunk_indices (n ∷ counts) [] small h = cc
chunk_indices (n ∷ counts) (index ∷ chunk) small h =
    let parts = and_parts (is_in index (record { start = 0; size = n })) (contains (whole counts) chunk) h in
    let below : index < n = first_index index n parts.0 in
    (omega (arith, small.0), chunk_indices counts chunk small.1 parts.1)

chunk_rank : (counts chunk : List ℕ) → contains (whole counts) chunk ≡ true → length chunk ≡ length counts
chunk_rank [] [] h = refl
chunk_rank [] (index ∷ chunk) h = cc
chunk_rank (n ∷ counts) [] h = cc
chunk_rank (n ∷ counts) (index ∷ chunk) h = ap suc (chunk_rank counts chunk
    (and_parts (is_in index (record { start = 0; size = n })) (contains (whole counts) chunk) h).1)

pub keys_differ : (keys : ChunkKeyEncoding) (grid : Grid) (chunk other : List ℕ) → IsCountable grid.grid_shape →
    IsChunk grid chunk → IsChunk grid other →
    chunk_key (keys_of keys) chunk ≡ chunk_key (keys_of keys) other → chunk ≡ other
keys_differ (Default separator) grid chunk other small h k e =
    default_keys-apart (separator_code separator) (no_digit separator) chunk other
    (chunk_indices grid.grid_shape chunk small h) (chunk_indices grid.grid_shape other small k) e
keys_differ (V2 separator) grid chunk other small h k e =
    v2_keys-apart (separator_code separator) (no_digit separator) chunk other
    (chunk_rank grid.grid_shape chunk h ∙ sym (chunk_rank grid.grid_shape other k))
    (chunk_indices grid.grid_shape chunk small h) (chunk_indices grid.grid_shape other small k) e
