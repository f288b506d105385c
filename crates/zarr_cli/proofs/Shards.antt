-- A sharded chunk as an array-to-bytes codec over the chain of its inner chunks: it needs the level's fill and, by that
-- chain, the options.
use Rattle.std.proofs.Common.{◌≡◌, ℕ, ◌+◌, ◌-◌, ◌*◌, Bool, not, ◌==◌, ◌&&◌, ◌||◌, nat_le, if◌then◌else◌, List, [], ◌∷◌}
use Rattle.std.proofs.Common.{length, take, drop, refl, codes, Option, Some, None, is_some, unwrap_or, map}
use Rattle.std.specs.List.{list_all}
use Rattle.hex.specs.Hex.{encode_with, decode_pairs}
use Rattle.zarr_model.specs.Prelude.{whole, place, count_of, Element, of_bytes, uint_type, elements_in, Grid, chunks}
use Rattle.zarr_model.specs.Prelude.{regular_grid, Level, Chain, decode_chain, decode_array_to_bytes, bytes_codec}
use Rattle.zarr_model.specs.Prelude.{little, number_of_bytes, Layout, Content, chunk_content, stored_array}
use Rattle.zarr_cli_runs.specs.lines.Text.{hex_of}
use Rattle.zarr_cli.specs.Words.{first_settings}

-- the inner chunks as a layout, each under its own indices
abbrev inner_layout : Chain → List ℕ → Level → Layout Element
inner_layout inner inner_shape level = record {
  shape = level.shape;
  fill = level.fill;
  grid = regular_grid level.shape inner_shape;
  key = λ chunk. chunk;
  decode = λ dims value. decode_chain inner (record level { shape = dims }) value;
}

-- the index at the end, and the two numbers of an inner chunk
abbrev index_of : Grid → List ℕ → List ℕ
index_of grid value = drop (length value - 16 * count_of grid.grid_shape) value

abbrev number_at : List ℕ → ℕ → ℕ
number_at index place = number_of_bytes (take 8 (drop (8 * place) index))

-- what stands for an inner chunk: nothing, or bytes of the value
abbrev inner_content : Grid → List ℕ → Content
inner_content grid value = λ chunk.
    let index = index_of grid value in
    let k = place (whole grid.grid_shape) chunk in
    if number_at index (2 * k)
    == 18446744073709551615 && (number_at index (2 * k + 1) == 18446744073709551615) then None
    else Some (take (number_at index (2 * k + 1)) (drop (number_at index (2 * k)) value))

-- whether an inner chunk is missing or lies within the value, and decodes
abbrev is_within : Grid → List ℕ → List ℕ → Bool
is_within grid value chunk =
    let index = index_of grid value in
    let k = place (whole grid.grid_shape) chunk in
    not (is_some (inner_content grid value chunk))
    || nat_le (number_at index (2 * k) + number_at index (2 * k + 1)) (length value)

abbrev is_inner : Layout Element → List ℕ → List ℕ → Bool
is_inner inner value chunk =
    is_within inner.grid value chunk && is_some (chunk_content inner (inner_content inner.grid value) chunk)

abbrev decode_shard : Chain → List ℕ → Level → List ℕ → Option (List Element)
decode_shard inner inner_shape level value =
    let here = inner_layout inner inner_shape level in
    if nat_le (16 * count_of here.grid.grid_shape) (length value) && list_all (is_inner here value) (chunks here.grid)
    then Some (elements_in (whole level.shape) (stored_array here (inner_content here.grid value)))
    else None

abbrev plain_chain : Chain
plain_chain = record {
  array_codecs = [];
  to_elements = decode_array_to_bytes first_settings.options (bytes_codec little);
  byte_codecs = [];
}

abbrev shard_level : ℕ → Level
shard_level filler = record { shape = 4 ∷ []; data_type = uint_type 1; fill = of_bytes (filler ∷ []) }

abbrev shard_value : List ℕ
shard_value = unwrap_or (hex_of (codes "h0a0bffffffffffffffffffffffffffffffff00000000000000000200000000000000")) []

-- the missing inner chunk has the fill of the level; a short value is refused, and a chunk past the value
abbrev past_value : List ℕ
past_value = unwrap_or (hex_of (codes "hffffffffffffffffffffffffffffffff00000000000000002100000000000000")) []

shard_read : (decode_shard plain_chain (2 ∷ []) (shard_level 0) shard_value ≡
    Some (map (λ b. of_bytes (b ∷ [])) (0 ∷ 0 ∷ 10 ∷ 11 ∷ [])))
    × (decode_shard plain_chain (2 ∷ []) (shard_level 7) shard_value ≡
    Some (map (λ b. of_bytes (b ∷ [])) (7 ∷ 7 ∷ 10 ∷ 11 ∷ [])))
    × (decode_shard plain_chain (2 ∷ []) (shard_level 0) (drop 3 shard_value) ≡ None)
    × (decode_shard plain_chain (2 ∷ []) (shard_level 0) past_value ≡ None)
unfolding encode_with decode_pairs
shard_read = (refl, refl, refl, refl)
