-- A shard: a value that holds inner chunks, and behind them an index of where they lie. Its inner
-- chunks are as those of an array in a store, but that each is found by its pair in place of a key.
use Rattle.std.specs.Prelude.{ℕ, Bool, if◌then◌else◌, List, Option, Some, None, is_some, option_and_then}
use Rattle.std.specs.List.{list_all}
use Rattle.zarr_model.specs.Prelude.{whole, count_of, place, Element, elements_in, Grid, chunks, regular_grid, Level}
use Rattle.zarr_model.specs.Prelude.{Content, Layout, chunk_content, stored_array}
use Rattle.zarr_shard_codec.specs.Index.{pair_of, pair_part, pair_at, is_absent, part_of}
use Rattle.zarr_shard_codec.specs.Finding.{index_found}

-- the inner chunks of a value, by those of an array: under the indices of each stands its pair,
-- which names what decodes
abbrev pub inner_layout : Layout Element → List ℕ → Layout Element
inner_layout array value = record array {
  key = λ chunk. chunk;
  decode = λ dims pair. option_and_then (array.decode dims) (part_of value (pair_of pair));
}

-- the pairs of an index under the indices of their inner chunks, and nothing where one is not there
abbrev pub inner_pairs : Grid → List ℕ → Content
inner_pairs grid index chunk = let number = place (whole grid.grid_shape) chunk in
    if is_absent (pair_at index number) then None else Some (pair_part index number)

-- the elements of an inner chunk, if its bytes lie within the value and decode, or the fill where
-- it is not there
abbrev pub inner_content : Layout Element → List ℕ → List ℕ → List ℕ → Option (List Element)
inner_content array value index chunk =
    chunk_content (inner_layout array value) (inner_pairs array.grid index) chunk

-- each inner chunk has elements
abbrev pub all_decode : Layout Element → List ℕ → List ℕ → Bool
all_decode array value index =
    list_all (λ chunk. is_some (inner_content array value index chunk)) (chunks array.grid)

-- the elements by an index, if each inner chunk has some: at each tuple that of its inner chunk
abbrev pub by_index : Layout Element → List ℕ → List ℕ → Option (List Element)
by_index array value index = if all_decode array value index
    then Some (elements_in (whole array.shape)
    (stored_array (inner_layout array value) (inner_pairs array.grid index)))
    else None

-- how many inner chunks there are
abbrev pub inner_count : Layout Element → ℕ
inner_count array = count_of array.grid.grid_shape

-- the index of a value, if there is room for one and its number is right where it is tested
abbrev pub index_of : Bool → Bool → Layout Element → List ℕ → Option (List ℕ)
index_of checked validate array value = index_found checked validate (inner_count array) value

-- what a shard decodes to, where each of its parts does
abbrev pub shard_list : Bool → Bool → Layout Element → List ℕ → Option (List Element)
shard_list checked validate array value =
    option_and_then (by_index array value) (index_of checked validate array value)

-- what a value decodes to at a level
abbrev pub Meaning : Type 0
Meaning = Level → List ℕ → Option (List Element)

-- the shape of inner chunks, and whether the number of the index stands behind it
pub record Form : Type 0 where
  pub inner_shape : List ℕ
  pub checked : Bool

-- a level as an array whose chunks are the inner ones, each of which decodes at its own shape
abbrev pub inner_array : Form → Meaning → Level → Layout Element
inner_array form inner level = record {
  shape = level.shape;
  fill = level.fill;
  grid = regular_grid level.shape form.inner_shape;
  key = λ chunk. chunk;
  decode = λ dims value. inner (record level { shape = dims }) value;
}

-- what a shard of this form decodes to at a level, by what its inner chunks decode to
abbrev pub decode_shard : Form → Bool → Meaning → Meaning
decode_shard form validate inner level value =
    shard_list form.checked validate (inner_array form inner level) value
