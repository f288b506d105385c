-- What a shard's elements are.
use Rattle.std.specs.Prelude.{◌≡◌, ℕ, true, Bool, List, length, get_or, Some}
use Rattle.zarr_model.specs.Prelude.{Region, whole, count_of, contains, place, ends_within, Element, elements_in}
use Rattle.zarr_model.specs.Prelude.{IsChunk, CoversShape, Level, Layout, stored_array}
use Rattle.zarrs_codec_traits.specs.Words.{select}
use Rattle.zarr_shard_codec.specs.Shard.{inner_layout, inner_pairs, inner_content, index_of, shard_list, Meaning, Form}
use Rattle.zarr_shard_codec.specs.Shard.{decode_shard}

-- the element at a tuple is the one that the inner chunk with this tuple has
abbrev pub ElementIsInner : Type 0
ElementIsInner = (checked validate : Bool) (array : Layout Element) (value index : List ℕ)
    (list elements : List Element) (chunk tuple : List ℕ) (d : Element)
    → CoversShape array.shape array.grid
    → index_of checked validate array value ≡ Some index
    → shard_list checked validate array value ≡ Some list → IsChunk array.grid chunk
    → contains (array.grid.chunk_box chunk) tuple ≡ true
    → contains (whole array.shape) tuple ≡ true
    → inner_content array value index chunk ≡ Some elements
    → get_or list (place (whole array.shape) tuple) d
    ≡ get_or elements (place (array.grid.chunk_box chunk) tuple) array.fill

-- there is one for each tuple
abbrev pub IsCountedShard : Type 0
IsCountedShard = (form : Form) (validate : Bool) (inner : Meaning) (level : Level)
    (value : List ℕ) (list : List Element)
    → decode_shard form validate inner level value ≡ Some list
    → length list ≡ count_of level.shape

-- those of a region are those of the array that the inner chunks hold
abbrev pub SelectsInner : Type 0
SelectsInner = (checked validate : Bool) (array : Layout Element) (value index : List ℕ)
    (list : List Element) (region : Region)
    → index_of checked validate array value ≡ Some index
    → shard_list checked validate array value ≡ Some list
    → ends_within region array.shape ≡ true
    → select array.shape region list
    ≡ elements_in region (stored_array (inner_layout array value) (inner_pairs array.grid index))
