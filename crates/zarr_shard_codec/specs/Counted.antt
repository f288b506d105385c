-- What a shard decodes to has an element for each tuple of its level.
use Rattle.std.specs.Prelude.{◌≡◌, ℕ, Bool, true, false, if◌then◌else◌, List, length, Option, Some, None}
use Rattle.std.specs.Prelude.{option_and_then}
use Rattle.std.proofs.Common.{sym, ap, ◌∙◌}
use Rattle.std.proofs.lemmas.List.{length-map}
use Rattle.zarr_model.specs.Prelude.{count_of, whole, tuples, Element, Layout, Level, elements_in, stored_array}
use Rattle.zarr_model.proofs.RegionLaws.{length-tuples, sizes_whole}
use Rattle.zarr_shard_codec.specs.Shard.{inner_layout, inner_pairs, inner_array, all_decode, by_index, index_of, Form}
use Rattle.zarr_shard_codec.specs.Shard.{Meaning, decode_shard}

-- the elements of an array over a shape are as many as its tuples
shard_list_counted : (array : Layout Element) (value index : List ℕ) (all : Bool)
    (list : List Element) → (if all then Some (elements_in (whole array.shape)
    (stored_array (inner_layout array value) (inner_pairs array.grid index))) else None)
    ≡ Some list → length list ≡ count_of array.shape
shard_list_counted array value index false list e = cc
shard_list_counted array value index true list e =
    let held = stored_array (inner_layout array value) (inner_pairs array.grid index) in
    let same : elements_in (whole array.shape) held ≡ list = cc in
    ap length (sym same)
    ∙ (length-map (tuples (whole array.shape)) held.element
    ∙ (length-tuples (whole array.shape) ∙ ap count_of (sizes_whole array.shape)))

index_counted : (array : Layout Element) (value : List ℕ) (index : Option (List ℕ))
    (list : List Element) → option_and_then (by_index array value) index ≡ Some list
    → length list ≡ count_of array.shape
index_counted array value None list e = cc
index_counted array value (Some index) list e =
    shard_list_counted array value index (all_decode array value index) list e

pub shard_counted : (form : Form) (validate : Bool) (inner : Meaning) (level : Level)
    (value : List ℕ) (list : List Element) → decode_shard form validate inner level value
    ≡ Some list → length list ≡ count_of level.shape
shard_counted form validate inner level value list e = let array = inner_array form inner level in
    index_counted array value (index_of form.checked validate array value) list e
