-- How an array of version 2 lies in a store.
use Rattle.std.specs.Prelude.{ℕ, ◌+◌, ◌*◌, ◌==◌, if◌then◌else◌, List, [], ◌∷◌, length, take, drop, map, reverse, Option}
use Rattle.std.specs.Prelude.{Some, None}
use Rattle.zarr_model.specs.Prelude.{whole, count_of, tuples, place, Element, of_bytes, ByteOrder, little, big, Layout}
use Rattle.zarr_model.specs.Prelude.{regular_grid, v2_key}
use Rattle.zarrs_metadata_v2.specs.declared.array.order.ArrayMetadataV2Order.{ArrayMetadataV2Order}
use Rattle.zarrs_metadata_v2.specs.declared.array.order.ArrayMetadataV2Order.TheVariants.{C, F}

-- the number of a tuple in a shape whose first dimension runs fastest
abbrev pub column_place : List ℕ → List ℕ → ℕ
column_place [] tuple = 0
column_place (n ∷ shape) [] = 0
column_place (n ∷ shape) (index ∷ tuple) = index + n * column_place shape tuple

-- the number of a tuple in a chunk's value: the last dimension runs fastest, or the first
abbrev pub number_in : ArrayMetadataV2Order → List ℕ → List ℕ → ℕ
number_in C shape tuple = place (whole shape) tuple
number_in F shape tuple = column_place shape tuple

-- the bytes of an element, the lowest first, from an order
abbrev pub bytes_from : ByteOrder → List ℕ → List ℕ
bytes_from little bytes = bytes
bytes_from big bytes = reverse bytes

-- the element of a number in a value whose elements have n bytes
abbrev pub element_v2_at : ByteOrder → ℕ → List ℕ → ℕ → Element
element_v2_at bytes n value number = of_bytes (bytes_from bytes (take n (drop (number * n) value)))

-- the elements of a chunk's shape, in row-major order, if the value is as long as they are
abbrev pub decode_v2 : ArrayMetadataV2Order → ByteOrder → ℕ → List ℕ → List ℕ →
    Option (List Element)
decode_v2 order bytes n shape value = if length value == count_of shape * n
    then Some (map (λ tuple. element_v2_at bytes n value (number_in order shape tuple))
    (tuples (whole shape)))
    else None

-- what a version 2 document says of the chunks in a store
pub record ChunksV2 : Type 0 where
  pub shape : List ℕ
  pub chunks : List ℕ
  pub size : ℕ
  pub bytes : ByteOrder
  pub fill : Element
  pub order : ArrayMetadataV2Order
  pub separator : ℕ

-- how the array lies in a store: regular chunks under their indices, joined by the separator
abbrev pub layout_v2 : ChunksV2 → Layout Element
layout_v2 a = record {
  shape = a.shape;
  fill = a.fill;
  grid = regular_grid a.shape a.chunks;
  key = v2_key a.separator;
  decode = decode_v2 a.order a.bytes a.size;
}
