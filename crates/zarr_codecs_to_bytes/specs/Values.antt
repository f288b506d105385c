-- Elements of any length, each between two offsets, and their values behind their lengths.
use Rattle.std.specs.Prelude.{◌≡◌, ◌<◌, ◌^◌, ℕ, suc, true, false, List, ◌∷◌, ◌++◌, length, map, flat_map, Some}
use Rattle.std.specs.Prelude.{option_map}
use Rattle.zarrs_codec_traits.specs.Prelude.{Element, of_bytes, has_long_step}
use Rattle.zarr_model.specs.ArrayBytes.{bytes_of, between_offsets, offsets_rise_to, are_offsets}
use Rattle.zarr_model.specs.Codec.{low_bytes, decode_items, decode_vlen}

-- an element of bytes, whose number fits 4 bytes
abbrev pub IsItem : Element → Type 0
IsItem element = (element ≡ of_bytes (bytes_of element)) × (length (bytes_of element) < 2 ^ 32)

-- each value behind its length in 4 bytes
abbrev pub items_of : List (List ℕ) → List ℕ
items_of values = flat_map (λ value. low_bytes 4 (length value) ++ value) values

-- bytes and the offsets of so many elements in them, no two neighbours far apart
pub record AreValues (number : ℕ) (value offsets : List ℕ) : Type 0 where
  pub rise : are_offsets number (length value) offsets ≡ true
  pub short : has_long_step offsets ≡ false

-- the same from a first offset on
pub record AreBetween (value : List ℕ) (first : ℕ) (offsets : List ℕ) : Type 0 where
  pub rise : offsets_rise_to (length value) first offsets ≡ true
  pub short : has_long_step (first ∷ offsets) ≡ false

-- the elements between some offsets
abbrev pub elements_between : List ℕ → List ℕ → List Element
elements_between offsets value = map of_bytes (between_offsets offsets value)

-- the first of some items, and what follows it
pub record IsFirstItem (items item behind : List ℕ) : Type 0 where
  pub short : length item < 2 ^ 32
  pub decoded : (k : ℕ) → decode_items (suc k) items
      ≡ option_map (λ elements. of_bytes item ∷ elements) (decode_items k behind)

-- bytes and offsets of so many elements are valid, and hold what a value decodes to
pub record HoldsElements (number : ℕ) (value bytes offsets : List ℕ) : Type 0 where
  pub decoded : decode_vlen number value ≡ Some (elements_between offsets bytes)
  pub values : AreValues number bytes offsets

-- the same of what items decode to
pub record HoldsItems (number : ℕ) (items bytes offsets : List ℕ) : Type 0 where
  pub decoded : decode_items number items ≡ Some (elements_between offsets bytes)
  pub values : AreValues number bytes offsets
