-- What the chunks of version 2 have to do with the codecs of version 3.
use Rattle.std.specs.Prelude.{◌≡◌, ◌↔◌, ℕ, ◌<◌, List, [], ◌∷◌, length}
use Rattle.zarr_model.specs.Prelude.{sizes, Element, fixed, Array, ByteOrder, Level, decode_fixed, component_size}
use Rattle.zarr_model.specs.Prelude.{decode_levels, transpose_codec, Content, Layout, IsChunk, Means}
use Rattle.zarrs_metadata_v2.specs.declared.array.order.ArrayMetadataV2Order.TheVariants.{C, F}
use Rattle.zarr_v2.specs.Translate.{reversed_order}
use Rattle.zarr_v2.specs.ChunksV2.{decode_v2}

-- elements of one component of n bytes
abbrev pub RowsAgree : Type 0
RowsAgree = (bytes : ByteOrder) (n : ℕ) (level : Level) (value : List ℕ) → 0 < n →
    component_size level.data_type ≡ n →
    decode_v2 C bytes n level.shape value ≡ decode_fixed bytes level (fixed n) value

-- below a transposition that turns the dimensions round
abbrev pub ColumnsAgree : Type 0
ColumnsAgree = (bytes : ByteOrder) (n : ℕ) (level : Level) (value : List ℕ) → 0 < n →
    component_size level.data_type ≡ n →
    decode_v2 F bytes n level.shape value
    ≡ decode_levels (transpose_codec (reversed_order (length level.shape)) ∷ [])
    (λ below. decode_fixed bytes below (fixed n)) level value

-- layouts that differ in how they decode alone, and there only on values of no chunk's shape
pub record DecodeAlike (first second : Layout Element) : Type 0 where
  pub shape : second.shape ≡ first.shape
  pub fill : second.fill ≡ first.fill
  pub grid : second.grid ≡ first.grid
  pub key : second.key ≡ first.key
  pub decode : (chunk : List ℕ) (value : List ℕ) → IsChunk first.grid chunk →
      second.decode (sizes (first.grid.chunk_box chunk)) value
      ≡ first.decode (sizes (first.grid.chunk_box chunk)) value

abbrev pub StoresAgree : Type 0
StoresAgree = (first second : Layout Element) → DecodeAlike first second → (store : Content)
    → (array : Array Element) → Means first store array ↔ Means second store array
