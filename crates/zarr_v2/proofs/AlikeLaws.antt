-- The chunks of a version 2 document decode as those of the document that it is translated to.
use Rattle.std.proofs.Common.{◌≡◌, ◌∙◌, ap, sym, refl, ℕ, ◌<◌, ◌≤◌, true, nat_le, List, [], ◌∷◌, map}
use Rattle.std.proofs.Common.{length, Option, arith}
use Rattle.std.specs.Prelude.{◌==◌}
use Rattle.std.specs.List.{list_all}
use Rattle.std.proofs.lemmas.Bool.{eqb-true, leb-true, and_parts}
use Rattle.std.proofs.lemmas.List.{length-map}
use Rattle.zarr_model.specs.Prelude.{v2_keys, Element, Options, layout, Span, sizes, kind_of, decode_fixed}
use Rattle.zarr_model.specs.Prelude.{decode_levels, ByteOrder, regular_grid, IsChunk}
use Rattle.zarr_model.proofs.GridLaws.{IsChunkShape, regular_grid-covers}
use Rattle.zarrs_metadata_parts.specs.Names.{separator_code}
use Rattle.zarrs_metadata_v2.specs.ArrayMetadataV2.{ArrayV2}
use Rattle.zarrs_metadata_v2.specs.declared.array.order.ArrayMetadataV2Order.{ArrayMetadataV2Order}
use Rattle.zarrs_metadata_v2.specs.declared.array.order.ArrayMetadataV2Order.TheVariants.{C, F}
use Rattle.zarr_codecs_to_bytes.specs.BytesCodec.{stored_order}
use Rattle.zarr_basics.specs.kinds.array_to_array.ArrayToArray.{array_codec_of}
use Rattle.zarr_basics.specs.GridConfigurations.{are_chunk_lengths}
use Rattle.zarr_basics.specs.GridForms.{regular}
use Rattle.zarr_array_open.specs.Document.{ArrayDocument, describe, document_with}
use Rattle.zarr_v2.specs.declared.element_type.ElementType.{ElementType}
use Rattle.zarr_v2.specs.declared.element_type.ElementType.TheVariants.{Bool as BoolType, Int8, Int16, Int32, Int64}
use Rattle.zarr_v2.specs.declared.element_type.ElementType.TheVariants.{UInt8, UInt16, UInt32, UInt64}
use Rattle.zarr_v2.specs.declared.element_type.StoredType.{StoredType}
use Rattle.zarr_v2.specs.ElementType.{element_type}
use Rattle.zarr_v2.specs.ChunksV2.{decode_v2, layout_v2}
use Rattle.zarr_v2.specs.Alike.{DecodeAlike}
use Rattle.zarr_v2.specs.Documents.{element_size, chunks_with, turning, chain_v2}
use Rattle.zarr_v2.proofs.DecodeLaws.{rows, columns}

-- positive lengths, one for each dimension
positive : (shape chunks : List ℕ) → length chunks ≡ length shape → list_all (λ p. nat_le 1 p) chunks ≡ true →
    IsChunkShape shape chunks
positive [] [] l h = tt
positive [] (p ∷ ps) l h = let f : ⊥ = omega (arith, l) in absurd f
positive (n ∷ ns) [] l h = let f : ⊥ = omega (arith, l) in absurd f
positive (n ∷ ns) (p ∷ ps) l h =
    let parts = and_parts (nat_le 1 p) (list_all (λ p. nat_le 1 p) ps) h in
    let one : 1 ≤ p = leb-true 1 p parts.0 in
    let some : 0 < p = omega (arith, one) in
    let rest : length ps ≡ length ns = omega (arith, l) in
    (some, positive ns ps rest parts.1)

chunk_shape : (shape chunks : List ℕ) → are_chunk_lengths shape chunks ≡ true → IsChunkShape shape chunks
chunk_shape shape chunks h =
    let parts = and_parts (length chunks == length shape) (list_all (λ p. nat_le 1 p) chunks) h in
    positive shape chunks (eqb-true _ _ parts.0) parts.1

-- the box of a chunk has the array's rank
rank_of_box : (shape chunks chunk : List ℕ) → are_chunk_lengths shape chunks ≡ true → IsChunk (regular_grid shape
    chunks) chunk → length (sizes ((regular_grid shape chunks).chunk_box chunk)) ≡ length shape
rank_of_box shape chunks chunk h is = length-map ((regular_grid shape chunks).chunk_box chunk)
    (λ (span : Span). span.size) ∙ (regular_grid-covers shape chunks (chunk_shape shape chunks h)).box_rank chunk is

abbrev decoded : ArrayMetadataV2Order → ElementType → ByteOrder → ℕ → List ℕ → Element → List ℕ → Option (List Element)
decoded order e bytes rank shape filler value = decode_levels (map array_codec_of (turning order rank))
    (λ below. decode_fixed bytes below (kind_of below.data_type))
    (record { shape = shape; data_type = element_type e; fill = filler }) value

by_rows : (e : ElementType) (bytes : ByteOrder) (shape : List ℕ) (filler : Element) (value : List ℕ) →
    decode_v2 C bytes (element_size e) shape value ≡ decoded C e bytes (length shape) shape filler value
by_rows BoolType bytes shape filler value =
    rows bytes 1 (record { shape = shape; data_type = element_type BoolType; fill = filler }) value (omega arith) refl
by_rows Int8 bytes shape filler value =
    rows bytes 1 (record { shape = shape; data_type = element_type Int8; fill = filler }) value (omega arith) refl
by_rows Int16 bytes shape filler value =
    rows bytes 2 (record { shape = shape; data_type = element_type Int16; fill = filler }) value (omega arith) refl
by_rows Int32 bytes shape filler value =
    rows bytes 4 (record { shape = shape; data_type = element_type Int32; fill = filler }) value (omega arith) refl
by_rows Int64 bytes shape filler value =
    rows bytes 8 (record { shape = shape; data_type = element_type Int64; fill = filler }) value (omega arith) refl
by_rows UInt8 bytes shape filler value =
    rows bytes 1 (record { shape = shape; data_type = element_type UInt8; fill = filler }) value (omega arith) refl
by_rows UInt16 bytes shape filler value =
    rows bytes 2 (record { shape = shape; data_type = element_type UInt16; fill = filler }) value (omega arith) refl
by_rows UInt32 bytes shape filler value =
    rows bytes 4 (record { shape = shape; data_type = element_type UInt32; fill = filler }) value (omega arith) refl
by_rows UInt64 bytes shape filler value =
    rows bytes 8 (record { shape = shape; data_type = element_type UInt64; fill = filler }) value (omega arith) refl

by_columns : (e : ElementType) (bytes : ByteOrder) (shape : List ℕ) (filler : Element) (value : List ℕ) →
    decode_v2 F bytes (element_size e) shape value ≡ decoded F e bytes (length shape) shape filler value
by_columns BoolType bytes shape filler value = columns bytes 1
    (record { shape = shape; data_type = element_type BoolType; fill = filler }) value (omega arith) refl
by_columns Int8 bytes shape filler value =
    columns bytes 1 (record { shape = shape; data_type = element_type Int8; fill = filler }) value (omega arith) refl
by_columns Int16 bytes shape filler value =
    columns bytes 2 (record { shape = shape; data_type = element_type Int16; fill = filler }) value (omega arith) refl
by_columns Int32 bytes shape filler value =
    columns bytes 4 (record { shape = shape; data_type = element_type Int32; fill = filler }) value (omega arith) refl
by_columns Int64 bytes shape filler value =
    columns bytes 8 (record { shape = shape; data_type = element_type Int64; fill = filler }) value (omega arith) refl
by_columns UInt8 bytes shape filler value =
    columns bytes 1 (record { shape = shape; data_type = element_type UInt8; fill = filler }) value (omega arith) refl
by_columns UInt16 bytes shape filler value =
    columns bytes 2 (record { shape = shape; data_type = element_type UInt16; fill = filler }) value (omega arith) refl
by_columns UInt32 bytes shape filler value =
    columns bytes 4 (record { shape = shape; data_type = element_type UInt32; fill = filler }) value (omega arith) refl
by_columns UInt64 bytes shape filler value =
    columns bytes 8 (record { shape = shape; data_type = element_type UInt64; fill = filler }) value (omega arith) refl

by_order : (order : ArrayMetadataV2Order) (e : ElementType) (bytes : ByteOrder) (shape : List ℕ)
    (filler : Element) (value : List ℕ) →
    decode_v2 order bytes (element_size e) shape value ≡ decoded order e bytes (length shape) shape filler value
by_order C e bytes shape filler value = by_rows e bytes shape filler value
by_order F e bytes shape filler value = by_columns e bytes shape filler value

-- the document that the translated one is described by
abbrev pub document_by : ArrayV2 → StoredType → List ℕ → ArrayDocument
document_by a s filler = document_with (v2_keys (separator_code a.dimension_separator))
    (chain_v2 a.order (length a.shape) s.order) (element_type s.element) a.shape (regular a.chunks) filler

pub alike : (a : ArrayV2) (s : StoredType) (filler : List ℕ) (options : Options) →
    are_chunk_lengths a.shape a.chunks ≡ true →
    DecodeAlike (layout_v2 (chunks_with a s filler)) (layout (describe (document_by a s filler)) options)
alike a s filler options fits = record {
  shape = refl;
  fill = refl;
  grid = refl;
  key = refl;
  decode = λ chunk value is.
      let box = sizes ((regular_grid a.shape a.chunks).chunk_box chunk) in
      let bytes = stored_order s.order in
      let filling = (document_by a s filler).fill in
      let rank = rank_of_box a.shape a.chunks chunk fits is in
      sym (by_order a.order s.element bytes box filling value
      ∙ ap (λ (r : ℕ). decoded a.order s.element bytes r box filling value) rank);
}
