-- The chain of an array's codecs is the one that its document describes, and its levels serve each chunk.
use Rattle.std.proofs.Common.{◌≡◌, ℕ, ◌+◌, ◌*◌, ◌^◌, ◌<◌, ◌≤◌, Bool, true, false, List, [], ◌∷◌, length, map, Option}
use Rattle.std.proofs.Common.{Some, None, refl, sym, ap, ◌∙◌, subst, arith}
use Rattle.std.proofs.lemmas.List.{length-map}
use Rattle.zarr_model.specs.Prelude.{count, count_of, Element, kind, kind_of, fixed_size, fill_element}
use Rattle.zarr_model.specs.Prelude.{has_long_element, Options, Level, Chain, ArrayCodec, decode_chain}
use Rattle.zarr_model.specs.Prelude.{decode_array_to_bytes, IsChunk}
use Rattle.zarr_model.proofs.ElementLaws.{denoted}
use Rattle.zarrs_codec_traits.specs.Prelude.{fill_bytes, type_of, innermost_fill, filled_with, size_in, IsFit}
use Rattle.zarr_codec_chain.specs.Chain.{IsServedChain, HasFill, blank_chunk, first_level, first_fill, bottom_level}
use Rattle.zarr_codec_chain.specs.Chain.{steps, chain_of}
use Rattle.zarr_codec_chain.specs.Values.{byte_codecs}
use Rattle.zarr_codec_chain.specs.declared.levels.ChunkLevels.{ChunkLevels}
use Rattle.zarr_codec_chain.proofs.LevelLaws.{fewer_below}
use Rattle.zarr_codec_chain.proofs.StepLaws.{top_is}
use Rattle.zarr_codecs.specs.Plain.{codec_of, unserved_by, stores_lengths, takes_by}
use Rattle.zarr_codecs.specs.Views.{plain_of}
use Rattle.zarr_basics.specs.kinds.array_to_array.ArrayToArray.{array_codec_of}
use Rattle.zarr_basics.specs.kinds.array_to_array.Laws.{count_below}
use Rattle.zarr_basics.specs.kinds.array_to_array.Views.{array_form}
use Rattle.zarr_basics.specs.kinds.array_to_array.declared.array_to_array.BasicArrayToArray.{BasicArrayToArray}
use Rattle.zarr_codecs.specs.BytesToBytes.{byte_codec_of, byte_form}
use Rattle.zarr_codecs.specs.declared.bytes_to_bytes.BasicBytesToBytes.{BasicBytesToBytes}
use Rattle.zarr_array_open.specs.Document.{ChainForm}
use Rattle.zarr_array_open.specs.Chain.{all_ranked, BasicChain, chain_form}
use Rattle.zarr_array_open.specs.Codecs.{array_meaning, array_unserved, list_meaning, list_unserved, bytes_meaning}
use Rattle.zarr_array_open.specs.ChunkLevels.{shape_level, chunk_shape, ServesShape}
use Rattle.zarr_array_open.specs.Parts.{described_parts}
use Rattle.zarr_array_open.specs.declared.parts.ArrayParts.{ArrayParts}
use Rattle.zarr_codecs.proofs.SizeLaws.{unstored_sized, taken}
use Rattle.zarr_array_open.proofs.SizeLaws.{short_fill}
use Rattle.zarr_array_open.proofs.ServingLaws.{is_served-serves}
use Rattle.zarr_array_open.proofs.ServedLaws.{described_covers, chunk_counts, chunk_short}

-- the codecs mean what their names do
arrays_mean : (codecs : List BasicArrayToArray) → map array_meaning codecs ≡ map array_codec_of (map array_form codecs)
arrays_mean [] = refl
arrays_mean (codec ∷ codecs) = ap (λ l. array_meaning codec ∷ l) (arrays_mean codecs)

pub byte_codecs_mean : (options : Options) (codecs : List BasicBytesToBytes) →
    byte_codecs bytes_meaning options codecs ≡ map (byte_codec_of options) (map byte_form codecs)
byte_codecs_mean options [] = refl
byte_codecs_mean options (codec ∷ codecs) =
    ap (λ l. byte_codec_of options (byte_form codec) ∷ l) (byte_codecs_mean options codecs)

-- a chain means what its names do
abbrev chain_with : List ArrayCodec → (Level → List ℕ → Option (List Element)) → List (List ℕ → Option (List ℕ)) → Chain
chain_with array_codecs to_elements byte_codecs =
    record { array_codecs = array_codecs; to_elements = to_elements; byte_codecs = byte_codecs }

abbrev means_of : Options → ChainForm → Chain
means_of options form = chain_with (map array_codec_of form.array_codecs)
    (decode_array_to_bytes options (codec_of form.to_bytes)) (map (byte_codec_of options) form.byte_codecs)

own_means : (options : Options) (chain : BasicChain) →
    chain_of array_meaning list_meaning bytes_meaning chain options ≡ means_of options (chain_form chain)
own_means options chain =
    ap (λ l. chain_with l (list_meaning chain.to_bytes options)
    (byte_codecs bytes_meaning options chain.byte_codecs.items)) (arrays_mean chain.array_codecs.items)
    ∙ ap (λ l. chain_with (map array_codec_of (map array_form chain.array_codecs.items))
    (list_meaning chain.to_bytes options) l) (byte_codecs_mean options chain.byte_codecs.items)

-- and so what the document of an array with these codecs does
pub chain_means : (array : ArrayParts) (chain : BasicChain) → chain_form chain ≡ chain_form array.chain →
    (options : Options) →
    chain_of array_meaning list_meaning bytes_meaning chain options ≡ (described_parts array).chain options
chain_means array chain forms options = own_means options chain ∙ ap (means_of options) forms

-- the fill value denotes an element, which is that of the document
pub fill_denotes : (array : ArrayParts) →
    fill_element (kind_of (type_of array.data_type)) (fill_bytes array.fill) ≡ Some (described_parts array).fill
fill_denotes array = denoted (fill_element (kind_of (type_of array.data_type)) (fill_bytes array.fill)) array.filled

-- the shape of a chunk has the array's rank, and can be counted and addressed
pub shape_ranked : (array : ArrayParts) (chunk dims : List ℕ) → IsChunk (described_parts array).grid chunk →
    dims ≡ chunk_shape (described_parts array) chunk →
    all_ranked (length dims) (map array_form array.chain.array_codecs.items) ≡ true
shape_ranked array chunk dims is_chunk is =
    ap (λ rank. all_ranked rank (map array_form array.chain.array_codecs.items))
    (ap length is ∙ length-map ((described_parts array).grid.chunk_box chunk) (λ span. span.size)
    ∙ (described_covers array).box_rank chunk is_chunk)
    ∙ array.ranked

pub shape_fits : (array : ArrayParts) (chunk dims : List ℕ) → IsChunk (described_parts array).grid chunk →
    dims ≡ chunk_shape (described_parts array) chunk → IsFit dims (type_of array.data_type)
shape_fits array chunk dims is_chunk is =
    let counts = chunk_counts array chunk is_chunk in
    record {
      count = subst (λ s. count_of s + 1 < 2 ^ 64) (sym is) counts.0;
      bytes = subst (λ s. count_of s * size_in (fixed_size (kind (described_parts array))) < 2 ^ 64) (sym is) counts.1;
    }

-- the fill value of a chunk is not too long to be stored
pub fill_short : (array : ArrayParts) (chunk : List ℕ) → IsChunk (described_parts array).grid chunk →
    fixed_size (kind (described_parts array)) ≡ None →
    length (innermost_fill (kind (described_parts array)) (fill_bytes array.fill)) < 2 ^ 32
fill_short array chunk is_chunk unsized = go (stores_lengths (plain_of array.chain.to_bytes)) refl
  where
    served : unserved_by (plain_of array.chain.to_bytes) (type_of array.data_type) ≡ None
    served = (is_served-serves (chain_form array.chain) (type_of array.data_type) array.served).bytes

    go : (b : Bool) → stores_lengths (plain_of array.chain.to_bytes) ≡ b →
        length (innermost_fill (kind (described_parts array)) (fill_bytes array.fill)) < 2 ^ 32
    go true stores = (chunk_short array chunk is_chunk stores).1
    go false stores =
        absurd (unstored_sized (plain_of array.chain.to_bytes) (type_of array.data_type) stores served unsized)

has_fill : (array : ArrayParts) (chunk : List ℕ) (levels : ChunkLevels) → IsChunk (described_parts array).grid chunk →
    first_level levels ≡ shape_level (described_parts array) (chunk_shape (described_parts array) chunk) →
    first_fill levels ≡ fill_bytes array.fill → HasFill levels
has_fill array chunk levels is_chunk level filled = record {
  denotes =
      ap (λ (l : Level). fill_element (kind_of l.data_type) (first_fill levels)) level
      ∙ (ap (fill_element (kind (described_parts array))) filled
      ∙ (fill_denotes array ∙ ap Some (sym (ap (λ (l : Level). l.fill) level))));
  short =
      ap (λ (l : Level). has_long_element (blank_chunk l (first_fill levels))) level
      ∙ (ap (λ f. has_long_element
      (filled_with (kind (described_parts array)) (count ((described_parts array).grid.chunk_box chunk)) f)) filled
      ∙ short_fill (kind (described_parts array)) (count ((described_parts array).grid.chunk_box chunk))
      (fill_bytes array.fill) (λ unsized. fill_short array chunk is_chunk unsized));
}

module _ (array : ArrayParts) (chain : BasicChain) (forms : chain_form chain ≡ chain_form array.chain) where
  -- no level has more elements than the chunk, so the array-to-bytes codec takes those of the last one
  few_below : (levels : ChunkLevels) → IsServedChain array_meaning array_unserved list_unserved chain levels →
      count_of (bottom_level levels).shape ≤ count_of (first_level levels).shape
  few_below levels served =
      subst (λ (l : Level). count_of (bottom_level levels).shape ≤ count_of l.shape)
      (top_is chain.array_codecs.items levels.above.items (bottom_level levels) served.count)
      (fewer_below array_meaning array_unserved (λ codec level fill serves. count_below codec level serves)
      (steps chain levels) (bottom_level levels) served.linked)

  chunk_taken : (chunk : List ℕ) (levels : ChunkLevels) → IsChunk (described_parts array).grid chunk →
      IsServedChain array_meaning array_unserved list_unserved chain levels →
      first_level levels ≡ shape_level (described_parts array) (chunk_shape (described_parts array) chunk) →
      takes_by (plain_of chain.to_bytes) (count_of (bottom_level levels).shape)
  chunk_taken chunk levels is_chunk served level =
      taken (plain_of chain.to_bytes) (count_of (bottom_level levels).shape) few
    where
      few : stores_lengths (plain_of chain.to_bytes) ≡ true → count_of (bottom_level levels).shape < 2 ^ 32
      few stores =
          let short : count ((described_parts array).grid.chunk_box chunk) < 2 ^ 32 = (chunk_short array chunk is_chunk
          (ap (λ (f : ChainForm). stores_lengths f.to_bytes) (sym forms) ∙ stores)).0 in
          let first : count_of (first_level levels).shape < 2 ^ 32 =
          subst (λ (l : Level). count_of l.shape < 2 ^ 32) (sym level) short in
          let below = few_below levels served in
          omega (arith, first, below)

  -- so levels of a chunk's shape are the array's
  pub serves_shape : (chunk dims : List ℕ) (levels : ChunkLevels) → IsChunk (described_parts array).grid chunk →
      dims ≡ chunk_shape (described_parts array) chunk →
      IsServedChain array_meaning array_unserved list_unserved chain levels →
      first_level levels ≡ shape_level (described_parts array) dims → first_fill levels ≡ fill_bytes array.fill →
      ServesShape array (chunk_shape (described_parts array) chunk) chain levels
  serves_shape chunk dims levels is_chunk is served first filled =
      let level : first_level levels ≡ shape_level (described_parts array) (chunk_shape (described_parts array) chunk) =
      first ∙ ap (shape_level (described_parts array)) is in
      record {
        forms = forms;
        serves = record { served = served; fill = has_fill array chunk levels is_chunk level filled };
        level = level;
        values = λ options value.
            ap (λ l. decode_chain (chain_of array_meaning list_meaning bytes_meaning chain options) l value) level
            ∙ ap (λ c. decode_chain c (shape_level (described_parts array) (chunk_shape (described_parts array) chunk))
            value) (chain_means array chain forms options);
        takes = chunk_taken chunk levels is_chunk served level;
      }
