-- The chunks of an array: what stands under their keys.
use Rattle.std.proofs.Common.{◌≡◌, ℕ, ◌⊎◌, inl, inr, ⊎_elim, Bool, true, false, List, [], replicate, Option, Some, None}
use Rattle.std.proofs.Common.{IsSome, IfSome, unwrap_or, Result, Ok, Err, OnOk, OnErr, refl, sym, ap, ◌∙◌, subst}
use Rattle.zarr_model.specs.Prelude.{Element, Region, count, count_of, Options, Level, kind, kind_of, meaning, Content}
use Rattle.zarr_model.specs.Prelude.{Shown, box_content, chunk_content, layout, ArrayBytes, has_long_element}
use Rattle.zarrs_codec_traits.specs.Words.{list_at, Gives}
use Rattle.zarrs_codec_error.specs.declared.error.CodecError.{CodecError}
use Rattle.zarrs_codec_error.specs.declared.error.CodecError.TheVariants as codec
use Rattle.zarrs_storage.specs.declared.store.StorageError.{StorageError}
use Rattle.zarr_codec_chain.specs.Chain.{first_level, decoded}
use Rattle.zarr_codec_chain.specs.declared.levels.ChunkLevels.{ChunkLevels}
use Rattle.zarr_chunks.specs.Fetch as stored
use Rattle.zarr_chunks.specs.Put as put
use Rattle.zarr_array_open.specs.Codecs.{array_meaning, list_meaning, bytes_meaning}
use Rattle.zarr_array_open.specs.Chain.{BasicChain}
use Rattle.zarr_array_open.specs.ChunkLevels.{chunk_shape, ServesShape}
use Rattle.zarr_array.specs.Chunk.{storage_kind, is_dropped, decode_at, PutsElements, MayPutElements, chunk_kind}
use Rattle.zarr_array.specs.Fetch.{chunk_list, MeanChunk}
use Rattle.zarr_array.specs.Access.{IsInHand}
use Rattle.zarr_array.specs.Plain.{plain_access, AreLevelsAt}
use Rattle.zarr_array.specs.declared.command_error.SessionErrorKind.{SessionErrorKind}
use Rattle.zarr_array.specs.declared.command_error.SessionErrorKind.TheVariants.{ChunkDecode, OutOfMemory}
use Rattle.zarr_array_open.specs.Parts.{described_parts}
use Rattle.zarr_array_open.specs.declared.parts.ArrayParts.{ArrayParts}

-- what holds where a call ended so, and what follows from it
pub on_ok : {T E P Q : Type 0} (r : Result T E) → (P → Q) → OnOk r P → OnOk r Q
on_ok (Ok v) f p = f p
on_ok (Err e) f p = tt

pub on_err : {T E P Q : Type 0} (r : Result T E) → (P → Q) → OnErr r P → OnErr r Q
on_err (Ok v) f p = tt
on_err (Err e) f p = f p

-- what holds of each kind of error that a fetch may end with
module _ (holds : List ℕ → SessionErrorKind → Type 0) where
  pub by_kind : (key : List ℕ) (error : CodecError) →
      ((fault : StorageError) → error ≡ codec.StorageError fault → holds key (storage_kind fault)) →
      holds key OutOfMemory → holds key (ChunkDecode key error) → holds key (chunk_kind key error)
  by_kind key (codec.StorageError fault) storage memory other = storage fault refl
  by_kind key codec.OutOfMemory storage memory other = memory
  by_kind key (codec.InvalidByteRangeError error) storage memory other = other
  by_kind key (codec.IncompatibleDimensionalityError error) storage memory other = other
  by_kind key (codec.IncompatibleIndexer error) storage memory other = other
  by_kind key (codec.UnexpectedChunkDecodedSize error) storage memory other = other
  by_kind key codec.InvalidChecksum storage memory other = other
  by_kind key (codec.UnsupportedDataTypeCodec error) storage memory other = other
  by_kind key codec.EndiannessMissing storage memory other = other
  by_kind key codec.InvalidVariableSizedArrayOffsets storage memory other = other
  by_kind key codec.InvalidMask storage memory other = other
  by_kind key (codec.ExpectedFixedLengthBytes error) storage memory other = other
  by_kind key (codec.ExpectedVariableLengthBytes error) storage memory other = other
  by_kind key (codec.ExpectedOptionalBytes error) storage memory other = other
  by_kind key (codec.InvalidNumberOfElements error) storage memory other = other
  by_kind key (codec.SubsetOutOfBounds error) storage memory other = other
  by_kind key (codec.RawBytesOffsetsCreate error) storage memory other = other
  by_kind key (codec.RawBytesOffsetsOutOfBounds error) storage memory other = other
  by_kind key (codec.DataTypeFillValueError error) storage memory other = other
  by_kind key (codec.ArraySubsetError error) storage memory other = other

-- a chain that an array lends is its own
pub lent_serves : (array : ArrayParts) (chain : BasicChain) (levels : ChunkLevels) (chunk : List ℕ) →
    chain ≡ array.chain → ServesShape array (chunk_shape (described_parts array) chunk) array.chain levels →
    ServesShape array (chunk_shape (described_parts array) chunk) chain levels
lent_serves array chain levels chunk is serves =
    subst (λ c. ServesShape array (chunk_shape (described_parts array) chunk) c levels) (sym is) serves

-- levels in hand are of the shape of the chunk that they were made for
pub in_hand : (array : ArrayParts) (hand : Option ChunkLevels) → IfSome hand (IsInHand (AreLevelsAt array)) →
    IfSome hand (λ levels. ServesShape array (first_level levels).shape array.chain levels)
in_hand array None serves = tt
in_hand array (Some levels) serves =
    subst (λ dims. ServesShape array dims array.chain levels) (sym (ap (λ (l : Level). l.shape) serves.1.level))
    serves.1

-- levels of a chunk's shape decode its values as the array does
module _ (array : ArrayParts) (chain : BasicChain) (levels : ChunkLevels) (options : Options) (chunk : List ℕ)
    (serves : ServesShape array (chunk_shape (described_parts array) chunk) chain levels) where
  abbrev chain_decodes : put.Decoding
  chain_decodes = decoded array_meaning list_meaning bytes_meaning chain levels

  pub decodes_as : (under : Options) (value : List ℕ) →
      chain_decodes under value ≡ decode_at (described_parts array) chunk under value
  decodes_as under value = serves.values under value

  pub content_as : (value : Option (List ℕ)) →
      stored.chain_content array_meaning list_meaning bytes_meaning chain levels options value ≡
      box_content (layout (described_parts array) options) ((described_parts array).grid.chunk_box chunk) value
  content_as None = ap (λ (l : Level). Some (replicate (count_of l.shape) l.fill)) serves.level
  content_as (Some value) = decodes_as options value

  -- what stands under its key is what the chunk has
  pub own_content : (key : List ℕ) (before : Shown) → key ≡ (described_parts array).key chunk →
      chunk_content (layout (described_parts array) options) before.content chunk ≡
      stored.chain_content array_meaning list_meaning bytes_meaning chain levels options (before.content key)
  own_content key before its_key =
      ap (λ k. box_content (layout (described_parts array) options) ((described_parts array).grid.chunk_box chunk)
      (before.content k)) (sym its_key)
      ∙ sym (content_as (before.content key))

  -- what was put for the chain was put for the array
  is_put : (decode other : put.Decoding) → ((under : Options) (value : List ℕ) →
      decode under value ≡ other under value) → (drops : Bool) (list : List Element) (value : Option (List ℕ)) →
      put.IsPutValue decode drops list value → put.IsPutValue other drops list value
  is_put decode other same true list value here = here
  is_put decode other same false list None here = here
  is_put decode other same false list (Some value) here = λ under. sym (same under value) ∙ here under

  put_as : (list : List Element) (value : Option (List ℕ)) →
      put.IsPutValue chain_decodes (put.is_list_dropped options (first_level levels) list) list value →
      put.IsPutValue (decode_at (described_parts array) chunk) (is_dropped (described_parts array) options list) list
      value
  put_as list value here = is_put chain_decodes (decode_at (described_parts array) chunk) decodes_as
      (is_dropped (described_parts array) options list) list value
      (subst (λ (l : Level). put.IsPutValue chain_decodes (put.is_list_dropped options l list) list value) serves.level
      here)

  pub puts_as : (list : List Element) (old new : Content) (key : List ℕ) →
      put.PutsChunk chain_decodes (put.is_list_dropped options (first_level levels) list) list old new key →
      PutsElements (described_parts array) options chunk list old new key
  puts_as list old new key puts = record { here = put_as list (new key) puts.here; others = puts.others }

  pub may_put_as : (list : List Element) (old new : Content) (key : List ℕ) →
      put.MayPutChunk chain_decodes (put.is_list_dropped options (first_level levels) list) list old new key →
      MayPutElements (described_parts array) options chunk list old new key
  may_put_as list old new key puts = record {
    here = ⊎_elim
        (λ (kept : new key ≡ old key). inl kept)
        (λ (other : put.IsPutValue chain_decodes (put.is_list_dropped options (first_level levels) list) list
        (new key) ⊎ (new key ≡ None)). ⊎_elim
        (λ (here : put.IsPutValue chain_decodes (put.is_list_dropped options (first_level levels) list) list (new key)).
        inr (inl (put_as list (new key) here)))
        (λ (gone : new key ≡ None). inr (inr gone))
        other)
        puts.here;
    others = puts.others;
  }

-- what is there
pub some_list : {A : Type 0} (o : Option (List A)) → IsSome o → o ≡ Some (unwrap_or o [])
some_list (Some list) h = refl
some_list None h = cc

-- the elements of a chunk
module _ (array : ArrayParts) (chain : BasicChain) (levels : ChunkLevels) (options : Options) (chunk : List ℕ)
    (serves : ServesShape array (chunk_shape (described_parts array) chunk) chain levels) where
  abbrev box : Region
  box = (described_parts array).grid.chunk_box chunk

  at_level : (bytes : ArrayBytes) →
      list_at (first_level levels) bytes ≡ meaning (kind (described_parts array)) (count box) bytes
  at_level bytes = ap (λ (l : Level). meaning (kind_of l.data_type) (count_of l.shape) bytes) serves.level

  pub given_mean : (bytes : ArrayBytes) (content : Option (List Element)) → Gives (list_at (first_level levels) bytes)
      content → has_long_element bytes ≡ false → MeanChunk (plain_access array) chunk bytes
  given_mean bytes content gives short = record { means = subst IsSome (at_level bytes) gives.there; short = short }

  pub fetched_elements : (bytes : ArrayBytes) (key : List ℕ) (before : Shown) →
      key ≡ (described_parts array).key chunk →
      Gives (list_at (first_level levels) bytes)
      (stored.chain_content array_meaning list_meaning bytes_meaning chain levels options (before.content key)) →
      chunk_content (layout (described_parts array) options) before.content chunk ≡
      Some (chunk_list (plain_access array) chunk bytes)
  fetched_elements bytes key before its_key gives =
      ap (λ k. box_content (layout (described_parts array) options) box (before.content k)) (sym its_key)
      ∙ (sym (content_as array chain levels options chunk serves (before.content key))
      ∙ (sym gives.same ∙ (at_level bytes ∙ some_list (meaning (kind (described_parts array)) (count box) bytes)
      (subst IsSome (at_level bytes) gives.there))))

  -- and bytes that mean as many
  pub taken_elements : (bytes : ArrayBytes) → MeanChunk (plain_access array) chunk bytes →
      list_at (first_level levels) bytes ≡ Some (chunk_list (plain_access array) chunk bytes)
  taken_elements bytes mean =
      at_level bytes ∙ some_list (meaning (kind (described_parts array)) (count box) bytes) mean.means
