-- Where ranges of a value are there, some value that decodes has the same bytes in them.
use Rattle.std.proofs.Common.{◌≡◌, ℕ, true, List, [], ◌∷◌, length, map, Option, Some, None, IsSome, unwrap_or}
use Rattle.std.proofs.Common.{option_map, option_and_then, refl, sym, ap, ◌∙◌, subst}
use Rattle.zarr_model.specs.Prelude.{Region, ends_within, Element, Level, Options, decode_bytes, decode_levels}
use Rattle.zarr_model.specs.Prelude.{decode_chain, decode_array_to_bytes, level_under}
use Rattle.zarrs_storage.specs.ByteRange.{first_invalid}
use Rattle.zarrs_storage.specs.declared.byte_range.ByteRange.{ByteRange}
use Rattle.zarr_codec_chain.specs.Chain.{first_level, bottom_level, decoded}
use Rattle.zarr_codec_chain.specs.declared.levels.ChunkLevels.{ChunkLevels}
use Rattle.zarr_chunks.specs.Regions.{IsAlike, given_bytes}
use Rattle.zarr_codecs.specs.Laws.{plain_alike}
use Rattle.zarr_codecs.specs.Plain.{codec_of, request_by}
use Rattle.zarr_codecs.specs.Views.{plain_of}
use Rattle.zarr_array_open.specs.kinds.array_to_array.ArrayToArray.{ArrayToArray, array_codec_of}
use Rattle.zarr_array_open.specs.kinds.array_to_array.Laws.{list_decodes}
use Rattle.zarr_codecs.specs.BytesToBytes.{BytesToBytes, byte_codec_of, byte_encoded}
use Rattle.zarr_array_open.specs.Chain.{BasicChain}
use Rattle.zarr_array_open.specs.ChunkLevels.{chunk_shape, chunk_level, ServesShape}
use Rattle.zarr_array_open.specs.Codecs.{array_meaning, list_meaning, bytes_meaning}
use Rattle.zarr_array_open.specs.Document.{ArrayDocument, ChainForm}
use Rattle.zarr_array_open.specs.Parts.{documented_parts, described_parts}
use Rattle.zarr_array_open.specs.declared.parts.ArrayParts.{ArrayParts}
use Rattle.zarr_array_open.proofs.ChainLaws.{byte_codecs_mean}
use Rattle.zarr_array.proofs.BottomLaws.{bottom_is, below, below_inside}
use Rattle.zarr_array.proofs.ChunkLaws.{some_list}

-- bytes-to-bytes codecs give each value for some value
encoded : (options : Options) (codecs : List BytesToBytes) (value : List ℕ) →
    (stored : List ℕ) × (decode_bytes (map (byte_codec_of options) codecs) stored ≡ Some value)
encoded options [] value = (value, refl)
encoded options (c ∷ codecs) value =
    let own = byte_encoded options c value in
    let rest = encoded options codecs own.0 in
    (rest.0, ap (option_and_then (byte_codec_of options c)) rest.1 ∙ own.1)

-- and array-to-array codecs decode each list
levels_decode :
    (codecs : List ArrayToArray) (to_list : Level → List ℕ → Option (List Element)) (level : Level) (value : List ℕ) →
    IsSome (to_list (level_under (map array_codec_of codecs) level) value) →
    IsSome (decode_levels (map array_codec_of codecs) to_list level value)
levels_decode [] to_list level value some = some
levels_decode (c ∷ codecs) to_list level value some =
    go (decode_levels (map array_codec_of codecs) to_list ((array_codec_of c).level_below level) value)
    (levels_decode codecs to_list ((array_codec_of c).level_below level) value some)
  where
    go : (list : Option (List Element)) → IsSome list →
        IsSome (option_and_then ((array_codec_of c).decode_list level) list)
    go None some = cc
    go (Some list) some = list_decodes c level list

module _ (array : ArrayParts) (chain : BasicChain) (levels : ChunkLevels) (options : Options) (chunk : List ℕ)
    (serves : ServesShape array (chunk_shape (described_parts array) chunk) chain levels) where
  abbrev document : ArrayDocument
  document = documented_parts array

  -- what a value decodes to, by its document
  abbrev decodes : List ℕ → Option (List Element)
  decodes value = decode_chain ((described_parts array).chain options) (chunk_level (described_parts array) chunk) value

  abbrev to_list : ArrayDocument → Level → List ℕ → Option (List Element)
  to_list from level value = decode_array_to_bytes options (codec_of from.to_bytes) level value

  decodes_by : (value bytes : List ℕ) →
      decode_bytes (map (byte_codec_of options) document.byte_codecs) value ≡ Some bytes →
      IsSome (to_list document (level_under (map array_codec_of document.array_codecs)
      (chunk_level (described_parts array) chunk)) bytes) → IsSome (decodes value)
  decodes_by value bytes given some =
      subst (λ (g : Option (List ℕ)). IsSome (option_and_then (decode_levels (map array_codec_of document.array_codecs)
      (to_list document) (chunk_level (described_parts array) chunk)) g)) (sym given)
      (levels_decode document.array_codecs (to_list document) (chunk_level (described_parts array) chunk) bytes some)

  -- the same in the words of the chain
  given_here : (value bytes : List ℕ) → decode_bytes (map (byte_codec_of options) document.byte_codecs) value ≡
      Some bytes → given_bytes bytes_meaning chain options (Some value) ≡ Some (Some bytes)
  given_here value bytes given =
      ap (option_map (λ (v : List ℕ). Some v))
      (ap (λ l. decode_bytes l value) (byte_codecs_mean options chain.byte_codecs.items)
      ∙ (ap (λ (f : ChainForm). decode_bytes (map (byte_codec_of options) f.byte_codecs) value) serves.forms ∙ given))

  pub other_value : (within : Region) → ends_within within (first_level levels).shape ≡ true →
      (ranges : List ByteRange) →
      request_by (plain_of chain.to_bytes) (bottom_level levels).shape (bottom_level levels).data_type
      (below array chain levels chunk serves within) ≡ Some ranges →
      (bytes : List ℕ) → first_invalid (length bytes) ranges ≡ None →
      (other : List ℕ) × (list : List Element) ×
      IsAlike ranges bytes (given_bytes bytes_meaning chain options (Some other))
      × (decoded array_meaning list_meaning bytes_meaning chain levels options other ≡ Some list)
  other_value within inside ranges asked bytes valid =
      let own = plain_alike (plain_of chain.to_bytes) options (bottom_level levels)
      (below array chain levels chunk serves within) bytes ranges
      (below_inside array chain levels chunk serves within inside) serves.serves.served.served asked valid in
      let stored = encoded options document.byte_codecs own.0 in
      let some : IsSome (to_list document
      (level_under (map array_codec_of document.array_codecs) (chunk_level (described_parts array) chunk)) own.0) =
      subst (λ (l : Level). IsSome (to_list document l own.0)) (bottom_is array chain levels chunk serves)
      (subst (λ (f : ChainForm).
      IsSome (decode_array_to_bytes options (codec_of f.to_bytes) (bottom_level levels) own.0)) serves.forms own.2) in (
        stored.0,
        unwrap_or (decodes stored.0) [],
        subst (IsAlike ranges bytes) (sym (given_here stored.0 own.0 stored.1)) own.1,
        serves.values options stored.0 ∙ some_list (decodes stored.0) (decodes_by stored.0 own.0 stored.1 some),
      )
