-- A box of a chunk that is read by ranges is there, whether the chunk's value decodes or not.
use Rattle.std.proofs.Common.{◌≡◌, ℕ, Bool, true, false, ◌==◌, not, ◌⊎◌, inl, inr, if◌then◌else◌, List, length, map}
use Rattle.std.proofs.Common.{Option, Some, None, option_map, IsSome, refl, sym, ap, ◌∙◌}
use Rattle.std.proofs.lemmas.Bool.{false_from_ne_true}
use Rattle.zarr_model.specs.Prelude.{Region, count, ends_within, Level, Options, decode_bytes, finds_part, level_under}
use Rattle.zarr_model.specs.Prelude.{box_under, finds_given, chain_finds}
use Rattle.zarrs_storage.specs.ByteRange.{first_invalid}
use Rattle.zarrs_storage.specs.declared.byte_range.ByteRange.{ByteRange}
use Rattle.zarr_codec_chain.specs.Prelude.{first_level, bottom_level, byte_codecs}
use Rattle.zarr_codec_chain.specs.declared.levels.ChunkLevels.{ChunkLevels}
use Rattle.zarr_chunks.specs.Fetch as stored
use Rattle.zarr_chunks.specs.Regions.{IsGivenAsked, given_bytes, is_whole_chunk, region_request}
use Rattle.zarr_codecs.specs.Plain.{Plain, codec_of, request_by}
use Rattle.zarr_codecs.specs.Views.{plain_of}
use Rattle.zarr_codecs.proofs.PartLaws.{plain_finds, plain_found, plain_unfound}
use Rattle.zarr_array_open.specs.kinds.array_to_array.ArrayToArray.{array_codec_of}
use Rattle.zarr_codecs.specs.BytesToBytes.{byte_codec_of}
use Rattle.zarr_array_open.specs.Chain.{BasicChain}
use Rattle.zarr_array_open.specs.ChunkLevels.{chunk_shape, chunk_level, ServesShape}
use Rattle.zarr_array_open.specs.Codecs.{array_meaning, list_meaning, bytes_meaning}
use Rattle.zarr_array_open.specs.Document.{ArrayDocument, ChainForm}
use Rattle.zarr_array_open.specs.Parts.{documented_parts, described_parts}
use Rattle.zarr_array_open.specs.declared.parts.ArrayParts.{ArrayParts}
use Rattle.zarr_array_open.proofs.ChainLaws.{byte_codecs_mean}
use Rattle.zarr_array.specs.Asked.{finds_asked}
use Rattle.zarr_array.specs.Codecs.{list_request, box_below}
use Rattle.zarr_array.specs.Shared.{finds_box}
use Rattle.zarr_array.proofs.BottomLaws.{bottom_is, below, below_inside, below_is}

module _ (array : ArrayParts) (chain : BasicChain) (levels : ChunkLevels) (options : Options) (chunk : List ℕ)
    (serves : ServesShape array (chunk_shape (described_parts array) chunk) chain levels) where
  abbrev document : ArrayDocument
  document = documented_parts array

  -- whether an array-to-bytes codec finds a box at a level in what is given
  abbrev finds : Plain → Level → Region → Option (List ℕ) → Bool
  finds plain level box given = finds_given (finds_part (codec_of plain)) level box given

  abbrev own : Plain
  own = plain_of chain.to_bytes

  abbrev at_bottom : Region → Region
  at_bottom = below array chain levels chunk serves

  abbrev requested : Region → Option (List ByteRange)
  requested within = request_by own (bottom_level levels).shape (bottom_level levels).data_type (at_bottom within)

  -- a chain finds a box of the chunk where the codec at the bottom does
  finds_is : (within : Region) (value : List ℕ) (given : Option (List ℕ)) →
      decode_bytes (byte_codecs bytes_meaning options chain.byte_codecs.items) value ≡ given →
      chain_finds ((described_parts array).finds options) ((described_parts array).chain options) (chunk_level
      (described_parts array) chunk) within value ≡ finds own (bottom_level levels) (at_bottom within) given
  finds_is within value given is =
      ap (λ p. finds p (level_under (map array_codec_of document.array_codecs) (chunk_level (described_parts array)
      chunk)) (box_under (map array_codec_of document.array_codecs) (chunk_level (described_parts array) chunk) within)
      (decode_bytes (map (byte_codec_of options) document.byte_codecs) value))
      (sym (ap (λ (f : ChainForm). f.to_bytes) serves.forms))
      ∙ (ap (λ l. finds own l (box_under (map array_codec_of document.array_codecs) (chunk_level (described_parts array)
      chunk) within) (decode_bytes (map (byte_codec_of options) document.byte_codecs) value))
      (sym (bottom_is array chain levels chunk serves))
      ∙ (ap (λ b. finds own (bottom_level levels) b (decode_bytes (map (byte_codec_of options) document.byte_codecs)
      value)) (sym (below_is array chain levels chunk serves within))
      ∙ ap (λ g. finds own (bottom_level levels) (at_bottom within) g) its_bytes))
    where
      its_bytes : decode_bytes (map (byte_codec_of options) document.byte_codecs) value ≡ given
      its_bytes =
          ap (λ (f : ChainForm). decode_bytes (map (byte_codec_of options) f.byte_codecs) value) (sym serves.forms)
          ∙ (ap (λ l. decode_bytes l value) (sym (byte_codecs_mean options chain.byte_codecs.items)) ∙ is)

  abbrev finds_here : Region → List ℕ → Bool
  finds_here within value = finds_asked (described_parts array) options chunk (Some within) (Some value)

  found_in : (within : Region) → ends_within within (first_level levels).shape ≡ true → (ranges : List ByteRange) →
      requested within ≡ Some ranges → (value bytes : List ℕ) →
      decode_bytes (byte_codecs bytes_meaning options chain.byte_codecs.items) value ≡ Some bytes →
      first_invalid (length bytes) ranges ≡ None → finds_here within value ≡ true
  found_in within inside ranges asked value bytes given valid =
      finds_is within value (Some bytes) given
      ∙ plain_finds own (bottom_level levels) (at_bottom within) ranges bytes
      (below_inside array chain levels chunk serves within inside) asked valid

  -- it finds none where the bytes-to-bytes codecs give nothing, where no ranges are asked for, and
  -- where one of them lies outside
  pub nothing_found : (within : Region) (value : List ℕ) → decode_bytes (byte_codecs bytes_meaning options
      chain.byte_codecs.items) value ≡ None → finds_here within value ≡ false
  nothing_found within value none = finds_is within value None none

  pub unasked_unfound : (within : Region) → requested within ≡ None → (value : List ℕ) → finds_here within value ≡ false
  unasked_unfound within none value =
      finds_is within value (decode_bytes (byte_codecs bytes_meaning options chain.byte_codecs.items) value) refl
      ∙ go (decode_bytes (byte_codecs bytes_meaning options chain.byte_codecs.items) value)
    where
      go : (given : Option (List ℕ)) → finds own (bottom_level levels) (at_bottom within) given ≡ false
      go None = refl
      go (Some bytes) = plain_unfound own (bottom_level levels) (at_bottom within) bytes none

  pub outside_unfound : (within : Region) → ends_within within (first_level levels).shape ≡ true →
      (ranges : List ByteRange) → requested within ≡ Some ranges → (value bytes : List ℕ) →
      decode_bytes (byte_codecs bytes_meaning options chain.byte_codecs.items) value ≡ Some bytes →
      (range : ByteRange) → first_invalid (length bytes) ranges ≡ Some range → finds_here within value ≡ false
  outside_unfound within inside ranges asked value bytes given range outside =
      false_from_ne_true (finds_here within value) (λ found.
      differ (sym outside ∙ plain_found own (bottom_level levels) (at_bottom within) ranges bytes
      (below_inside array chain levels chunk serves within inside) asked
      (sym (finds_is within value (Some bytes) given) ∙ found)))
    where
      differ : Some range ≡ None → ⊥
      differ e = cc

  -- so a chunk for which ranges are asked that lie within what is given decodes, or its value holds
  -- the box
  pub is_found : (within : Region) → ends_within within (first_level levels).shape ≡ true → (value : Option (List ℕ)) →
      IsGivenAsked (region_request list_request box_below chain levels within)
      (given_bytes bytes_meaning chain options value) →
      (region_request list_request box_below chain levels within ≡ None →
      IsSome (stored.chain_content array_meaning list_meaning bytes_meaning chain levels options value)) →
      IsSome (stored.chain_content array_meaning list_meaning bytes_meaning chain levels options value) ⊎
      (finds_box (described_parts array) options chunk within value ≡ true)
  is_found within inside value given decodes =
      go (is_whole_chunk (first_level levels) within) refl (requested within) refl given decodes
    where
      go : (whole : Bool) → is_whole_chunk (first_level levels) within ≡ whole →
          (asked : Option (List ByteRange)) → requested within ≡ asked →
          IsGivenAsked (if whole then None else asked) (given_bytes bytes_meaning chain options value) →
          ((if whole then None else asked) ≡ None →
          IsSome (stored.chain_content array_meaning list_meaning bytes_meaning chain levels options value)) →
          IsSome (stored.chain_content array_meaning list_meaning bytes_meaning chain levels options value) ⊎
          (finds_box (described_parts array) options chunk within value ≡ true)
      go true whole asked is given decodes = inl (decodes refl)
      go false part None is given decodes = inl (decodes refl)
      go false part (Some ranges) is given decodes = by_value value given
        where
          not_all : not (count within == count ((described_parts array).grid.chunk_box chunk)) ≡ true
          not_all = ap not (ap (λ (l : Level). is_whole_chunk l within) (sym serves.level) ∙ part)

          by_value : (value : Option (List ℕ)) →
              IsGivenAsked (Some ranges) (given_bytes bytes_meaning chain options value) →
              IsSome (stored.chain_content array_meaning list_meaning bytes_meaning chain levels options value) ⊎
              (finds_box (described_parts array) options chunk within value ≡ true)
          by_value None given = inl refl
          by_value (Some value) given =
              by_bytes (decode_bytes (byte_codecs bytes_meaning options chain.byte_codecs.items) value) refl given
            where
              by_bytes : (given : Option (List ℕ)) →
                  decode_bytes (byte_codecs bytes_meaning options chain.byte_codecs.items) value ≡ given →
                  IsGivenAsked (Some ranges) (option_map (λ (v : List ℕ). Some v) given) →
                  IsSome (stored.chain_content array_meaning list_meaning bytes_meaning chain levels options
                  (Some value)) ⊎ (finds_box (described_parts array) options chunk within (Some value) ≡ true)
              by_bytes None none given = cc given.there
              by_bytes (Some bytes) some given =
                  inr (ap (λ (b : Bool). finds_asked (described_parts array) options chunk (if b then Some within else
                  None) (Some value)) not_all ∙ found_in within inside ranges is value bytes some given.within)
