-- What reading a chunk takes of a store, where the codec `bytes` is all of an array's chain.
use Rattle.std.proofs.Common.{◌≡◌, ℕ, ◌*◌, Bool, true, false, ◌==◌, ◌&&◌, if◌then◌else◌, List, [], ◌∷◌, length, map}
use Rattle.std.proofs.Common.{Option, Some, None, option_map, IsSome, is_some, unwrap_or, refl, sym, ap, ap₂, ◌∙◌}
use Rattle.std.proofs.Common.{subst, subst₂, arith, eqb-true}
use Rattle.std.proofs.lemmas.Bool.{and_parts}
use Rattle.std.proofs.lemmas.List.{length-map}
use Rattle.zarr_model.specs.Prelude.{Region, count, count_of, sizes, ends_within, Element, fixed_size, kind, Level}
use Rattle.zarr_model.specs.Prelude.{Options, Shown, box_content, chunk_content, decode_bytes, decode_chain}
use Rattle.zarr_model.specs.Prelude.{decode_array_to_bytes, layout, counted, write_bytes, box_under, level_under}
use Rattle.zarrs_storage.specs.declared.byte_range.ByteRange.{ByteRange}
use Rattle.zarrs_codec.specs.Stored.{taken_of}
use Rattle.zarr_codec_chain.specs.Prelude.{first_level, bottom_level, byte_codecs}
use Rattle.zarr_codec_chain.specs.declared.levels.ChunkLevels.{ChunkLevels}
use Rattle.zarr_chunks.specs.Fetch as stored
use Rattle.zarr_chunks.specs.Regions.{IsGivenAsked, given_bytes, is_whole_chunk, region_request, stored_request}
use Rattle.zarr_codecs.specs.Plain.{Plain, codec_of, is_bytes}
use Rattle.zarr_codecs.specs.Views.{plain_of}
use Rattle.zarr_codecs.proofs.PartLaws.{size_is, bytes_asks, bytes_long}
use Rattle.zarr_codecs_to_bytes.specs.BytesCodec.{element_bytes}
use Rattle.zarr_codecs_to_bytes.specs.Ranges.{run_ranges}
use Rattle.zarr_array_open.specs.kinds.array_to_array.ArrayToArray.{ArrayToArray, array_codec_of}
use Rattle.zarr_codecs.specs.BytesToBytes.{BytesToBytes, byte_codec_of, byte_form}
use Rattle.zarr_array_open.specs.Chain.{BasicChain}
use Rattle.zarr_array_open.specs.ChunkLevels.{chunk_shape, chunk_level, ServesShape}
use Rattle.zarr_array_open.specs.Codecs.{array_meaning, list_meaning, bytes_meaning}
use Rattle.zarr_array_open.specs.Document.{ArrayDocument, ChainForm}
use Rattle.zarr_array_open.specs.Parts.{documented_parts, described_parts}
use Rattle.zarr_array_open.specs.declared.parts.ArrayParts.{ArrayParts}
use Rattle.zarr_array.specs.Codecs.{list_request, box_below}
use Rattle.zarr_array.specs.Pays.{box_bytes}
use Rattle.zarr_array.specs.Plain.{is_bytes_alone}
use Rattle.zarr_array.proofs.ChunkLaws.{content_as}
use Rattle.zarr_array.proofs.BottomLaws.{bottom_is, below, below_inside, below_is}
use Rattle.zarr_array.proofs.RunBytes.{part_taken}

-- what `bytes` alone says of a document
none_of : {A : Type 0} (xs : List A) → (length xs == 0) ≡ true → xs ≡ []
none_of [] e = refl
none_of (x ∷ xs) e = let long : length (x ∷ xs) ≡ 0 = eqb-true _ _ e in absurd (omega (arith, long))

module _ (document : ArrayDocument) (alone : is_bytes_alone document ≡ true) where
  pub no_array_codecs : document.array_codecs ≡ []
  no_array_codecs = none_of document.array_codecs (and_parts (length document.array_codecs
      == 0) (is_bytes document.to_bytes && length document.byte_codecs == 0) alone).0

  pub no_byte_codecs : document.byte_codecs ≡ []
  no_byte_codecs =
      let rest = (and_parts (length document.array_codecs
      == 0) (is_bytes document.to_bytes && length document.byte_codecs == 0) alone).1 in
      none_of document.byte_codecs (and_parts (is_bytes document.to_bytes) (length document.byte_codecs == 0) rest).1

  pub to_bytes_is : is_bytes document.to_bytes ≡ true
  to_bytes_is =
      let rest = (and_parts (length document.array_codecs
      == 0) (is_bytes document.to_bytes && length document.byte_codecs == 0) alone).1 in
      (and_parts (is_bytes document.to_bytes) (length document.byte_codecs == 0) rest).0

-- a value that decodes by such a chain is as long as its elements
chain_long : (codecs : List ArrayToArray) (plain : Plain) (bytes : List BytesToBytes) → codecs ≡ [] →
    is_bytes plain ≡ true → bytes ≡ [] → (options : Options) (level : Level) (value : List ℕ) (list : List Element) →
    decode_chain (record {
      array_codecs = map array_codec_of codecs;
      to_elements = decode_array_to_bytes options
          (codec_of plain);
      byte_codecs = map (byte_codec_of options) bytes;
    }) level value ≡ Some list →
    length value ≡ count_of level.shape * element_bytes level.data_type
chain_long [] plain [] none is last options level value list means = bytes_long plain is options level value list means
chain_long [] plain (c ∷ bytes) none is last options level value list means = cc
chain_long (c ∷ codecs) plain bytes none is last options level value list means = cc

-- as the model counts
swap : (a b : ℕ) → a * b ≡ b * a
swap a b = omega arith

module _ (array : ArrayParts) (options : Options) (chunk : List ℕ)
    (alone : is_bytes_alone (documented_parts array) ≡ true) where
  value_long : (value : List ℕ) (list : List Element) → (layout (described_parts array) options).decode
      (sizes ((described_parts array).grid.chunk_box chunk)) value ≡ Some list →
      length value ≡
      unwrap_or (fixed_size (kind (described_parts array))) 0 * count ((described_parts array).grid.chunk_box chunk)
  value_long value list means =
      chain_long (documented_parts array).array_codecs (documented_parts array).to_bytes (documented_parts
      array).byte_codecs (no_array_codecs (documented_parts array) alone) (to_bytes_is (documented_parts array) alone)
      (no_byte_codecs (documented_parts array) alone) options (chunk_level (described_parts array) chunk) value list
      means
      ∙ (ap (λ (n : ℕ). count ((described_parts array).grid.chunk_box chunk)
      * n) (size_is (fixed_size (kind (described_parts array)))) ∙ swap _ _)

  whole_of_value : (value : Option (List ℕ)) → IsSome (box_content (layout (described_parts array) options)
      ((described_parts array).grid.chunk_box chunk) value) →
      taken_of None value ≡ (if is_some value then unwrap_or (fixed_size (kind (described_parts array)))
      0 * count ((described_parts array).grid.chunk_box chunk) else 0)
  whole_of_value None some = refl
  whole_of_value (Some value) some = go ((layout (described_parts array) options).decode
      (sizes ((described_parts array).grid.chunk_box chunk)) value) refl some
    where
      go : (content : Option (List Element)) → (layout (described_parts array) options).decode
          (sizes ((described_parts array).grid.chunk_box chunk)) value ≡ content → IsSome content →
          length value ≡
          unwrap_or (fixed_size (kind (described_parts array))) 0 * count ((described_parts array).grid.chunk_box chunk)
      go (Some list) is some = value_long value list is
      go None is some = cc

-- all of a chunk that decodes
pub whole_takes : (array : ArrayParts) (options : Options) (chunk key : List ℕ) (before now : Shown) →
    key ≡ (described_parts array).key chunk →
    IsSome (chunk_content (layout (described_parts array) options) before.content chunk) →
    now.taken ≡ counted before.taken (taken_of None (before.content key)) →
    is_bytes_alone (documented_parts array) ≡ true →
    now.taken ≡ counted before.taken (write_bytes (described_parts array) before.content chunk)
whole_takes array options chunk key before now its_key some taken alone =
    taken ∙ ap (counted before.taken) (ap (λ k. taken_of None (before.content k)) its_key
    ∙ whole_of_value array options chunk alone (before.content ((described_parts array).key chunk)) some)

module _ (array : ArrayParts) (chain : BasicChain) (levels : ChunkLevels) (options : Options) (chunk : List ℕ)
    (serves : ServesShape array (chunk_shape (described_parts array) chunk) chain levels) where
  -- the chain's own codecs are those of the document
  no_byte_items : is_bytes_alone (documented_parts array) ≡ true → chain.byte_codecs.items ≡ []
  no_byte_items alone =
      let none : map byte_form chain.byte_codecs.items ≡ [] =
      ap (λ (f : ChainForm). f.byte_codecs) serves.forms ∙ no_byte_codecs (documented_parts array) alone in
      none_of chain.byte_codecs.items
      (ap (λ (n : ℕ). n == 0) (sym (length-map chain.byte_codecs.items byte_form) ∙ ap length none))

  plain_is : plain_of chain.to_bytes ≡ (documented_parts array).to_bytes
  plain_is = ap (λ (f : ChainForm). f.to_bytes) serves.forms

  level_is : is_bytes_alone (documented_parts array) ≡ true →
      bottom_level levels ≡ chunk_level (described_parts array) chunk
  level_is alone = bottom_is array chain levels chunk serves ∙ ap (λ l. level_under (map array_codec_of l)
      (chunk_level (described_parts array) chunk)) (no_array_codecs (documented_parts array) alone)

  box_is : is_bytes_alone (documented_parts array) ≡ true → (within : Region) →
      below array chain levels chunk serves within ≡ within
  box_is alone within = below_is array chain levels chunk serves within ∙ ap (λ l. box_under (map array_codec_of l)
      (chunk_level (described_parts array) chunk) within) (no_array_codecs (documented_parts array) alone)

  -- a box of a chunk, by the ranges that are asked for
  box_of_value : (within : Region) → ends_within within (first_level levels).shape ≡ true →
      is_bytes_alone (documented_parts array) ≡ true → (value : Option (List ℕ)) →
      IsGivenAsked (region_request list_request box_below chain levels within)
      (given_bytes bytes_meaning chain options value) →
      (region_request list_request box_below chain levels within ≡ None →
      IsSome (stored.chain_content array_meaning list_meaning bytes_meaning chain levels options value)) →
      taken_of (stored_request chain (region_request list_request box_below chain levels within)) value ≡
      (if is_some value then unwrap_or (fixed_size (kind (described_parts array))) 0 * count within else 0)
  box_of_value within inside alone None given decodes = refl
  box_of_value within inside alone (Some value) given decodes = go (is_whole_chunk (first_level levels) within) refl _
      (bytes_asks (plain_of chain.to_bytes) (ap is_bytes plain_is ∙ to_bytes_is (documented_parts array) alone)
      (bottom_level levels).shape (bottom_level levels).data_type its_box) given decodes
    where
      stored_is : (asked : Option (List ByteRange)) → stored_request chain asked ≡ asked
      stored_is asked = ap (λ l. if length l == 0 then asked else None) (no_byte_items alone)

      its_box : Region
      its_box = below array chain levels chunk serves within

      runs_of_box : List ByteRange
      runs_of_box = run_ranges (element_bytes (bottom_level levels).data_type) (bottom_level levels).shape its_box

      go : (whole : Bool) → is_whole_chunk (first_level levels) within ≡ whole → (asked : Option (List ByteRange)) →
          asked ≡ Some runs_of_box →
          IsGivenAsked (if whole then None else asked) (given_bytes bytes_meaning chain options (Some value)) →
          ((if whole then None else asked) ≡ None →
          IsSome (stored.chain_content array_meaning list_meaning bytes_meaning chain levels options (Some value))) →
          taken_of (stored_request chain (if whole then None else asked)) (Some value) ≡
          unwrap_or (fixed_size (kind (described_parts array))) 0 * count within
      go true whole asked is given decodes =
          let as_many : count within ≡ count ((described_parts array).grid.chunk_box chunk) =
          eqb-true _ _ (ap (λ (l : Level). is_whole_chunk l within) (sym serves.level) ∙ whole) in
          ap (λ asked. taken_of asked (Some value)) (stored_is None)
          ∙ (whole_of_value array options chunk alone (Some value)
          (subst IsSome (content_as array chain levels options chunk serves (Some value)) (decodes refl))
          ∙ ap (λ (n : ℕ). unwrap_or (fixed_size (kind (described_parts array))) 0 * n) (sym as_many))
      go false part asked is given decodes =
          ap (λ asked. taken_of asked (Some value)) (stored_is asked ∙ is)
          ∙ (part_taken (element_bytes (bottom_level levels).data_type) (bottom_level levels).shape its_box value
          (below_inside array chain levels chunk serves within inside)
          (subst₂ (λ a l. IsGivenAsked a (option_map (λ (v : List ℕ). Some v)
          (decode_bytes (byte_codecs bytes_meaning options l) value))) is (no_byte_items alone) given).within
          ∙
          (ap₂ (λ (b : Region) (l : Level). count b * element_bytes l.data_type) (box_is alone within) (level_is alone)
          ∙ (ap (λ (n : ℕ). count within * n) (size_is (fixed_size (kind (described_parts array)))) ∙ swap _ _)))

  pub box_takes : (within : Region) → ends_within within (first_level levels).shape ≡ true →
      (key : List ℕ) (before now : Shown) → key ≡ (described_parts array).key chunk →
      IsGivenAsked (region_request list_request box_below chain levels within)
      (given_bytes bytes_meaning chain options (before.content key)) →
      (region_request list_request box_below chain levels within ≡ None → IsSome (stored.chain_content array_meaning
      list_meaning bytes_meaning chain levels options (before.content key))) →
      now.taken ≡ counted before.taken (taken_of (stored_request chain
      (region_request list_request box_below chain levels within)) (before.content key)) →
      is_bytes_alone (documented_parts array) ≡ true →
      now.taken ≡ counted before.taken (box_bytes (described_parts array) within before.content chunk)
  box_takes within inside key before now its_key given decodes taken alone =
      taken ∙ (ap (counted before.taken) (box_of_value within inside alone (before.content key) given decodes)
      ∙ ap (λ k. counted before.taken (if is_some (before.content k) then unwrap_or
      (fixed_size (kind (described_parts array))) 0 * count within else 0)) its_key)
