-- How fetching a chunk ends.
use Rattle.std.proofs.Common.{◌≡◌, ◌⊎◌, ℕ, ◌≤◌, Bool, true, false, not, if◌then◌else◌, List, length, Option, Some, None}
use Rattle.std.proofs.Common.{option_map, Err, refl, sym, ◌∙◌, subst, inl, inr, ⊎_elim}
use Rattle.zarrs_codec.specs.Prelude.{Region, ends_within, Element, Level, Options, Shown, decode_bytes}
use Rattle.zarrs_codec.specs.Prelude.{counted, SameContent, first_invalid, Held, IsHandleError}
use Rattle.zarrs_storage.specs.declared.byte_range.ByteRange.{ByteRange}
use Rattle.zarrs_codec_error.specs.declared.error.CodecError.{CodecError}
use Rattle.zarr_codec_chain.specs.Chain.{first_level, bottom_level, decoded}
use Rattle.zarr_codec_chain.specs.Values.{byte_codecs}
use Rattle.zarr_codec_chain.specs.declared.levels.ChunkLevels.{ChunkLevels}
use Rattle.zarr_chunks.specs.Fetch as stored
use Rattle.zarr_chunks.specs.Regions.{AsksOnce, GivesRegion, IsAlike, is_whole_chunk, region_request, given_bytes}
use Rattle.zarr_chunks.specs.Regions.{first_outside, range_says}
use Rattle.zarr_chunks.specs.Seen.{ChunkTells, RegionTells, IsAlikeIn}
use Rattle.zarr_chunks.specs.declared.fetched.Fetched.{Fetched}
use Rattle.zarr_codecs.specs.Plain.{request_by}
use Rattle.zarr_codecs.specs.Views.{plain_of}
use Rattle.zarr_array_open.specs.Chain.{BasicChain}
use Rattle.zarr_array_open.specs.ChunkLevels.{chunk_shape, ServesShape}
use Rattle.zarr_array_open.specs.Codecs.{array_meaning, list_meaning, list_says, bytes_meaning, bytes_codec_says}
use Rattle.zarr_array_open.specs.Parts.{documented_parts, described_parts}
use Rattle.zarr_array_open.specs.declared.parts.ArrayParts.{ArrayParts}
use Rattle.zarr_array.specs.Asked.{part_asked, finds_asked}
use Rattle.zarr_array.specs.Codecs.{list_request, box_below, basic_seen}
use Rattle.zarr_array.specs.Chunk.{chunk_kind}
use Rattle.zarr_array.specs.Access.{stored_by}
use Rattle.zarr_array.specs.Fetch.{NotFetched}
use Rattle.zarr_array.specs.Plain.{plain_access}
use Rattle.zarr_array.specs.Told.{value_says}
use Rattle.zarr_array.proofs.AlikeLaws.{other_value}
use Rattle.zarr_array.proofs.BottomLaws.{below}
use Rattle.zarr_array.proofs.CauseLaws as cause
use Rattle.zarr_array.proofs.ChunkLaws.{own_content}
use Rattle.zarr_array.proofs.FoundLaws.{nothing_found, unasked_unfound, outside_unfound}
use Rattle.zarr_array.proofs.ToldLaws.{no_fault_says, says_whole, says_all, says_nothing, says_range}

-- a store was asked for one value, or for none, and nothing was changed
pub record MayHaveAsked (before now : Shown) : Type 0 where
  pub same : SameContent before now
  pub asks : (now.asks ≡ before.asks) ⊎ (now.asks ≡ counted before.asks 1)
  pub puts : now.puts ≡ before.puts
  pub later : before.faults ≤ now.faults

-- no more than one, where memory ran out before
pub asked_at_most : (T : Type 0) (before now : ℕ) (e : CodecError) → AsksOnce {T = T} before now (Err e) →
    (now ≡ before) ⊎ (now ≡ counted before 1)
asked_at_most T before now e (inl asked) = inr asked
asked_at_most T before now e (inr none) = inl none.1

module _ (array : ArrayParts) (chain : BasicChain) (levels : ChunkLevels) (options : Options) (chunk : List ℕ)
    (serves : ServesShape array (chunk_shape (described_parts array) chunk) chain levels) where
  abbrev its_key : List ℕ
  its_key = (described_parts array).key chunk

  abbrev content : Option (List ℕ) → Option (List Element)
  content value = stored.chain_content array_meaning list_meaning bytes_meaning chain levels options value

  abbrev given : List ℕ → Option (List ℕ)
  given value = decode_bytes (byte_codecs bytes_meaning options chain.byte_codecs.items) value

  abbrev says : Option (List ℕ) → CodecError → Type 0
  says value e = stored.chunk_says list_says bytes_meaning bytes_codec_says chain levels options value e

  -- why a call gave nothing of a chunk: an error of the store's, or since what stands under its key
  -- does not decode and does not hold what was asked for, which the error tells
  abbrev Unfetched : Option Region → Option (List ℕ) → ℕ → ℕ → CodecError → Type 0
  Unfetched asked value before now e = IsHandleError before now e
      ⊎ ((content value ≡ None) × (finds_asked (described_parts array) options chunk asked value ≡ false) ×
      stored_by (value_says (documented_parts array)) options chunk asked value e)

  module _ (asked : Option Region) (before now : Shown) (error : CodecError) (may : MayHaveAsked before now) where
    abbrev Why : Type 0
    Why = Unfetched asked (before.content its_key) before.faults now.faults error

    by_array : Why → cause.Unfetched (plain_access array) options chunk asked before now error
    by_array (inl handle) = inl handle
    by_array (inr why) = inr (record {
      content = own_content array chain levels options chunk serves its_key before refl ∙ why.0;
      unfound = why.1;
      said = why.2;
      unlike = λ fault is. no_fault_says fault (documented_parts array) options chunk asked (before.content its_key)
          (subst (stored_by (value_says (documented_parts array)) options chunk asked (before.content its_key)) is
          why.2);
    })

    not_fetched : Why → NotFetched asked (plain_access array) options chunk before now (chunk_kind its_key error)
    not_fetched why = cause.not_fetched (plain_access array) options chunk asked before now error
        (record { same = may.same; puts = may.puts; later = may.later }) may.asks (by_array why)

  -- the chain's call for all of a chunk failed
  pub fetch_failed : (key : List ℕ) (before now : Shown) (error : CodecError) → key ≡ its_key →
      MayHaveAsked before now →
      ChunkTells (basic_seen chain levels) options (before.content key) before.faults now.faults error →
      NotFetched None (plain_access array) options chunk before now (chunk_kind key error)
  fetch_failed key before now error is may fails =
      subst (λ k. NotFetched None (plain_access array) options chunk before now (chunk_kind k error)) (sym is)
      (not_fetched None before now error may (⊎_elim
      (λ (handle : IsHandleError before.faults now.faults error). inl handle)
      (λ (none : (content (before.content its_key) ≡ None) × says (before.content its_key) error).
      inr (none.0, refl, says_whole array chain levels options chunk serves (before.content its_key) error none.1))
      (subst (λ k. ChunkTells (basic_seen chain levels) options (before.content k) before.faults now.faults error) is
      fails)))

  -- the one for a box of it: by ranges, where the codec at the bottom asks for some
  abbrev at_bottom : Region → Option (List ByteRange)
  at_bottom within = request_by (plain_of chain.to_bytes) (bottom_level levels).shape (bottom_level levels).data_type
      (below array chain levels chunk serves within)

  abbrev Refused : Option (List ByteRange) → Option (List ℕ) → ℕ → ℕ → CodecError → Type 0
  Refused asked value before now e = RegionTells (basic_seen chain levels) options asked value before now e

  abbrev Alike : Region → Option (List ByteRange) → Option (List ℕ) → ℕ → ℕ → CodecError → Type 0
  Alike within asked value before now e = IsAlikeIn {T = Fetched} (GivesRegion (first_level levels) within)
      (basic_seen chain levels) options asked value before now (Err e)

  abbrev held : Option (List ℕ) → Held
  held bytes = option_map (λ (v : List ℕ). Some v) bytes

  by_ranges : (within : Region) → ends_within within (first_level levels).shape ≡ true → (ranges : List ByteRange) →
      at_bottom within ≡ Some ranges →
      (value : Option (List ℕ)) (before now : ℕ) (e : CodecError) → Alike within (Some ranges) value before now e →
      Refused (Some ranges) value before now e → Unfetched (Some within) value before now e
  by_ranges within inside ranges some value before now e alike (inl handle) = inl handle
  by_ranges within inside ranges some None before now e alike (inr (none, told)) = absurd told
  by_ranges within inside ranges some (Some value) before now e alike (inr (none, told)) =
      go (given value) refl alike told
    where
      go : (bytes : Option (List ℕ)) → given value ≡ bytes →
          ((own other : List ℕ) (list : List Element) → held bytes ≡ Some (Some own) → first_invalid (length own)
          ranges ≡ None → IsAlike ranges own (given_bytes bytes_meaning chain options (Some other)) →
          decoded array_meaning list_meaning bytes_meaning chain levels options other ≡ Some list →
          IsHandleError before now e) →
          range_says (first_outside (Some ranges) (held bytes)) (Some ranges) (held bytes) (says (Some value)) e →
          Unfetched (Some within) (Some value) before now e
      go None is alike told = inr (
        none,
        nothing_found array chain levels options chunk serves within value is,
        says_nothing array chain levels options chunk serves within value e is told,
      )
      go (Some own) is alike told = last (first_invalid (length own) ranges) refl told
        where
          last : (outside : Option ByteRange) → first_invalid (length own) ranges ≡ outside →
              range_says outside (Some ranges) (Some (Some own)) (says (Some value)) e →
              Unfetched (Some within) (Some value) before now e
          last None valid told =
              let other = other_value array chain levels options chunk serves within inside ranges some own valid in
              inl (alike own other.0 other.1 refl valid other.2 other.3)
          last (Some range) outside told = inr (
            none,
            outside_unfound array chain levels options chunk serves within inside ranges some value own is range
                outside,
            says_range array chain levels options chunk serves within ranges some value own e is told,
          )

  why_part : (within : Region) → ends_within within (first_level levels).shape ≡ true → (whole : Bool) →
      (asked : Option (List ByteRange)) → at_bottom within ≡ asked →
      (value : Option (List ℕ)) (before now : ℕ) (e : CodecError) → Alike within (if whole then None else asked) value
      before now e → Refused (if whole then None else asked) value before now e →
      Unfetched (if not whole then Some within else None) value before now e
  why_part within inside true asked is value before now e alike (inl handle) = inl handle
  why_part within inside true asked is value before now e alike (inr (none, told)) =
      inr (none, refl, says_whole array chain levels options chunk serves value e told)
  why_part within inside false None is value before now e alike (inl handle) = inl handle
  why_part within inside false None is None before now e alike (inr (none, told)) = absurd told
  why_part within inside false None is (Some value) before now e alike (inr (none, told)) =
      inr (
        none,
        unasked_unfound array chain levels options chunk serves within is value,
        says_all array chain levels options chunk serves within is (Some value) e told,
      )
  why_part within inside false (Some ranges) is value before now e alike told =
      by_ranges within inside ranges is value before now e alike told

  pub part_failed : (within : Region) → ends_within within (first_level levels).shape ≡ true →
      (key : List ℕ) (before now : Shown) (error : CodecError) → key ≡ its_key → MayHaveAsked before now →
      Alike within (region_request list_request box_below chain levels within) (before.content key) before.faults
      now.faults error →
      Refused (region_request list_request box_below chain levels within) (before.content key) before.faults now.faults
      error →
      NotFetched (part_asked ((described_parts array).grid.chunk_box chunk) within) (plain_access array) options chunk
      before now (chunk_kind key error)
  part_failed within inside key before now error is may alike fails =
      subst (λ k. NotFetched (part_asked ((described_parts array).grid.chunk_box chunk) within) (plain_access array)
      options chunk before now (chunk_kind k error)) (sym is)
      (not_fetched (part_asked ((described_parts array).grid.chunk_box chunk) within) before now error may
      (subst (λ (l : Level). Unfetched (if not (is_whole_chunk l within) then Some within else None)
      (before.content its_key) before.faults now.faults error) serves.level
      (why_part within inside (is_whole_chunk (first_level levels) within) (at_bottom within) refl
      (before.content its_key) before.faults now.faults error
      (subst (λ k. Alike within (region_request list_request box_below chain levels within) (before.content k)
      before.faults now.faults error) is alike)
      (subst (λ k. Refused (region_request list_request box_below chain levels within) (before.content k) before.faults
      now.faults error) is fails))))
