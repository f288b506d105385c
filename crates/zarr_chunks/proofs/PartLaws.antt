-- Regions of a chunk by the ranges that its array-to-bytes codec asks for.
use Rattle.std.proofs.Common.{◌≡◌, ◌⊎◌, ⊎_elim, inl, inr, ℕ, Bool, true, false, if◌then◌else◌, List, [], ◌∷◌, length}
use Rattle.std.proofs.Common.{map, Option, Some, None, option_map, option_and_then, Result, Ok, Err, IfOk, IfErr, OnOk}
use Rattle.std.proofs.Common.{MatchResult, Vec, Global, refl, sym, ap, ◌∙◌, subst}
use Rattle.std.proofs.lemmas.List.{length-map}
use Rattle.zarrs_codec_traits.specs.Prelude.{decode_levels, is_valid, first_invalid, slice_of, slices_of, parts_of}
use Rattle.zarrs_codec_traits.specs.Prelude.{invalid_range, Held, AreParts, through}
use Rattle.zarr_codec_chain.specs.Prelude.{Element, Level, ArrayCodec, Options, decode_bytes, counted, fine}
use Rattle.zarr_codec_chain.specs.Prelude.{IsDecodeError, value_part, IsHandleError, TellsRangeOf, Serving, AreLinked}
use Rattle.zarr_codec_chain.specs.Prelude.{byte_codecs, bytes_says, said_at, Listing, Opening, bottom_level, steps}
use Rattle.zarr_codec_chain.specs.Prelude.{first_level, decoded, chain_says}
use Rattle.zarr_model.proofs.Choices.{always_ok}
use Rattle.zarrs_storage.specs.declared.byte_range.ByteRange.{ByteRange}
use Rattle.zarrs_codec_error.specs.declared.error.CodecError.{CodecError}
use Rattle.zarrs_codec_error.specs.declared.error.CodecError.TheVariants as codec
use Rattle.zarrs_codec_traits.specs.Parts as parts
use Rattle.zarrs_codec_traits.proofs.PartLaws.{slices_given}
use Rattle.zarr_codec_chain.specs.declared.chain.CodecChain.{CodecChain}
use Rattle.zarr_codec_chain.specs.declared.levels.ChunkLevels.{ChunkLevels}
use Rattle.zarr_codec_chain.proofs.LevelLaws.{chain-none}
use Rattle.zarrs_codec.proofs.SliceLaws.{parts_sliced}
use Rattle.zarr_codec_chain.proofs.ChainLaws.{decoded_as}
use Rattle.zarr_chunks.specs.Fetch.{chain_content, chunk_says}
use Rattle.zarr_chunks.specs.Regions.{given_bytes, first_outside, IsGivenAsked, AreGivenParts, IsAlike, held_parts_say}
use Rattle.zarr_chunks.specs.Regions.{range_says, AsksOnce}

-- parts that are given of bytes lie within these
all_valid : (value : List ℕ) (ranges : List ByteRange) (given : List (List ℕ)) →
    AreParts (value_part (Some value)) ranges given → first_invalid (length value) ranges ≡ None
all_valid value [] given are = refl
all_valid value (range ∷ ranges) [] are = absurd are
all_valid value (range ∷ ranges) (bytes ∷ given) are =
    go (is_valid range (length value)) are.0 (all_valid value ranges given are.1)
  where
    go : (b : Bool) → (if b then Some (Some (slice_of range value)) else None) ≡ Some (Some bytes) → first_invalid
        (length value) ranges ≡ None → (if b then first_invalid (length value) ranges else Some range) ≡ None
    go true is rest = rest
    go false is rest = cc

parts_given : (given : Option (List ℕ)) (bytes : List ℕ) (ranges : List ByteRange) (items : List (List ℕ)) →
    given ≡ Some bytes → AreParts (value_part (Some bytes)) ranges items →
    AreGivenParts ranges (option_map Some given) (Some items)
parts_given given bytes ranges items is are =
    subst (λ (g : Option (List ℕ)). AreGivenParts ranges (option_map Some g) (Some items)) (sym is) (
      ap Some (parts_sliced (value_part (Some bytes)) ranges bytes items (λ range. refl) are).slices,
      all_valid bytes ranges items are,
    )

pub parts_ok : (given : Option (List ℕ)) (bytes : List ℕ) (ranges : List ByteRange)
    (r : Result (Vec (Vec ℕ Global) Global) CodecError) → given ≡ Some bytes →
    IfOk r (λ items. AreParts (value_part (Some bytes)) ranges (parts_of items)) →
    IfOk r (λ items. AreGivenParts ranges (option_map Some given) (Some (parts_of items)))
parts_ok given bytes ranges (Ok items) is are = parts_given given bytes ranges (parts_of items) is are
parts_ok given bytes ranges (Err e) is are = tt

-- what stands under a key, and what the bytes-to-bytes codecs give of it, where parts are given
pub record AreOpened (decode : List ℕ → Option (List ℕ)) (ranges : List ByteRange) (stored : Option (List ℕ))
    (items : List (List ℕ)) : Type 0 where
  pub value : List ℕ
  pub there : stored ≡ Some value
  pub bytes : List ℕ
  pub first : decode value ≡ Some bytes
  pub slices : items ≡ slices_of ranges bytes
  pub valid : first_invalid (length bytes) ranges ≡ None

pub opened_parts :
    (decode : List ℕ → Option (List ℕ)) (ranges : List ByteRange) (stored : Option (List ℕ)) (items : List (List ℕ)) →
    AreGivenParts ranges (through decode (Some stored)) (Some items) → AreOpened decode ranges stored items
opened_parts decode ranges None items are = absurd (never are.0)
  where
    never : Some items ≡ None → ⊥
    never e = cc
opened_parts decode ranges (Some value) items are = go (decode value) refl are
  where
    go : (o : Option (List ℕ)) → decode value ≡ o → AreGivenParts ranges (option_map Some o) (Some items) →
        AreOpened decode ranges (Some value) items
    go None is are = absurd are
    go (Some bytes) is are = record {
      value = value;
      there = refl;
      bytes = bytes;
      first = is;
      slices = (let same : items ≡ slices_of ranges bytes = cc in same);
      valid = are.1;
    }

-- they answer a request, and each is as long as its range
pub record AreAnswered (request : Option (List ByteRange)) (bytes : List ℕ) (items : List (List ℕ)) : Type 0 where
  pub are : parts.ArePartsOf request bytes items
  pub answered : parts.IsAnswer request items
  pub long : parts.request_answer request items ≡ fine

pub answered_parts : (request : Option (List ByteRange)) (ranges : List ByteRange) (bytes : List ℕ)
    (items : List (List ℕ)) → request ≡ Some ranges → items ≡ slices_of ranges bytes →
    first_invalid (length bytes) ranges ≡ None → AreAnswered request bytes items
answered_parts request ranges bytes items asked slices valid =
    subst (λ (r : Option (List ByteRange)). AreAnswered r bytes items) (sym asked) (record {
      are = slices;
      answered = ap length slices ∙ length-map ranges (λ (range : ByteRange). slice_of range bytes);
      long = (parts_sliced (value_part (Some bytes)) ranges bytes items (λ range. refl)
          (slices_given bytes ranges items valid slices)).lengths;
    })

-- one reading call was made
pub asks_any : {T : Type 0} (before now : ℕ) (r : Result T CodecError) → now ≡ counted before 1 → AsksOnce before now r
asks_any before now (Ok v) once = once
asks_any before now (Err e) once = inl once

module _ {A B C : Type 0} (array : A → ArrayCodec) (unserved : Serving A) (to_list : Listing B)
    (list_says : B → Options → Level → List ℕ → CodecError → Type 0) (opens : Opening C) (says : C → Options → List ℕ →
    CodecError → Type 0) (chain : CodecChain A B C) (levels : ChunkLevels) (under : Options) where
  abbrev opened_by : List ℕ → Option (List ℕ)
  opened_by = decode_bytes (byte_codecs opens under chain.byte_codecs.items)

  -- the parts of a value that the bytes-to-bytes codecs refuse, or that does not have them
  pub value_parts_fail : (ranges : List ByteRange) (stored : Option (List ℕ)) (value : List ℕ) (e : CodecError) →
      Some value ≡ stored →
      (e ≡ codec.OutOfMemory) ⊎ held_parts_say ranges (through opened_by (Some (Some value)))
      (bytes_says opens says under chain.byte_codecs.items value) e →
      (e ≡ codec.OutOfMemory) ⊎ held_parts_say ranges (given_bytes opens chain under stored)
      (chunk_says list_says opens says chain levels under stored) e
  value_parts_fail ranges stored value e is cause =
      subst (λ (s : Option (List ℕ)). (e ≡ codec.OutOfMemory) ⊎ held_parts_say ranges (given_bytes opens chain under s)
      (chunk_says list_says opens says chain levels under s) e) is
      (⊎_elim (λ (m : e ≡ codec.OutOfMemory). inl m)
      (λ (told : held_parts_say ranges (through opened_by (Some (Some value)))
      (bytes_says opens says under chain.byte_codecs.items value) e). inr (go (opened_by value) told)) cause)
    where
      go : (o : Option (List ℕ)) →
          held_parts_say ranges (option_map Some o) (bytes_says opens says under chain.byte_codecs.items value) e →
          held_parts_say ranges (option_map Some o) (said_at o (bytes_says opens says under chain.byte_codecs.items
          value) (list_says chain.to_bytes under (bottom_level levels))) e
      go None told = told
      go (Some bytes) told = told

module _ {A B C : Type 0} (array : A → ArrayCodec) (unserved : Serving A) (to_list : Listing B)
    (list_says : B → Options → Level → List ℕ → CodecError → Type 0) (opens : Opening C)
    (says : C → Options → List ℕ → CodecError → Type 0) (chain : CodecChain A B C)
    (levels : ChunkLevels) (count : length chain.array_codecs.items ≡ length levels.above.items) (under : Options) where
  abbrev decode : List ℕ → Option (List ℕ)
  decode = decode_bytes (byte_codecs opens under chain.byte_codecs.items)

  -- why a region of a chunk has no elements
  abbrev RegionFails : Option (List ByteRange) → Option (List ℕ) → ℕ → ℕ → CodecError → Type 0
  RegionFails asked value before now e =
      IsHandleError before now e ⊎ ((chain_content array to_list opens chain levels under value ≡ None)
      × range_says (first_outside asked (given_bytes opens chain under value)) asked
      (given_bytes opens chain under value) (chunk_says list_says opens says chain levels under value) e)

  -- a value that decodes does so at the bottom
  pub bottom_there : (value bytes : List ℕ) (list : List Element) →
      AreLinked array unserved (steps chain levels) (bottom_level levels) → decode value ≡ Some bytes →
      decoded array to_list opens chain levels under value ≡ Some list →
      (xs : List Element) × (to_list chain.to_bytes under (bottom_level levels) bytes ≡ Some xs)
  bottom_there value bytes list links first is = go (to_list chain.to_bytes under (bottom_level levels) bytes) refl
    where
      nothing : decoded array to_list opens chain levels under value ≡ None → ⊥
      nothing none = cc

      go : (o : Option (List Element)) → to_list chain.to_bytes under (bottom_level levels) bytes ≡ o →
          (xs : List Element) × (o ≡ Some xs)
      go None here = absurd (nothing (decoded_as array unserved to_list list_says opens says chain levels count under
          value ∙ chain-none array unserved (bottom_level levels) (steps chain levels) (to_list chain.to_bytes under)
          (byte_codecs opens under chain.byte_codecs.items) value bytes links first here))
      go (Some xs) here = (xs, refl)

  -- a value that the bytes-to-bytes codecs refuse does not decode
  none_opened : (value : List ℕ) → decode value ≡ None → decoded array to_list opens chain levels under value ≡ None
  none_opened value none = ap (option_and_then (decode_levels (map array chain.array_codecs.items)
      (to_list chain.to_bytes under) (first_level levels))) none

  module _ (ranges : List ByteRange) (links : AreLinked array unserved (steps chain levels) (bottom_level levels))
      (asks : (bytes : List ℕ) → ¬ (first_invalid (length bytes) ranges ≡ None) →
      to_list chain.to_bytes under (bottom_level levels) bytes ≡ None) where
    -- where parts are not given, the region has no elements
    pub parts_region_fails : (stored : Option (List ℕ)) (before now : ℕ) (e : CodecError) →
        IsHandleError before now e ⊎ held_parts_say ranges (given_bytes opens chain under stored)
        (chunk_says list_says opens says chain levels under stored) e →
        RegionFails (Some ranges) stored before now e
    parts_region_fails stored before now e (inl handle) = inl handle
    parts_region_fails None before now e (inr told) = absurd (told.0 refl)
    parts_region_fails (Some value) before now e (inr told) = inr (go (decode value) refl told)
      where
        outside : (bytes : List ℕ) (first : Option ByteRange) → ¬ (first ≡ None) →
            TellsRangeOf (Some ranges) (Some bytes) e →
            range_says first (Some ranges) (Some (Some bytes))
            (chunk_says list_says opens says chain levels under (Some value)) e
        outside bytes None some tells = absurd (some refl)
        outside bytes (Some range) some tells = tells

        go : (o : Option (List ℕ)) → decode value ≡ o → held_parts_say ranges (option_map Some o)
            (chunk_says list_says opens says chain levels under (Some value)) e →
            (decoded array to_list opens chain levels under value ≡ None) ×
            range_says (first_outside (Some ranges) (option_map Some o)) (Some ranges) (option_map Some o)
            (chunk_says list_says opens says chain levels under (Some value)) e
        go None is told = (none_opened value is, told)
        go (Some bytes) is told = (
          decoded_as array unserved to_list list_says opens says chain levels count under value
              ∙ chain-none array unserved (bottom_level levels) (steps chain levels) (to_list chain.to_bytes under)
              (byte_codecs opens under chain.byte_codecs.items) value bytes links is (asks bytes told.0),
          outside bytes (first_invalid (length bytes) ranges) told.0 told.1,
        )

  -- where parts are given, the ranges lie within what they are ranges of
  parts_there : (ranges : List ByteRange) (stored : Option (List ℕ)) (items : List (List ℕ)) →
      (are : AreOpened decode ranges stored items) → given_bytes opens chain under stored ≡ Some (Some are.bytes)
  parts_there ranges stored items are =
      ap (λ (s : Option (List ℕ)). through decode (Some s)) are.there ∙ ap (option_map Some) are.first

  pub ranges_given : {T : Type 0} (ranges : List ByteRange) (stored : Option (List ℕ)) (items : List (List ℕ))
      (r : Result T CodecError) → AreOpened decode ranges stored items →
      OnOk r (IsGivenAsked (Some ranges) (given_bytes opens chain under stored))
  ranges_given ranges stored items r are = always_ok r (subst (IsGivenAsked (Some ranges))
      (sym (parts_there ranges stored items are)) (record { there = refl; within = are.valid }))

  -- and the codecs decode them or tell why the chunk does not decode
  pub parts_fail : {T : Type 0} (ranges : List ByteRange) (stored : Option (List ℕ)) (items : List (List ℕ))
      (before now : ℕ) (r : Result T CodecError) → (are : AreOpened decode ranges stored items) →
      IfErr r (IsDecodeError (decoded array to_list opens chain levels under are.value) (chain_says list_says opens says
      chain levels under are.value)) → IfErr r (RegionFails (Some ranges) stored before now)
  parts_fail {T} ranges stored items before now r are fails = go r fails
    where
      fails_so : (e : CodecError) → IsDecodeError (decoded array to_list opens chain levels under are.value) (chain_says
          list_says opens says chain levels under are.value) e → RegionFails (Some ranges) (Some are.value) before now e
      fails_so e (inl memory) = inl (inl memory)
      fails_so e (inr told) = inr (
        told.0,
        subst (λ (g : Option (List ℕ)). range_says (first_outside (Some ranges) (option_map Some g)) (Some ranges)
            (option_map Some g) (chain_says list_says opens says chain levels under are.value) e) (sym are.first)
            (subst (λ (f : Option ByteRange). range_says f (Some ranges) (Some (Some are.bytes))
            (chain_says list_says opens says chain levels under are.value) e) (sym are.valid) told.1),
      )

      go : (r : Result T CodecError) → IfErr r (IsDecodeError (decoded array to_list opens chain levels under are.value)
          (chain_says list_says opens says chain levels under are.value)) →
          IfErr r (RegionFails (Some ranges) stored before now)
      go (Ok v) fails = tt
      go (Err e) fails =
          subst (λ (s : Option (List ℕ)). RegionFails (Some ranges) s before now e) (sym are.there) (fails_so e fails)

  -- parts that are not given of bytes that have the ranges
  pub parts_wanting : (ranges : List ByteRange) (given : Held) (bytes : List ℕ) (said : CodecError → Type 0)
      (Handle : Type 0) (e : CodecError) → given ≡ Some (Some bytes) → invalid_range ranges (Some bytes) ≡ None →
      Handle ⊎ held_parts_say ranges given said e → Handle
  parts_wanting ranges given bytes said Handle e is valid (inl handle) = handle
  parts_wanting ranges given bytes said Handle e is valid (inr told) =
      absurd ((subst (λ (g : Held). held_parts_say ranges g said e) is told).0 valid)

  -- and those that are given of them, by any value that has the same
  pub alike_parts : (request : Option (List ByteRange)) (ranges : List ByteRange) (bytes : List ℕ) (items : List
      (List ℕ)) (other : List ℕ) (given : Option (List ℕ)) → request ≡ Some ranges → items ≡ slices_of ranges bytes →
      decode other ≡ given → IsAlike ranges bytes (option_map Some given) →
      (found : List ℕ) × (decode other ≡ Some found) × parts.ArePartsOf request found items
  alike_parts request ranges bytes items other None asked slices is alike = absurd alike
  alike_parts request ranges bytes items other (Some found) asked slices is alike = (
    found,
    is,
    subst (λ (r : Option (List ByteRange)). parts.ArePartsOf r found items) (sym asked) (slices ∙ sym alike),
  )

  pub alike_given : {T : Type 0} (gives : T → Type 0) (Handle : CodecError → Type 0) (other : List ℕ) (list :
      List Element) (r : Result T CodecError) → decoded array to_list opens chain levels under other ≡ Some list →
      ((e : CodecError) → e ≡ codec.OutOfMemory → Handle e) → IfOk r gives →
      IfErr r (IsDecodeError (decoded array to_list opens chain levels under other)
      (chain_says list_says opens says chain levels under other)) → MatchResult r gives Handle
  alike_given gives Handle other list (Ok v) is memory ok err = ok
  alike_given gives Handle other list (Err e) is memory ok (inl m) = memory e m
  alike_given gives Handle other list (Err e) is memory ok (inr told) = absurd (never told.0)
    where
      never : decoded array to_list opens chain levels under other ≡ None → ⊥
      never none = cc

  pub same_given : (bytes found : List ℕ) (stored : Option (List ℕ)) (value : List ℕ) → stored ≡ Some value →
      decode value ≡ Some found → given_bytes opens chain under stored ≡ Some (Some bytes) → found ≡ bytes
  same_given bytes found stored value there first given =
      let both : Some (Some found) ≡ Some (Some bytes) =
      sym (ap (λ (s : Option (List ℕ)). through decode (Some s)) there ∙ ap (option_map Some) first) ∙ given in
      cc
