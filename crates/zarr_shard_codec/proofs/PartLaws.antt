-- The index of a value under a key.
use Rattle.std.proofs.Common.{◌≡◌, ℕ, ◌+◌, ◌-◌, ◌≤◌, nat_le, if◌then◌else◌, Bool, true, false, List, [], ◌∷◌, length}
use Rattle.std.proofs.Common.{drop, Some, None, option_and_then, refl, sym, ap, ◌∙◌, subst, arith}
use Rattle.std.proofs.lemmas.List.{length-drop, take_all}
use Rattle.std.proofs.lemmas.Bool.{leb-true, le-leb, cond-true}
use Rattle.zarrs_codec.specs.Prelude.{Region, count_of, Options, slice_of, value_part, taken_of}
use Rattle.zarrs_storage.specs.declared.byte_range.ByteRange.TheVariants.{Suffix}
use Rattle.zarrs_codec_error.specs.declared.error.CodecError.{CodecError}
use Rattle.zarrs_codec_error.specs.declared.error.CodecError.TheVariants as error
use Rattle.zarr_shard_codec.specs.Finding.{index_found, says_index, index_says}
use Rattle.zarr_shard_codec.specs.Index.{index_in, index_part}
use Rattle.zarr_shard_codec.specs.ReadRegion.{region_says_by, says_from, region_says, SaysMet}
use Rattle.zarr_shard_codec.specs.Region.{region_by_index, own_region, own_part, own_index, pairs_by, pairs_read}
use Rattle.zarr_shard_codec.specs.Region.{met_pairs, index_len}
use Rattle.zarr_shard_codec.specs.ShardCodec.{inner_grid, own_array}
use Rattle.zarr_shard_codec.specs.declared.shard_codec.ShardCodec.{ShardCodec}
use Rattle.zarr_shard_codec.proofs.FetchLaws.{given_range}

-- the bytes of an index
suffix_slice : (value : List ℕ) (len : ℕ) → slice_of (Suffix len) value ≡ drop (length value - len) value
suffix_slice value len = take_all (length value - (length value - len)) (drop (length value - len) value)
    (let left = length-drop (length value - len) value in omega (arith, left))

module _ (codec : ShardCodec) (value : List ℕ) where
  abbrev number : ℕ
  number = count_of (inner_grid codec).grid_shape

  pub index_taken : (bytes : List ℕ) → value_part (Some value) (Suffix (index_len codec)) ≡ Some (Some bytes) →
      taken_of (Some (Suffix (index_len codec) ∷ [])) (Some value) ≡ index_len codec
  index_taken bytes some =
      let within : index_len codec ≤ length value =
      leb-true _ _ (given_range (Suffix (index_len codec)) value bytes some).0 in
      let long : length (slice_of (Suffix (index_len codec)) value) ≡ length value - (length value - index_len codec) =
      ap length (suffix_slice value (index_len codec)) ∙ length-drop (length value - index_len codec) value in
      let one : taken_of (Some (Suffix (index_len codec) ∷ [])) (Some value) ≡
      0 + length (slice_of (Suffix (index_len codec)) value) = refl in
      omega (arith, one, long, within)

  part_long : (part : List ℕ) (room : Bool) → nat_le (index_len codec) (length value) ≡ room → (if room then Some
      (drop (length value - index_len codec) value) else None) ≡ Some part → length part ≡ index_len codec
  part_long part true is e =
      let same : drop (length value - index_len codec) value ≡ part = cc in
      let within : index_len codec ≤ length value = leb-true _ _ is in
      let long = length-drop (length value - index_len codec) value in
      ap length (sym same) ∙ omega (arith, long, within)
  part_long part false is e = cc

  -- an index is that of its own bytes
  module _ (part : List ℕ) (at : own_part codec value ≡ Some part) where
    long : length part ≡ index_len codec
    long = part_long part (nat_le (index_len codec) (length value)) refl at

    room : nat_le (index_len codec) (length part) ≡ true
    room = le-leb _ _ (omega (arith, long))

    part_again : index_part codec.shard.checked number part ≡ Some part
    part_again = let none : length part - index_len codec ≡ 0 = omega (arith, long) in
        cond-true _ _ _ room ∙ ap (λ n. Some (drop n part)) none

    again : (validate : Bool) →
        index_found codec.shard.checked validate number part ≡ index_in codec.shard.checked validate part
    again validate = ap (option_and_then (index_in codec.shard.checked validate)) part_again

    module _ (under : Options) (region : Region) where
      abbrev validate : Bool
      validate = under.validate_checksums

      own_found : own_index codec under value ≡ index_in codec.shard.checked validate part
      own_found = ap (option_and_then (index_in codec.shard.checked validate)) at

      -- it is found, and the region is the one by it
      module _ (index : List ℕ) (found : index_found codec.shard.checked validate number part ≡ Some index) where
        own_is : own_index codec under value ≡ Some index
        own_is = own_found ∙ (sym (again validate) ∙ found)

        pub region_found : own_region codec under region value ≡
            region_by_index (own_array codec under) value region index
        region_found = ap (option_and_then (region_by_index (own_array codec under) value region)) own_is

        pub pairs_found : pairs_read codec under region value ≡ met_pairs codec region index
        pairs_found = ap (pairs_by (inner_grid codec) region) own_is

        pub says_found_met : (e : CodecError) → SaysMet codec under region value index e →
            region_says codec under region value e
        says_found_met e told =
            subst (λ p. says_from codec under region value p e) (sym at)
            (subst (λ i. region_says_by codec under region value i e) (sym (sym (again validate) ∙ found)) told)

      -- or it is not
      pub region_unfound : (e : CodecError) → index_found codec.shard.checked validate number part ≡ None →
          index_says codec.shard.checked number part e →
          (own_region codec under region value ≡ None) × region_says codec under region value e
      region_unfound e none told =
          let nothing : index_in codec.shard.checked validate part ≡ None = sym (again validate) ∙ none in
          let wrong : e ≡ error.InvalidChecksum =
          subst (λ b. says_index b codec.shard.checked number part e) room told in (
            ap (option_and_then (region_by_index (own_array codec under) value region)) (own_found ∙ nothing),
            subst (λ p. says_from codec under region value p e) (sym at)
                (subst (λ i. region_says_by codec under region value i e) (sym nothing) wrong),
          )
