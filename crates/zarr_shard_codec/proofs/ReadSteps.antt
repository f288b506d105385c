-- The steps of reading a region of a chunk.
use Rattle.std.proofs.Common.{◌≡◌, ℕ, zero, suc, ◌+◌, ◌*◌, ◌^◌, ◌<◌, ◌≤◌, nat_le, nat_eq, Bool, true, false, List, []}
use Rattle.std.proofs.Common.{◌∷◌, length, map, get_or, Option, Some, None, Result, Ok, Err, IfOk, MatchResult, refl}
use Rattle.std.proofs.Common.{sym, ap, ◌∙◌, subst, subst₂, arith, inr, eqb-true, mul-le-mul_right, replicate, IsSome}
use Rattle.std.specs.List.{sum_by}
use Rattle.std.proofs.lemmas.Bool.{cond-true, cond-false, le-leb}
use Rattle.zarr_model.specs.Prelude.{Region, count, count_of, whole, place, ends_within, Element, null, ArrayBytes}
use Rattle.zarr_model.specs.Prelude.{has_long_element, Options, Shown, kind, fixed_size}
use Rattle.zarr_model.proofs.RegionLaws.{tuples-empty, count_within}
use Rattle.zarrs_storage.specs.declared.byte_range.ByteRange.TheVariants.{Suffix}
use Rattle.zarrs_codec.specs.Prelude.{held_bytes, raw_of, size_in, value_part, taken_of, list_at, at_box, Gives, select}
use Rattle.zarrs_codec_error.specs.declared.error.CodecError.{CodecError}
use Rattle.zarrs_codec_array_bytes.specs.declared.array_bytes.ArrayBytes as code
use Rattle.zarr_shard_codec.specs.Finding.{index_found, index_says}
use Rattle.zarr_shard_codec.specs.Index.{Pair}
use Rattle.zarr_shard_codec.specs.ReadRegion.{HasCost, NotRead, HasRegion, SaysMet, region_says, held_says}
use Rattle.zarr_shard_codec.specs.Region.{index_len, own_part, region_by_index, own_region, met_pairs, pairs_read}
use Rattle.zarr_shard_codec.specs.Region.{held_region, held_asks, held_taken, region_content, region_asks, region_taken}
use Rattle.zarr_shard_codec.specs.ShardCodec.{inner_of, inner_grid, own_level, own_list, own_array}
use Rattle.zarr_shard_codec.specs.declared.shard_codec.ShardCodec.{ShardCodec}
use Rattle.zarr_shard_codec.proofs.FetchLaws.{both_cost, unread_after, unread_as}
use Rattle.zarr_shard_codec.proofs.CodecFacts.{own_fits}
use Rattle.zarr_shard_codec.proofs.PartLaws.{index_taken, region_found, pairs_found, says_found_met, region_unfound}
use Rattle.zarr_shard_codec.proofs.RegionLaws.{selects_region}

has_some : (n : ℕ) → nat_eq n 0 ≡ false → nat_le 1 n ≡ true
has_some zero e = cc
has_some (suc n) e = le-leb 1 (suc n) (omega arith)

has_none : (n : ℕ) → nat_le 1 n ≡ false → n ≡ 0
has_none zero e = refl
has_none (suc n) e = let more : nat_le 1 (suc n) ≡ true = le-leb 1 (suc n) (omega arith) in cc

-- a read of the index, and then of the inner chunks that a region meets
module _ (codec : ShardCodec) (under : Options) (region : Region) where
  abbrev ReadBy : List ℕ → Shown → Shown → ArrayBytes → Type 0
  ReadBy value old new raw =
      HasRegion codec region (own_region codec under region value) (length (pairs_read codec under region value))
      (sum_by (λ (pair : Pair). pair.size) (pairs_read codec under region value)) old new raw

  pub then_read : (content mid_content : Option (List ℕ)) (bytes : List ℕ) (old mid new : Shown) (raw : ArrayBytes) →
      mid_content ≡ content → value_part content (Suffix (index_len codec)) ≡ Some (Some bytes) →
      HasCost 1 (taken_of (Some (Suffix (index_len codec) ∷ [])) content) old mid →
      ReadBy (held_bytes mid_content) mid new raw →
      HasRegion codec region (held_region codec under region content) (held_asks codec under region content)
      (held_taken codec under region content) old new raw
  then_read None mid_content bytes old mid new raw same some first has = cc
  then_read (Some value) mid_content bytes old mid new raw same some first has =
      let own : ReadBy value mid new raw = subst (λ c. ReadBy (held_bytes c) mid new raw) same has in
      let index : HasCost 1 (index_len codec) old mid =
      subst (λ n. HasCost 1 n old mid) (index_taken codec value bytes some) first in
      record {
        elements = own.elements;
        short = own.short;
        cost = both_cost 1 (index_len codec) (length (pairs_read codec under region value))
            (sum_by (λ (pair : Pair). pair.size) (pairs_read codec under region value)) old mid new index own.cost;
      }

  pub then_unread : (content mid_content : Option (List ℕ)) (bytes : List ℕ) (old mid new : Shown) (e : CodecError) →
      mid_content ≡ content → value_part content (Suffix (index_len codec)) ≡ Some (Some bytes) →
      HasCost 1 (taken_of (Some (Suffix (index_len codec) ∷ [])) content) old mid → NotRead (own_region codec under
      region (held_bytes mid_content)) (region_says codec under region (held_bytes mid_content)) mid new e →
      NotRead (held_region codec under region content) (held_says codec under region content) old new e
  then_unread None mid_content bytes old mid new e same some first failed = cc
  then_unread (Some value) mid_content bytes old mid new e same some first failed =
      unread_after (held_region codec under region (Some value)) (own_region codec under region value)
      (held_says codec under region (Some value)) (region_says codec under region value)
      1 (taken_of (Some (Suffix (index_len codec) ∷ [])) (Some value)) old mid new e first (λ none told. (none, told))
      (subst (λ c. NotRead (own_region codec under region (held_bytes c))
      (region_says codec under region (held_bytes c)) mid new e) same failed)

  -- a region with elements, and one without
  pub some_read : (content : Option (List ℕ)) (old new : Shown) (raw : ArrayBytes) → nat_eq (count region) 0 ≡ false →
      HasRegion codec region (held_region codec under region content) (held_asks codec under region content)
      (held_taken codec under region content) old new raw →
      HasRegion codec region (region_content codec under region content) (region_asks codec under region content)
      (region_taken codec under region content) old new raw
  some_read content old new raw some has =
      let test : nat_le 1 (count region) ≡ true = has_some (count region) some in record {
        elements =
            subst (Gives (list_at (at_box region (own_level codec)) raw)) (sym (cond-true _ _ _ test)) has.elements;
        short = has.short;
        cost = subst₂ (λ n m. HasCost n m old new) (sym (cond-true _ _ _ test)) (sym (cond-true _ _ _ test)) has.cost;
      }

  pub some_unread : (content : Option (List ℕ)) (old new : Shown) (e : CodecError) → nat_eq (count region) 0 ≡ false →
      NotRead (held_region codec under region content) (held_says codec under region content) old new e →
      NotRead (region_content codec under region content) (held_says codec under region content) old new e
  some_unread content old new e some failed = subst (λ w. NotRead w (held_says codec under region content) old new e)
      (sym (cond-true _ _ _ (has_some (count region) some))) failed

  pub none_read : (content : Option (List ℕ)) (store : Shown) (raw : ArrayBytes) → nat_eq (count region) 0 ≡ true →
      list_at (at_box region (own_level codec)) raw ≡ Some (replicate (count region) (inner_of codec).fill) →
      has_long_element raw ≡ false → HasCost 0 0 store store →
      HasRegion codec region (region_content codec under region content) (region_asks codec under region content)
      (region_taken codec under region content) store store raw
  none_read content store raw none means short cost =
      let zero_count : count region ≡ 0 = eqb-true _ _ none in
      let test : nat_le 1 (count region) ≡ false = ap (nat_le 1) zero_count in
      let empty : list_at (at_box region (own_level codec)) raw ≡ Some [] =
      means ∙ ap (λ n. Some (replicate n (inner_of codec).fill)) zero_count in record {
        elements = record { same = empty ∙ sym (cond-false _ _ _ test); there = subst IsSome (sym empty) refl };
        short = short;
        cost = subst₂ (λ n m. HasCost n m store store) (sym (cond-false _ _ _ test)) (sym (cond-false _ _ _ test)) cost;
      }

  -- of a value that decodes it is the region's part
  pub content_selects : (content : Option (List ℕ)) (value : List ℕ) (list : List Element) → content ≡ Some value →
      own_list codec under value ≡ Some list → ends_within region (inner_of codec).shape ≡ true →
      region_content codec under region content ≡ Some (select (inner_of codec).shape region list)
  content_selects content value list is means inside = go (nat_le 1 (count region)) refl
    where
      go : (b : Bool) → nat_le 1 (count region) ≡ b →
          region_content codec under region content ≡ Some (select (inner_of codec).shape region list)
      go true some = cond-true _ _ _ some ∙ (ap (held_region codec under region) is ∙ selects_region codec.shard.checked
          under.validate_checksums (own_array codec under) value list region means inside)
      go false none =
          let zero_count : count region ≡ 0 = has_none (count region) none in
          cond-false _ _ _ none ∙ ap (λ l. Some (map (λ tuple.
          get_or list (place (whole (inner_of codec).shape) tuple) null) l)) (sym (tuples-empty region zero_count))

-- the same of a call's result
module _ (codec : ShardCodec) (under : Options) (region : Region) where
  abbrev Has : Option (List Element) → List Pair → Shown → Shown → ArrayBytes → Type 0
  Has wanted pairs old new raw =
      HasRegion codec region wanted (length pairs) (sum_by (λ (pair : Pair). pair.size) pairs) old new raw

  abbrev pub ByIndex : List ℕ → List ℕ → Shown → Shown → Result code.ArrayBytes CodecError → Type 0
  ByIndex value index old new r = MatchResult r (λ v. Has (region_by_index (own_array codec under) value region index)
      (met_pairs codec region index) old new (raw_of v))
      (NotRead (region_by_index (own_array codec under) value region index) (SaysMet codec under region value index) old
      new)

  abbrev ByValue : List ℕ → Shown → Shown → Result code.ArrayBytes CodecError → Type 0
  ByValue value old new r = MatchResult r
      (λ v. Has (own_region codec under region value) (pairs_read codec under region value) old new (raw_of v))
      (NotRead (own_region codec under region value) (region_says codec under region value) old new)

  abbrev ByContent : Option (List ℕ) → Shown → Shown → Result code.ArrayBytes CodecError → Type 0
  ByContent content old new r = MatchResult r
      (λ v. HasRegion codec region (held_region codec under region content) (held_asks codec under region content)
      (held_taken codec under region content) old new (raw_of v))
      (NotRead (held_region codec under region content) (held_says codec under region content) old new)

  abbrev ByAny : Option (List ℕ) → Shown → Shown → Result code.ArrayBytes CodecError → Type 0
  ByAny content old new r = MatchResult r
      (λ v. HasRegion codec region (region_content codec under region content) (region_asks codec under region content)
      (region_taken codec under region content) old new (raw_of v))
      (NotRead (region_content codec under region content) (held_says codec under region content) old new)

  module _ (value part : List ℕ) (at : own_part codec value ≡ Some part) where
    pub by_index : (index : List ℕ) (old new : Shown) (r : Result code.ArrayBytes CodecError) →
        index_found codec.shard.checked under.validate_checksums (count_of (inner_grid codec).grid_shape) part ≡
        Some index → ByIndex value index old new r → ByValue value old new r
    by_index index old new (Ok v) found has = subst₂ (λ w p. Has w p old new (raw_of v)) (sym (region_found codec value
        part at under region index found)) (sym (pairs_found codec value part at under region index found)) has
    by_index index old new (Err e) found failed =
        unread_as (own_region codec under region value) (region_by_index (own_array codec under) value region index)
        (region_says codec under region value) (SaysMet codec under region value index) old new e
        (λ none told. (
          region_found codec value part at under region index found ∙ none,
          says_found_met codec value part at under region index found e told,
        )) failed

    pub by_no_index : (store : Shown) (e : CodecError) →
        (index_found codec.shard.checked under.validate_checksums (count_of (inner_grid codec).grid_shape) part ≡
        None) × index_says codec.shard.checked (count_of (inner_grid codec).grid_shape) part e →
        NotRead (own_region codec under region value) (region_says codec under region value) store store e
    by_no_index store e both = record {
      same = λ key. refl;
      later = omega arith;
      cause = inr (region_unfound codec value part at under region e both.0 both.1);
    }

  pub by_part : (content mid_content : Option (List ℕ)) (bytes : List ℕ)
      (old mid new : Shown) (r : Result code.ArrayBytes CodecError) → mid_content ≡ content →
      value_part content (Suffix (index_len codec)) ≡ Some (Some bytes) →
      HasCost 1 (taken_of (Some (Suffix (index_len codec) ∷ [])) content) old mid →
      ByValue (held_bytes mid_content) mid new r → ByContent content old new r
  by_part content mid_content bytes old mid new (Ok v) same some first has =
      then_read codec under region content mid_content bytes old mid new (raw_of v) same some first has
  by_part content mid_content bytes old mid new (Err e) same some first failed =
      then_unread codec under region content mid_content bytes old mid new e same some first failed

  pub of_some : (content : Option (List ℕ)) (old new : Shown) (r : Result code.ArrayBytes CodecError) →
      nat_eq (count region) 0 ≡ false → ByContent content old new r → ByAny content old new r
  of_some content old new (Ok v) some has = some_read codec under region content old new (raw_of v) some has
  of_some content old new (Err e) some failed = some_unread codec under region content old new e some failed

  -- of a value that decodes it is the region's part
  pub selected : (content : Option (List ℕ)) (value : List ℕ) (list : List Element) (old new : Shown) (r :
      Result code.ArrayBytes CodecError) → content ≡ Some value → own_list codec under value ≡ Some list →
      ends_within region (inner_of codec).shape ≡ true → ByAny content old new r → IfOk r
      (λ v. list_at (at_box region (own_level codec)) (raw_of v) ≡ Some (select (inner_of codec).shape region list))
  selected content value list old new (Ok v) is means inside has =
      has.elements.same ∙ content_selects codec under region content value list is means inside
  selected content value list old new (Err e) is means inside failed = tt

-- room for the elements of a region inside the chunk
pub region_few : (codec : ShardCodec) (region : Region) → ends_within region (inner_of codec).shape ≡ true →
    count region + 1 < 2 ^ 64
region_few codec region inside = let within : count region ≤ count_of (inner_of codec).shape =
    count_within region (inner_of codec).shape inside in let few = (own_fits codec).0 in omega (arith, within, few)

pub region_room : (codec : ShardCodec) (region : Region) → ends_within region (inner_of codec).shape ≡ true →
    count region * size_in (fixed_size (kind (inner_of codec))) < 2 ^ 64
region_room codec region inside =
    let within : count region ≤ count_of (inner_of codec).shape = count_within region (inner_of codec).shape inside in
    let product = mul-le-mul_right (size_in (fixed_size (kind (inner_of codec)))) within in
    let room = (own_fits codec).1 in
    omega (arith, product, room)
