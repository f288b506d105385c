-- What reading a region of a chunk through its codec gives of the chunk.
use Rattle.std.proofs.Common.{◌≡◌, ◌∙◌, ◌⊎◌, inl, inr, ℕ, ◌<◌, ◌==◌, not, Bool, true, false, if◌then◌else◌, List}
use Rattle.std.proofs.Common.{length, replicate, Option, Some, None, IsSome, is_some, option_and_then, refl, sym, ap}
use Rattle.std.proofs.Common.{subst}
use Rattle.std.proofs.lemmas.Bool.{eqb-true, eq-eqb}
use Rattle.std.proofs.lemmas.List.{length-map, length-replicate}
use Rattle.std.proofs.lemmas.Option.{same_Some}
use Rattle.zarrs_codec.specs.Prelude.{Region, sizes, count, count_of, whole, tuples, ends_within, Element, Array, kind}
use Rattle.zarrs_codec.specs.Prelude.{elements_in, IsChunk, Options, meaning, ArrayBytes, chunk_content, layout, Layout}
use Rattle.zarrs_codec.specs.Prelude.{Shown, counted, stored_array, raw_of, list_at, at_box, select, IsHandleError}
use Rattle.zarr_model.proofs.RegionLaws.{length-tuples, sizes_whole}
use Rattle.zarrs_codec_error.specs.declared.error.CodecError.{CodecError}
use Rattle.zarrs_codec_array_bytes.specs.declared.array_bytes.ArrayBytes as code
use Rattle.zarrs_codec_traits.proofs.SelectLaws.{select-replicate}
use Rattle.zarr_chunks.specs.declared.fetched.Fetched.TheVariants as fetched
use Rattle.zarr_array.specs.Access.{Cost, stored_by}
use Rattle.zarr_array.specs.Asked.{part_asked, finds_asked}
use Rattle.zarr_array.specs.Fetch.{HasElements, HasRead}
use Rattle.zarr_array.specs.Pays.{Pays}
use Rattle.zarr_array.specs.Shared.{HasSharedPart, IsPartOf, finds_box}
use Rattle.zarr_array.proofs.CauseLaws.{Undecoded, Unfetched}
use Rattle.zarr_array.proofs.ChunkLaws.{some_list}
use Rattle.zarr_shard_codec.specs.ReadRegion.{HasCost, HasRegion, NotRead, held_says, region_says}
use Rattle.zarr_shard_codec.specs.Region.{met_decode, region_by_index, region_list, own_region, held_region}
use Rattle.zarr_shard_codec.specs.Region.{region_content, region_asks, region_taken}
use Rattle.zarr_shard_codec.specs.Shard.{inner_layout, inner_pairs, index_of}
use Rattle.zarr_shard_codec.specs.ShardCodec.{inner_of, own_level, own_array, own_list}
use Rattle.zarr_shard_codec.specs.declared.shard_codec.ShardCodec.{ShardCodec}
use Rattle.zarr_shard_codec.proofs.FaultLaws.{region_no_fault}
use Rattle.zarr_shard_codec.proofs.RegionLaws.{selects_region, whole_is_all}
use Rattle.zarr_shard_codec.proofs.ShardLaws.{select_whole}
use Rattle.zarr_shard.specs.Access.{shard_access, shard_cost, shard_chunk_says, shard_served}
use Rattle.zarr_shard.specs.ShardArray.{documented_shards, described_shards}
use Rattle.zarr_shard.specs.declared.array.ShardArray.{ShardArray}
use Rattle.zarr_shard.proofs.BoxLaws.{all_of}
use Rattle.zarr_shard.proofs.DescribedLaws.{content_held, asks_held, taken_held, dims, cost_is, box, box_is}
use Rattle.zarr_shard.proofs.DescribedLaws.{whole_count, decodes_as, finds_as, content_as}

-- the elements of a region are those of an array that the inner chunks hold
record IsHeld (region : Region) (part : List Element) : Type 0 where
  pub held : Array Element
  pub is : part ≡ elements_in region held

by_met : (array : Layout Element) (value index : List ℕ) (region : Region) (part : List Element) (all : Bool) →
    (if all then Some (elements_in region (stored_array (inner_layout array value) (inner_pairs array.grid index))) else
    None) ≡ Some part → IsHeld region part
by_met array value index region part true is = record {
  held = stored_array (inner_layout array value) (inner_pairs array.grid index);
  is = same_Some part _ (sym is);
}
by_met array value index region part false is = absurd cc

region_held : (checked validate : Bool) (array : Layout Element) (region : Region) (value : List ℕ)
    (part : List Element) → region_list checked validate array region value ≡ Some part → IsHeld region part
region_held checked validate array region value part is = go (index_of checked validate array value) is
  where
    go : (index : Option (List ℕ)) → option_and_then (region_by_index array value region) index ≡ Some part →
        IsHeld region part
    go None is = absurd cc
    go (Some index) is = by_met array value index region part (met_decode array value region index) is

-- what is wanted and given
given : {A : Type 0} (a b : Option A) → a ≡ b → IsSome a → (x : A) × (b ≡ Some x)
given None b is some = cc some
given (Some x) b is some = (x, sym is)

module _ (array : ShardArray) (options : Options) (chunk : List ℕ)
    (is_chunk : IsChunk (described_shards array).grid chunk) where
  abbrev codec : ShardCodec
  codec = array.codec

  abbrev pub its_key : List ℕ
  its_key = (described_shards array).key chunk

  abbrev pub all : Region
  all = whole (dims array)

  abbrev pub its_box : Region
  its_box = box array chunk is_chunk

  pub all_some : 0 < count all
  all_some = subst (λ n. 0 < n) (sym (ap count_of (sizes_whole (dims array)))) codec.some

  -- all of a chunk is no part of it
  pub all_asked : part_asked its_box all ≡ None
  all_asked = ap (λ (b : Bool). if not b then Some all else None)
      (eq-eqb (count all) (count its_box) (whole_count array chunk is_chunk))

  -- a box that has all elements of a chunk is all of it
  pub is_all : (within : Region) → ends_within within (dims array) ≡ true → (count within == count its_box) ≡ true →
      within ≡ all
  is_all within inside same = all_of within (dims array) inside codec.some
      (eqb-true (count within) (count its_box) same ∙ sym (whole_count array chunk is_chunk)
      ∙ ap count_of (sizes_whole (dims array)))

  module _ (before now : Shown) where
    abbrev value : Option (List ℕ)
    value = before.content its_key

    abbrev content : Option (List Element)
    content = chunk_content (layout (described_shards array) options) before.content chunk

    content_is : (v : List ℕ) → value ≡ Some v → content ≡ own_list codec options v
    content_is v is = content_as array chunk is_chunk options value
        ∙ (ap (held_region codec options all) is ∙ whole_is_all codec options v)

    -- a store was read
    pub has_read : (calls bytes : ℕ) → HasCost calls bytes before now → now.puts ≡ before.puts → HasRead before now
    has_read calls bytes cost puts = record { same = cost.same; puts = puts; later = cost.later }

    -- it costs what reading by parts does
    pub pays : (within : Region) → 0 < count within →
        HasCost (region_asks codec options within value) (region_taken codec options within value) before now →
        Pays (shard_cost (documented_shards array) options chunk within value) before now
    pays within some cost =
        subst (λ (c : Cost). Pays c before now) (sym (cost_is array options chunk within value)) (record {
          asks = cost.asks ∙ ap (counted before.asks) (asks_held codec options within value some);
          taken = cost.taken ∙ ap (counted before.taken) (taken_held codec options within value some);
        })

    pub pays_all : HasCost (region_asks codec options all value) (region_taken codec options all value) before now →
        Pays (shard_cost (documented_shards array) options chunk (whole (sizes its_box)) value) before now
    pays_all cost = subst (λ lengths. Pays (shard_cost (documented_shards array) options chunk (whole lengths) value)
        before now) (sym (box_is array chunk is_chunk)) (pays all all_some cost)

    -- the elements of all of a chunk
    all_means : (raw : ArrayBytes) →
        list_at (at_box all (own_level codec)) raw ≡ meaning (kind (described_shards array)) (count its_box) raw
    all_means raw = ap (λ n. meaning (kind (described_shards array)) n raw) (whole_count array chunk is_chunk)

    pub has_elements : (calls bytes : ℕ) (raw : ArrayBytes) → HasRegion codec all (region_content codec options all
        value) calls bytes before now raw → HasElements (shard_access array) options chunk before raw
    has_elements calls bytes raw has =
        let there : IsSome (meaning (kind (described_shards array)) (count its_box) raw) =
        subst IsSome (all_means raw) has.elements.there in
        record {
          mean = record { means = there; short = has.short };
          elements =
              content_as array chunk is_chunk options value
              ∙ (sym (content_held codec options all value all_some) ∙ (sym has.elements.same
              ∙ (all_means raw ∙ some_list (meaning (kind (described_shards array)) (count its_box) raw) there)));
        }

    -- those of a box of it
    module _ (within : Region) (inside : ends_within within (sizes its_box) ≡ true) (some : 0 < count within) where
      inside_dims : ends_within within (dims array) ≡ true
      inside_dims = subst (λ lengths. ends_within within lengths ≡ true) (box_is array chunk is_chunk) inside

      -- a value that decodes has them
      own_selects : (v : List ℕ) (list : List Element) → own_list codec options v ≡ Some list →
          own_region codec options within v ≡ Some (select (dims array) within list)
      own_selects v list is = selects_region codec.shard.checked options.validate_checksums (own_array codec options) v
          list within is inside_dims

      undecoded : (v : List ℕ) → own_region codec options within v ≡ None → own_list codec options v ≡ None
      undecoded v none = go (own_list codec options v) refl
        where
          go : (list : Option (List Element)) → own_list codec options v ≡ list → list ≡ None
          go None is = refl
          go (Some list) is = let both : Some (select (dims array) within list) ≡ None =
              sym (own_selects v list is) ∙ none in absurd cc

      abbrev asked : Option Region
      asked = part_asked its_box within

      -- one that does not decode holds the box where this is not all of the chunk
      finds : (v : List ℕ) → own_list codec options v ≡ None → IsSome (own_region codec options within v) →
          finds_box (described_shards array) options chunk within (Some v) ≡ true
      finds v none part = go (count within == count its_box) refl
        where
          go : (b : Bool) → (count within == count its_box) ≡ b →
              finds_asked (described_shards array) options chunk (if not b then Some within else None) (Some v) ≡ true
          go true same =
              let region : own_region codec options within v ≡ None = ap (λ r. own_region codec options r v)
              (is_all within inside_dims same) ∙ (whole_is_all codec options v ∙ none) in
              cc (subst IsSome region part)
          go false other =
              finds_as array chunk is_chunk options within v ∙ some_is (own_region codec options within v) part
            where
              some_is : (o : Option (List Element)) → IsSome o → is_some o ≡ true
              some_is None h = cc h
              some_is (Some x) h = refl

      -- and which error tells of it
      module _ (v : List ℕ) (none : own_region codec options within v ≡ None) where
        unfound : finds_asked (described_shards array) options chunk asked (Some v) ≡ false
        unfound = go (count within == count its_box)
          where
            go : (b : Bool) → finds_asked (described_shards array) options chunk (if not b then Some within else None)
                (Some v) ≡ false
            go true = refl
            go false = finds_as array chunk is_chunk options within v ∙ ap is_some none

        said : (e : CodecError) → region_says codec options within v e → shard_chunk_says codec options chunk asked v e
        said e told = go (count within == count its_box) refl
          where
            go : (b : Bool) → (count within == count its_box) ≡ b →
                shard_chunk_says codec options chunk (if not b then Some within else None) v e
            go true same = subst (λ r. region_says codec options r v e) (is_all within inside_dims same) told
            go false other = told

      pub unfetched : (e : CodecError) → NotRead (region_content codec options within value) (held_says codec options
          within value) before now e → Unfetched (shard_access array) options chunk asked before now e
      unfetched e failed = go failed.cause
        where
          by_value : (o : Option (List ℕ)) → value ≡ o → held_region codec options within o ≡ None →
              held_says codec options within o e → Undecoded (shard_access array) options chunk asked before now e
          by_value None is none told = absurd told
          by_value (Some v) is none told = record {
            content = content_is v is ∙ undecoded v none;
            unfound = ap (finds_asked (described_shards array) options chunk asked) is ∙ unfound v none;
            said =
                subst (λ o. stored_by (shard_chunk_says codec) options chunk asked o e) (sym is) (said v none e told);
            unlike = λ fault same. (region_no_fault codec options within v e told).unlike fault same;
          }

          go : IsHandleError before.faults now.faults e ⊎ ((region_content codec options within value ≡ None) ×
              held_says codec options within value e) → Unfetched (shard_access array) options chunk asked before now e
          go (inl handle) = inl handle
          go (inr (none, told)) =
              inr (by_value value refl (sym (content_held codec options within value some) ∙ none) told)

      module _ (bytes : code.ArrayBytes) (calls taken : ℕ) (has : HasRegion codec within
          (region_content codec options within value) calls taken before now (raw_of bytes)) where
        given_is : list_at (at_box within (own_level codec)) (raw_of bytes) ≡ held_region codec options within value
        given_is = has.elements.same ∙ content_held codec options within value some

        -- elements of a list of the chunk
        part_of : (list : List Element) → length list ≡ count its_box →
            list_at (at_box within (own_level codec)) (raw_of bytes) ≡ Some (select (dims array) within list) →
            HasSharedPart (shard_access array) chunk within list (fetched.Region bytes)
        part_of list long is = record {
          as_long = long;
          gives = subst (λ lengths. list_at (at_box within (own_level codec)) (raw_of bytes) ≡
              Some (select lengths within list)) (sym (box_is array chunk is_chunk)) is;
          short = has.short;
        }

        by_value : (o : Option (List ℕ)) → value ≡ o →
            IsPartOf (shard_access array) options chunk within before (fetched.Region bytes)
        by_value None is =
            let list = replicate (count its_box) (inner_of codec).fill in
            let here : content ≡ Some list = content_as array chunk is_chunk options value ∙ (ap (held_region codec
            options all) is ∙ ap (λ n. Some (replicate n (inner_of codec).fill)) (whole_count array chunk is_chunk)) in
            record {
              list = list;
              content = λ own has_own. same_Some own list (sym has_own ∙ here);
              found = inl (subst IsSome (sym here) refl);
              has = record {
                as_long = length-replicate (count its_box) (inner_of codec).fill;
                gives = given_is ∙ (ap (held_region codec options within) is
                    ∙ ap Some (sym (select-replicate (sizes its_box) within (inner_of codec).fill inside)));
                short = has.short;
              };
            }
        by_value (Some v) is = by_list (own_list codec options v) refl
          where
            by_list : (o : Option (List Element)) → own_list codec options v ≡ o →
                IsPartOf (shard_access array) options chunk within before (fetched.Region bytes)
            by_list (Some list) decodes =
                let here : content ≡ Some list = content_is v is ∙ decodes in
                record {
                  list = list;
                  content = λ own has_own. same_Some own list (sym has_own ∙ here);
                  found = inl (subst IsSome (sym here) refl);
                  has = part_of list (((shard_served array).sound options).count chunk v list is_chunk
                      (decodes_as array chunk is_chunk options v ∙ decodes))
                      (given_is ∙ (ap (held_region codec options within) is ∙ own_selects v list decodes));
                }
            by_list None decodes =
                let part = given _ _ (given_is ∙ ap (held_region codec options within) is) has.elements.there in
                let whole_held = region_held codec.shard.checked options.validate_checksums (own_array codec options)
                within v part.0 part.1 in
                let list = elements_in all whole_held.held in
                let here : content ≡ None = content_is v is ∙ decodes in
                record {
                  list = list;
                  content = λ own has_own. (let both : Some own ≡ None = sym has_own ∙ here in absurd cc);
                  found = inr (ap (finds_box (described_shards array) options chunk within) is
                      ∙ finds v decodes (subst IsSome (sym part.1) refl));
                  has = part_of list (length-map (tuples all) whole_held.held.element
                      ∙ (length-tuples all ∙ whole_count array chunk is_chunk))
                      (given_is ∙ (ap (held_region codec options within) is ∙ (part.1
                      ∙ ap Some (whole_held.is ∙ sym (select_whole (dims array) within whole_held.held inside_dims)))));
                }

        pub is_part : IsPartOf (shard_access array) options chunk within before (fetched.Region bytes)
        is_part = by_value value refl
