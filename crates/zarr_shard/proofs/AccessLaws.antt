-- What a call of the codec for a region of a chunk comes to.
use Rattle.std.proofs.Common.{◌≡◌, ℕ, ◌<◌, true, List, None, Result, Ok, Err, OnOk, MatchResult, sym, subst, subst₂}
use Rattle.zarrs_codec_traits.specs.Prelude.{Region, sizes, count, ends_within, IsChunk, Options, Shown, raw_of}
use Rattle.zarrs_codec_error.specs.declared.error.CodecError.{CodecError}
use Rattle.zarrs_codec_array_bytes.specs.declared.array_bytes.ArrayBytes as code
use Rattle.zarrs_codec.proofs.BoxLaws.{whole_inside}
use Rattle.zarr_chunks.specs.declared.fetched.Fetched.TheVariants as fetched
use Rattle.zarr_array.specs.Access.{by_part}
use Rattle.zarr_array.specs.Asked.{part_asked}
use Rattle.zarr_array.specs.Chunk.{chunk_kind}
use Rattle.zarr_array.specs.Fetch.{HasElements, HasRead, NotFetched}
use Rattle.zarr_array.specs.Pays.{PaysWhole, PaysBox}
use Rattle.zarr_array.specs.Shared.{IsPartOf}
use Rattle.zarr_array.proofs.CauseLaws.{not_fetched}
use Rattle.zarr_shard_codec.specs.ReadRegion.{HasRegion, NotRead, held_says}
use Rattle.zarr_shard_codec.specs.Region.{region_content, region_asks, region_taken}
use Rattle.zarr_shard.specs.Access.{shard_access, shard_cost}
use Rattle.zarr_shard.specs.ShardArray.{documented_shards, described_shards}
use Rattle.zarr_shard.specs.declared.array.ShardArray.{ShardArray}
use Rattle.zarr_shard.proofs.DescribedLaws.{dims, box_is}
use Rattle.zarr_shard.proofs.FetchLaws.{its_key, all, its_box, all_some, all_asked, has_read, pays, pays_all}
use Rattle.zarr_shard.proofs.FetchLaws.{has_elements, unfetched, is_part}

module _ (array : ShardArray) (options : Options) (chunk : List ℕ)
    (is_chunk : IsChunk (described_shards array).grid chunk) (before now : Shown) where
  abbrev Reads : Region → List ℕ → code.ArrayBytes → Type 0
  Reads region key bytes = HasRegion array.codec region (region_content array.codec options region (before.content key))
      (region_asks array.codec options region (before.content key))
      (region_taken array.codec options region (before.content key)) before now (raw_of bytes)

  abbrev Fails : Region → List ℕ → CodecError → Type 0
  Fails region key e = NotRead (region_content array.codec options region (before.content key))
      (held_says array.codec options region (before.content key)) before now e

  module _ (key : List ℕ) (is : key ≡ its_key array options chunk is_chunk) where
    -- a box of the chunk
    module _ (within : Region) (inside : ends_within within (sizes (its_box array options chunk is_chunk)) ≡
        true) (some : 0 < count within) where
      pub part_read : (bytes : code.ArrayBytes) → Reads within key bytes → now.puts ≡ before.puts →
          HasRead before now × IsPartOf (shard_access array) options chunk within before (fetched.Region bytes)
      part_read bytes has puts = let own : Reads within (its_key array options chunk is_chunk) bytes =
          subst (λ k. Reads within k bytes) is has in (
            has_read array options chunk is_chunk before now _ _ own.cost puts,
            is_part array options chunk is_chunk before now within inside some bytes _ _ own,
          )

      pub part_paid : (bytes : code.ArrayBytes) → Reads within key bytes → PaysBox
          (by_part (shard_cost (documented_shards array))) (described_shards array) options within chunk before now
      part_paid bytes has = let own : Reads within (its_key array options chunk is_chunk) bytes =
          subst (λ k. Reads within k bytes) is has in pays array options chunk is_chunk before now within some own.cost

      pub part_unread : (e : CodecError) → Fails within key e → now.puts ≡ before.puts →
          NotFetched (part_asked (its_box array options chunk is_chunk) within) (shard_access array) options chunk
          before now (chunk_kind key e)
      part_unread e failed puts =
          let own : Fails within (its_key array options chunk is_chunk) e = subst (λ k. Fails within k e) is failed in
          subst (λ k. NotFetched (part_asked (its_box array options chunk is_chunk) within) (shard_access array) options
          chunk before now (chunk_kind k e)) (sym is)
          (not_fetched (shard_access array) options chunk (part_asked (its_box array options chunk is_chunk) within)
          before now e (record { same = own.same; puts = puts; later = own.later }) tt
          (unfetched array options chunk is_chunk before now within inside some e own))

    -- all of it
    module _ (region : Region) (whole_is : region ≡ all array options chunk is_chunk)
        (r : Result code.ArrayBytes CodecError) where
      abbrev its_all : Region
      its_all = all array options chunk is_chunk

      all_inside : ends_within its_all (sizes (its_box array options chunk is_chunk)) ≡ true
      all_inside = subst (λ lengths. ends_within its_all lengths ≡ true) (sym (box_is array chunk is_chunk))
          (whole_inside (dims array))

      pub whole_read : MatchResult r (Reads region key) (Fails region key) → now.puts ≡ before.puts →
          MatchResult r (λ bytes. HasRead before now × HasElements (shard_access array) options chunk before
          (raw_of bytes)) (λ e. NotFetched None (shard_access array) options chunk before now (chunk_kind key e))
      whole_read read puts =
          go r (subst₂ (λ k (reg : Region). MatchResult r (Reads reg k) (Fails reg k)) is whole_is read)
        where
          go : (r : Result code.ArrayBytes CodecError) → MatchResult r (Reads its_all
              (its_key array options chunk is_chunk)) (Fails its_all (its_key array options chunk is_chunk)) →
              MatchResult r (λ bytes. HasRead before now × HasElements (shard_access array) options chunk before
              (raw_of bytes)) (λ e. NotFetched None (shard_access array) options chunk before now (chunk_kind key e))
          go (Ok bytes) own = (
            has_read array options chunk is_chunk before now _ _ own.cost puts,
            has_elements array options chunk is_chunk before now _ _ (raw_of bytes) own,
          )
          go (Err e) own = subst (λ asked. NotFetched asked (shard_access array) options chunk before now
              (chunk_kind key e)) (all_asked array options chunk is_chunk)
              (part_unread its_all all_inside (all_some array options chunk is_chunk) e
              (subst (λ k. Fails its_all k e) (sym is) own) puts)

      pub whole_paid : MatchResult r (Reads region key) (Fails region key) → OnOk r
          (PaysWhole (by_part (shard_cost (documented_shards array))) (described_shards array) options chunk before now)
      whole_paid read = go r (subst₂ (λ k (reg : Region). MatchResult r (Reads reg k) (Fails reg k)) is whole_is read)
        where
          go : (r : Result code.ArrayBytes CodecError) → MatchResult r (Reads its_all
              (its_key array options chunk is_chunk)) (Fails its_all (its_key array options chunk is_chunk)) →
              OnOk r (PaysWhole (by_part (shard_cost (documented_shards array))) (described_shards array) options chunk
              before now)
          go (Ok bytes) own = pays_all array options chunk is_chunk before now own.cost
          go (Err e) failed = tt
