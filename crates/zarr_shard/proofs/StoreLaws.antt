-- What storing a chunk of a sharded array leaves.
use Rattle.std.proofs.Common.{◌≡◌, ◌⊎◌, inl, inr, ⊎_elim, ℕ, Bool, true, false, List, Some, None, Result, Ok, Err, OnOk}
use Rattle.std.proofs.Common.{OnErr, sym, subst, ◌∙◌}
use Rattle.zarr_model.specs.Prelude.{Element, IsChunk, Options, Content, Shown, counted, PutsKey, MayPutKey}
use Rattle.zarrs_storage.specs.Store.{Puts}
use Rattle.zarrs_storage.specs.declared.store.StorageError.{StorageError}
use Rattle.zarr_chunks.specs.Put.{Decoding, IsPutValue, PutsChunk, MayPutChunk}
use Rattle.zarr_chunks.specs.Seen.{PutsOnce}
use Rattle.zarr_chunks.proofs.PutLaws.{set_puts, set_may_put}
use Rattle.zarr_array.specs.Chunk.{is_dropped, decode_at}
use Rattle.zarr_array.specs.Store.{StoresElements}
use Rattle.zarr_shard_codec.specs.ShardCodec.{own_list}
use Rattle.zarr_shard.specs.Access.{shard_access}
use Rattle.zarr_shard.specs.ShardArray.{described_shards}
use Rattle.zarr_shard.specs.declared.array.ShardArray.{ShardArray}
use Rattle.zarr_shard.proofs.DescribedLaws.{decodes_as}

-- one call was made
once : {T : Type 0} (before now : ℕ) (r : Result T StorageError) → now ≡ counted before 1 → PutsOnce before now r
once before now (Ok v) is = is
once before now (Err e) is = inr is

-- a chunk that is left out was put where its key was erased
module _ (decode : Decoding) (drops : Bool) (list : List Element)
    (dropped : drops ≡ true) (old new : Content) (key : List ℕ) where
  gone : new key ≡ None → IsPutValue decode drops list (new key)
  gone is = subst (λ d. IsPutValue decode d list (new key)) (sym dropped) is

  erase_puts : {T : Type 0} (r : Result T StorageError) → OnOk r (PutsKey old new key None) →
      OnOk r (PutsChunk decode drops list old new key)
  erase_puts (Ok v) puts = record { here = gone puts.here; others = puts.others }
  erase_puts (Err e) puts = tt

  erase_may_put : {T : Type 0} (r : Result T StorageError) → OnErr r (MayPutKey old new key None) →
      OnErr r (MayPutChunk decode drops list old new key)
  erase_may_put (Ok v) puts = tt
  erase_may_put (Err e) puts = record {
    here = ⊎_elim
        (λ (same : new key ≡ old key). inl same)
        (λ (either : (new key ≡ None) ⊎ (new key ≡ None)).
        ⊎_elim (λ (is : new key ≡ None). inr (inr is)) (λ (is : new key ≡ None). inr (inr is)) either)
        puts.here;
    others = puts.others;
  }

module _ (array : ShardArray) (options : Options) (chunk : List ℕ)
    (is_chunk : IsChunk (described_shards array).grid chunk) (list : List Element) (key : List ℕ) (before now : Shown)
    (left_out : Bool) (tells : left_out ≡ is_dropped (described_shards array) options list) where
  abbrev decode : Decoding
  decode = decode_at (described_shards array) chunk

  abbrev drops : Bool
  drops = is_dropped (described_shards array) options list

  pub erased : {T : Type 0} (r : Result T StorageError) → left_out ≡ true → Puts key None before now r →
      StoresElements (shard_access array) options chunk list key before now r
  erased r out puts = record {
    ok = erase_puts decode drops list (sym tells ∙ out) before.content now.content key r puts.ok;
    failed = erase_may_put decode drops list (sym tells ∙ out) before.content now.content key r puts.failed;
    memory = puts.memory;
    puts = once before.puts now.puts r puts.puts;
    asks = puts.asks;
    taken = puts.taken;
    plain = puts.plain;
    cause = puts.cause;
  }

  module _ (value : List ℕ)
      (kept : left_out ≡ false) (means : (under : Options) → own_list array.codec under value ≡ Some list) where
    decodes : (under : Options) → decode under value ≡ Some list
    decodes under = decodes_as array chunk is_chunk under value ∙ means under

    pub was_set : {T : Type 0} (r : Result T StorageError) → Puts key (Some value) before now r →
        StoresElements (shard_access array) options chunk list key before now r
    was_set r puts = record {
      ok = set_puts decode left_out drops list value tells kept decodes before.content now.content key r puts.ok;
      failed =
          set_may_put decode left_out drops list value tells kept decodes before.content now.content key r puts.failed;
      memory = puts.memory;
      puts = once before.puts now.puts r puts.puts;
      asks = puts.asks;
      taken = puts.taken;
      plain = puts.plain;
      cause = puts.cause;
    }
