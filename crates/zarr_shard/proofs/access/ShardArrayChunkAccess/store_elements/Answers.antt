use Rattle.std.proofs.Common.{◌≡◌, ◌∙◌, Some, List, subst}
use Rattle.zarrs_codec_traits.specs.Prelude.{count, kind, meaning, Element, raw_of, options_of, list_at}
use Rattle.zarrs_storage.specs.Store.{Puts}
use Rattle.zarr_array.specs.Fetch.{chunk_list}
use Rattle.zarr_array.proofs.ChunkLaws.{some_list}
use Rattle.zarr_shard_codec.specs.ShardCodec.{own_level}
use Rattle.zarr_shard.specs.Access.{shard_access}
use Rattle.zarr_shard.specs.ShardArray.{described_shards}
use Rattle.zarr_shard.proofs.DescribedLaws.{means_as}
use Rattle.zarr_shard.proofs.StoreLaws.{erased, was_set}
use Rattle.zarr_shard.proofs.access.ShardArrayChunkAccess.store_elements.Goals as goal

pub returns-then-is_left_out : goal.returns-then-is_left_out
returns-then-is_left_out g c =
    let array = c.args.self.now in
    let chunk = c.args.place.now.indices.items in
    let raw = raw_of c.args.elements in
    let list : List Element = chunk_list (shard_access array) chunk raw in
    let means : list_at (own_level array.codec) raw ≡ Some list = means_as array chunk c.requires.place.is_chunk raw
    ∙ some_list (meaning (kind (described_shards array)) (count ((described_shards array).grid.chunk_box chunk)) raw)
    c.requires.mean.means in
    erased array (options_of c.args.options.now) chunk c.requires.place.is_chunk list c.args.place.now.key
    (g.S.Store.shown c.args.store.now) (g.S.Store.shown c.erase.new.self)
    c.is_left_out.result (c.is_left_out.ensures list means) c.erase.result c.if-is_left_out.true c.erase.ensures.puts

pub returns-in-Ok : goal.returns-in-Ok
returns-in-Ok g c =
    let array = c.args.self.now in
    let chunk = c.args.place.now.indices.items in
    let raw = raw_of c.args.elements in
    let list : List Element = chunk_list (shard_access array) chunk raw in
    let means : list_at (own_level array.codec) raw ≡ Some list = means_as array chunk c.requires.place.is_chunk raw
    ∙ some_list (meaning (kind (described_shards array)) (count ((described_shards array).grid.chunk_box chunk)) raw)
    c.requires.mean.means in
    was_set array (options_of c.args.options.now) chunk c.requires.place.is_chunk list c.args.place.now.key
    (g.S.Store.shown c.args.store.now) (g.S.Store.shown c.set.new.self)
    c.is_left_out.result (c.is_left_out.ensures list means) c.in-Ok.value.items c.if-is_left_out.false
    (c.in-Ok.ensures list means).1 c.set.result
    (subst (λ v. Puts c.args.place.now.key (Some v) (g.S.Store.shown c.args.store.now) (g.S.Store.shown c.set.new.self)
    c.set.result) c.deref.ensures.value c.set.ensures)

pub only_memory-requires : goal.only_memory-requires
only_memory-requires g c =
    let array = c.args.self.now in
    let chunk = c.args.place.now.indices.items in
    let raw = raw_of c.args.elements in
    let list : List Element = chunk_list (shard_access array) chunk raw in
    let means : list_at (own_level array.codec) raw ≡ Some list = means_as array chunk c.requires.place.is_chunk raw
    ∙ some_list (meaning (kind (described_shards array)) (count ((described_shards array).grid.chunk_box chunk)) raw)
    c.requires.mean.means in
    c.in-Err.ensures list means
