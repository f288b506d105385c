use Rattle.std.proofs.Common.{◌≡◌, length, ap, ◌∙◌}
use Rattle.zarrs_codec_traits.specs.Prelude.{Region, overlap_of, region, raw_of}
use Rattle.zarr_array_boxes.specs.BoxElements.{kind_held, box_held, list_held}
use Rattle.zarr_array.specs.Access.{described}
use Rattle.zarr_array.proofs.ChunkLaws.{on_ok}
use Rattle.zarr_array.proofs.SharedSteps.{its_rank_too, its_counts, its_means, its_copy}
use Rattle.zarr_array.proofs.region_chunks.RegionChunks.put_part.Goals as goal

-- the part by the name of the chunk's box
part_in : (over own box part : Region) → own ≡ box → part ≡ overlap_of over own → part ≡ overlap_of over box
part_in over own box part own_is is = is ∙ ap (overlap_of over) own_is

pub put-requires-clause-rank : goal.put-requires-clause-rank
put-requires-clause-rank g c =
    let met = c.args.self.now in
    let array = g.C.ChunkAccess.seen met.array.now in
    let served = g.met.C.ChunkAccess.served met.array.now in
    let chunk = c.args.place.now.indices.items in
    let part = region c.args.part.now in
    let is = part_in (region met.subset.now) (region c.args.place.now.subset)
    ((described array).grid.chunk_box chunk) part c.requires.place.at.lies c.requires.part in
    ap length c.requires.holds.over
    ∙ its_rank_too array served (region met.subset.now) chunk c.requires.place.at.is_chunk c.requires.place.rank
    c.requires.place.shares part is

pub put-requires-clause-means : goal.put-requires-clause-means
put-requires-clause-means g c =
    let met = c.args.self.now in
    let array = g.C.ChunkAccess.seen met.array.now in
    let served = g.met.C.ChunkAccess.served met.array.now in
    let chunk = c.args.place.now.indices.items in
    let part = region c.args.part.now in
    let is = part_in (region met.subset.now) (region c.args.place.now.subset)
    ((described array).grid.chunk_box chunk) part c.requires.place.at.lies c.requires.part in
    let list = c.requires.held.0 in
    let gives = c.requires.held.1.gives in
    its_means array served (region met.subset.now) chunk c.requires.place.at.is_chunk c.requires.place.rank
    c.requires.place.shares part is (raw_of c.args.bytes.now) list gives
    (kind_held c.args.elements.now) c.requires.holds.of_kind

pub put-requires-clause-count : goal.put-requires-clause-count
put-requires-clause-count g c =
    let met = c.args.self.now in
    let array = g.C.ChunkAccess.seen met.array.now in
    let served = g.met.C.ChunkAccess.served met.array.now in
    let chunk = c.args.place.now.indices.items in
    let part = region c.args.part.now in
    let is = part_in (region met.subset.now) (region c.args.place.now.subset)
    ((described array).grid.chunk_box chunk) part c.requires.place.at.lies c.requires.part in
    (its_counts array served (region met.subset.now) chunk c.requires.place.at.is_chunk c.requires.place.rank
    c.requires.place.shares part is (kind_held c.args.elements.now) c.requires.holds.of_kind).0

pub put-requires-clause-bytes : goal.put-requires-clause-bytes
put-requires-clause-bytes g c =
    let met = c.args.self.now in
    let array = g.C.ChunkAccess.seen met.array.now in
    let served = g.met.C.ChunkAccess.served met.array.now in
    let chunk = c.args.place.now.indices.items in
    let part = region c.args.part.now in
    let is = part_in (region met.subset.now) (region c.args.place.now.subset)
    ((described array).grid.chunk_box chunk) part c.requires.place.at.lies c.requires.part in
    (its_counts array served (region met.subset.now) chunk c.requires.place.at.is_chunk c.requires.place.rank
    c.requires.place.shares part is (kind_held c.args.elements.now) c.requires.holds.of_kind).1

pub returns-clause-copied : goal.returns-clause-copied
returns-clause-copied g c = λ list held.
    let met = c.args.self.now in
    let array = g.C.ChunkAccess.seen met.array.now in
    let served = g.met.C.ChunkAccess.served met.array.now in
    let chunk = c.args.place.now.indices.items in
    let part = region c.args.part.now in
    let is = part_in (region met.subset.now) (region c.args.place.now.subset)
    ((described array).grid.chunk_box chunk) part c.requires.place.at.lies c.requires.part in
    let gives = held.gives in
    on_ok c.put.result
    (its_copy array served (region met.subset.now) chunk c.requires.place.at.is_chunk c.requires.place.rank
    c.requires.place.shares part is (raw_of c.args.bytes.now) list gives
    (kind_held c.args.elements.now) (box_held c.args.elements.now) (list_held c.args.elements.now)
    (list_held c.put.new.self) c.requires.holds.of_kind c.requires.holds.over held.as_long)
    c.put.ensures.copied
