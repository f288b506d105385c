use Rattle.std.proofs.Common.{rules}
use Rattle.zarrs_codec_traits.specs.Views.{lengths}
use Rattle.zarr_array_open.proofs.LimitLaws.{long_of_none, count_of_some, long_by_count, long_by_fill}
use Rattle.zarr_array_open.proofs.limits.has_long_chunk.Goals as goal

pub returns-then-not-has_chunks : goal.returns-then-not-has_chunks
returns-then-not-has_chunks c =
    long_of_none c.args.grid.now c.args.fill.now c.has_chunks.result c.has_chunks.ensures c.if-not-has_chunks.true

pub num_elements-requires : goal.num_elements-requires
num_elements-requires c =
    count_of_some c.args.grid.now c.args.fill.now (lengths c.largest_lengths.result.now) c.largest_lengths.ensures
    c.has_chunks.result c.has_chunks.ensures c.if-not-has_chunks.false c.requires

pub returns-then-num_elements-ge-LONG : goal.returns-then-num_elements-ge-LONG
returns-then-num_elements-ge-LONG c =
    long_by_count c.args.grid.now c.args.fill.now (lengths c.largest_lengths.result.now) c.largest_lengths.ensures
    c.has_chunks.result c.has_chunks.ensures c.num_elements.result c.num_elements.ensures c.if-not-has_chunks.false
    (search rules)

pub returns-else-num_elements-ge-LONG : goal.returns-else-num_elements-ge-LONG
returns-else-num_elements-ge-LONG c =
    long_by_fill c.args.grid.now c.args.fill.now (lengths c.largest_lengths.result.now) c.largest_lengths.ensures
    c.has_chunks.result c.has_chunks.ensures c.num_elements.result c.num_elements.ensures c.if-not-has_chunks.false
    (search rules)
