use Rattle.std.proofs.Common.{sym, ◌∙◌}
use Rattle.zarrs_array_subset.specs.ArraySubset.{region}
use Rattle.zarrs_codec_array_bytes.specs.Raw.{raw_of}
use Rattle.zarrs_codec_array_bytes.specs.Steps.{kind_seen}
use Rattle.zarr_array_boxes.proofs.MemoryLaws.{part_first, part_second, none_puts, put_memory}
use Rattle.zarr_array_boxes.proofs.PutLaws.{updated_puts}
use Rattle.zarr_array_boxes.proofs.overlap.put_listed.Goals as goal

pub returns-then-is_empty-clause-puts : goal.returns-then-is_empty-clause-puts
returns-then-is_empty-clause-puts c =
    none_puts (kind_seen c.args.data_type.now) (region c.args.chunk_subset.now) (region c.args.subset.now)
    (region c.in_ok-part.part) (raw_of c.args.bytes.now) (raw_of c.args.chunk) c.requires.rank c.in_ok-part.ensures
    (sym c.is_empty.ensures ∙ c.if-is_empty.true) c.requires.bytes.means c.requires.chunk.means

pub piece_in-requires-clause-inside : goal.piece_in-requires-clause-inside
piece_in-requires-clause-inside c =
    part_second (region c.args.chunk_subset.now) (region c.args.subset.now) (region c.in_ok-part.part)
    c.in_ok-part.ensures c.requires.rank (sym c.is_empty.ensures ∙ c.if-is_empty.false)

pub part_in-requires : goal.part_in-requires
part_in-requires c =
    part_first (region c.args.chunk_subset.now) (region c.args.subset.now) (region c.in_ok-part.part)
    c.in_ok-part.ensures c.requires.rank (sym c.is_empty.ensures ∙ c.if-is_empty.false)

pub only_memory-requires : goal.only_memory-requires
only_memory-requires c =
    put_memory (kind_seen c.args.data_type.now) (region c.args.chunk_subset.now) (region c.args.subset.now)
    (region c.in_ok-part.part) (region c.in_ok-at.at) c.shape.result.now _ (raw_of c.args.bytes.now)
    (raw_of c.args.chunk) (raw_of c.in_ok-piece.piece) c.in-Err.error c.requires.rank c.requires.bytes.means
    c.requires.chunk.means c.in_ok-part.ensures (sym c.is_empty.ensures ∙ c.if-is_empty.false) c.in_ok-at.ensures
    c.shape.ensures.value c.in_ok-piece.ensures.selected c.type_size-size.ensures c.in-Err.ensures.answer

pub returns-in-Ok-clause-puts : goal.returns-in-Ok-clause-puts
returns-in-Ok-clause-puts c =
    updated_puts (kind_seen c.args.data_type.now) (region c.args.chunk_subset.now) (region c.args.subset.now)
    (region c.in_ok-part.part) (region c.in_ok-at.at) c.shape.result.now
    (raw_of c.args.bytes.now) (raw_of c.args.chunk) (raw_of c.in_ok-piece.piece) (raw_of c.in-Ok.bytes)
    c.requires.rank c.requires.bytes.means c.requires.chunk.means c.in_ok-part.ensures c.in_ok-at.ensures
    c.shape.ensures.value
    c.in_ok-piece.ensures.selected (λ xs ys was is.
    c.in-Ok.ensures.updated (kind_seen c.args.data_type.now) xs ys (sym c.type_size-size.ensures) was is)
