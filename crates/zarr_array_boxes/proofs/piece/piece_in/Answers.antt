use Rattle.zarrs_array_subset.specs.ArraySubset.{region}
use Rattle.zarrs_codec_array_bytes.specs.Raw.{raw_of}
use Rattle.zarrs_codec_array_bytes.specs.Steps.{kind_seen}
use Rattle.zarr_array_boxes.proofs.MemoryLaws.{piece_memory}
use Rattle.zarr_array_boxes.proofs.piece.piece_in.Goals as goal

pub only_memory-requires : goal.only_memory-requires
only_memory-requires c =
    piece_memory (kind_seen c.args.data_type.now) (region c.args.part.now) (region c.args.subset.now)
    (region c.in_ok-at.at) c.shape.result.now (raw_of c.args.bytes.now) c.in-Err.error c.requires.inside
    c.in_ok-at.ensures c.shape.ensures.value c.requires.means c.in-Err.ensures.answer
