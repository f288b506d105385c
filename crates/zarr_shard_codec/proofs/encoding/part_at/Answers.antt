use Rattle.std.proofs.Common.{ap}
use Rattle.zarrs_codec_traits.specs.Prelude.{kind_of, region as box_of, raw_of, kind_seen}
use Rattle.zarr_shard_codec.proofs.EncodeLaws.{part_given}
use Rattle.zarr_shard_codec.proofs.encoding.part_at.Goals as goal

pub returns-clause-value : goal.returns-clause-value
returns-clause-value c = λ list means.
    part_given c.args.codec.now c.args.number c.requires.below (kind_seen c.data_type.result.now) c.shape.result.now
    (box_of c.in_ok-subset.subset) (raw_of c.args.bytes.now) list c.extract_array_subset.result
    (ap kind_of c.data_type.ensures) c.shape.ensures c.in_ok-subset.ensures c.extract_array_subset.ensures.answer
    c.extract_array_subset.ensures.selected means
