use Rattle.std.proofs.Common.{length}
use Rattle.zarrs_codec_traits.specs.Prelude.{raw_of, kind_seen}
use Rattle.zarr_rechunk.proofs.ClearLaws.{masks_fit, clears}
use Rattle.zarr_rechunk.proofs.clear.clear_nulls.Goals as goal

pub clear_levels-requires : goal.clear_levels-requires
clear_levels-requires c = masks_fit (kind_seen c.args.data_type.now) c.element_size.result (raw_of c.args.bytes.now)
    c.requires c.element_size.ensures

pub returns : goal.returns
returns c = λ list e.
    clears raw_of (kind_seen c.args.data_type.now) c.element_size.result (length list) (raw_of c.args.bytes.now) list
    c.clear_levels.result c.element_size.ensures c.clear_levels.ensures e
