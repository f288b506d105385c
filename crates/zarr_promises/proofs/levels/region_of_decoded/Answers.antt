use Rattle.zarrs_codec_traits.specs.Prelude.{count_of, sizes, kind_of, region as box_of, raw_of, level_of, select}
use Rattle.zarr_promises.proofs.LevelLaws.{valid_fine, only_memory}
use Rattle.zarr_promises.proofs.levels.region_of_decoded.Goals as goal

pub returns : goal.returns
returns g c = λ list xs served long whole chosen.
    let level = level_of c.args.shape.now c.args.data_type.now c.args.fill_value.now in
    let below = (g.C.ArrayToArrayCodecTraits.meaning c.args.codec.now).level_below level in
    let inner = g.C.ArrayToArrayCodecTraits.region_below c.args.codec.now level.shape (box_of c.args.region.now) in
    let decoded = c.decode_region.ensures.at.served served in
    only_memory c.decode_region.result _ _
    (valid_fine (kind_of below.data_type) (count_of (sizes inner)) (raw_of c.args.bytes) (select below.shape inner list)
    chosen)
    decoded.exact (decoded.value list xs long whole chosen)
