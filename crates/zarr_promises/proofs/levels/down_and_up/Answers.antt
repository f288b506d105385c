use Rattle.zarrs_codec_traits.specs.Prelude.{count_of, kind_of, raw_of, level_of, list_at}
use Rattle.zarr_promises.proofs.LevelLaws.{fine_valid, down_up}
use Rattle.zarr_promises.proofs.levels.down_and_up.Goals as goal

pub returns : goal.returns
returns g c = λ served.
    let level = level_of c.args.shape.now c.args.data_type.now c.args.fill_value.now in
    let meaning = g.C.ArrayToArrayCodecTraits.meaning c.args.codec.now in
    down_up (list_at level (raw_of c.args.bytes)) (list_at (meaning.level_below level) (raw_of c.in_ok-below.below))
    (list_at level (raw_of c.in_ok-back.back)) (meaning.decode_list level)
    (c.in_ok-below.ensures.at.served served).value
    (fine_valid (kind_of level.data_type) (count_of level.shape) (raw_of c.args.bytes)
    (c.in_ok-below.ensures.at.served served).exact)
    (c.in_ok-back.ensures.at.served served).value
