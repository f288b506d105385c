use Rattle.zarrs_codec_traits.specs.Prelude.{count_of, kind_of, level_of, options_of}
use Rattle.zarr_promises.proofs.TargetLaws.{keeps}
use Rattle.zarr_promises.proofs.targets.value_into_view.Goals as goal

pub returns : goal.returns
returns g c = λ served.
    let level = level_of c.args.shape.now c.args.data_type.now c.args.fill_value.now in
    keeps (kind_of level.data_type) (count_of level.shape)
    (g.C.ArrayToBytesCodecTraits.meaning c.args.codec.now (options_of c.args.options.now) level c.args.bytes.items)
    _ _ c.decode_into.result ((c.decode_into.ensures.at.served served).1.written)
