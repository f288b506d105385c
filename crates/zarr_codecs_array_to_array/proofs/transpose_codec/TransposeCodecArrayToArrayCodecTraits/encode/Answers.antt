use Rattle.std.proofs.Common.{rules}
use Rattle.zarrs_codec_traits.specs.Prelude.{raw_of, kind_seen, level_of}
use Rattle.zarr_codecs_array_to_array.specs.OrderOf.{order_of}
use Rattle.zarr_codecs_array_to_array.proofs.CodecLaws.{encode_list_gives}
use Rattle.zarr_codecs_array_to_array.proofs.transpose_codec.TransposeCodecArrayToArrayCodecTraits.encode.Goals as goal

pub returns-clause-at : goal.returns-clause-at
returns-clause-at c =
    let level = level_of c.args.shape.now c.args.data_type.now c.args._fill_value.now in
    record {
      unserved = search rules;
      served = λ served. record {
        exact = search rules;
        value = encode_list_gives raw_of (kind_seen c.args.data_type.now) (order_of c.args.self.now)
            c.deref-2.result.now level _ c.encoded.result c.deref-2.ensures.value c.encoded.ensures.value;
      };
    }
