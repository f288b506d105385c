use Rattle.std.proofs.Common.{rules}
use Rattle.zarr_model.specs.Codec.{vlen_codec, decode_array_to_bytes}
use Rattle.zarrs_codec_traits.specs.Prelude.{level_of, options_of, parts_of, region as box_of}
use Rattle.zarrs_codec_traits.proofs.TakenLaws.{whole_taken}
use Rattle.zarr_codecs_to_bytes.proofs.vlen_codec.VlenCodecArrayToBytesCodecTraits.decode_parts.Goals as goal

pub returns-clause-at : goal.returns-clause-at
returns-clause-at c =
    let level = level_of c.args.shape.now c.args.data_type.now c.args.fill_value.now in
    record {
      unserved = search rules;
      served = λ served. whole_taken (decode_array_to_bytes (options_of c.args.options.now) vlen_codec level) _ level
          (box_of c.args.region.now) c.only_part-value.result.items (parts_of c.args.parts) _ c.extracted.result
          c.only_part-value.ensures (c.in_ok-whole.ensures.value served) c.extracted.ensures.value;
    }
