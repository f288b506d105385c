use Rattle.std.proofs.Common.{[], rules}
use Rattle.zarrs_codec_traits.specs.Prelude.{count_of, kind_of, raw_of, level_of, options_of, list_at}
use Rattle.zarrs_codec_traits.proofs.IntoLaws.{put_answers, decodes_into, held_after, put_after}
use Rattle.zarrs_codec_traits.proofs.decoding.decode_into_fixed.Goals as goal

pub returns-clause-at : goal.returns-clause-at
returns-clause-at g c =
    let level = level_of c.args.shape.now c.args.data_type.now c.args.fill_value.now in
    let under = options_of c.args.options.now in
    let kind = kind_of level.data_type in
    let number = count_of level.shape in
    let given = raw_of c.in_ok-decoded.decoded in
    let wanted = g.C.ArrayToBytesCodecTraits.meaning c.args.codec.now under level c.args.bytes.items in
    let says = g.C.ArrayToBytesCodecTraits.says c.args.codec.now under level c.args.bytes.items in
    let from = c.args.view.now in
    let to = c.put_fixed.new.data in
    let put = c.put_fixed in
    record {
      unserved = search rules;
      served = λ served. (
        record {
          counted = search rules;
          exact = λ same. decodes_into wanted (list_at level given) says _ put.result
              (c.in_ok-decoded.ensures.value served)
              (λ xs means. put_answers kind number given [] from xs put.result put.ensures.exact means);
        },
        record {
          put = λ target. held_after kind number given [] [] from to wanted put.result target
              (c.in_ok-decoded.ensures.value served) put.ensures.put;
          written = put_after kind number given [] [] from to wanted put.result
              (c.in_ok-decoded.ensures.value served) put.ensures.put;
        },
      );
    }
