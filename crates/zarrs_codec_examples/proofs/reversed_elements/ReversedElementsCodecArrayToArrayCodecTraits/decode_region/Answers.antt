use Rattle.std.proofs.Common.{rules}
use Rattle.zarrs_codec_traits.specs.Prelude.{count, meaning, region as box_of, raw_of, kind_seen, lengths}
use Rattle.zarrs_codec_examples.proofs.MirrorLaws.{part_gives, whole_answers}
use Rattle.zarrs_codec_examples.proofs.reversed_elements.ReversedElementsCodecArrayToArrayCodecTraits.decode_region.Goals as goal

pub returns-clause-at : goal.returns-clause-at
returns-clause-at c =
    let kind = kind_seen c.args.data_type.now in
    let box = box_of c.args.region.now in
    let shape = lengths c.args.shape.now in
    let turned = c.turned_region in
    record {
      unserved = search rules;
      served = λ served. record {
        exact = whole_answers kind shape (raw_of c.args.bytes) turned.result turned.ensures.exact;
        value = λ list xs long is given. part_gives kind shape box (raw_of c.args.bytes) turned.result
            (λ v. meaning kind (count box) (raw_of v)) list xs turned.ensures.value long is given;
        valid = search rules;
      };
    }
