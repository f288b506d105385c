use Rattle.std.proofs.Common.{rules}
use Rattle.zarrs_codec_traits.specs.Prelude.{region as box_of, parts_of, lengths, level_of}
use Rattle.zarrs_codec_examples.proofs.SingleLaws.{parts_lengths, parts_valid, parts_value, parts_cause, parts_no_fault}
use Rattle.zarrs_codec_examples.proofs.single_bytes.SingleBytesCodecArrayToBytesCodecTraits.decode_parts.Goals as goal

pub returns-in-Ok-clause-at : goal.returns-in-Ok-clause-at
returns-in-Ok-clause-at c =
    let level = level_of c.args._shape.now c.args.data_type.now c.args._fill_value.now in
    let box = box_of c.args._region.now in
    let parts = parts_of c.args.parts in
    let made = c.joined_elements in
    record {
      unserved = search rules;
      served = λ served. record {
        lengths = parts_lengths parts made.result level.shape box made.ensures.exact c.requires.answered;
        value = λ value xs are means. parts_value parts made.result level box value xs served c.requires.inside
            made.ensures.value made.ensures.exact are means;
        cause = λ value are good. parts_cause parts made.result level.shape box _ _ made.ensures.exact
            c.requires.answered good;
        valid = parts_valid parts made.result level box served made.ensures.value c.requires.answered;
        decodes = search rules;
      };
    }

pub returns-in-Ok-clause-no_fault : goal.returns-in-Ok-clause-no_fault
returns-in-Ok-clause-no_fault c =
    parts_no_fault (parts_of c.args.parts) c.joined_elements.result c.joined_elements.ensures.exact
