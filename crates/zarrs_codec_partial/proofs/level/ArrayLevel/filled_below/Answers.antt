use Rattle.std.proofs.Common.{true, false, refl}
use Rattle.std.proofs.lemmas.Bool.{ltb-true}
use Rattle.zarrs_codec_traits.specs.Prelude.{kind_of, fill_element, region as box_of, fill_bytes, type_of}
use Rattle.zarr_model.proofs.ElementLaws.{denoted}
use Rattle.zarrs_codec_partial.specs.Above.{codec_seen, level_below}
use Rattle.zarrs_codec_partial.proofs.FillLaws.{all_few, all_within, all_addressed, all_filled, all_short, all_failed}
use Rattle.zarrs_codec_partial.proofs.level.ArrayLevel.filled_below.Goals as goal

pub num_elements-number-requires : goal.num_elements-number-requires
num_elements-number-requires g c =
    let at = codec_seen g.C.ArrayCodecTraits g.C.ArrayToArrayCodecTraits c.args.self.now in
    let is = c.requires.all in
    all_within (level_below at) (box_of c.args.all.now) is.all
    (g.met.C.ArrayToArrayCodecTraits.keeps_fit c.args.self.now.codec at.level at.fill is.served is.fits)

pub new_fill_value-requires-clause-count : goal.new_fill_value-requires-clause-count
new_fill_value-requires-clause-count g c =
    let at = codec_seen g.C.ArrayCodecTraits g.C.ArrayToArrayCodecTraits c.args.self.now in
    let is = c.requires.all in
    rw c.num_elements-number.ensures (all_few (level_below at) (box_of c.args.all.now) is.all
    (g.met.C.ArrayToArrayCodecTraits.keeps_fit c.args.self.now.codec at.level at.fill is.served is.fits))

pub new_fill_value-requires-clause-bytes : goal.new_fill_value-requires-clause-bytes
new_fill_value-requires-clause-bytes g c =
    let at = codec_seen g.C.ArrayCodecTraits g.C.ArrayToArrayCodecTraits c.args.self.now in
    let is = c.requires.all in
    let same = c.in-Ok.ensures.value (g.met.C.ArrayCodecTraits.serves_parts c.args.self.now.codec at.level at.fill
    is.served false true false) at.level refl in
    rw c.num_elements-number.ensures
    (all_addressed (level_below at) (box_of c.args.all.now) is.all (type_of c.in-Ok.data_type) same
    (g.met.C.ArrayToArrayCodecTraits.keeps_fit c.args.self.now.codec at.level at.fill is.served is.fits))

pub returns-in-Ok-encoded_fill_value-clause-fills : goal.returns-in-Ok-encoded_fill_value-clause-fills
returns-in-Ok-encoded_fill_value-clause-fills g c =
    let at = codec_seen g.C.ArrayCodecTraits g.C.ArrayToArrayCodecTraits c.args.self.now in
    let level = at.level in
    let fill = at.fill in
    let below = level_below at in
    let laws = g.met.C.ArrayToArrayCodecTraits in
    let laws_all = g.met.C.ArrayCodecTraits in
    let codec = c.args.self.now.codec in
    let is = c.requires.all in
    let box = box_of c.args.all.now in
    let fill_under = at.fill_below level.data_type fill in
    let data_type = type_of c.in-Ok.data_type in
    let same = c.in-Ok.ensures.value (laws_all.serves_parts codec level fill is.served false true false) level refl in
    let made = fill_bytes c.in-Ok-encoded_fill_value.fill_value in
    let is_made =
    c.in-Ok-encoded_fill_value.ensures.value (laws_all.serves_parts codec level fill is.served false true true) in
    record {
      value = λ some.
          let denotes =
          laws.denotes codec level fill is.served (denoted (fill_element (kind_of level.data_type) fill) some) in
          all_filled below box is.all data_type same fill_under made (is_made some) c.new_fill_value.result denotes
          (λ e. (rw c.num_elements-number.ensures at c.new_fill_value.ensures.filled) below.fill e);
      short = λ some few.
          let own = denoted (fill_element (kind_of level.data_type) fill) some in
          c.new_fill_value.ensures.short (all_short below box is.all data_type same fill_under made (is_made some)
          (laws.keeps_short codec level fill is.served own (ltb-true _ _ few)));
      failed = λ some.
          let denotes =
          laws.denotes codec level fill is.served (denoted (fill_element (kind_of level.data_type) fill) some) in
          all_failed below box is.all data_type same fill_under made (is_made some) c.new_fill_value.result denotes
          c.new_fill_value.ensures.answer;
    }

pub returns-in-Ok-clause-fills : goal.returns-in-Ok-clause-fills
returns-in-Ok-clause-fills g c =
    let at = codec_seen g.C.ArrayCodecTraits g.C.ArrayToArrayCodecTraits c.args.self.now in
    let part = g.met.C.ArrayCodecTraits.serves_parts c.args.self.now.codec at.level at.fill c.requires.all.served false
    true true in
    record {
      value = λ some. tt;
      short = λ some few. tt;
      failed = λ some. c.in-Err-encoded_fill_value.ensures.value part some;
    }

pub returns-clause-fills : goal.returns-clause-fills
returns-clause-fills g c =
    let at = codec_seen g.C.ArrayCodecTraits g.C.ArrayToArrayCodecTraits c.args.self.now in
    let part = g.met.C.ArrayCodecTraits.serves_parts c.args.self.now.codec at.level at.fill c.requires.all.served false
    true false in
    record { value = λ some. tt; short = λ some few. tt; failed = λ some. c.in-Err.ensures.value part }
