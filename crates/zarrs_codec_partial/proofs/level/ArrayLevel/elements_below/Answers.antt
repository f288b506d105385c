use Rattle.std.proofs.Common.{◌∙◌, sym, ap, not, IsSome}
use Rattle.zarrs_codec_traits.specs.Prelude.{count_of, kind_of, fill_element, raw_of, options_of}
use Rattle.zarr_model.proofs.ElementLaws.{denoted}
use Rattle.zarrs_codec_traits.proofs.FaultLaws.{answers_no_fault, known_validity}
use Rattle.zarrs_codec_traits.proofs.FillLaws.{element_bytes}
use Rattle.zarrs_codec_traits.proofs.CountLaws.{lengths_some}
use Rattle.zarrs_codec_partial.specs.Above.{codec_seen}
use Rattle.zarrs_codec_partial.proofs.AboveLaws.{valid_fails_memory}
use Rattle.zarrs_codec_partial.proofs.StoreLaws.{filled_by, hands_filled, hands_given}
use Rattle.zarrs_codec_partial.proofs.level.ArrayLevel.elements_below.Goals as goal

pub returns-then-is_dropped-clause-hands : goal.returns-then-is_dropped-clause-hands
returns-then-is_dropped-clause-hands g c =
    let at = codec_seen g.C.ArrayCodecTraits g.C.ArrayToArrayCodecTraits c.args.self.now in
    let level = at.level in
    let fill = at.fill in
    let laws = g.met.C.ArrayToArrayCodecTraits in
    let codec = c.args.self.now.codec in
    let served = c.requires.all.served in
    let facts = (λ (some : IsSome (fill_element (kind_of level.data_type) fill)). let own =
    denoted (fill_element (kind_of level.data_type) fill) some in
    filled_by at.meaning at.fill_below level fill own (laws.denotes codec level fill served own) (laws.fills codec level
    fill served own (element_bytes (kind_of level.data_type) fill level.fill c.fill_is_bytes.ensures own))) in
    record {
      hands = hands_filled at.meaning at.fill_below level fill (options_of c.args.options.now) (raw_of c.args.bytes)
          c.filled_below.result facts
          (λ list filled means. sym (ap not c.if-is_dropped.true)
          ∙ c.is_dropped.ensures (count_of level.shape) list (lengths_some c.args.self.now.shape.items) means)
          c.filled_below.ensures.fills.value c.filled_below.ensures.fills.short;
      failed = λ some there. c.filled_below.ensures.fills.failed some;
    }

pub returns-clause-hands : goal.returns-clause-hands
returns-clause-hands g c =
    let at = codec_seen g.C.ArrayCodecTraits g.C.ArrayToArrayCodecTraits c.args.self.now in
    let level = at.level in
    let fill = at.fill in
    let laws = g.met.C.ArrayToArrayCodecTraits in
    let codec = c.args.self.now.codec in
    let served = c.requires.all.served in
    let facts = (λ (some : IsSome (fill_element (kind_of level.data_type) fill)). let own =
    denoted (fill_element (kind_of level.data_type) fill) some in
    filled_by at.meaning at.fill_below level fill own (laws.denotes codec level fill served own) (laws.fills codec level
    fill served own (element_bytes (kind_of level.data_type) fill level.fill c.fill_is_bytes.ensures own))) in
    let encoded = (rw c.deref.ensures.value at c.encode.ensures.at).served served in
    record {
      hands = hands_given at.meaning at.fill_below level fill (options_of c.args.options.now) (raw_of c.args.bytes)
          c.encode.result facts
          (λ list filled means. sym (ap not c.if-is_dropped.false)
          ∙ c.is_dropped.ensures (count_of level.shape) list (lengths_some c.args.self.now.shape.items) means)
          encoded.value c.encode.ensures.short;
      failed = λ some there. valid_fails_memory level (raw_of c.args.bytes) c.encode.result there
          encoded.exact;
    }

pub returns-clause-no_fault : goal.returns-clause-no_fault
returns-clause-no_fault g c =
    let level = (codec_seen g.C.ArrayCodecTraits g.C.ArrayToArrayCodecTraits c.args.self.now).level in
    answers_no_fault c.encode.result _ (known_validity (kind_of level.data_type) (count_of level.shape)
    (raw_of c.args.bytes)) ((rw c.deref.ensures.value at c.encode.ensures.at).served c.requires.all.served).exact
