use Rattle.std.proofs.Common.{sym, subst, Option, Vec, ℕ, Global}
use Rattle.zarrs_codec_traits.specs.Prelude.{part_bytes, parts_of, region as box_of, options_of, GivesParts}
use Rattle.zarrs_codec_partial_elements.specs.Level.{level_of_bottom, bottom_fill, request_of}
use Rattle.zarrs_codec_partial_elements.proofs.HeldLaws.{asked_answer}
use Rattle.zarrs_codec_partial_elements.proofs.ReadLaws.{asked_so, box_parts_read, absent_parts_read, parts_not_read}
use Rattle.zarrs_codec_partial_elements.proofs.level.BottomLevel.decode_box_of_parts.Goals as goal

pub decode_parts-requires-clause-answered : goal.decode_parts-requires-clause-answered
decode_parts-requires-clause-answered g c =
    let level = level_of_bottom c.args.self.now in
    let below = g.H.BytesPartialDecoderTraits.seen c.args.handle.now in
    let under = options_of c.args.options.now in
    let given = subst (λ (o : Option (Vec (Vec ℕ Global) Global)). GivesParts below.there (below.part under)
    c.args.ranges.now (part_bytes o)) c.in-Ok-Some.field-0-is c.in-Ok-Some.ensures.value in
    rw c.deref.ensures.value (asked_answer (below.part under)
    (g.C.ArrayToBytesCodecTraits.request c.args.self.now.codec level.shape level.data_type (box_of c.args.region.now))
    c.args.ranges.now (parts_of c.in-Ok-Some.parts) c.requires.asked given.1)

pub returns-in-Ok-Some : goal.returns-in-Ok-Some
returns-in-Ok-Some g c =
    let below = g.H.BytesPartialDecoderTraits.seen c.args.handle.now in
    let request = request_of g.C.ArrayToBytesCodecTraits.request c.args.self.now (box_of c.args.region.now) in
    let given = subst (λ (o : Option (Vec (Vec ℕ Global) Global)).
    GivesParts below.there (below.part (options_of c.args.options.now)) c.args.ranges.now (part_bytes o))
    c.in-Ok-Some.field-0-is c.in-Ok-Some.ensures.value in
    let decoded = c.decode_parts.ensures in
    asked_so (sym c.requires.asked)
    (box_parts_read (box_of c.args.region.now) request (parts_of c.in-Ok-Some.parts) c.requires.asked
    (g.met.H.BytesPartialDecoderTraits.sound c.args.handle.now) given c.in-Ok-Some.ensures.reads
    c.in-Ok-Some.ensures.kept.same c.in-Ok-Some.ensures.kept.tells (rw c.deref.ensures.value at decoded.at).served
    decoded.short decoded.no_fault)

pub returns-in-Ok-None : goal.returns-in-Ok-None
returns-in-Ok-None g c =
    let below = g.H.BytesPartialDecoderTraits.seen c.args.handle.now in
    let given = subst (λ (o : Option (Vec (Vec ℕ Global) Global)).
    GivesParts below.there (below.part (options_of c.args.options.now)) c.args.ranges.now (part_bytes o))
    c.in-Ok-None.field-0-is c.in-Ok-None.ensures.value in
    asked_so (sym c.requires.asked)
    (absent_parts_read (g.met.H.BytesPartialDecoderTraits.sound c.args.handle.now) given c.in-Ok-None.ensures.reads
    c.in-Ok-None.ensures.kept.same c.in-Ok-None.ensures.kept.tells c.fill_box.ensures)

pub returns-in-Err : goal.returns-in-Err
returns-in-Err g c =
    let level = level_of_bottom c.args.self.now in
    let asks = g.met.C.ArrayToBytesCodecTraits.asks c.args.self.now.codec (options_of c.args.options.now) level
    (box_of c.args.region.now) (bottom_fill c.args.self.now) in
    asked_so (sym c.requires.asked)
    (parts_not_read (g.met.H.BytesPartialDecoderTraits.sound c.args.handle.now)
    (λ served value invalid. asks value c.args.ranges.now served c.requires.inside c.requires.asked invalid)
    c.in-Err.ensures.reads c.in-Err.ensures.kept.same c.in-Err.ensures.kept.tells
    g.met.H.BytesPartialDecoderTraits.no_fault c.in-Err.ensures.cause)
