use Rattle.std.proofs.Common.{◌∙◌, sym, ap, Some}
use Rattle.zarrs_codec_traits.specs.Prelude.{value_bytes, parts_of, region as box_of}
use Rattle.zarrs_codec_partial_elements.specs.Level.{request_of}
use Rattle.zarrs_codec_partial_elements.proofs.ReadLaws.{asked_so, box_value_read, absent_read, not_read}
use Rattle.zarrs_codec_partial_elements.proofs.level.BottomLevel.decode_box_of_value.Goals as goal

pub returns-in-Ok : goal.returns-in-Ok
returns-in-Ok g c =
    let request = request_of g.C.ArrayToBytesCodecTraits.request c.args.self.now (box_of c.args.region.now) in
    let is = c.in-Ok-Some.ensures.value ∙ ap (λ v. Some (value_bytes v)) c.in-Ok-Some.field-0-is in
    let decoded = c.decode_parts.ensures in
    asked_so (sym c.requires.whole) (box_value_read (box_of c.args.region.now) c.in-Ok-Some.value.items request
    (parts_of c.in-Ok.parts) c.requires.whole c.in-Ok.ensures is c.in-Ok-Some.ensures.reads
    c.in-Ok-Some.ensures.kept.same c.in-Ok-Some.ensures.kept.tells (rw c.deref.ensures.value at decoded.at).served
    decoded.short decoded.no_fault)

pub returns-in-Ok-None : goal.returns-in-Ok-None
returns-in-Ok-None g c =
    let is = c.in-Ok-None.ensures.value ∙ ap (λ v. Some (value_bytes v)) c.in-Ok-None.field-0-is in
    asked_so (sym c.requires.whole)
    (absent_read (g.met.H.BytesPartialDecoderTraits.sound c.args.handle.now) is c.in-Ok-None.ensures.reads
    c.in-Ok-None.ensures.kept.same c.in-Ok-None.ensures.kept.tells c.fill_box.ensures)

pub returns-in-Err : goal.returns-in-Err
returns-in-Err g c = asked_so (sym c.requires.whole) (not_read c.in-Err.ensures.reads c.in-Err.ensures.kept.same
    c.in-Err.ensures.kept.tells g.met.H.BytesPartialDecoderTraits.no_fault c.in-Err.ensures.cause)
