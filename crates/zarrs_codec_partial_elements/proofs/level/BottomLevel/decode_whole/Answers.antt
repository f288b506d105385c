use Rattle.std.proofs.Common.{◌∙◌, ap, Some}
use Rattle.zarrs_storage.specs.Store.{value_bytes}
use Rattle.zarrs_codec_partial_elements.proofs.ReadLaws.{value_read, absent_read, not_read}
use Rattle.zarrs_codec_partial_elements.proofs.level.BottomLevel.decode_whole.Goals as goal

pub returns-in-Ok-Some : goal.returns-in-Ok-Some
returns-in-Ok-Some g c =
    let is = c.in-Ok-Some.ensures.value ∙ ap (λ v. Some (value_bytes v)) c.in-Ok-Some.field-0-is in
    let decoded = c.decode-in-Ok-Some.ensures in
    value_read c.in-Ok-Some.value.items is c.in-Ok-Some.ensures.reads c.in-Ok-Some.ensures.kept.same
    c.in-Ok-Some.ensures.kept.tells g.met.C.ArrayToBytesCodecTraits.no_fault
    (rw c.deref.ensures.value at decoded.unserved) (rw c.deref.ensures.value at decoded.value) decoded.short

pub returns-in-Ok-None : goal.returns-in-Ok-None
returns-in-Ok-None g c =
    let is = c.in-Ok-None.ensures.value ∙ ap (λ v. Some (value_bytes v)) c.in-Ok-None.field-0-is in
    absent_read (g.met.H.BytesPartialDecoderTraits.sound c.args.handle.now) is c.in-Ok-None.ensures.reads
    c.in-Ok-None.ensures.kept.same c.in-Ok-None.ensures.kept.tells c.fill_whole.ensures

pub returns-in-Err : goal.returns-in-Err
returns-in-Err g c = not_read c.in-Err.ensures.reads c.in-Err.ensures.kept.same c.in-Err.ensures.kept.tells
    g.met.H.BytesPartialDecoderTraits.no_fault c.in-Err.ensures.cause
