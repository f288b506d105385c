use Rattle.std.proofs.Common.{◌∙◌, sym, ap, inl, inr, Some}
use Rattle.zarrs_codec_traits.specs.Prelude.{value_bytes, options_of}
use Rattle.zarrs_codec_partial_elements.proofs.ReadLaws.{value_read, absent_read, not_read, old_so, old_not}
use Rattle.zarrs_codec_partial_elements.proofs.ReadLaws.{old_unfilled}
use Rattle.zarrs_codec_partial_elements.proofs.level.BottomLevel.old_elements.Goals as goal

pub returns-in-Ok-Some : goal.returns-in-Ok-Some
returns-in-Ok-Some g c =
    let sound = g.met.H.BytesPartialDecoderTraits.sound c.args.handle.now in
    let is = c.in-Ok-Some.ensures.value ∙ ap (λ v. Some (value_bytes v)) c.in-Ok-Some.field-0-is in
    let decoded = c.decode-in-Ok-Some.ensures in
    old_so
    (value_read c.in-Ok-Some.value.items is c.in-Ok-Some.ensures.reads c.in-Ok-Some.ensures.kept.same
    c.in-Ok-Some.ensures.kept.tells g.met.C.ArrayToBytesCodecTraits.no_fault
    (rw c.deref.ensures.value at decoded.unserved) (rw c.deref.ensures.value at decoded.value) decoded.short)
    (inl (sym (sound.all_there (options_of c.args.options.now) (Some c.in-Ok-Some.value.items) is)))

pub returns-in-Ok : goal.returns-in-Ok
returns-in-Ok g c =
    let is = c.in-Ok-None.ensures.value ∙ ap (λ v. Some (value_bytes v)) c.in-Ok-None.field-0-is in
    old_so (absent_read (g.met.H.BytesPartialDecoderTraits.sound c.args.handle.now) is c.in-Ok-None.ensures.reads
    c.in-Ok-None.ensures.kept.same c.in-Ok-None.ensures.kept.tells c.fill_whole.ensures) (inr c.in-Ok.ensures.denotes)

pub returns-in-Err-expect_denoted : goal.returns-in-Err-expect_denoted
returns-in-Err-expect_denoted g c =
    let is = c.in-Ok-None.ensures.value ∙ ap (λ v. Some (value_bytes v)) c.in-Ok-None.field-0-is in
    let told = c.in-Err-expect_denoted.ensures in
    old_unfilled (g.met.H.BytesPartialDecoderTraits.sound c.args.handle.now) is told.refused told.told
    c.in-Ok-None.ensures.reads c.in-Ok-None.ensures.kept.same

pub returns-in-Err : goal.returns-in-Err
returns-in-Err g c = old_not (not_read c.in-Err.ensures.reads c.in-Err.ensures.kept.same c.in-Err.ensures.kept.tells
    g.met.H.BytesPartialDecoderTraits.no_fault c.in-Err.ensures.cause)
