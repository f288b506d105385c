use Rattle.std.proofs.Common.{◌∙◌, refl}
use Rattle.std.proofs.lemmas.Result.{IfErr-weaker}
use Rattle.zarrs_codec_traits.specs.Views.{options_of}
use Rattle.zarrs_codec_traits.proofs.IntervalLaws.{interval_told, interval_refused, first_refused, first_passed}
use Rattle.zarrs_codec_traits.proofs.IntervalLaws.{shift_told}
use Rattle.zarrs_codec.proofs.byte_interval_partial_decoder.ByteIntervalPartialDecoderBytesPartialDecoderTraits.partial_decode_many.Goals as goal

pub returns-in-Ok-clause-cause : goal.returns-in-Ok-clause-cause
returns-in-Ok-clause-cause g c =
    let under = options_of c.args.options.now in
    let part = (g.H.BytesPartialDecoderTraits.seen c.args.self.now.handle).part under in
    let tells = g.H.BytesPartialDecoderTraits.tells c.args.self.now.handle under in
    let cause = rw (c.deref.ensures.value, c.in-Ok.ensures.value) at c.partial_decode_many.ensures.cause in
    IfErr-weaker c.partial_decode_many.result _ _ (λ e told. interval_told part c.args.self.now.byte_offset
    c.args.self.now.byte_length tells _ _ e c.args.decoded_regions.now _ c.in-Ok.ensures.valid refl told) cause

pub returns-in-Err-clause-cause : goal.returns-in-Err-clause-cause
returns-in-Err-clause-cause g c =
    let under = options_of c.args.options.now in
    let part = (g.H.BytesPartialDecoderTraits.seen c.args.self.now.handle).part under in
    let tells = g.H.BytesPartialDecoderTraits.tells c.args.self.now.handle under in
    interval_refused part c.args.self.now.byte_offset c.args.self.now.byte_length tells _ _ c.from.result
    c.args.decoded_regions.now (shift_told c.args.decoded_regions.now c.args.self.now.byte_length c.in-Err.fault
    c.from.result c.in-Err.ensures.refused c.from.ensures)

pub returns-in-Err-clause-kept : goal.returns-in-Err-clause-kept
returns-in-Err-clause-kept g c = record {
  same = (refl, (refl, g.met.H.BytesPartialDecoderTraits.same_self c.args.self.now.handle));
  tells = λ under asked e told. told;
}

pub returns-in-Ok-clause-first : goal.returns-in-Ok-clause-first
returns-in-Ok-clause-first g c =
    let handle = g.H.BytesPartialDecoderTraits in
    first_passed c.args.self.now.byte_offset c.args.self.now.byte_length (handle.early c.args.self.now.handle)
    c.args.decoded_regions.now _ (handle.seen c.args.self.now.handle).shown
    (handle.seen c.partial_decode_many.new.self).shown c.partial_decode_many.result
    c.in-Ok.ensures.valid (c.deref.ensures.value ∙ c.in-Ok.ensures.value) c.partial_decode_many.ensures.first

pub returns-in-Err-clause-first : goal.returns-in-Err-clause-first
returns-in-Err-clause-first g c = first_refused _ c.args.self.now.byte_offset c.args.self.now.byte_length
    (g.H.BytesPartialDecoderTraits.early c.args.self.now.handle) c.args.decoded_regions.now _ c.from.result
    (shift_told c.args.decoded_regions.now c.args.self.now.byte_length c.in-Err.fault c.from.result
    c.in-Err.ensures.refused c.from.ensures)
