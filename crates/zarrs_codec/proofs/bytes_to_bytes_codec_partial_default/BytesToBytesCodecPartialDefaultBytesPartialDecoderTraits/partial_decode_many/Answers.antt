use Rattle.std.proofs.Common.{◌∙◌, ap, Some, None}
use Rattle.zarrs_codec_traits.specs.Prelude.{value_bytes, parts_of, options_of}
use Rattle.zarrs_codec_traits.specs.Through.{through, through_says}
use Rattle.zarrs_codec_traits.proofs.IntervalLaws.{first_ok, first_err}
use Rattle.zarrs_codec_traits.proofs.ThroughLaws.{decoded_sound, range_told, whole_told, many_told, many_refused}
use Rattle.zarrs_codec_traits.proofs.ThroughLaws.{many_given, many_absent}
use Rattle.zarrs_codec.proofs.bytes_to_bytes_codec_partial_default.BytesToBytesCodecPartialDefaultBytesPartialDecoderTraits.partial_decode_many.Goals as goal

pub returns-in-Ok-clause-value : goal.returns-in-Ok-clause-value
returns-in-Ok-clause-value g c =
    let under = options_of c.args.options.now in
    let meaning = g.C.BytesToBytesCodecTraits.meaning c.args.self.now.codec in
    let below = g.H.BytesPartialDecoderTraits.seen c.args.self.now.handle in
    let is = c.in-Ok-Some.ensures.value ∙ ap (λ v. Some (value_bytes v)) c.in-Ok-Some.field-0-is in
    let there = (decoded_sound meaning below (g.met.H.BytesPartialDecoderTraits.sound c.args.self.now.handle)).all_there
    under (Some c.in-Ok-Some.value.items) is in
    many_given (through (meaning under) (below.held under)) c.in-Ok-Some.value.items c.args.decoded_regions.now
    (parts_of c.in-Ok.parts) below.there is there (rw c.deref.ensures.value at c.in-Ok.ensures.value)

pub returns-in-Ok-Some-clause-cause : goal.returns-in-Ok-Some-clause-cause
returns-in-Ok-Some-clause-cause g c =
    let under = options_of c.args.options.now in
    let meaning = g.C.BytesToBytesCodecTraits.meaning c.args.self.now.codec in
    let says = g.C.BytesToBytesCodecTraits.says c.args.self.now.codec under in
    let below = g.H.BytesPartialDecoderTraits.seen c.args.self.now.handle in
    let tells = g.H.BytesPartialDecoderTraits.tells c.args.self.now.handle under None in
    let is = c.in-Ok-Some.ensures.value ∙ ap (λ v. Some (value_bytes v)) c.in-Ok-Some.field-0-is in
    many_refused (through (meaning under) (below.held under)) c.in-Ok-Some.value.items c.args.decoded_regions.now
    (λ e. through_says (meaning under) says tells (below.held under) (Some c.args.decoded_regions.now) e) _ _
    c.in-Err-parts_in_memory.error is (λ range. range_told (meaning under) says tells (below.held under) _
    c.args.decoded_regions.now _ is range) (rw c.deref.ensures.value at c.in-Err-parts_in_memory.ensures.cause)

pub returns-in-Ok-None-clause-value : goal.returns-in-Ok-None-clause-value
returns-in-Ok-None-clause-value g c =
    let under = options_of c.args.options.now in
    let meaning = g.C.BytesToBytesCodecTraits.meaning c.args.self.now.codec in
    let below = g.H.BytesPartialDecoderTraits.seen c.args.self.now.handle in
    let is = c.in-Ok-None.ensures.value ∙ ap (λ v. Some (value_bytes v)) c.in-Ok-None.field-0-is in
    let there = (decoded_sound meaning below (g.met.H.BytesPartialDecoderTraits.sound c.args.self.now.handle)).all_there
    under None is in
    many_absent (through (meaning under) (below.held under)) c.args.decoded_regions.now below.there is there

pub returns-clause-cause : goal.returns-clause-cause
returns-clause-cause g c =
    let under = options_of c.args.options.now in
    let meaning = g.C.BytesToBytesCodecTraits.meaning c.args.self.now.codec in
    let says = g.C.BytesToBytesCodecTraits.says c.args.self.now.codec under in
    let below = g.H.BytesPartialDecoderTraits.seen c.args.self.now.handle in
    let tells = g.H.BytesPartialDecoderTraits.tells c.args.self.now.handle under None in
    many_told (through (meaning under) (below.held under)) c.args.decoded_regions.now
    (through_says (meaning under) says tells (below.held under) None)
    (through_says (meaning under) says tells (below.held under) (Some c.args.decoded_regions.now)) _ _ c.in-Err.error
    (whole_told (meaning under) says tells (below.held under) (Some c.args.decoded_regions.now) c.in-Err.error)
    c.in-Err.ensures.cause

pub returns-in-Ok-clause-first : goal.returns-in-Ok-clause-first
returns-in-Ok-clause-first g c = first_ok _ _ _ _ _ _ _ c.in-Ok-Some.ensures.first

pub returns-in-Ok-Some-clause-first : goal.returns-in-Ok-Some-clause-first
returns-in-Ok-Some-clause-first g c = first_ok _ _ _ _ _ _ _ c.in-Ok-Some.ensures.first

pub returns-in-Ok-None-clause-first : goal.returns-in-Ok-None-clause-first
returns-in-Ok-None-clause-first g c = first_ok _ _ _ _ _ _ _ c.in-Ok-None.ensures.first

pub returns-clause-first : goal.returns-clause-first
returns-clause-first g c = first_err _ _ _ _ _ _ c.in-Err.ensures.first
