use Rattle.std.proofs.Common.{rules, Ok, Err, Result, IfErr, subst}
use Rattle.std.proofs.lemmas.Result.{err_from_is_err_and}
use Rattle.zarrs_codec_traits.specs.Prelude.{decode_array_to_bytes, level_of, options_of, IsNoFault, parts_of}
use Rattle.zarrs_codec_traits.specs.Prelude.{region as box_of}
use Rattle.zarrs_codec_array_bytes.specs.declared.array_bytes.ArrayBytes as code
use Rattle.zarrs_codec_error.specs.declared.error.CodecError.{CodecError}
use Rattle.zarr_codecs.specs.Plain.{Plain, codec_of}
use Rattle.zarr_codecs.specs.Views.{optional_plain}
use Rattle.zarr_codecs.specs.Answers.{Decodes}
use Rattle.zarr_codecs.proofs.OptionalLaws.{decodes_no_fault}
use Rattle.zarrs_codec_traits.proofs.TakenLaws.{whole_taken, whole_refused}
use Rattle.zarr_codecs.proofs.optional.OptionalCodecArrayToBytesCodecTraits.decode_parts.Goals as goal

pub returns-clause-at : goal.returns-clause-at
returns-clause-at c =
    let under = options_of c.args.options.now in
    let level = level_of c.args.shape.now c.args.data_type.now c.args.fill_value.now in
    let plain = optional_plain c.args.self.now in
    let given = c.only_part-value.result.items in
    let told : Decodes plain under level given (Ok c.in_ok-whole.whole) =
    subst (λ (r : Result code.ArrayBytes CodecError). Decodes plain under level given r) c.in_ok-whole.was
    (subst (λ (p : Plain). Decodes p under level given c.decode_optional.result) c.inner.ensures
    c.decode_optional.ensures) in
    record {
      unserved = search rules;
      served = λ served. whole_taken (decode_array_to_bytes under (codec_of plain) level) _ level
          (box_of c.args.region.now) given (parts_of c.args.parts) _ c.extracted.result c.only_part-value.ensures
          (told.value served) c.extracted.ensures.value;
    }

pub returns-in_err-whole-clause-at : goal.returns-in_err-whole-clause-at
returns-in_err-whole-clause-at c =
    let under = options_of c.args.options.now in
    let level = level_of c.args.shape.now c.args.data_type.now c.args.fill_value.now in
    let plain = optional_plain c.args.self.now in
    let given = c.only_part-value.result.items in
    let told : Decodes plain under level given (Err c.in_err-whole.field-0.0) =
    subst (λ (r : Result code.ArrayBytes CodecError). Decodes plain under level given r) c.in_err-whole.was
    (subst (λ (p : Plain). Decodes p under level given c.decode_optional.result) c.inner.ensures
    c.decode_optional.ensures) in
    let p = err_from_is_err_and c.from_residual.result c.from_residual.ensures.1 in
    record {
      unserved = search rules;
      served = λ served. rw (p.1, p.2) (whole_refused (decode_array_to_bytes under (codec_of plain) level) _ level
          (box_of c.args.region.now) given (parts_of c.args.parts) c.in_err-whole.field-0.0 c.only_part-value.ensures
          (told.value served));
    }

pub returns-in_err-whole-clause-no_fault : goal.returns-in_err-whole-clause-no_fault
returns-in_err-whole-clause-no_fault c =
    let under = options_of c.args.options.now in
    let level = level_of c.args.shape.now c.args.data_type.now c.args.fill_value.now in
    let plain = optional_plain c.args.self.now in
    let given = c.only_part-value.result.items in
    let own : IfErr c.decode_optional.result IsNoFault = decodes_no_fault plain under level given
    c.decode_optional.result (subst (λ (p : Plain). Decodes p under level given c.decode_optional.result)
    c.inner.ensures c.decode_optional.ensures) in
    let told : IsNoFault c.in_err-whole.field-0.0 =
    subst (λ (r : Result code.ArrayBytes CodecError). IfErr r IsNoFault) c.in_err-whole.was own in
    search rules
