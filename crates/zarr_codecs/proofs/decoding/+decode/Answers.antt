use Rattle.std.proofs.Common.{rules, ℕ, List, Err, Result, subst}
use Rattle.zarrs_codec_traits.specs.Prelude.{count_of, type_of, lengths, level_of, options_of}
use Rattle.zarrs_codec_array_bytes.specs.declared.array_bytes.ArrayBytes as code
use Rattle.zarrs_codec_error.specs.declared.error.CodecError.{CodecError}
use Rattle.zarr_codecs.specs.Plain.{plain_optional}
use Rattle.zarr_codecs.specs.Views.{plain_of}
use Rattle.zarr_codecs.specs.Answers.{Decodes, IsSplit}
use Rattle.zarr_codecs.proofs.OptionalLaws.{decode_inner_error, decode_held}
use Rattle.zarr_codecs.proofs.decoding.+decode.Goals as goal

pub decode_optional-returns-in_err-under : goal.decode_optional-returns-in_err-under
decode_optional-returns-in_err-under t c =
    let level = level_of c.args.shape.now c.args.data_type.now c.args.fill_value.now in
    let inner = level_of c.args.shape.now c.in_ok-held.held.now c.args.fill_value.now in
    let split :
    IsSplit (count_of (lengths c.args.shape.now)) c.args.bytes.items c.in_ok-mask.mask.items c.in_ok-mask.rest.items =
    subst (λ (n : ℕ). IsSplit n c.args.bytes.items c.in_ok-mask.mask.items c.in_ok-mask.rest.items)
    c.num_elements.ensures
    (subst (λ (v : List ℕ). IsSplit c.num_elements.result v c.in_ok-mask.mask.items c.in_ok-mask.rest.items)
    c.deref.ensures.value c.in_ok-mask.ensures.split) in
    let told = subst (λ (r : Result code.ArrayBytes CodecError). Decodes (plain_of c.args.inner.now)
    (options_of c.args.options.now) inner c.in_ok-mask.rest.items r) c.in_err-under.was c.decode_by.ensures in
    let cause : Decodes (plain_optional (plain_of c.args.inner.now)) (options_of c.args.options.now) level
    c.args.bytes.items (Err c.in_err-under.field-0.0) =
    decode_inner_error (plain_of c.args.inner.now) (options_of c.args.options.now) level (type_of c.in_ok-held.held.now)
    inner.fill c.args.bytes.items c.in_ok-mask.mask.items c.in_ok-mask.rest.items c.in_err-under.field-0.0
    c.in_ok-held.ensures.held c.in_ok-held.ensures.served split told in
    search rules

pub decode_optional-returns : goal.decode_optional-returns
decode_optional-returns t c =
    let level = level_of c.args.shape.now c.args.data_type.now c.args.fill_value.now in
    let inner = level_of c.args.shape.now c.in_ok-held.held.now c.args.fill_value.now in
    let split :
    IsSplit (count_of (lengths c.args.shape.now)) c.args.bytes.items c.in_ok-mask.mask.items c.in_ok-mask.rest.items =
    subst (λ (n : ℕ). IsSplit n c.args.bytes.items c.in_ok-mask.mask.items c.in_ok-mask.rest.items)
    c.num_elements.ensures
    (subst (λ (v : List ℕ). IsSplit c.num_elements.result v c.in_ok-mask.mask.items c.in_ok-mask.rest.items)
    c.deref.ensures.value c.in_ok-mask.ensures.split) in
    let told = subst (λ (r : Result code.ArrayBytes CodecError). Decodes (plain_of c.args.inner.now)
    (options_of c.args.options.now) inner c.in_ok-mask.rest.items r) c.in_ok-under.was c.decode_by.ensures in
    decode_held (plain_of c.args.inner.now) (options_of c.args.options.now) level (type_of c.in_ok-held.held.now)
    inner.fill c.args.bytes.items c.in_ok-mask.mask.items c.in_ok-mask.rest.items c.in_ok-under.under
    c.in_ok-elements.elements
    c.in_ok-held.ensures.held c.in_ok-held.ensures.served split told c.in_ok-elements.ensures
