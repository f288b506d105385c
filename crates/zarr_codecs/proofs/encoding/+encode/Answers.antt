use Rattle.std.proofs.Common.{◌≡◌, ◌++◌, ◌∙◌, ℕ, List, Ok, Result, Vec, Global, ap, subst, sym}
use Rattle.std.specs.Cow.{cow_slice_items}
use Rattle.zarrs_codec_traits.specs.Prelude.{count_of, type_of, raw_of, fine, lengths, level_of}
use Rattle.zarrs_codec_error.specs.declared.error.CodecError.{CodecError}
use Rattle.zarr_codecs.specs.declared.codecs.BasicArrayToBytes.{BasicArrayToBytes}
use Rattle.zarr_codecs.specs.Plain.{plain_bytes, plain_vlen, mask_answer}
use Rattle.zarr_codecs.specs.Views.{plain_of}
use Rattle.zarr_codecs.specs.Answers.{Encodes}
use Rattle.zarr_codecs.proofs.OptionalLaws.{encode_held}
use Rattle.zarr_codecs.proofs.encoding.+encode.Goals as goal

pub encode_by-returns-in-Bytes : goal.encode_by-returns-in-Bytes
encode_by-returns-in-Bytes t c =
    let level = level_of c.args.shape.now c.args.data_type.now c.args.fill_value.now in
    let told : Encodes (plain_bytes c.in-Bytes.codec.endianness) level (raw_of c.args.bytes) c.encode.result =
    record { unserved = c.encode.ensures.unserved; exact = c.encode.ensures.exact; value = c.encode.ensures.value } in
    subst (λ (codec : BasicArrayToBytes). Encodes (plain_of codec) level (raw_of c.args.bytes) c.encode.result)
    (sym c.in-Bytes.is) told

pub encode_by-returns-in-Vlen : goal.encode_by-returns-in-Vlen
encode_by-returns-in-Vlen t c =
    let level = level_of c.args.shape.now c.args.data_type.now c.args.fill_value.now in
    let told : Encodes (plain_vlen c.in-Vlen.codec.text) level (raw_of c.args.bytes) c.encode-in-Vlen.result =
    record {
      unserved = c.encode-in-Vlen.ensures.unserved;
      exact = c.encode-in-Vlen.ensures.exact;
      value = c.encode-in-Vlen.ensures.value;
    } in
    subst (λ (codec : BasicArrayToBytes). Encodes (plain_of codec) level (raw_of c.args.bytes) c.encode-in-Vlen.result)
    (sym c.in-Vlen.is) told

pub encode_optional-returns : goal.encode_optional-returns
encode_optional-returns t c =
    let level = level_of c.args.shape.now c.args.data_type.now c.args.fill_value.now in
    let inner = level_of c.args.shape.now c.in_ok-held.held.now c.args.fill_value.now in
    let mask = cow_slice_items c.in_ok-under.mask in
    let answer : fine ≡ mask_answer (count_of (lengths c.args.shape.now)) (raw_of c.args.bytes) =
    subst (λ (n : ℕ). fine ≡ mask_answer n (raw_of c.args.bytes)) c.num_elements.ensures c.in_ok-under.ensures.answer in
    let told : Encodes (plain_of c.args.inner.now) inner (raw_of c.in_ok-under.under) (Ok c.in_ok-value.value) =
    subst (λ (r : Result (Vec ℕ Global) CodecError).
    Encodes (plain_of c.args.inner.now) inner (raw_of c.in_ok-under.under) r) c.in_ok-value.was c.encode_by.ensures in
    let joined : c.in_ok-joined.joined.items ≡ mask ++ c.in_ok-value.value.items =
    c.in_ok-joined.ensures ∙ ap (λ (back : List ℕ). mask ++ back) c.deref.ensures.value in
    encode_held (plain_of c.args.inner.now) level (type_of c.in_ok-held.held.now) inner.fill (raw_of c.args.bytes)
    (raw_of c.in_ok-under.under) mask c.in_ok-value.value c.in_ok-joined.joined
    c.in_ok-held.ensures.held c.in_ok-held.ensures.served c.in_ok-under.ensures.parts answer told joined
