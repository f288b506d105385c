-- What the chunks of one shape are, once the codec of their metadata was made.
use Rattle.std.proofs.Common.{◌≡◌, ℕ, Bool, true, false, if◌then◌else◌, List, [], ◌∷◌, is_some, Some}
use Rattle.std.proofs.Common.{Result, Ok, Err, unwrap_or, refl, sym, ap, ◌∙◌}
use Rattle.std.proofs.lemmas.Bool.{and_parts}
use Rattle.std.specs.Bool.{⊤}
use Rattle.zarr_model.specs.Prelude.{null, DataType, kind_of, fill_element, default_keys}
use Rattle.zarr_model.proofs.ElementLaws.{denoted}
use Rattle.zarrs_codec_traits.specs.Prelude.{Names, Extension, is_type}
use Rattle.zarr_codecs.specs.declared.codec_kind.CodecKind.{CodecKind}
use Rattle.zarr_array_open.specs.Document.{ArrayDocument}
use Rattle.zarr_array_open.specs.Opening.{OpenRefusal, invalid_fill, chain_order, chunk_too_large, ◌>>=◌, or_refused}
use Rattle.zarr_array_open.proofs.OpeningLaws.{bind_ok}
use Rattle.zarr_array_open.specs.ShardDocument.{ShardForm}
use Rattle.zarr_array_open.specs.ShardOpening.{DocumentCodec, sharding, document_codec, only_sharding, is_element}
use Rattle.zarr_array_open.specs.ShardOpening.{expect_element, is_large_shard, inner_with, small_shard, shard_with}
use Rattle.zarr_array_open.specs.ShardOpening.{shard_of_chunk}
use Rattle.zarr_array_open.proofs.CodecLaws.{codecs_are, only_for, alone, configured_for}
use Rattle.zarr_array_open.proofs.ShardLaws.{inner_is}

-- a fill value that is an element denotes it
abbrev expected : Bool → Result ⊤ OpenRefusal
expected b = if b then Ok tt else Err invalid_fill

element_denotes : (type : DataType) (filler : List ℕ) → expect_element type filler ≡ Ok tt →
    fill_element (kind_of type) filler ≡ Some (unwrap_or (fill_element (kind_of type) filler) null)
element_denotes type filler e = go (is_element type filler) refl e
  where
    go : (b : Bool) → is_element type filler ≡ b → expected b ≡ Ok tt →
        fill_element (kind_of type) filler ≡ Some (unwrap_or (fill_element (kind_of type) filler) null)
    go true is e = denoted (fill_element (kind_of type) filler)
        (and_parts (is_type type) (is_some (fill_element (kind_of type) filler)) is).1
    go false is e = absurd cc

-- a shard that is not too large has the inner chunks that were given
abbrev form_is : ShardForm → Result ShardForm OpenRefusal
form_is form = Ok form

same_form : (a b : ShardForm) → form_is a ≡ form_is b → a ≡ b
same_form a b e = cc

kept : (checked : Bool) (inner : ArrayDocument) (form : ShardForm) → small_shard checked inner ≡ Ok form →
    form.inner ≡ inner
kept checked inner form e = go (is_large_shard inner checked) e
  where
    go : (b : Bool) → (if b then Err chunk_too_large else Ok (record { inner = inner; checked = checked })) ≡ Ok form →
        form.inner ≡ inner
    go true e = absurd cc
    go false e = sym (ap (λ (f : ShardForm). f.inner) (same_form (record { inner = inner; checked = checked }) form e))

abbrev codec_is : DocumentCodec → Result DocumentCodec OpenRefusal
codec_is codec = Ok codec

-- the chunks have the shape, the data type and the fill that they were made for, by metadata with a configuration
pub record IsMadeFor (dims : List ℕ) (type : DataType) (filler : List ℕ) (e : Extension) (form : ShardForm) :
    Type 0 where
  pub configured : is_some e.configuration ≡ true
  pub shape : form.inner.shape ≡ dims
  pub data_type : form.inner.data_type ≡ type
  pub fill : fill_element (kind_of type) filler ≡ Some form.inner.fill

pub made_for : (names : Names CodecKind) (dims : List ℕ) (type : DataType) (filler : List ℕ) (e : Extension) (form :
    ShardForm) → shard_of_chunk names dims type filler e ≡ Ok form → IsMadeFor dims type filler e form
unfolding shard_of_chunk
made_for names dims type filler e form is =
    let keys = default_keys 47 in
    let a = bind_ok (document_codec dims names e)
    (λ codec. expect_element type filler >>= λ _. or_refused chain_order (only_sharding (codec ∷ [])) >>= λ shard.
    shard_with keys type filler shard) form is in
    let b = bind_ok (expect_element type filler)
    (λ _. or_refused chain_order (only_sharding (a.0 ∷ [])) >>= λ shard. shard_with keys type filler shard) form a.2 in
    let c =
    bind_ok (or_refused chain_order (only_sharding (a.0 ∷ []))) (λ shard. shard_with keys type filler shard) form b.2 in
    let d = bind_ok (inner_with keys type filler c.0) (small_shard c.0.checked) form c.2 in
    let same : form.inner ≡ d.0 = kept c.0.checked d.0 form d.2 in
    let inner = inner_is keys type filler c.0 d.0 d.1 in
    let codecs = ap (λ (r : Result DocumentCodec OpenRefusal). r >>= λ codec. codecs_are (codec ∷ [])) a.1 in
    let only : a.0 ≡ sharding c.0 = alone dims names a.0 [] c.0 c.1 in
    record {
      configured = configured_for dims names e c.0 (a.1 ∙ ap (λ (codec : DocumentCodec). codec_is codec) only);
      shape = ap (λ (i : ArrayDocument). i.shape) same
          ∙ (inner.shape ∙ only_for dims names (e ∷ []) (a.0 ∷ []) c.0 codecs c.1);
      data_type = ap (λ (i : ArrayDocument). i.data_type) same ∙ inner.data_type;
      fill = element_denotes type filler b.1 ∙ ap Some (sym (ap (λ (i : ArrayDocument). i.fill) same ∙ inner.fill));
    }
