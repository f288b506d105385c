-- The configurations that codecs are written with say these codecs again.
use Rattle.std.proofs.Common.{◌≡◌, ℕ, ℤ, pos, negsuc, true, false, List, codes, Option, Some, None, option_map, Ok}
use Rattle.std.proofs.Common.{refl, ap, ◌∙◌}
use Rattle.std.proofs.lemmas.Bool.{cond-true}
use Rattle.zarrs_metadata_parts.specs.MetadataV3.{Extension, normal_form}
use Rattle.zarr_model.specs.declared.endianness.Endianness.TheVariants.{Little, Big}
use Rattle.zarrs_plugin.specs.Registry.{Names, find}
use Rattle.zarrs_codec_traits.specs.Prelude.{◌>>=◌, or_config}
use Rattle.zarrs_metadata_values.proofs.NumberLists.{whole_numbers_read_back}
use Rattle.zarr_codecs_to_bytes.specs.BytesCodec.{given_order}
use Rattle.zarr_codecs_elements.specs.Order.{is_order}
use Rattle.zarr_codecs_array_to_array.specs.Offset.{offset_in, offset_members}
use Rattle.zarr_codecs_array_to_array.specs.Configuration.{order_members, if_order, order_in}
use Rattle.zarr_codecs_array_to_array.specs.ArrayToArray.{offset, transpose}
use Rattle.zarr_codecs.specs.Plain.{Plain, plain_bytes, plain_vlen, plain_optional, name_by, members_by}
use Rattle.zarr_codecs.specs.Inner.{extension_by}
use Rattle.zarr_codecs.proofs.InnerLaws.{inner_reads_back}
use Rattle.zarr_codecs.specs.CodecForm.{codec_form, codec_named, array_codec, to_bytes, optional_over, form_by}
use Rattle.zarr_codecs.specs.CodecForm.{form_within, nesting}
use Rattle.zarr_codecs.specs.declared.codec_kind.CodecKind.{CodecKind}
use Rattle.zarr_codecs.specs.declared.codec_kind.CodecKind.TheVariants as kind
use Rattle.zarr_codecs.proofs.KindInnerLaws.{inner_named}

module _ (names : Names CodecKind) (bytes : find (codes "bytes") names ≡ Some kind.Bytes)
    (texts : find (codes "vlen-utf8") names ≡ Some kind.VlenUtf8)
    (strings : find (codes "vlen-bytes") names ≡ Some kind.VlenBytes)
    (optionals : find (codes "zarr_basics.optional") names ≡ Some kind.Optional) where
  abbrev kind_by : Plain → CodecKind
  kind_by (plain_bytes order) = kind.Bytes
  kind_by (plain_vlen true) = kind.VlenUtf8
  kind_by (plain_vlen false) = kind.VlenBytes
  kind_by (plain_optional inner) = kind.Optional

  found : (plain : Plain) → find (name_by plain) names ≡ Some (kind_by plain)
  found (plain_bytes order) = bytes
  found (plain_vlen true) = texts
  found (plain_vlen false) = strings
  found (plain_optional inner) = optionals

  -- a codec by its name, with some configuration
  by_name : (plain : Plain) (e : Extension) → e.name ≡ name_by plain →
      codec_named names e ≡ codec_form names (kind_by plain) e.configuration
  by_name plain e is = ap (λ k. form_by (form_within (nesting e.configuration) names) k e)
      (ap (λ name. find name names) is ∙ found plain)

  -- the configuration is read, and where it is empty, so is none
  again : (plain : Plain) → codec_form names (kind_by plain) (Some (members_by plain)) ≡ Ok (to_bytes plain) →
      codec_named names (normal_form (extension_by plain)) ≡ Ok (to_bytes plain)
  again (plain_bytes None) says = by_name (plain_bytes None) (normal_form (extension_by (plain_bytes None))) refl
  again (plain_bytes (Some order)) says =
      by_name (plain_bytes (Some order)) (extension_by (plain_bytes (Some order))) refl ∙ says
  again (plain_vlen true) says = by_name (plain_vlen true) (normal_form (extension_by (plain_vlen true))) refl
  again (plain_vlen false) says = by_name (plain_vlen false) (normal_form (extension_by (plain_vlen false))) refl
  again (plain_optional inner) says = by_name (plain_optional inner) (extension_by (plain_optional inner)) refl ∙ says

  says : (plain : Plain) → codec_form names (kind_by plain) (Some (members_by plain)) ≡ Ok (to_bytes plain)
  unfolding given_order
  says (plain_bytes None) = refl
  says (plain_bytes (Some Little)) = refl
  says (plain_bytes (Some Big)) = refl
  says (plain_vlen true) = refl
  says (plain_vlen false) = refl
  says (plain_optional inner) =
      inner_named names (Some (members_by (plain_optional inner))) (normal_form (extension_by inner))
      (inner_reads_back inner)
      ∙ ap optional_over (again inner (says inner))

  pub to_bytes_back : (plain : Plain) → codec_named names (extension_by plain) ≡ Ok (to_bytes plain)
  to_bytes_back plain = by_name plain (extension_by plain) refl ∙ says plain

pub offset_back : (names : Names CodecKind) (number : ℤ) →
    codec_form names kind.Offset (Some (offset_members number)) ≡ Ok (array_codec (offset number))
unfolding offset_in
offset_back names (pos n) = refl
offset_back names (negsuc n) = refl

order_back : (order : List ℕ) → is_order order ≡ true → order_in (Some (order_members order)) ≡ Some order
unfolding order_in
order_back order orders = ap (λ (read : Option (List ℕ)). read >>= if_order) (whole_numbers_read_back order)
    ∙ cond-true (is_order order) (Some order) None orders

pub transpose_back : (names : Names CodecKind) (order : List ℕ) → is_order order ≡ true →
    codec_form names kind.Transpose (Some (order_members order)) ≡ Ok (array_codec (transpose order))
transpose_back names order orders = ap (λ (read : Option (List ℕ)).
    or_config (option_map (λ (o : List ℕ). array_codec (transpose o)) read)) (order_back order orders)
