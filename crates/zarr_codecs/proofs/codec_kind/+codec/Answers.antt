use Rattle.std.proofs.Common.{option_map, arith, sym, subst}
use Rattle.zarrs_codec_traits.specs.Prelude.{extension_seen, registry_of}
use Rattle.zarrs_metadata_values.specs.Configuration.{configuration_seen}
use Rattle.zarr_codecs.specs.Inner.{inner_in}
use Rattle.zarr_codecs.specs.CodecForm.{MakesForm, codec_named}
use Rattle.zarr_codecs.proofs.KindInnerLaws.{some_form, inner_within, inner_named}
use Rattle.zarr_codecs.proofs.codec_kind.+codec.Goals as goal

pub optional_by-codec_by_name-made-requires : goal.optional_by-codec_by_name-made-requires
optional_by-codec_by_name-made-requires t c =
    let configuration = option_map (λ c. configuration_seen c.now) c.args.configuration in
    let below = inner_within configuration (extension_seen c.in_ok-inner.inner)
    (some_form (inner_in configuration) (extension_seen c.in_ok-inner.inner) c.in_ok-inner.ensures) in
    (omega (arith, below), tt)

pub optional_by-returns : goal.optional_by-returns
optional_by-returns t c =
    let names = registry_of c.args.registry.now in
    let configuration = option_map (λ c. configuration_seen c.now) c.args.configuration in
    let inner = extension_seen c.in_ok-inner.inner in
    subst (MakesForm c.optional_over.result)
    (sym (inner_named names configuration inner (some_form (inner_in configuration) inner c.in_ok-inner.ensures)))
    (c.optional_over.ensures (codec_named names inner) c.codec_by_name-made.ensures)
