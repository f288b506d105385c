use Rattle.std.proofs.Common.{map, length, sym, ap, ◌∙◌}
use Rattle.zarrs_plugin.specs.Registry.{registry_of}
use Rattle.zarr_codecs.specs.CodecForm.{form_of}
use Rattle.zarr_array_open.specs.Chain.{all_ranked, chain_form}
use Rattle.zarr_array_open.proofs.OpeningLaws.{codecs_are}
use Rattle.zarr_array_open.proofs.RankLaws.{chain_ranked}
use Rattle.zarr_array_open.proofs.parts.ArrayParts.from_metadata.Goals as goal

pub with_parts-requires-clause-ranked : goal.with_parts-requires-clause-ranked
with_parts-requires-clause-ranked c =
    let form = chain_form c.in_ok-chain.chain in
    ap (λ dims. all_ranked (length dims) form.array_codecs)
    (c.in_ok-grid.ensures.shape ∙ c.deref.ensures.value ∙ sym c.deref-2.ensures.value)
    ∙ chain_ranked _ (registry_of c.args.registries.now.codecs) _ (map form_of c.deref-4.result.now) form
    (c.in_ok-codecs.ensures ∙ ap (λ cs. codecs_are (map form_of cs)) (sym c.deref-4.ensures.value))
    c.in_ok-chain.ensures
