use Rattle.std.proofs.Common.{ap, ◌∙◌}
use Rattle.zarrs_storage.specs.Parts.{filled_to, with_parts}
use Rattle.zarrs_storage.proofs.PartLemmas.{filled_before}
use Rattle.zarrs_storage.proofs.parts.put_parts.Goals as goal

pub returns-clause-ok : goal.returns-clause-ok
returns-clause-ok c =
    c.overwrite.ensures
    ∙ ap (with_parts c.args.parts.now)
    (c.in_ok-fill_up.ensures.ok ∙ ap (λ end. filled_to end c.args.value.now.items) c.end_of_parts.ensures)
    ∙ filled_before c.args.parts.now c.args.value.now.items
