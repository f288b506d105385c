use Rattle.std.proofs.Common.{◌==◌, ◌∷◌, sym, ap₂, ◌∙◌, Some, None}
use Rattle.std.proofs.lemmas.Str.Pattern.{split_once_first}
use Rattle.std.proofs.lemmas.List.Splits.{slice_split_first}
use Rattle.zarr_cli_lines.specs.ElementText.{split_at}
use Rattle.zarr_cli_lines.proofs.ElementSplits.{split_at-none}
use Rattle.zarr_cli_lines.proofs.element_parts.cut.Goals as goal

pub returns-in-Some-clause-parts : goal.returns-in-Some-clause-parts
returns-in-Some-clause-parts c =
    let first = split_once_first c.args.separator c.args.text.now (Some (c.in-Some.before, c.in-Some.after))
    c.in-Some.ensures.cases c.requires in
    slice_split_first (λ b. b == c.args.separator) c.args.text.now 0 first.0
    ∙ ap₂ (λ part rest. part ∷ split_at c.args.separator rest) (sym first.1) (sym first.2)

pub returns-in-None-clause-parts : goal.returns-in-None-clause-parts
returns-in-None-clause-parts c =
    split_at-none c.args.separator c.args.text.now
    (split_once_first c.args.separator c.args.text.now None c.in-None.ensures.cases c.requires)
