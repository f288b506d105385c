use Rattle.std.proofs.Common.{◌≡◌, ◌++◌, OnOk, List, ℕ, subst, ap, sym}
use Rattle.zarr_cli_lines.specs.ElementText.{element_text}
use Rattle.zarr_cli_lines.proofs.PlaceLaws.{variable_at}
use Rattle.zarr_cli_lines.proofs.text.push_variable_text.Goals as goal

pub push_range-requires-clause-rise : goal.push_range-requires-clause-rise
push_range-requires-clause-rise c =
    (variable_at c.args.elements c.args.index c.args.value.now c.args.offsets.now c.requires).rise

pub push_range-requires-clause-within : goal.push_range-requires-clause-within
push_range-requires-clause-within c =
    (variable_at c.args.elements c.args.index c.args.value.now c.args.offsets.now c.requires).within

pub returns : goal.returns
returns c =
    let at = (variable_at c.args.elements c.args.index c.args.value.now c.args.offsets.now c.requires).at in
    subst (λ (t : List ℕ). OnOk c.push_range.result
    (c.push_range.new.text.items ≡ c.args.text.now.items ++ t)) (sym (ap element_text at)) c.push_range.ensures
