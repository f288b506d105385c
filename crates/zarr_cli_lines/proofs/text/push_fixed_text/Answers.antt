use Rattle.std.proofs.Common.{◌≡◌, ◌++◌, OnOk, List, ℕ, subst}
use Rattle.zarr_cli_lines.proofs.PlaceLaws.{fixed_text}
use Rattle.zarr_cli_lines.proofs.text.push_fixed_text.Goals as goal

pub returns : goal.returns
returns c =
    subst (λ (t : List ℕ). OnOk c.push_range.result (c.push_range.new.text.items ≡ c.args.text.now.items ++ t))
    (fixed_text c.args.size c.args.elements c.args.index c.args.value.now c.requires) c.push_range.ensures
