use Rattle.std.proofs.Common.{◌≡◌, ◌∷◌, ◌++◌, get_or, take, drop, sym, ap, ◌∙◌, arith, length-take}
use Rattle.std.proofs.Common.{take-append-drop}
use Rattle.std.proofs.Math.Seq.{drop-cons}
use Rattle.zarr_cli_lines.proofs.FixedLemmas.{no_space}
use Rattle.zarr_cli_lines.proofs.fixed.pair_first.Goals as goal

pub returns-else-separator-eq32-clause-none : goal.returns-else-separator-eq32-clause-none
returns-else-separator-eq32-clause-none c =
    let text = c.args.text.now in
    let three = c.in-len3-up.len_at_least in
    let third : drop 2 text ≡ get_or text 2 0 ∷ drop 3 text = drop-cons text 2 0 (omega (arith, three)) in
    no_space 1 text (take 2 text) (get_or text 2 0) (drop 3 text) (sym (take-append-drop 2 text)
    ∙ ap (λ b. take 2 text ++ b) third) (omega (arith, length-take 2 text, three)) c.if-separator-eq32.false
