use Rattle.std.proofs.Common.{rules, ◌≡◌, ◌*◌, ◌∷◌, ◌++◌, length, get_or, drop, sym, ap, ap₂, ◌∙◌, take-append-drop}
use Rattle.std.proofs.Math.Seq.{drop-cons}
use Rattle.zarr_cli_lines.proofs.FixedLemmas.{no_space}
use Rattle.zarr_cli_lines.proofs.fixed.digits_first.Goals as goal

pub returns-else-separator-eq32-clause-none : goal.returns-else-separator-eq32-clause-none
returns-else-separator-eq32-clause-none c =
    let digits = c.in_ok-digits.digits.now in
    let behind = c.in_ok-digits.behind.now in
    let cut = c.in_ok-digits.ensures.cases in
    let joined : digits ++ behind ≡ c.args.text.now =
    ap₂ (λ a b. a ++ b) cut.1 cut.2 ∙ take-append-drop c.saturating_mul.result c.args.text.now in
    let first : behind ≡ get_or behind 0 0 ∷ drop 1 behind = drop-cons behind 0 0 c.in-len1-up.len_at_least in
    let long : length digits ≡ 2 * c.args.size = search rules in
    no_space c.args.size c.args.text.now digits (get_or behind 0 0) (drop 1 behind)
    (sym joined ∙ ap (λ b. digits ++ b) first) long c.if-separator-eq32.false
