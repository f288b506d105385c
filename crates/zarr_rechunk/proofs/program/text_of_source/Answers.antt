use Rattle.std.proofs.Common.{◌≡◌, ℕ, List, drop, map, string_bytes, refl, sym, ap, ◌∙◌, subst}
use Rattle.zarr_array.specs.OpenArray.{documented}
use Rattle.zarr_cli_runs.specs.Opening.{IsOpenFault}
use Rattle.zarr_cli_runs.specs.array.parts.Opening.{open_builtin}
use Rattle.zarr_cli.specs.Lines.{first_line}
use Rattle.zarr_rechunk.specs.Input.{source_says}
use Rattle.zarr_rechunk.specs.Said.{both}
use Rattle.zarr_rechunk.proofs.SaidLaws.{opened_says, not_opened_says}
use Rattle.zarr_rechunk.proofs.program.text_of_source.Goals as goal

pub returns-in-Ok-clause-ran : goal.returns-in-Ok-clause-ran
returns-in-Ok-clause-ran g c =
    let lines : List (List ℕ) = map string_bytes c.args.lines.items in
    let line : c.first_line.result.now ≡ first_line lines =
    c.first_line.ensures ∙ ap (λ ls. first_line (map string_bytes ls)) c.deref.ensures.value in
    opened_says (first_line lines) (λ answer. source_says answer (drop 1 lines)) (λ why. refl)
    (documented c.in-Ok.source)
    (both (g.S.Store.shown c.args.from.now) (g.T.Store.shown c.args.to.now))
    (both (g.S.Store.shown c.text_of_target.new.from) (g.T.Store.shown c.text_of_target.new.to)) c.text_of_target.result
    (ap open_builtin (sym line) ∙ c.in-Ok.ensures) c.text_of_target.ensures.ran

pub returns-in-Err-clause-ran : goal.returns-in-Err-clause-ran
returns-in-Err-clause-ran g c =
    let lines : List (List ℕ) = map string_bytes c.args.lines.items in
    let line : c.first_line.result.now ≡ first_line lines =
    c.first_line.ensures ∙ ap (λ ls. first_line (map string_bytes ls)) c.deref.ensures.value in
    not_opened_says (first_line lines) (λ answer. source_says answer (drop 1 lines)) (λ why. refl)
    (both (g.S.Store.shown c.args.from.now) (g.T.Store.shown c.args.to.now)) c.in-Err.status
    (subst (λ l. IsOpenFault c.in-Err.status (open_builtin l)) line c.in-Err.ensures)
