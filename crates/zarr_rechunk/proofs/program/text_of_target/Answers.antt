use Rattle.std.proofs.Common.{◌≡◌, ℕ, List, drop, map, string_bytes, refl, sym, ap, ◌∙◌, subst}
use Rattle.std.proofs.lemmas.List.{drop-map}
use Rattle.zarr_array.specs.OpenArray.{documented}
use Rattle.zarr_cli_runs.specs.Opening.{IsOpenFault}
use Rattle.zarr_cli_runs.specs.array.parts.Opening.{open_builtin}
use Rattle.zarr_cli.specs.Lines.{first_line}
use Rattle.zarr_rechunk.specs.Input.{target_says}
use Rattle.zarr_rechunk.specs.Said.{both}
use Rattle.zarr_rechunk.proofs.SaidLaws.{opened_says, not_opened_says}
use Rattle.zarr_rechunk.proofs.program.text_of_target.Goals as goal

pub returns-in-Ok-clause-ran : goal.returns-in-Ok-clause-ran
returns-in-Ok-clause-ran g c =
    let lines : List (List ℕ) = drop 1 (map string_bytes c.args.lines.items) in
    let line : c.first_line.result.now ≡ first_line lines =
    c.first_line.ensures ∙ ap first_line (ap (map string_bytes)
    (c.behind_first.ensures ∙ ap (drop 1) c.deref.ensures.value) ∙ sym (drop-map string_bytes 1 c.args.lines.items)) in
    opened_says (first_line lines) (λ answer. target_says (documented c.args.source.now) answer (drop 1 lines))
    (λ why. refl) (documented c.in-Ok.target)
    (both (g.S.Store.shown c.args.from.now) (g.T.Store.shown c.args.to.now))
    (both (g.S.Store.shown c.text_of_lines.new.from) (g.T.Store.shown c.text_of_lines.new.to)) c.text_of_lines.result
    (ap open_builtin (sym line) ∙ c.in-Ok.ensures) c.text_of_lines.ensures.ran

pub returns-in-Err-clause-ran : goal.returns-in-Err-clause-ran
returns-in-Err-clause-ran g c =
    let lines : List (List ℕ) = drop 1 (map string_bytes c.args.lines.items) in
    let line : c.first_line.result.now ≡ first_line lines =
    c.first_line.ensures ∙ ap first_line (ap (map string_bytes)
    (c.behind_first.ensures ∙ ap (drop 1) c.deref.ensures.value) ∙ sym (drop-map string_bytes 1 c.args.lines.items)) in
    not_opened_says (first_line lines) (λ answer. target_says (documented c.args.source.now) answer (drop 1 lines))
    (λ why. refl)
    (both (g.S.Store.shown c.args.from.now) (g.T.Store.shown c.args.to.now)) c.in-Err.status
    (subst (λ l. IsOpenFault c.in-Err.status (open_builtin l)) line c.in-Err.ensures)
