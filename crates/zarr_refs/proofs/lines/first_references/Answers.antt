use Rattle.std.proofs.Common.{◌≡◌, [], ◌∷◌, ◌++◌, ◌+◌, map, drop, string_bytes, None, Some, sym, ap, ◌∙◌, append-nil}
use Rattle.zarr_cli_lines.proofs.LineLemmas.{line_left, none_left}
use Rattle.zarr_refs.specs.Lines.{reference_of_line, first_references}
use Rattle.zarr_refs.proofs.LineLaws.{references_step, references_end}
use Rattle.zarr_refs.proofs.lines.first_references.Goals as goal

pub returns-in_default : goal.returns-in_default
returns-in_default c =
    let lines = c.args.lines.now in
    let i = c.loop-line.line-index in
    let here = line_left lines i c.line-item.result c.loop-line-test.true c.line-item.is in
    let none : reference_of_line (string_bytes c.line-item.result) ≡ None =
    ap reference_of_line (sym c.as_str.ensures.value) ∙ (sym c.in_ok-reference.ensures ∙ c.in_default.is) in
    references_end (string_bytes c.line-item.result) (map string_bytes (drop (i + 1) lines))
    c.loop-line.references.items (first_references (map string_bytes lines)) none
    (ap (λ ls. c.loop-line.references.items ++ first_references ls) (sym here) ∙ c.loop-line.invariant)

pub returns : goal.returns
returns c =
    let before = c.loop-line.references.items in
    sym (append-nil before) ∙ (ap (λ ls. before ++ first_references ls)
    (sym (none_left c.args.lines.now c.loop-line.line-index c.loop-line-test.false)) ∙ c.loop-line.invariant)

pub loop-line-preserved : goal.loop-line-preserved
loop-line-preserved c =
    let lines = c.args.lines.now in
    let i = c.loop-line.line-index in
    let here = line_left lines i c.line-item.result c.loop-line-test.true c.line-item.is in
    let reference = c.in-Some.reference in
    let before = c.loop-line.references.items in
    let is : reference_of_line (string_bytes c.line-item.result) ≡ Some reference =
    ap reference_of_line (sym c.as_str.ensures.value) ∙ (sym c.in_ok-reference.ensures ∙ c.in-Some.is) in
    let pushed : c.push.new.self.items ≡ before ++ reference ∷ [] = c.in_ok-push.ensures.items in
    ap (λ items. items ++ first_references (map string_bytes (drop (i + 1) lines))) pushed
    ∙ references_step (string_bytes c.line-item.result) (map string_bytes (drop (i + 1) lines)) reference before
    (first_references (map string_bytes lines)) is
    (ap (λ ls. before ++ first_references ls) (sym here) ∙ c.loop-line.invariant)
