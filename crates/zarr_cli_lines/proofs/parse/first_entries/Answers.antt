use Rattle.std.proofs.Common.{◌≡◌, [], ◌∷◌, ◌++◌, ◌+◌, map, drop, string_bytes, None, Some, sym, ap}
use Rattle.std.proofs.Common.{◌∙◌, append-nil, option_map}
use Rattle.std.proofs.lemmas.List.{map-append}
use Rattle.zarr_cli_lines.specs.Text.{entry_of_line, first_entries}
use Rattle.zarr_cli_lines.specs.Parts.{entry_view}
use Rattle.zarr_cli_lines.proofs.LineLemmas.{line_left, none_left, entries_step, entries_end}
use Rattle.zarr_cli_lines.proofs.parse.first_entries.Goals as goal

pub returns-in_default : goal.returns-in_default
returns-in_default c =
    let lines = c.args.lines.now in
    let i = c.loop-line.line-index in
    let here = line_left lines i c.line-item.result c.loop-line-test.true c.line-item.is in
    let none : entry_of_line (string_bytes c.line-item.result) ≡ None = ap entry_of_line (sym c.as_str.ensures.value)
    ∙ (sym c.in_ok-entry.ensures ∙ ap (option_map entry_view) c.in_default.is) in
    entries_end (string_bytes c.line-item.result) (map string_bytes (drop (i + 1) lines))
    (map entry_view c.loop-line.entries.items) (first_entries (map string_bytes lines)) none
    (ap (λ ls. map entry_view c.loop-line.entries.items ++ first_entries ls) (sym here) ∙ c.loop-line.invariant)

pub returns : goal.returns
returns c =
    let before = map entry_view c.loop-line.entries.items in
    sym (append-nil before) ∙ (ap (λ ls. before ++ first_entries ls)
    (sym (none_left c.args.lines.now c.loop-line.line-index c.loop-line-test.false)) ∙ c.loop-line.invariant)

pub loop-line-preserved : goal.loop-line-preserved
loop-line-preserved c =
    let lines = c.args.lines.now in
    let i = c.loop-line.line-index in
    let here = line_left lines i c.line-item.result c.loop-line-test.true c.line-item.is in
    let entry = c.in-Some.entry in
    let before = map entry_view c.loop-line.entries.items in
    let is : entry_of_line (string_bytes c.line-item.result) ≡ Some (entry_view entry) = ap entry_of_line
    (sym c.as_str.ensures.value) ∙ (sym c.in_ok-entry.ensures ∙ ap (option_map entry_view) c.in-Some.is) in
    let pushed : c.push.new.self.items ≡ c.loop-line.entries.items ++ entry ∷ [] = c.in_ok-push.ensures.items in
    ap (λ items. map entry_view items ++ first_entries (map string_bytes (drop (i + 1) lines))) pushed
    ∙ (ap (λ entries. entries ++ first_entries (map string_bytes (drop (i + 1) lines)))
    (map-append entry_view c.loop-line.entries.items (entry ∷ []))
    ∙ entries_step (string_bytes c.line-item.result) (map string_bytes (drop (i + 1) lines)) (entry_view entry) before
    (first_entries (map string_bytes lines)) is
    (ap (λ ls. before ++ first_entries ls) (sym here) ∙ c.loop-line.invariant))
