-- The causes that lie in an input exclude one another, and a run in form.
use Rattle.std.proofs.Common.{◌≡◌, ℕ, ◌+◌, ◌<◌, List, length, is_some, IsUtf8, inl, inr, sym}
use Rattle.std.proofs.Common.{ap, ◌∙◌, subst, arith}
use Rattle.std.specs.Str.{IsValidUpTo}
use Rattle.std.proofs.lemmas.Str.{utf8_valid_len-IsUtf8, utf8_valid_len-IsValidUpTo}
use Rattle.zarr_cli_runs.specs.array.parts.Opening.{OpenRefusal, opened, not_opened, open_builtin}
use Rattle.zarr_cli_runs.specs.lines.Text.{good_lines, line_at}
use Rattle.zarr_cli_runs.proofs.TextLaws.{good_lines_all}
use Rattle.zarr_cli.specs.Program.{Run}
use Rattle.zarr_cli.specs.ProgramInput.{command_grammar, document_line, lines_after_document, IsBadLine}
use Rattle.zarr_cli_runs.proofs.DocumentLawsBelow.{same_opened}

-- UTF-8 has no first bad byte
pub valid_up_to-not : (input : List ℕ) (n : ℕ) → IsUtf8 input → IsValidUpTo input n → ⊥
valid_up_to-not input n utf8 upto =
    let short : n < length input = upto.short in
    omega (arith, utf8_valid_len-IsUtf8 input utf8, utf8_valid_len-IsValidUpTo input n upto)

-- a run in form has no line out of form
pub run_not_bad : (words : List (List ℕ)) (input : List ℕ) (line : ℕ) → Run words input → IsBadLine input line → ⊥
run_not_bad words input line run (inl (n, upto, e)) = valid_up_to-not input n run.is_text upto
run_not_bad words input line run (inr (utf8, document, opens, below, e)) =
    let same : document ≡ run.document = same_opened document run.document (sym opens ∙ run.is_opened) in
    let full : good_lines (command_grammar run.document) (lines_after_document input) ≡
    length (lines_after_document input) =
    (good_lines_all (command_grammar run.document) (lines_after_document input)).0 (ap is_some run.are_commands) in
    let few : good_lines (command_grammar run.document) (lines_after_document input)
    < length (lines_after_document input) =
    subst (λ d. good_lines (command_grammar d) (lines_after_document input) < length (lines_after_document input)) same
    below in
    omega arith

-- nor a refused document
pub run_not_refused : (words : List (List ℕ)) (input : List ℕ) (why : OpenRefusal) → Run words input →
    open_builtin (document_line input) ≡ not_opened why → ⊥
run_not_refused words input why run refused = let both : opened run.document ≡ not_opened why =
    sym run.is_opened ∙ refused in cc

-- an input with a refused document has no line out of form
pub refused_not_bad : (input : List ℕ) (line : ℕ) (why : OpenRefusal) → IsUtf8 input →
    open_builtin (document_line input) ≡ not_opened why → IsBadLine input line → ⊥
refused_not_bad input line why utf8 refused (inl (n, upto, e)) = valid_up_to-not input n utf8 upto
refused_not_bad input line why utf8 refused (inr (again, document, opens, below, e)) =
    let both : opened document ≡ not_opened why = sym opens ∙ refused in cc

-- there is one first line out of form
pub one_bad_line : (input : List ℕ) (a b : ℕ) → IsBadLine input a → IsBadLine input b → a ≡ b
one_bad_line input a b (inl (n, first, e)) (inl (m, second, k)) =
    e ∙ (ap (line_at input) (sym (utf8_valid_len-IsValidUpTo input n first) ∙ utf8_valid_len-IsValidUpTo input m second)
    ∙ sym k)
one_bad_line input a b (inl (n, first, e)) (inr (utf8, document, opens, below, k)) =
    absurd (valid_up_to-not input n utf8 first)
one_bad_line input a b (inr (utf8, document, opens, below, e)) (inl (m, second, k)) =
    absurd (valid_up_to-not input m utf8 second)
one_bad_line input a b (inr (utf8, document, opens, below, e)) (inr (again, other, opens_other, below_other, k)) =
    let same : document ≡ other = same_opened document other (sym opens ∙ opens_other) in
    e ∙ (ap (λ d. good_lines (command_grammar d) (lines_after_document input) + 2) same ∙ sym k)
