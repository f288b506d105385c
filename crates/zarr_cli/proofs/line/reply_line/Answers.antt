use Rattle.std.proofs.Common.{◌≡◌, ◌-◌, ◌∷◌, ◌++◌, [], ℕ, List, length, take, IsUtf8, sym, ap, ◌∙◌, subst, arith}
use Rattle.std.proofs.Common.{length-append, true≢false}
use Rattle.std.proofs.Math.Seq.{take-append_seam}
use Rattle.zarr_cli_runs.specs.lines.Text.{reply_text}
use Rattle.zarr_cli.proofs.AsciiLaws.{reply_utf8}
use Rattle.zarr_cli.proofs.line.reply_line.Goals as goal

-- a text without its newline
without_last : (text : List ℕ) → take (length (text ++ 10 ∷ []) - 1) (text ++ 10 ∷ []) ≡ text
without_last text = ap (λ (n : ℕ). take n (text ++ 10 ∷ [])) (omega (arith, length-append text (10 ∷ [])))
    ∙ take-append_seam text (10 ∷ [])

pub unreachable-requires : goal.unreachable-requires
unreachable-requires c =
    let (answer, matches) = c.requires.valid in
    let pushed : c.push_reply.new.text.items ≡ reply_text answer ++ 10 ∷ [] =
    c.in_ok-push_reply.ensures answer matches
    ∙ ap (λ (front : List ℕ). front ++ (reply_text answer ++ 10 ∷ [])) c.new-text.ensures.items in
    let long : c.push_reply.new.text.len ≡ length c.push_reply.new.text.items =
    omega (arith, c.push_reply.new.text.ok) in
    let items : c.pop.new.self.items ≡ reply_text answer =
    c.pop.ensures.rest ∙ (ap (λ (n : ℕ). take (n - 1) c.push_reply.new.text.items) long
    ∙ (ap (λ (l : List ℕ). take (length l - 1) l) pushed ∙ without_last (reply_text answer))) in
    true≢false (sym (c.in-Err.ensures.succeeds (subst IsUtf8 (sym items) (reply_utf8 answer))))
