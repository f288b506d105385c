use Rattle.std.proofs.Common.{◌≡◌, ◌++◌, [], IsUtf8, sym, ◌∙◌, ap, subst, rules, true≢false}
use Rattle.zarr_cli.proofs.ReadLaws.{line_ended, line_bad}
use Rattle.zarr_cli.proofs.read.LinesSoFar.end_line.Goals as goal
use Rattle.zarr_cli.proofs.read.LinesSoFar.end_line.Goals.{in-Ok+in_ok-push-in-Ok, in-Err}

pub returns : goal.returns
returns c =
    let was : c.replace-line.result.items ≡ c.args.self.now.line.items = search rules in
    let joined : c.extend_from_slice.new.self.items ≡ c.args.self.now.line.items ++ c.args.bytes.now = search rules in
    let empty : c.replace-line.new.dest.items ≡ [] = search rules in
    elim c.match-from_utf8.branch [
      | in-Ok+in_ok-push-in-Ok w ↦ λ taken read. line_ended taken c.args.bytes.now c.args.self.now
          c.match-from_utf8.self w.in-Ok.line c.requires.good c.requires.whole
          (search rules) (ap (λ s. s.lines.items) w.self-is ∙ (w.in_ok-push-in-Ok.ensures).items)
          (ap (λ s. s.line.items) w.self-is ∙ empty) (ap (λ s. s.bad) w.self-is ∙ c.requires.good) read
      | in-Err w ↦ λ taken read.
          line_bad taken c.args.bytes.now c.args.self.now c.match-from_utf8.self c.requires.good c.requires.whole
          (λ utf8. true≢false (sym (w.in-Err.ensures.succeeds (subst IsUtf8 (sym joined) utf8))))
          (ap (λ s. s.lines.items) w.self-is) (ap (λ s. s.bad) w.self-is) read
    ]
