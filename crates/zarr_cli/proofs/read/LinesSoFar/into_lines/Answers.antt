use Rattle.std.proofs.Common.{◌≡◌, ◌<◌, length, inl, inr, ◌⊎◌}
use Rattle.std.proofs.Common.{sym, ◌∙◌, true≢false, rules}
use Rattle.zarr_cli.proofs.ReadLaws.{bad_told, last_told, all_ended, all_behind}
use Rattle.zarr_cli.proofs.read.LinesSoFar.into_lines.Goals as goal
use Rattle.zarr_cli.proofs.read.LinesSoFar.into_lines.Goals.{else-is_empty-via-then-is_empty+else-not-is_empty}
use Rattle.zarr_cli.proofs.read.LinesSoFar.into_lines.Goals.{else-is_empty-via-else-is_empty}

pub returns-then-bad-clause-fault : goal.returns-then-bad-clause-fault
returns-then-bad-clause-fault c = λ input read.
    let (n, up, line) = bad_told input c.args.self c.if-bad.true read in
    (n, up, (search rules) ∙ line)

pub returns-then-not-is_empty-clause-text : goal.returns-then-not-is_empty-clause-text
returns-then-not-is_empty-clause-text c = λ input read.
    all_ended input c.args.self c.if-bad.false (search rules) (search rules) read

pub returns-in_default-clause-fault : goal.returns-in_default-clause-fault
returns-in_default-clause-fault c = λ input read.
    let (n, up, line) =
    last_told input c.args.self c.if-bad.false (λ utf8. true≢false (sym (c.in_default.ensures.succeeds utf8))) read in
    (n, up, (search rules) ∙ line)

pub returns-clause-text : goal.returns-clause-text
returns-clause-text c = λ input read.
    let which : (0 < length c.args.self.line.items) ⊎ (length c.args.self.lines.items ≡ 0) =
    elim c.else-is_empty.branch [
      | else-is_empty-via-then-is_empty+else-not-is_empty w ↦ inr (search rules)
      | else-is_empty-via-else-is_empty w ↦ inl (search rules)
    ] in
    all_behind input c.args.self c.in-Ok.line c.push.new.self.items c.if-bad.false which (search rules) (search rules)
    read
