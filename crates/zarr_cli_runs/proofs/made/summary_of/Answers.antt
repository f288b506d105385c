use Rattle.std.proofs.Common.{sym, subst}
use Rattle.zarr_model.specs.Prelude.{fixed}
use Rattle.zarr_cli_lines.specs.Parts.{IsTextOfReplies}
use Rattle.zarr_cli_runs.proofs.made.summary_of.Goals as goal

pub push_summary-requires-clause-lines : goal.push_summary-requires-clause-lines
push_summary-requires-clause-lines c =
    subst (λ text. IsTextOfReplies (fixed c.args.size) c.args.replies.now text) (sym c.deref.ensures.value)
    (subst (λ k. IsTextOfReplies k c.args.replies.now c.in_ok-lines.lines.items) c.requires.kind c.in_ok-lines.ensures)
