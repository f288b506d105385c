use Rattle.std.proofs.Common.{rules}
use Rattle.zarr_cli_runs.proofs.SummaryLaws.{summarised}
use Rattle.zarr_cli_runs.proofs.summary.push_summary.Goals as goal

pub returns-clause-replies : goal.returns-clause-replies
returns-clause-replies c answers h =
    summarised c.args.size c.args.keys c.args.lines.now c.args.text.now.items c.push_lines.new.text.items
    c.requires.some c.args.replies.now answers (search rules) c.requires.lines h
