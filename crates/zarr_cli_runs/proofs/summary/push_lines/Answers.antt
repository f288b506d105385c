use Rattle.zarr_cli_runs.proofs.MadeTextLemmas.{lines_joined}
use Rattle.zarr_cli_runs.proofs.summary.push_lines.Goals as goal

pub returns : goal.returns
returns c =
    lines_joined c.args.tally.ok c.args.tally.done c.args.tally.refused c.args.tally.elements c.args.keys
    c.args.lines.now
    c.args.text.now.items c.push_number.new.text.items c.push_number-2.new.text.items c.push_number-3.new.text.items
    c.push_number-4.new.text.items c.push_number-5.new.text.items c.push_number-6.new.text.items
    c.push_digest.new.text.items
    c.in_ok-push_number.ensures c.in_ok-push_number-2.ensures c.in_ok-push_number-3.ensures
    c.in_ok-push_number-4.ensures c.in_ok-push_number-5.ensures c.in_ok-push_number-6.ensures
    c.in_ok-push_digest.ensures
