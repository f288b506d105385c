use Rattle.std.proofs.Common.{◌≡◌, [], Some}
use Rattle.zarr_cli_runs.proofs.JobLaws.{on_ok}
use Rattle.zarr_cli.proofs.ReadLaws.{told_fault}
use Rattle.zarr_cli.proofs.lines.read_lines.Goals as goal

pub returns-clause-whole : goal.returns-clause-whole
returns-clause-whole g c = λ left e. on_ok ((g.R.Source.shown c.read_input.new.source).left ≡
    Some []) c.into_lines.result (c.in_ok-read_input.ensures.whole left e).2

pub returns-clause-fault : goal.returns-clause-fault
returns-clause-fault g c = told_fault (g.R.Source.shown c.args.source.now) (g.R.Source.shown c.read_input.new.source)
    c.in_ok-read_input.field-0 c.into_lines.result
    (λ input e. let read = c.in_ok-read_input.ensures.whole input e in (read.0, read.1)) c.into_lines.ensures.fault
