use Rattle.std.proofs.Common.{[], arith}
use Rattle.zarr_cli_lines.specs.Parts.{span_of_range}
use Rattle.zarr_cli_runs.specs.MadeCommands.{row_of}
use Rattle.zarr_cli_runs.proofs.RowLemmas.{one_more_joined}
use Rattle.zarr_cli_runs.proofs.elements.made_elements.Goals as goal

pub loop-row-preserved : goal.loop-row-preserved
loop-row-preserved c = (
  omega arith,
  one_more_joined (row_of c.args.k (span_of_range c.args.area.now.columns)) c.args.area.now.rows.start
      c.loop-row.row [] c.loop-row.bytes.items c.push_row.new.bytes.items c.loop-row.invariant.0 c.loop-row.invariant.1
      c.in_ok-push_row.ensures,
)
