use Rattle.std.proofs.Common.{map, string_bytes}
use Rattle.zarr_cli.specs.Status.{settings_view}
use Rattle.zarr_cli.proofs.RanLaws.{ran_lines, not_run}
use Rattle.zarr_cli.proofs.running.text_of_lines.Goals as goal

pub returns-in-Ok : goal.returns-in-Ok
returns-in-Ok g c =
    ran_lines (g.A.CommandArray.costs c.args.array.now) (g.A.CommandArray.described c.args.array.now)
    (settings_view c.args.words.now) (map string_bytes c.args.lines.now)
    (g.S.Store.shown c.args.store.now) (g.S.Store.shown c.run_parsed.new.store) c.in-Ok.parsed (c.in-Ok.ensures.says
    (g.A.CommandArray.described c.args.array.now) c.data_type.ensures.kind) c.run_parsed.result c.run_parsed.ensures

pub returns-in-Err : goal.returns-in-Err
returns-in-Err g c =
    not_run (g.A.CommandArray.costs c.args.array.now) (g.A.CommandArray.described c.args.array.now)
    (settings_view c.args.words.now) (map string_bytes c.args.lines.now)
    (g.S.Store.shown c.args.store.now) c.in-Err.status
    (c.in-Err.ensures.fault (g.A.CommandArray.described c.args.array.now) c.data_type.ensures.kind)
