use Rattle.std.proofs.Common.{map, length, ap, ◌∙◌}
use Rattle.zarr_model.specs.Prelude.{counted, with_keys}
use Rattle.zarr_array.specs.OpenArray.{documented}
use Rattle.zarr_cli_lines.specs.Parts.{entry_view}
use Rattle.zarr_rechunk.specs.Said.{both}
use Rattle.zarr_rechunk.proofs.ProgramLaws.{behind_keys}
use Rattle.zarr_rechunk.proofs.program.text_of_entries.Goals as goal

pub returns-in-Ok : goal.returns-in-Ok
returns-in-Ok g c =
    let before = g.S.Store.shown c.args.from.now in
    behind_keys (documented c.args.source.now) (documented c.args.target.now) (map entry_view c.args.entries.items)
    (both before (g.T.Store.shown c.args.to.now))
    (g.S.Store.shown c.set_entries.new.store)
    (both (g.S.Store.shown c.text_of_moved.new.from) (g.T.Store.shown c.text_of_moved.new.to))
    (c.in-Ok.ensures.set ∙ ap (λ entries. with_keys (map entry_view entries) before.content) c.deref.ensures.value)
    c.in-Ok.ensures.asks c.in-Ok.ensures.taken
    (c.in-Ok.ensures.puts ∙ ap (λ entries. counted before.puts (length (map entry_view entries))) c.deref.ensures.value)
    c.in-Ok.ensures.cause.later c.text_of_moved.result c.text_of_moved.ensures.same c.text_of_moved.ensures.ran
