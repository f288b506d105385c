use Rattle.std.proofs.Common.{map, length, sym, ap, ◌∙◌, subst, rules}
use Rattle.zarrs_codec_traits.specs.Prelude.{with_keys, counted, options_of}
use Rattle.zarr_array.specs.OpenArray.{described_array}
use Rattle.zarr_cli_lines.specs.Parts.{entry_view}
use Rattle.zarr_cli.specs.Lines.{IsKeyOf}
use Rattle.zarr_cli.specs.Run.{SetsPart}
use Rattle.zarr_refs.proofs.ReadsLaws.{behind_keys, keys_failed, keys_starved}
use Rattle.zarr_refs.proofs.run.run_ref_lines.Goals as goal

pub returns-in-Ok : goal.returns-in-Ok
returns-in-Ok g c =
    let entries = map entry_view c.args.lines.now.entries.items in
    let before = g.S.Store.shown c.args.store.now in
    behind_keys (described_array c.args.array.now) (options_of c.args.options.now) entries c.args.lines.now before
    (g.S.Store.shown c.set_entries.new.store) (g.S.Store.shown c.text_of_references.new.store)
    (c.in-Ok.ensures.set ∙ ap (λ entries. with_keys (map entry_view entries) before.content) c.deref.ensures.value)
    (c.in-Ok.ensures.puts ∙ ap (λ entries. counted before.puts (length (map entry_view entries))) c.deref.ensures.value)
    c.in-Ok.ensures.cause.later
    (λ key free. c.set_entries.ensures.elsewhere key
    (subst (λ entries. ¬ IsKeyOf (map entry_view entries) key) (sym c.deref.ensures.value) free))
    c.text_of_references.result c.text_of_references.ensures

pub returns-in-Err-Failed : goal.returns-in-Err-Failed
returns-in-Err-Failed g c =
    let before = g.S.Store.shown c.args.store.now in
    let now = g.S.Store.shown c.set_entries.new.store in
    keys_failed (described_array c.args.array.now) (options_of c.args.options.now)
    (map entry_view c.args.lines.now.entries.items) c.args.lines.now before now
    (subst (λ entries. SetsPart (map entry_view entries) before.content now.content) c.deref.ensures.value
    c.in-Err-Failed.ensures.failed) c.set_entries.ensures.cause.later
    (λ key free. c.set_entries.ensures.elsewhere key
    (subst (λ entries. ¬ IsKeyOf (map entry_view entries) key) (sym c.deref.ensures.value) free))
    (c.in-Err-Failed.ensures.cause.failed (search rules))

pub returns-in-Err-OutOfMemory : goal.returns-in-Err-OutOfMemory
returns-in-Err-OutOfMemory g c =
    let before = g.S.Store.shown c.args.store.now in
    let now = g.S.Store.shown c.set_entries.new.store in
    keys_starved (described_array c.args.array.now) (options_of c.args.options.now)
    (map entry_view c.args.lines.now.entries.items) c.args.lines.now before now
    (subst (λ entries. SetsPart (map entry_view entries) before.content now.content) c.deref.ensures.value
    c.in-Err-OutOfMemory.ensures.failed) c.set_entries.ensures.cause.later
    (λ key free. c.set_entries.ensures.elsewhere key
    (subst (λ entries. ¬ IsKeyOf (map entry_view entries) key) (sym c.deref.ensures.value) free))
