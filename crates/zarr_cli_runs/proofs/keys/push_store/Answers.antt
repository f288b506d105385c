use Rattle.std.proofs.Common.{subst, length, ◌≡◌, ◌++◌, ◌∙◌, OnOk}
use Rattle.std.proofs.Math.Path.{fun_ext}
use Rattle.zarr_model.specs.Prelude.{counted}
use Rattle.zarr_cli_lines.specs.Text.{entries_text}
use Rattle.zarr_cli_runs.specs.Keys.{entries_at}
use Rattle.zarr_cli_runs.proofs.KeyLemmas.{store_dumped}
use Rattle.zarr_cli_runs.proofs.keys.push_store.Goals as goal

pub returns-in-Ok-clause-dumped : goal.returns-in-Ok-clause-dumped
returns-in-Ok-clause-dumped g c =
    store_dumped (g.S.Store.shown c.args.store.now) (g.S.Store.shown c.list.new.self)
    (g.S.Store.shown c.push_keys.new.store) c.in-Ok.keys.items
    c.args.text.now.items c.push_keys.new.text.items c.push_keys.result
    c.in-Ok.ensures.reads.keys (fun_ext c.list.ensures.reads.same) c.push_keys.ensures.reads.same
    (c.push_keys.ensures.reads.puts
    ∙ g.met.S.Store.kept_puts c.args.store.now c.list.new.self c.list.ensures.kept) c.list.ensures.reads.asks
    (subst (λ keys. OnOk c.push_keys.result ((g.S.Store.shown c.push_keys.new.store).asks ≡
    counted (g.S.Store.shown c.list.new.self).asks (length keys))) c.deref.ensures.value c.push_keys.ensures.asks)
    (subst (λ keys. OnOk c.push_keys.result (c.push_keys.new.text.items ≡ c.args.text.now.items ++ entries_text
    (entries_at (g.S.Store.shown c.list.new.self).content keys))) c.deref.ensures.value c.push_keys.ensures.lines)
