use Rattle.std.proofs.Common.{◌≡◌, ◌≤◌, ◌++◌, drop}
use Rattle.zarr_model.specs.Prelude.{counted}
use Rattle.zarr_cli_lines.specs.Text.{entries_text}
use Rattle.zarr_cli_runs.specs.Keys.{entries_at}
use Rattle.zarr_cli_runs.proofs.keys.push_keys.Given as goal

abbrev pub invariant-loop-key : goal.invariant-loop-key
invariant-loop-key g l = record {
  lines : l.text.items ++ entries_text (entries_at (g.S.Store.shown l.fn.store).content (drop l.key-index l.keys)) ≡
      l.fn.text.items ++ entries_text (entries_at (g.S.Store.shown l.fn.store).content l.keys);
  same : (g.S.Store.shown l.store).content ≡ (g.S.Store.shown l.fn.store).content;
  asks : (g.S.Store.shown l.store).asks ≡ counted (g.S.Store.shown l.fn.store).asks l.key-index;
  puts : (g.S.Store.shown l.store).puts ≡ (g.S.Store.shown l.fn.store).puts;
  later : (g.S.Store.shown l.fn.store).faults ≤ (g.S.Store.shown l.store).faults;
}
