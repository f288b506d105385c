use Rattle.std.proofs.Common.{◌≡◌, ◌≤◌, ℕ, List, map, take}
use Rattle.zarr_model.specs.Prelude.{with_keys, counted}
use Rattle.zarr_cli_runs.specs.lines.Parts.{entry_view}
use Rattle.zarr_cli.specs.Lines.{IsKeyOf}
use Rattle.zarr_cli.proofs.run.set_entries.Given as goal

abbrev pub invariant-loop-entry : goal.invariant-loop-entry
invariant-loop-entry g l = record {
  set : (key : List ℕ) → (g.S.Store.shown l.store).content key ≡
      with_keys (take l.entry-index (map entry_view l.entries)) (g.S.Store.shown l.fn.store).content key;
  elsewhere : (key : List ℕ) → ¬ IsKeyOf (map entry_view l.entries) key →
      (g.S.Store.shown l.store).content key ≡ (g.S.Store.shown l.fn.store).content key;
  asks : (g.S.Store.shown l.store).asks ≡ (g.S.Store.shown l.fn.store).asks;
  taken : (g.S.Store.shown l.store).taken ≡ (g.S.Store.shown l.fn.store).taken;
  puts : (g.S.Store.shown l.store).puts ≡ counted (g.S.Store.shown l.fn.store).puts l.entry-index;
  later : (g.S.Store.shown l.fn.store).faults ≤ (g.S.Store.shown l.store).faults;
}
