use Rattle.std.proofs.Common.{◌≡◌, [], map, string_bytes, Some, Err, inl, sym, subst}
use Rattle.std.specs.declared.alloc.Global.{Global}
use Rattle.zarr_cli.specs.Input.{text_says}
use Rattle.zarr_cli_runs.proofs.JobLaws.{on_ok}
use Rattle.zarr_rechunk.specs.declared.status.RechunkStatus.TheVariants.{Cli}
use Rattle.zarr_rechunk.specs.Input.{stops, move_lines_say}
use Rattle.zarr_rechunk.specs.Said.{both, RanMoveInput}
use Rattle.zarr_rechunk.proofs.SaidLaws.{input_ran, input_unread}
use Rattle.zarr_rechunk.proofs.program.text_of_input.Goals as goal

pub returns-in-Ok-clause-ran : goal.returns-in-Ok-clause-ran
returns-in-Ok-clause-ran g c = record {
  ran = λ input left.
      let read = c.in-Ok.ensures.text input left in
      inl (input_ran input (map string_bytes c.in-Ok.lines.items)
      (both (g.S.Store.shown c.args.from.now) (g.T.Store.shown c.args.to.now))
      (both (g.S.Store.shown c.text_of_source.new.from) (g.T.Store.shown c.text_of_source.new.to))
      c.text_of_source.result
      read.0 read.1 read.2 c.text_of_source.ensures.ran);
  whole = λ input left. on_ok ((g.R.Source.shown c.read_lines.new.source).left ≡ Some []) c.text_of_source.result
      (c.in-Ok.ensures.whole input left);
}

pub returns-in-Err-clause-ran : goal.returns-in-Err-clause-ran
returns-in-Err-clause-ran g c =
    let source = g.R.Source.shown c.args.source.now in
    let source_now = g.R.Source.shown c.read_lines.new.source in
    let stores = both (g.S.Store.shown c.args.from.now) (g.T.Store.shown c.args.to.now) in
    subst (λ status. RanMoveInput {Z = Global} (text_says stops move_lines_say) source source_now stores stores
    (Err (Cli status))) (sym c.fault_status.ensures)
    (input_unread source source_now stores c.in-Err.fault c.in-Err.ensures.fault)
