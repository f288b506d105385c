use Rattle.std.proofs.Common.{◌≡◌, [], map, string_bytes, Some, Err, inl, sym, ap, ◌∙◌, subst}
use Rattle.std.specs.declared.alloc.Global.{Global}
use Rattle.zarr_cli_runs.proofs.JobLaws.{on_ok}
use Rattle.zarrs_codec_traits.specs.Prelude.{Rose, options_of}
use Rattle.zarr_refs.specs.declared.status.RefStatus.TheVariants.{Cli}
use Rattle.zarr_refs.specs.Input.{input_says_refs}
use Rattle.zarr_refs.specs.Said.{RanInput, IsPlainRef, outcome}
use Rattle.zarr_refs.proofs.SaidLaws.{input_ran, input_unread, not_read_plain, wider_plain}
use Rattle.zarr_refs.proofs.program.text_of_input.Goals as goal

pub returns-in-Ok-clause-ran : goal.returns-in-Ok-clause-ran
returns-in-Ok-clause-ran g c = record {
  ran = λ input left.
      let read = c.in-Ok.ensures.text input left in
      inl (input_ran (options_of c.args.options.now) input (map string_bytes c.deref.result.now)
      (g.S.Store.shown c.args.store.now) (g.S.Store.shown c.text_of_document.new.store) c.text_of_document.result
      read.0 read.1 (ap (map string_bytes) c.deref.ensures.value ∙ read.2) c.text_of_document.ensures.ran);
  whole = λ input left. on_ok ((g.R.Source.shown c.read_lines.new.source).left ≡
      Some []) c.text_of_document.result (c.in-Ok.ensures.whole input left);
}

pub returns-in-Err-clause-ran : goal.returns-in-Err-clause-ran
returns-in-Err-clause-ran g c =
    let source = g.R.Source.shown c.args.source.now in
    let source_now = g.R.Source.shown c.read_lines.new.source in
    let store = g.S.Store.shown c.args.store.now in
    subst (λ status. RanInput {Z = Global} (input_says_refs (options_of c.args.options.now)) source source_now store
    store (Err (Cli status))) (sym c.fault_status.ensures)
    (input_unread (options_of c.args.options.now) source source_now store c.in-Err.fault c.in-Err.ensures.fault)

pub returns-in-Err-clause-plain : goal.returns-in-Err-clause-plain
returns-in-Err-clause-plain g c =
    let source = g.R.Source.shown c.args.source.now in
    let source_now = g.R.Source.shown c.read_lines.new.source in
    let store = g.S.Store.shown c.args.store.now in
    subst (λ status. IsPlainRef (outcome ⊥ (Rose source.faults source_now.faults) store store) (Cli status))
    (sym c.fault_status.ensures) (not_read_plain source source_now store c.in-Err.fault c.in-Err.ensures.fault)

pub returns-in-Ok-clause-plain : goal.returns-in-Ok-clause-plain
returns-in-Ok-clause-plain g c =
    wider_plain ⊥ (Rose (g.R.Source.shown c.args.source.now).faults (g.R.Source.shown c.read_lines.new.source).faults)
    (g.S.Store.shown c.args.store.now) (g.S.Store.shown c.text_of_document.new.store)
    c.text_of_document.result c.text_of_document.ensures.plain
