use Rattle.std.proofs.Common.{◌+◌, true, false, map, string_bytes, refl, ap, subst}
use Rattle.zarrs_codec_traits.specs.Prelude.{kind_of, options_of, kind_seen}
use Rattle.zarr_array.specs.OpenArray.{described_array}
use Rattle.zarr_array.specs.boxes.Command.{command_of}
use Rattle.zarr_cli_lines.specs.Parts.{entry_view}
use Rattle.zarr_cli_runs.specs.declared.status.Status.TheVariants.{BadInput}
use Rattle.zarr_refs.specs.declared.status.RefStatus.TheVariants as status
use Rattle.zarr_refs.specs.declared.lines.RefLineError.TheVariants.{OutOfForm, ReadOnly}
use Rattle.zarr_refs.specs.Steps.{SaysRefs, IsRefLineFault}
use Rattle.zarr_refs.specs.Lines.{lines_after_references}
use Rattle.zarr_refs.specs.Reads.{run_of}
use Rattle.zarr_refs.proofs.LineLaws.{all_read}
use Rattle.zarr_refs.proofs.SaidLaws.{says_ran, all_plain, line_stops, memory_out}
use Rattle.zarr_refs.proofs.program.text_of_lines.Goals as goal

pub returns-in-Ok-clause-ran : goal.returns-in-Ok-clause-ran
returns-in-Ok-clause-ran g c =
    let lines = map string_bytes c.args.lines.now in
    says_ran (described_array c.args.array.now) (options_of c.args.options.now) lines c.in-Ok.parsed
    (g.S.Store.shown c.args.store.now) (g.S.Store.shown c.run_ref_lines.new.store) c.run_ref_lines.result
    (subst (λ k. SaysRefs k lines c.in-Ok.parsed) (ap kind_of c.data_type.ensures.data_type) c.in-Ok.ensures.says)
    c.run_ref_lines.ensures

pub returns-in-Ok-clause-plain : goal.returns-in-Ok-clause-plain
returns-in-Ok-clause-plain g c =
    all_plain (run_of (described_array c.args.array.now) (options_of c.args.options.now)
    (map entry_view c.in-Ok.parsed.entries.items) c.in-Ok.parsed)
    (g.S.Store.shown c.args.store.now) (g.S.Store.shown c.run_ref_lines.new.store) c.run_ref_lines.result
    c.run_ref_lines.ensures

pub returns-in-Err-OutOfForm-clause-ran : goal.returns-in-Err-OutOfForm-clause-ran
returns-in-Err-OutOfForm-clause-ran g c =
    let lines = map string_bytes c.args.lines.now in
    rw c.in-Err-OutOfForm.field-0-is
    (line_stops (described_array c.args.array.now) (options_of c.args.options.now) lines c.in-Err-OutOfForm.good_lines
    false (g.S.Store.shown c.args.store.now) (status.Cli (BadInput (c.in-Err-OutOfForm.good_lines + 2)))
    (subst (λ k. IsRefLineFault k lines (OutOfForm c.in-Err-OutOfForm.good_lines))
    (ap kind_of c.data_type.ensures.data_type)
    (subst (IsRefLineFault (kind_seen c.data_type.result.now) lines) c.in-Err-OutOfForm.field-0-is
    c.in-Err-OutOfForm.ensures.fault)) refl)

pub returns-in-Err-ReadOnly-clause-ran : goal.returns-in-Err-ReadOnly-clause-ran
returns-in-Err-ReadOnly-clause-ran g c =
    let lines = map string_bytes c.args.lines.now in
    rw c.in-Err-ReadOnly.field-0-is
    (line_stops (described_array c.args.array.now) (options_of c.args.options.now) lines c.in-Err-ReadOnly.good_lines
    true (g.S.Store.shown c.args.store.now) (status.ReadOnly (c.in-Err-ReadOnly.good_lines + 2))
    (subst (λ k. IsRefLineFault k lines (ReadOnly c.in-Err-ReadOnly.good_lines))
    (ap kind_of c.data_type.ensures.data_type)
    (subst (IsRefLineFault (kind_seen c.data_type.result.now) lines) c.in-Err-ReadOnly.field-0-is
    c.in-Err-ReadOnly.ensures.fault)) refl)

pub returns-in-Err-OutOfMemory-clause-ran : goal.returns-in-Err-OutOfMemory-clause-ran
returns-in-Err-OutOfMemory-clause-ran g c = memory_out _ (g.S.Store.shown c.args.store.now)

pub run_ref_lines-requires : goal.run_ref_lines-requires
run_ref_lines-requires g c = record {
  reads = all_read (kind_seen c.data_type.result.now) (lines_after_references (map string_bytes c.args.lines.now))
      (map command_of c.in-Ok.parsed.reads.items) c.in-Ok.ensures.says.reads;
}
