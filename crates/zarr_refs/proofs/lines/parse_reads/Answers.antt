use Rattle.std.proofs.Common.{◌≡◌, None, is_some, string_bytes, option_map, map, sym, ap, ◌∙◌, subst, arith}
use Rattle.zarr_model.proofs.Choices.{is_some-option_map}
use Rattle.zarrs_codec_array_bytes.specs.Steps.{kind_seen}
use Rattle.zarr_array.specs.boxes.Command.{command_of}
use Rattle.zarr_cli_lines.specs.Text.{line_command}
use Rattle.zarr_refs.specs.Lines.{that_reads, line_read}
use Rattle.zarr_refs.specs.Steps.{IsReadFault}
use Rattle.zarr_refs.proofs.LineLaws.{stops_reads}
use Rattle.zarr_refs.proofs.lines.parse_reads.Goals as goal

pub returns-in_default-clause-fault : goal.returns-in_default-clause-fault
returns-in_default-clause-fault c =
    let kind = kind_seen c.args.data_type.now in
    let line = c.line-item.result in
    let at : c.len.result ≡ c.loop-line.line-index =
    omega (arith, c.len.ensures, c.loop-line.invariant.number, c.loop-line.reads.ok) in
    let none : line_read kind (string_bytes line) ≡ None =
    ap (line_read kind) (sym c.as_str.ensures.value) ∙ (ap that_reads (sym c.in_ok-command.ensures)
    ∙ (sym c.only_read.ensures ∙ ap (option_map command_of) c.in_default.is)) in
    let which : is_some (line_command kind (string_bytes line)) ≡ c.is_some-changes.result =
    ap (λ w. is_some (line_command kind w)) (sym c.as_str.ensures.value)
    ∙ (ap is_some (sym c.in_ok-command.ensures)
    ∙ (is_some-option_map command_of c.in_ok-command.command ∙ sym c.is_some-changes.ensures)) in
    subst (IsReadFault kind (map string_bytes c.args.lines.now)) (sym c.stop_after.ensures)
    (stops_reads kind c.args.lines.now c.loop-line.line-index line c.loop-line-test.true c.line-item.is c.len.result
    (map command_of c.loop-line.reads.items) c.is_some-changes.result at none which
    c.loop-line.invariant.all (let count = c.loop-line.invariant.good in
    omega (arith, count, at, c.loop-line.invariant.number)))
