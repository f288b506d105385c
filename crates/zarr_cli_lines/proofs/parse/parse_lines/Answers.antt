use Rattle.std.proofs.Common.{◌≡◌, ◌+◌, ℕ, Bool, List, length, map, string_bytes, sym, ap, ap₂, ◌∙◌}
use Rattle.std.proofs.Common.{arith, length-drop}
use Rattle.std.proofs.lemmas.List.{length-map}
use Rattle.std.specs.List.{prefix_len}
use Rattle.std.specs.Prelude.{is_some}
use Rattle.zarrs_codec_array_bytes.specs.Steps.{kind_seen}
use Rattle.zarr_cli_lines.specs.Text.{first_entries, line_command, all_some}
use Rattle.zarr_cli_lines.specs.Parts.{entry_view}
use Rattle.zarr_cli_lines.proofs.LineLemmas.{few_entries, all_behind, after_entries}
use Rattle.zarr_cli_lines.proofs.parse.parse_lines.Goals as goal

pub slice_bounds-parse_commands-count : goal.slice_bounds-parse_commands-count
slice_bounds-parse_commands-count c =
    let lines = map string_bytes c.args.lines.now in
    omega (
      arith,
      c.len.ensures,
      few_entries lines,
      ap length c.in_ok-entries.ensures,
      length-map c.in_ok-entries.entries.items entry_view,
      length-map c.args.lines.now string_bytes,
    )

pub slice_bounds-parse_commands-start : goal.slice_bounds-parse_commands-start
slice_bounds-parse_commands-start c =
    let lines = map string_bytes c.args.lines.now in
    omega (
      arith,
      c.len.ensures,
      few_entries lines,
      ap length c.in_ok-entries.ensures,
      length-map c.in_ok-entries.entries.items entry_view,
      length-map c.args.lines.now string_bytes,
    )

pub returns-in-Ok-clause-commands : goal.returns-in-Ok-clause-commands
returns-in-Ok-clause-commands c =
    let lines = map string_bytes c.args.lines.now in
    let many : c.len.result ≡ length (first_entries lines) = omega
    (arith, c.len.ensures, ap length c.in_ok-entries.ensures, length-map c.in_ok-entries.entries.items entry_view) in
    ap (λ ls. all_some (map (line_command (kind_seen c.args.data_type.now)) ls))
    (after_entries c.args.lines.now c.len.result many) ∙ c.in-Ok.ensures.ok

pub returns-in-Err-OutOfForm-clause-fault : goal.returns-in-Err-OutOfForm-clause-fault
returns-in-Err-OutOfForm-clause-fault c =
    let lines = map string_bytes c.args.lines.now in
    let test : List ℕ → Bool = λ line. is_some (line_command (kind_seen c.args.data_type.now) line) in
    let n : ℕ = c.len.result in
    let many : n ≡ length (first_entries lines) = omega
    (arith, c.len.ensures, ap length c.in_ok-entries.ensures, length-map c.in_ok-entries.entries.items entry_view) in
    let last : c.len-in-Err-OutOfForm.result ≡ n = omega (arith, c.len.ensures, c.len-in-Err-OutOfForm.ensures) in
    let fault = c.in-Err-OutOfForm.ensures.fault c.in-Err-OutOfForm.good_lines c.in-Err-OutOfForm.field-0-is in (
      ap₂ (λ a b. a + b) (last ∙ many) (fault.0 ∙ ap (prefix_len test) (sym (after_entries c.args.lines.now n many))),
      omega (
        arith,
        last,
        fault.1,
        ap length (all_behind n c.args.lines.now),
        length-drop n c.args.lines.now,
        length-map c.args.lines.now string_bytes,
      ),
    )
