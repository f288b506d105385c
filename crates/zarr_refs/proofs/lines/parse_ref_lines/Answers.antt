use Rattle.std.proofs.Common.{◌≡◌, ℕ, length, map, string_bytes, sym, ap, ◌∙◌, subst, arith}
use Rattle.std.proofs.lemmas.List.{length-map}
use Rattle.zarrs_codec_array_bytes.specs.Steps.{kind_seen}
use Rattle.zarr_cli_lines.specs.Text.{all_some, first_entries}
use Rattle.zarr_cli_lines.specs.Parts.{entry_view}
use Rattle.zarr_cli_lines.proofs.LineLemmas.{few_entries, part_behind, after_entries}
use Rattle.zarr_refs.specs.Lines.{first_references, line_read}
use Rattle.zarr_refs.specs.Steps.{IsReadFault}
use Rattle.zarr_refs.proofs.LineLaws.{few_references, after_references, stops_refs}
use Rattle.zarr_refs.proofs.lines.parse_ref_lines.Goals as goal

pub slice_bounds-others-count : goal.slice_bounds-others-count
slice_bounds-others-count c =
    omega (
      arith,
      c.len.ensures,
      few_entries (map string_bytes c.args.lines.now),
      ap length c.in_ok-entries.ensures,
      length-map c.in_ok-entries.entries.items entry_view,
      length-map c.args.lines.now string_bytes,
    )

pub slice_bounds-others-start : goal.slice_bounds-others-start
slice_bounds-others-start c =
    omega (
      arith,
      c.len.ensures,
      few_entries (map string_bytes c.args.lines.now),
      ap length c.in_ok-entries.ensures,
      length-map c.in_ok-entries.entries.items entry_view,
      length-map c.args.lines.now string_bytes,
    )

pub slice_bounds-parse_reads-count : goal.slice_bounds-parse_reads-count
slice_bounds-parse_reads-count c =
    let part = part_behind c.len.result c.args.lines.now in
    omega (
      arith,
      c.len-4.ensures,
      few_references (map string_bytes part),
      ap length c.in_ok-references.ensures,
      length-map part string_bytes,
    )

pub slice_bounds-parse_reads-start : goal.slice_bounds-parse_reads-start
slice_bounds-parse_reads-start c =
    let part = part_behind c.len.result c.args.lines.now in
    omega (
      arith,
      c.len-4.ensures,
      few_references (map string_bytes part),
      ap length c.in_ok-references.ensures,
      length-map part string_bytes,
    )

pub returns-in-Ok-clause-says : goal.returns-in-Ok-clause-says
returns-in-Ok-clause-says c =
    let n : ℕ = c.len.result in
    let many : n ≡ length (first_entries (map string_bytes c.args.lines.now)) = omega
    (arith, c.len.ensures, ap length c.in_ok-entries.ensures, length-map c.in_ok-entries.entries.items entry_view) in
    let said = c.in_ok-references.ensures ∙ ap first_references (sym (after_entries c.args.lines.now n many)) in
    record {
      entries = c.in_ok-entries.ensures;
      references = said;
      reads = ap (λ ls. all_some (map (line_read (kind_seen c.args.data_type.now)) ls)) (after_references
          c.args.lines.now n c.len-4.result many (omega (arith, c.len-4.ensures, ap length said))) ∙ c.in-Ok.ensures.ok;
    }

pub returns-in-Err-OutOfForm-clause-fault : goal.returns-in-Err-OutOfForm-clause-fault
returns-in-Err-OutOfForm-clause-fault c =
    let n : ℕ = c.len-2.result in
    let m : ℕ = c.len-3.result in
    let kind = kind_seen c.args.data_type.now in
    let many : n ≡ length (first_entries (map string_bytes c.args.lines.now)) = omega
    (arith, c.len-2.ensures, ap length c.in_ok-entries.ensures, length-map c.in_ok-entries.entries.items entry_view) in
    let same : c.len.result ≡ n = omega (arith, c.len.ensures, c.len-2.ensures) in
    let others : c.len-4.result ≡ m = omega (arith, c.len-3.ensures, c.len-4.ensures) in
    let said = c.in_ok-references.ensures ∙ ap first_references (ap (λ (k : ℕ).
    map string_bytes (part_behind k c.args.lines.now)) same ∙ sym (after_entries c.args.lines.now n many)) in
    stops_refs c.args.lines.now n m many (omega (arith, c.len-3.ensures, ap length said)) kind
    c.in-Err-OutOfForm.good_lines _
    (subst (IsReadFault kind (map string_bytes (part_behind m (part_behind n c.args.lines.now))))
    c.in-Err-OutOfForm.field-0-is
    (subst (λ (k : ℕ). IsReadFault kind (map string_bytes (part_behind k (part_behind n c.args.lines.now)))
    c.in-Err-OutOfForm.field-0) others
    (subst (λ (k : ℕ). IsReadFault kind (map string_bytes (part_behind c.len-4.result (part_behind k c.args.lines.now)))
    c.in-Err-OutOfForm.field-0) same c.in-Err-OutOfForm.ensures.fault)))

pub returns-in-Err-ReadOnly-clause-fault : goal.returns-in-Err-ReadOnly-clause-fault
returns-in-Err-ReadOnly-clause-fault c =
    let n : ℕ = c.len-2.result in
    let m : ℕ = c.len-3.result in
    let kind = kind_seen c.args.data_type.now in
    let many : n ≡ length (first_entries (map string_bytes c.args.lines.now)) = omega
    (arith, c.len-2.ensures, ap length c.in_ok-entries.ensures, length-map c.in_ok-entries.entries.items entry_view) in
    let same : c.len.result ≡ n = omega (arith, c.len.ensures, c.len-2.ensures) in
    let others : c.len-4.result ≡ m = omega (arith, c.len-3.ensures, c.len-4.ensures) in
    let said = c.in_ok-references.ensures ∙ ap first_references (ap (λ (k : ℕ).
    map string_bytes (part_behind k c.args.lines.now)) same ∙ sym (after_entries c.args.lines.now n many)) in
    stops_refs c.args.lines.now n m many (omega (arith, c.len-3.ensures, ap length said)) kind
    c.in-Err-ReadOnly.good_lines _
    (subst (IsReadFault kind (map string_bytes (part_behind m (part_behind n c.args.lines.now))))
    c.in-Err-ReadOnly.field-0-is
    (subst (λ (k : ℕ). IsReadFault kind (map string_bytes (part_behind k (part_behind n c.args.lines.now)))
    c.in-Err-ReadOnly.field-0) others
    (subst (λ (k : ℕ). IsReadFault kind (map string_bytes (part_behind c.len-4.result (part_behind k c.args.lines.now)))
    c.in-Err-ReadOnly.field-0) same c.in-Err-ReadOnly.ensures.fault)))
