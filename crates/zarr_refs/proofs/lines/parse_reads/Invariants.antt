use Rattle.std.proofs.Common.{◌≡◌, ◌+◌, ◌++◌, map, drop, length, string_bytes, option_map}
use Rattle.zarr_array.specs.boxes.Command.{command_of}
use Rattle.zarrs_codec_array_bytes.specs.Steps.{kind_seen}
use Rattle.zarr_cli_lines.specs.Text.{all_some}
use Rattle.zarr_refs.specs.Lines.{line_read, good_reads}
use Rattle.zarr_refs.proofs.lines.parse_reads.Given as goal

abbrev pub invariant-loop-line : goal.invariant-loop-line
invariant-loop-line l = record {
  all : option_map (λ reads. map command_of l.reads.items
      ++ reads) (all_some (map (line_read (kind_seen l.data_type)) (map string_bytes (drop l.line-index l.lines)))) ≡
      all_some (map (line_read (kind_seen l.data_type)) (map string_bytes l.fn.lines));
  good : length l.reads.items + good_reads (kind_seen l.data_type) (map string_bytes (drop l.line-index l.lines)) ≡
      good_reads (kind_seen l.data_type) (map string_bytes l.fn.lines);
  number : length l.reads.items ≡ l.line-index;
}
