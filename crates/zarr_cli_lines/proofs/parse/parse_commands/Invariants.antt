use Rattle.std.proofs.Common.{◌≡◌, ◌+◌, ◌++◌, map, drop, length, string_bytes, option_map, is_some}
use Rattle.std.specs.List.{prefix_len}
use Rattle.zarr_array_boxes.specs.Command.{command_of}
use Rattle.zarrs_codec_array_bytes.specs.Steps.{kind_seen}
use Rattle.zarr_cli_lines.specs.Text.{all_some, line_command}
use Rattle.zarr_cli_lines.proofs.parse.parse_commands.Given as goal

abbrev pub invariant-loop-line : goal.invariant-loop-line
invariant-loop-line l = record {
  all : option_map (λ commands. map command_of l.commands.items ++
      commands) (all_some (map (line_command (kind_seen l.data_type)) (map string_bytes (drop l.line-index l.lines)))) ≡
      all_some (map (line_command (kind_seen l.data_type)) (map string_bytes l.fn.lines));
  good : length l.commands.items + prefix_len (λ line. is_some (line_command (kind_seen l.data_type) line))
      (map string_bytes (drop l.line-index l.lines)) ≡
      prefix_len (λ line. is_some (line_command (kind_seen l.data_type) line)) (map string_bytes l.fn.lines);
  number : length l.commands.items ≡ l.line-index;
}
