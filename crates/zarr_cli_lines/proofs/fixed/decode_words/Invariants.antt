use Rattle.std.proofs.Common.{◌≡◌, ◌+◌, ◌≤◌, ◌++◌, length, take, option_map}
use Rattle.std.specs.Option.{option_map_or}
use Rattle.zarr_cli_lines.specs.ElementText.{words_left}
use Rattle.zarr_cli_lines.specs.Fixed.{written_bytes, room_left}
use Rattle.zarr_cli_lines.proofs.fixed.decode_words.Given as goal

abbrev pub invariant-elements : goal.invariant-elements
invariant-elements l =
    (option_map (λ bytes. take l.at l.places ++ bytes) (written_bytes l.size (words_left l.left)) ≡
    written_bytes l.size (words_left l.fn.text)) ×
    (l.at + room_left l.size l.left ≤ length l.places)

abbrev pub decreases-elements : goal.decreases-elements
decreases-elements l = option_map_or (λ rest. length rest.now + 1) l.left 0
