use Rattle.std.proofs.Common.{◌≡◌, ◌+◌, ◌++◌, length, option_map}
use Rattle.std.specs.Option.{option_map_or}
use Rattle.zarr_cli_lines.specs.ElementText.{words_left}
use Rattle.zarr_cli_lines.specs.Fixed.{written_bytes}
use Rattle.zarr_cli_lines.proofs.fixed.parse_bytes.Given as goal

abbrev pub invariant-elements : goal.invariant-elements
invariant-elements l =
    option_map (λ bytes. l.value.items ++ bytes) (written_bytes 1 (words_left l.left)) ≡
    written_bytes 1 (words_left l.fn.text)

abbrev pub decreases-elements : goal.decreases-elements
decreases-elements l = option_map_or (λ rest. length rest.now + 1) l.left 0
