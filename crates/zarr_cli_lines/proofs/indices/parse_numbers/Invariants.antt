use Rattle.std.proofs.Common.{◌≡◌, ◌+◌, ◌++◌, [], length, map, option_map}
use Rattle.std.specs.Option.{option_map_or}
use Rattle.zarr_cli_lines.specs.Text.{split_at, all_some}
use Rattle.zarrs_plugin.specs.Number.{number_of}
use Rattle.zarr_cli_lines.proofs.indices.parse_numbers.Given as goal

abbrev pub invariant-parts : goal.invariant-parts
invariant-parts l =
    option_map (λ numbers.
    l.numbers.items ++ numbers) (all_some (map number_of (option_map_or (λ rest. split_at 44 rest.now) l.left [])))
    ≡ all_some (map number_of (split_at 44 l.fn.text))

abbrev pub decreases-parts : goal.decreases-parts
decreases-parts l = option_map_or (λ rest. length rest.now + 1) l.left 0
