use Rattle.std.proofs.Common.{◌≡◌, ◌+◌, length, map, ◌++◌, [], option_map}
use Rattle.std.specs.Option.{option_map_or}
use Rattle.zarrs_array_subset.specs.Boxes.{region_of_ranges}
use Rattle.zarr_cli_lines.specs.Text.{split_at, all_some, span_in_words}
use Rattle.zarr_cli_lines.proofs.boxes.parse_ranges.Given as goal

abbrev pub invariant-parts : goal.invariant-parts
invariant-parts l =
    option_map (λ spans. region_of_ranges l.ranges.items ++ spans) (all_some
    (map (λ range. span_in_words (split_at 46 range)) (option_map_or (λ rest. split_at 44 rest.now) l.left [])))
    ≡ all_some (map (λ range. span_in_words (split_at 46 range)) (split_at 44 l.fn.text))

abbrev pub decreases-parts : goal.decreases-parts
decreases-parts l = option_map_or (λ rest. length rest.now + 1) l.left 0
