use Rattle.std.proofs.Common.{◌≡◌, drop}
use Rattle.zarrs_plugin.specs.NamePattern.{matches_any, patterns_of}
use Rattle.zarrs_plugin.proofs.name_pattern.any_matches.Given as goal

abbrev pub invariant-loop-pattern : goal.invariant-loop-pattern
invariant-loop-pattern l =
    matches_any (patterns_of l.patterns) l.name ≡ matches_any (patterns_of (drop l.pattern-index l.patterns)) l.name
