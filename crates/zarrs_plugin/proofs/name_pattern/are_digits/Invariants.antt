use Rattle.std.proofs.Common.{◌≡◌, drop}
use Rattle.zarrs_plugin.specs.NamePattern.{are_digits}
use Rattle.zarrs_plugin.proofs.name_pattern.are_digits.Given as goal

abbrev pub invariant-loop-byte : goal.invariant-loop-byte
invariant-loop-byte l = are_digits l.bytes ≡ are_digits (drop l.byte-index l.bytes)
