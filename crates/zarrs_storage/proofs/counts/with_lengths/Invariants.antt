use Rattle.std.proofs.Common.{◌≡◌, ◌+◌, take}
use Rattle.zarrs_storage.specs.Calls.{capped_count}
use Rattle.zarrs_storage.specs.Store.{total_of}
use Rattle.zarrs_storage.proofs.counts.with_lengths.Given as goal

abbrev pub invariant-loop-part : goal.invariant-loop-part
invariant-loop-part l = l.sum ≡ capped_count (l.count + total_of (take l.part-index l.parts))
