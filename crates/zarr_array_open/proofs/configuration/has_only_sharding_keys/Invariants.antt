use Rattle.std.proofs.Common.{◌≡◌}
use Rattle.serde_json.specs.View.{members_view}
use Rattle.zarr_array_open.specs.Sharding.{has_only_sharding_keys}
use Rattle.zarr_array_open.proofs.configuration.has_only_sharding_keys.Given as goal

abbrev pub invariant-loop-key : goal.invariant-loop-key
invariant-loop-key l =
    (goal.iterator-loop-key).can_next l.key-iterator ×
    (goal.iterator-loop-key).is_finite l.key-iterator ×
    (has_only_sharding_keys (members_view l.members.entries) ≡ has_only_sharding_keys (members_view l.key-iterator))
