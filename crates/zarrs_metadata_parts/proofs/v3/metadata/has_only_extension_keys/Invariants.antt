use Rattle.std.proofs.Common.{◌≡◌}
use Rattle.serde_json.specs.View.{members_view}
use Rattle.zarrs_metadata_parts.specs.MetadataV3.{has_only_extension_keys}
use Rattle.zarrs_metadata_parts.proofs.v3.metadata.has_only_extension_keys.Given as goal

abbrev pub invariant-loop-key : goal.invariant-loop-key
invariant-loop-key l =
    (goal.iterator-loop-key).can_next l.key-iterator ×
    (goal.iterator-loop-key).is_finite l.key-iterator ×
    (has_only_extension_keys (members_view l.members.entries) ≡ has_only_extension_keys (members_view l.key-iterator))
