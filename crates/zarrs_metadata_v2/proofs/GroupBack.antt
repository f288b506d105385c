-- What is written for a version 2 group, or for either, read again.
use Rattle.std.proofs.Common.{◌≡◌, Some, refl}
use Rattle.serde_json.specs.Data.{Members}
use Rattle.serde_json.proofs.Views.{get_member-put}
use Rattle.zarrs_metadata_values.specs.Forms.{first, second}
use Rattle.zarrs_metadata_values.specs.Reading.{is_number}
use Rattle.zarrs_metadata_v2.specs.GroupMetadataV2.{group_v2_of, group_v2_members, group_v2_data, normal_group_v2}
use Rattle.zarrs_metadata_v2.specs.NodeV2.{NodeV2, node_v2_of, node_v2_data}
use Rattle.zarrs_metadata_v2.specs.NodeV2.{normal_node_v2, StaysItsKindV2}
use Rattle.zarrs_metadata_v2.proofs.ArrayBack.{array_v2_reads_back}

pub group_v2_reads_back : (attributes : Members) →
    group_v2_of (group_v2_data attributes) ≡ Some (normal_group_v2 attributes)
unfolding group_v2_members is_number
group_v2_reads_back attributes = rw get_member-put refl

pub node_v2_reads_back : (n : NodeV2) → StaysItsKindV2 n → node_v2_of (node_v2_data n) ≡ Some (normal_node_v2 n)
node_v2_reads_back (first f) h = rw (array_v2_reads_back f h) refl
node_v2_reads_back (second attributes) h = rw (h, group_v2_reads_back attributes) refl
