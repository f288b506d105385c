-- Normal forms of version 2 documents, twice.
use Rattle.std.proofs.Common.{◌≡◌}
use Rattle.serde_json.specs.Data.{Members}
use Rattle.zarrs_metadata_values.specs.Rising.{Rises}
use Rattle.zarrs_metadata_v2.specs.ArrayMetadataV2.{ArrayV2, array_v2_data, normal_array_v2, HasChunks}
use Rattle.zarrs_metadata_v2.specs.GroupMetadataV2.{group_v2_data, normal_group_v2}
use Rattle.zarrs_metadata_v2.proofs.ArrayBack.{array_v2_reads_back}
use Rattle.zarrs_metadata_v2.proofs.GroupBack.{group_v2_reads_back}
use Rattle.zarrs_metadata_v2.proofs.Stays.{array_v2_stays, group_v2_stays}

-- where the keys of what is written rise
pub written_array_once : (f : ArrayV2) → HasChunks f → Rises (array_v2_data f) →
    normal_array_v2 (normal_array_v2 f) ≡ normal_array_v2 f
written_array_once f h rises = array_v2_stays (array_v2_data f) (normal_array_v2 f) rises (array_v2_reads_back f h)

pub written_group_once : (attributes : Members) → Rises (group_v2_data attributes) →
    normal_group_v2 (normal_group_v2 attributes) ≡ normal_group_v2 attributes
written_group_once attributes rises =
    group_v2_stays (group_v2_data attributes) (normal_group_v2 attributes) rises (group_v2_reads_back attributes)
