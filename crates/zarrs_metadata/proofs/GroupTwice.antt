-- Groups that are normalised twice.
use Rattle.std.proofs.Common.{◌≡◌}
use Rattle.zarrs_metadata_values.specs.Rising.{Rises}
use Rattle.zarrs_metadata_parts.specs.AdditionalFields.{AreOrderly}
use Rattle.zarrs_metadata.specs.GroupMetadata.{GroupFields, group_data, normal_group}
use Rattle.zarrs_metadata_parts.specs.declared.v3.additional_fields.NodeKind.TheVariants.{Group}
use Rattle.zarrs_metadata_parts.proofs.FieldsBack.{normal_fields_once}
use Rattle.zarrs_metadata.proofs.GroupBack.{group_reads_back}
use Rattle.zarrs_metadata.proofs.GroupFields.{group_again}

pub normal_group_once : (g : GroupFields) → AreOrderly Group g.additional_fields →
    normal_group (normal_group g) ≡ normal_group g
normal_group_once g orderly = rw (normal_fields_once Group g.additional_fields orderly)

-- where the keys of what is written rise
pub written_group_once : (g : GroupFields) → Rises (group_data g) → normal_group (normal_group g) ≡ normal_group g
written_group_once g rises = group_again (group_data g) (normal_group g) rises (group_reads_back g)
