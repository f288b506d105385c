-- The document of a group of either version.
use Rattle.std.specs.Prelude.{Option}
use Rattle.serde_json.specs.Data.{Data, Members}
use Rattle.zarrs_metadata_values.specs.Forms.{Either, first, second, either_of, either_data, in_form}
use Rattle.zarrs_metadata.specs.GroupMetadata.{GroupFields, group_seen, group_of, group_data, normal_group}
use Rattle.zarrs_metadata_v2.specs.GroupMetadataV2.{group_v2_seen, group_v2_of, group_v2_data, normal_group_v2}
use Rattle.zarrs_metadata.specs.declared.group.GroupMetadata.{GroupMetadata}
use Rattle.zarrs_metadata.specs.declared.group.GroupMetadata.TheVariants.{V3, V2}

-- version 3, else version 2
abbrev pub AnyGroup : Type 0
AnyGroup = Either GroupFields Members

abbrev pub any_group_seen : GroupMetadata → AnyGroup
any_group_seen (V3 g) = first (group_seen g)
any_group_seen (V2 g) = second (group_v2_seen g)

abbrev pub any_group_of : Data → Option AnyGroup
any_group_of = either_of group_of group_v2_of

abbrev pub any_group_data : AnyGroup → Data
any_group_data = either_data group_data group_v2_data

-- What a document reads back as, once it is written.
abbrev pub normal_any_group : AnyGroup → AnyGroup
normal_any_group = in_form normal_group normal_group_v2
