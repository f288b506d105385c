-- The document of an array, or of a group.
use Rattle.std.specs.Prelude.{◌≡◌, Option}
use Rattle.serde_json.specs.Data.{Data}
use Rattle.zarrs_metadata_values.specs.Forms.{Either, first, second, either_of, either_data, in_form}
use Rattle.zarrs_metadata.specs.ArrayMetadata.{ArrayFields, array_seen, array_fields_of, array_data, normal_array}
use Rattle.zarrs_metadata.specs.ArrayMetadata.{KeepsFields}
use Rattle.zarrs_metadata.specs.GroupMetadata.{GroupFields, group_seen, group_of, group_data, normal_group}
use Rattle.zarrs_metadata.specs.declared.v3.node.NodeMetadataV3.{NodeMetadataV3}
use Rattle.zarrs_metadata.specs.declared.v3.node.NodeMetadataV3.TheVariants.{Array, Group}

-- an array, else a group
abbrev pub NodeFields : Type 0
NodeFields = Either ArrayFields GroupFields

abbrev pub node_seen : NodeMetadataV3 → NodeFields
node_seen (Array a) = first (array_seen a)
node_seen (Group g) = second (group_seen g)

abbrev pub node_of : Data → Option NodeFields
node_of = either_of array_fields_of group_of

abbrev pub node_data : NodeFields → Data
node_data = either_data array_data group_data

-- What a document reads back as, once it is written.
abbrev pub normal_node : NodeFields → NodeFields
normal_node = in_form normal_array normal_group

-- Its additional fields stay as they are when it is written and read again, and of a group all.
abbrev pub KeepsNodeFields : NodeFields → Type 0
KeepsNodeFields (first a) = KeepsFields a
KeepsNodeFields (second g) = normal_group g ≡ g
