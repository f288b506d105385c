-- The version 2 document of an array, or of a group.
use Rattle.std.specs.Prelude.{◌≡◌, Option, None}
use Rattle.serde_json.specs.Data.{Data, Members}
use Rattle.zarrs_metadata_values.specs.Forms.{Either, first, second, either_of, either_data, in_form}
use Rattle.zarrs_metadata_v2.specs.ArrayMetadataV2.{ArrayV2, array_v2_seen, array_v2_of, array_v2_data, normal_array_v2}
use Rattle.zarrs_metadata_v2.specs.ArrayMetadataV2.{HasChunks}
use Rattle.zarrs_metadata_v2.specs.GroupMetadataV2.{group_v2_seen, group_v2_of, group_v2_data, normal_group_v2}
use Rattle.zarrs_metadata_v2.specs.declared.node.NodeMetadataV2.{NodeMetadataV2}
use Rattle.zarrs_metadata_v2.specs.declared.node.NodeMetadataV2.TheVariants.{Array, Group}

-- an array, else a group
abbrev pub NodeV2 : Type 0
NodeV2 = Either ArrayV2 Members

abbrev pub node_v2_seen : NodeMetadataV2 → NodeV2
node_v2_seen (Array a) = first (array_v2_seen a)
node_v2_seen (Group g) = second (group_v2_seen g)

abbrev pub node_v2_of : Data → Option NodeV2
node_v2_of = either_of array_v2_of group_v2_of

abbrev pub node_v2_data : NodeV2 → Data
node_v2_data = either_data array_v2_data group_v2_data

-- What a document reads back as, once it is written.
abbrev pub normal_node_v2 : NodeV2 → NodeV2
normal_node_v2 = in_form normal_array_v2 normal_group_v2

-- An array has chunks, and a group's attributes are not the fields of an array.
abbrev pub StaysItsKindV2 : NodeV2 → Type 0
StaysItsKindV2 (first a) = HasChunks a
StaysItsKindV2 (second attributes) = array_v2_of (group_v2_data attributes) ≡ None
