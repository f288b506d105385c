-- The document of an array or a group of either version.
use Rattle.std.specs.Prelude.{◌≡◌, Option, None}
use Rattle.serde_json.specs.Data.{Data}
use Rattle.zarrs_metadata_values.specs.Forms.{Either, first, second, either_of, either_data, in_form}
use Rattle.zarrs_metadata_v2.specs.ArrayMetadataV2.{array_v2_of}
use Rattle.zarrs_metadata_v2.specs.GroupMetadataV2.{group_v2_data}
use Rattle.zarrs_metadata.specs.AnyArray.{AnyArray, any_array_seen, any_array_of, any_array_data, normal_any_array}
use Rattle.zarrs_metadata.specs.AnyArray.{HasAnyChunks}
use Rattle.zarrs_metadata.specs.AnyGroup.{AnyGroup, any_group_seen, any_group_of, any_group_data}
use Rattle.zarrs_metadata.specs.AnyGroup.{normal_any_group}
use Rattle.zarrs_metadata.specs.declared.node.NodeMetadata.{NodeMetadata}
use Rattle.zarrs_metadata.specs.declared.node.NodeMetadata.TheVariants.{Array, Group}

-- an array, else a group, of version 3, else of version 2
abbrev pub AnyNode : Type 0
AnyNode = Either AnyArray AnyGroup

abbrev pub any_node_seen : NodeMetadata → AnyNode
any_node_seen (Array a) = first (any_array_seen a)
any_node_seen (Group g) = second (any_group_seen g)

abbrev pub any_node_of : Data → Option AnyNode
any_node_of = either_of any_array_of any_group_of

abbrev pub any_node_data : AnyNode → Data
any_node_data = either_data any_array_data any_group_data

-- What a document reads back as, once it is written.
abbrev pub normal_any_node : AnyNode → AnyNode
normal_any_node = in_form normal_any_array normal_any_group

-- An array has chunks, and the attributes of a version 2 group are not the fields of an array.
abbrev pub StaysItsKind : AnyNode → Type 0
StaysItsKind (first a) = HasAnyChunks a
StaysItsKind (second (first g)) = Unit {0}
StaysItsKind (second (second attributes)) = array_v2_of (group_v2_data attributes) ≡ None
