-- A version 2 group document: its attributes, how it is read and how it is written.
use Rattle.std.specs.Prelude.{Option, Some, codes}
use Rattle.serde_json.specs.Data.{unsigned, Data, number, object, Members, put}
use Rattle.serde_json.specs.Find.{get_member, as_object}
use Rattle.serde_json.specs.View.{members_view}
use Rattle.zarrs_metadata_values.specs.Reading.{◌>>=◌, is_number, without}
use Rattle.zarrs_metadata_v2.specs.declared.group.GroupMetadataV2.{GroupMetadataV2}

-- what a group says is its attributes
abbrev pub group_v2_seen : GroupMetadataV2 → Members
group_v2_seen g = members_view g.attributes.entries

-- `zarr_format` is 2; every other key is an attribute.
unfoldable pub group_v2_members : Members → Option Members
group_v2_members ms = do
  _ ← get_member (codes "zarr_format") ms >>= is_number 2
  Some (without (codes "zarr_format") ms)

abbrev pub group_v2_of : Data → Option Members
group_v2_of d = as_object d >>= group_v2_members

-- Written as `zarr_format` and the attributes; an attribute of that name isn't written.
abbrev pub with_format_v2 : Members → Members
with_format_v2 attributes = put (codes "zarr_format") (number (unsigned 2)) attributes

abbrev pub group_v2_data : Members → Data
group_v2_data attributes = object (with_format_v2 attributes)

-- What a document reads back as, once it is written: without an attribute of that name.
abbrev pub normal_group_v2 : Members → Members
normal_group_v2 attributes = without (codes "zarr_format") (with_format_v2 attributes)
