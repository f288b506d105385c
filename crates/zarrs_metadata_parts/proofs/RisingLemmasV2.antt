-- What version 2 codecs hold that were read.
use Rattle.std.proofs.Common.{◌≡◌, Some, None, Result, Ok, Err, IfOk, codes, subst}
use Rattle.serde_json.specs.Data.{Data, Members}
use Rattle.serde_json.specs.Find.{get_member, as_str}
use Rattle.zarrs_metadata_values.specs.Reading.{◌>>=◌, without, Reads}
use Rattle.zarrs_metadata_values.specs.Rising.{Rises, MembersRise}
use Rattle.zarrs_metadata_values.specs.declared.error.MetadataError.{MetadataError}
use Rattle.zarrs_metadata_values.proofs.EachLemmas.{bind_some}
use Rattle.zarrs_metadata_values.proofs.FormLemmas.{object_of}
use Rattle.zarrs_metadata_values.proofs.RisingLemmas.{gone}
use Rattle.zarrs_metadata_parts.specs.MetadataV2.{CodecV2, codec_v2_seen, codec_v2_members, codec_v2_of}
use Rattle.zarrs_metadata_parts.specs.declared.metadata_v2.MetadataV2.{MetadataV2}

pub members_without_id : (ms : Members) (c : CodecV2) → MembersRise ms → codec_v2_members ms ≡ Some c →
    get_member (codes "id") c.configuration ≡ None
unfolding codec_v2_members
members_without_id ms c h e =
    let a = bind_some (get_member (codes "id") ms >>= as_str) _ c e in
    let same = a.2 in
    let is : c.configuration ≡ without (codes "id") ms = cc in
    rw is (gone (codes "id") ms h)

codec_without_id : (d : Data) (c : CodecV2) → Rises d → codec_v2_of d ≡ Some c →
    get_member (codes "id") c.configuration ≡ None
codec_without_id d c h e =
    let o = object_of codec_v2_members d c e in
    members_without_id o.0 c (subst Rises o.1 h) o.2

-- the configuration of a codec that was read holds no `id`
pub read_without_id : (d : Data) (r : Result MetadataV2 MetadataError) → Rises d →
    Reads codec_v2_seen r (codec_v2_of d) → IfOk r (λ c. get_member (codes "id") (codec_v2_seen c).configuration ≡ None)
read_without_id d (Ok c) h e = codec_without_id d (codec_v2_seen c) h e
read_without_id d (Err e) h is = tt
