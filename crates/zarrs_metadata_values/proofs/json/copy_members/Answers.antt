use Rattle.zarrs_metadata_values.proofs.MemberLemmas.{members_view-clone}
use Rattle.zarrs_metadata_values.proofs.json.copy_members.Goals as goal

pub returns : goal.returns
returns c = members_view-clone c.args.members.now.entries c.in_ok-copy.copy.entries c.in_ok-copy.ensures.cases
