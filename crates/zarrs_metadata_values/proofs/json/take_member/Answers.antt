use Rattle.std.proofs.Common.{option_map, ap, ◌∙◌}
use Rattle.serde_json.specs.View.{view, members_view}
use Rattle.serde_json.proofs.Views.{view-lookup}
use Rattle.zarrs_metadata_values.proofs.MemberLemmas.{members_view-remove_entry}
use Rattle.zarrs_metadata_values.proofs.json.take_member.Goals as goal

pub returns-clause-rest : goal.returns-clause-rest
returns-clause-rest c =
    ap members_view c.remove.ensures.entries ∙ members_view-remove_entry c.args.name.now c.args.map.now.entries

pub returns-clause-value : goal.returns-clause-value
returns-clause-value c =
    ap (option_map view) c.remove.ensures.value ∙ view-lookup c.args.name.now c.args.map.now.entries
