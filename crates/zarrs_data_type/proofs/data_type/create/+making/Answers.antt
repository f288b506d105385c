use Rattle.std.proofs.Common.{◌≡◌, subst, sym, ◌∙◌}
use Rattle.serde_json.specs.View.{view, members_view}
use Rattle.zarrs_plugin.specs.Registry.{registry_of}
use Rattle.zarrs_data_type.specs.DataType.{type_of}
use Rattle.zarrs_data_type.specs.Making.{pair_type, optional_pair, MakesType}
use Rattle.zarrs_data_type.proofs.MakingLaws.{no_more, two_entries}
use Rattle.zarrs_data_type.proofs.data_type.create.+making.Goals as goal

pub optional_by-returns-then-are_named : goal.optional_by-returns-then-are_named
optional_by-returns-then-are_named t c =
    let is : optional_pair (registry_of c.args.registry.now) (members_view c.args.members.now.entries) ≡
    pair_type (registry_of c.args.registry.now) (view c.in-Some.value.now) (view c.in-Some-next.other.now) =
    two_entries (registry_of c.args.registry.now) c.args.members.now.entries c.iter-entries.result c.next.new.self
    c.next-2.new.self
    c.in-Some.key.now c.in-Some-next.other_key.now c.in-Some.value.now c.in-Some-next.other.now c.as_str.result.now
    c.as_str-2.result.now
    c.iter-entries.ensures.rest c.in-Some.ensures.steps c.in-Some-next.ensures.steps
    (no_more c.next-3.result c.next-2.new.self _ _ (sym c.is_some.ensures ∙ c.if-is_some.false) c.next-3.ensures.steps)
    c.as_str.ensures.value c.as_str-2.ensures.value (sym c.are_named.ensures ∙ c.if-are_named.true) in
    subst (λ expected. MakesType type_of c.inner_by.result expected) (sym is) c.inner_by.ensures
