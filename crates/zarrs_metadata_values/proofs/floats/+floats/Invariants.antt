use Rattle.std.proofs.Common.{◌≡◌, drop}
use Rattle.std.specs.List.Sorted.{IsStrictlySortedBy}
use Rattle.std.specs.Map.{keys_of}
use Rattle.std.specs.String.{string_cmp}
use Rattle.serde_json.specs.View.{items_view, members_view}
use Rattle.serde_json.specs.Written.{items_have_float, members_have_float}
use Rattle.zarrs_metadata_values.specs.Rising.{ItemsRise, MembersRise}
use Rattle.zarrs_metadata_values.proofs.floats.+floats.Given as goal

abbrev pub invariant-items_hold_float-loop-item : goal.invariant-items_hold_float-loop-item
invariant-items_hold_float-loop-item l = record {
  found : items_have_float (items_view l.item-items) ≡ items_have_float (items_view (drop l.item-index l.item-items));
  rises : ItemsRise (items_view (drop l.item-index l.item-items)) → ItemsRise (items_view l.item-items);
}

abbrev pub invariant-members_hold_float-loop-name : goal.invariant-members_hold_float-loop-name
invariant-members_hold_float-loop-name l = record {
  can_next : (goal.iterator-members_hold_float-loop-name).can_next l._name-iterator;
  is_finite : (goal.iterator-members_hold_float-loop-name).is_finite l._name-iterator;
  found : members_have_float (members_view l.members.entries) ≡ members_have_float (members_view l._name-iterator);
  sorted : IsStrictlySortedBy string_cmp (keys_of l._name-iterator);
  rises : MembersRise (members_view l._name-iterator) → MembersRise (members_view l.members.entries);
}
