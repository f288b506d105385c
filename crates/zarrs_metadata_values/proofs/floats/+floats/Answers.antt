use Rattle.std.proofs.Common.{◌≡◌, false, ◌∷◌, refl, sym, ap, ◌∙◌, subst}
use Rattle.std.specs.List.Sorted.{IsStrictlySortedBy}
use Rattle.std.specs.Map.{keys_of}
use Rattle.std.specs.String.{string_cmp}
use Rattle.serde_json.specs.View.{view, members_view}
use Rattle.serde_json.specs.Written.{has_float, members_have_float}
use Rattle.serde_json.proofs.Views.{Entry}
use Rattle.zarrs_metadata_values.specs.Rising.{MembersRise}
use Rattle.zarrs_metadata_values.proofs.RisingLemmas.{member_rises, later_sorted}
use Rattle.zarrs_metadata_values.proofs.floats.+floats.Goals as goal

pub members_hold_float-loop-name-preserved : goal.members_hold_float-loop-name-preserved
members_hold_float-loop-name-preserved t c =
    let l = c.loop-name in
    let e : Entry = (c.in-Some._name.now, c.in-Some.member.now) in
    let left = c.next.new.self in
    let steps : l._name-iterator ≡ e ∷ left = c.in-Some.ensures.steps in
    let sorted = subst (λ es. IsStrictlySortedBy string_cmp (keys_of es)) steps l.invariant.sorted in
    let whole = subst (λ es. MembersRise (members_view es) → MembersRise (members_view c.args.members.now.entries))
    steps l.invariant.rises in
    let none : has_float (view e.1) ≡ false = sym c.holds_float.ensures.found ∙ c.if-holds_float.false in record {
      can_next = tt;
      is_finite = tt;
      found = l.invariant.found ∙ ap (λ es. members_have_float (members_view es)) steps ∙ rw none refl;
      sorted = later_sorted e left sorted;
      rises = λ others. whole (member_rises e left sorted (c.holds_float.ensures.rises c.if-holds_float.false) others);
    }
