use Rattle.std.proofs.Common.{◌≡◌, [], ◌∷◌, ◌++◌, string_bytes, sym, ap, ◌∙◌, subst, append_assoc}
use Rattle.std.specs.List.Sorted.{IsStrictlySortedBy}
use Rattle.std.specs.Map.{keys_of}
use Rattle.std.specs.String.{string_cmp}
use Rattle.serde_json.proofs.Views.{Entry, put_last}
use Rattle.zarrs_metadata_values.specs.FillValueMetadata.{fields_view}
use Rattle.zarrs_metadata_values.proofs.FillLemmas.{fields_view-insert_entry}
use Rattle.zarrs_metadata_values.proofs.fill_value.tree.+fill.Goals as goal

pub fills_from_members-loop-name-preserved : goal.fills_from_members-loop-name-preserved
fills_from_members-loop-name-preserved t c =
    let l = c.loop-name in
    let done = l.invariant.0 in
    let e : Entry = (c.in-Some.name.now, c.in-Some.member.now) in
    let left = c.next.new.self in
    let all : c.args.members.now.entries ≡ done ++ e ∷ left =
    l.invariant.1 ∙ ap (λ es. done ++ es) c.in-Some.ensures.steps in
    let last = put_last done e left
    (subst (λ es. IsStrictlySortedBy string_cmp (keys_of es)) all c.iter-name-items.ensures.ordered) in
    let named : string_bytes c.in_ok-name.name ≡ string_bytes e.0 = c.in_ok-name.ensures.cases in (
      done ++ e ∷ [],
      all ∙ sym (append_assoc done (e ∷ []) left),
      ap fields_view c.in_ok-insert.ensures.entries ∙ fields_view-insert_entry l.fills.entries c.in_ok-name.name
          c.in_ok-fill_from_value.field-0 ∙ rw (named, c.in_ok-fill_from_value.ensures, l.invariant.2) last,
    )
