use Rattle.std.proofs.Common.{◌≡◌, [], ◌∷◌, ◌++◌, sym, ap, ◌∙◌, subst, append_assoc}
use Rattle.std.specs.List.Sorted.{IsStrictlySortedBy}
use Rattle.std.specs.Map.{keys_of}
use Rattle.std.specs.String.{string_cmp}
use Rattle.zarrs_metadata_values.proofs.FillLemmas.{Field, fields_last}
use Rattle.zarrs_metadata_values.proofs.fill_value.tree.+fill_back.Goals as goal

pub members_from_fields-loop-name-preserved : goal.members_from_fields-loop-name-preserved
members_from_fields-loop-name-preserved t c =
    let l = c.loop-name in
    let done = l.invariant.0 in
    let e : Field = (c.in-Some.name.now, c.in-Some.field.now) in
    let left = c.next.new.self in
    let all : c.args.fields.now.entries ≡ done ++ e ∷ left =
    l.invariant.1 ∙ ap (λ es. done ++ es) c.in-Some.ensures.steps in
    let last = fields_last done e left
    (subst (λ es. IsStrictlySortedBy string_cmp (keys_of es)) all c.iter-name-items.ensures.ordered) in (
      done ++ e ∷ [],
      all ∙ sym (append_assoc done (e ∷ []) left),
      c.in_ok-put.ensures.ok ∙ rw (c.as_str.ensures.value, c.in_ok-fill_to_value.ensures, l.invariant.2) last,
    )
