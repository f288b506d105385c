use Rattle.std.proofs.Common.{◌≡◌, [], ◌∷◌, ◌++◌, string_bytes, sym, ap, ◌∙◌, subst, append_assoc, true, false}
use Rattle.std.specs.List.Sorted.{IsStrictlySortedBy}
use Rattle.std.specs.Map.{keys_of}
use Rattle.std.specs.String.{string_cmp}
use Rattle.serde_json.specs.View.{view}
use Rattle.serde_json.proofs.Views.{Entry}
use Rattle.zarrs_metadata_parts.specs.AdditionalFields.{additional_fields_seen, is_no_field}
use Rattle.zarrs_metadata_parts.proofs.AdditionalFieldLemmas.{fields-insert, fields-skip}
use Rattle.zarrs_metadata_parts.proofs.v3.additional_fields.read_additional_fields.Goals as goal

pub loop-name-preserved-then-not-is_no_field : goal.loop-name-preserved-then-not-is_no_field
loop-name-preserved-then-not-is_no_field c =
    let l = c.loop-name in
    let done = l.invariant.2.0 in
    let e : Entry = (c.in-Some.name.now, c.in-Some.value.now) in
    let left = c.next.new.self in
    let all : c.args.members.now.entries ≡ done ++ e ∷ left =
    l.invariant.2.1 ∙ ap (λ es. done ++ es) c.in-Some.ensures.steps in
    let sorted = subst (λ es. IsStrictlySortedBy string_cmp (keys_of es)) all c.iter-name-items.ensures.ordered in
    let other : is_no_field c.args.kind (string_bytes e.0) (view e.1) ≡ false = cc in (
      tt,
      tt,
      (
        done ++ e ∷ [],
        all ∙ sym (append_assoc done (e ∷ []) left),
        ap additional_fields_seen c.in_ok-insert.ensures.entries ∙ fields-insert c.args.kind l.fields.entries done e
            left c.in_ok-name.name c.in_ok-read_additional_field.field-0 l.invariant.2.2 c.in_ok-name.ensures.cases
            c.in_ok-read_additional_field.ensures other sorted,
      ),
    )

pub loop-name-preserved : goal.loop-name-preserved
loop-name-preserved c =
    let l = c.loop-name in
    let done = l.invariant.2.0 in
    let e : Entry = (c.in-Some.name.now, c.in-Some.value.now) in
    let left = c.next.new.self in
    let all : c.args.members.now.entries ≡ done ++ e ∷ left =
    l.invariant.2.1 ∙ ap (λ es. done ++ es) c.in-Some.ensures.steps in
    let named : is_no_field c.args.kind (string_bytes e.0) (view e.1) ≡ true = cc in (
      tt,
      tt,
      (
        done ++ e ∷ [],
        all ∙ sym (append_assoc done (e ∷ []) left),
        l.invariant.2.2 ∙ sym (fields-skip c.args.kind done e named),
      ),
    )
