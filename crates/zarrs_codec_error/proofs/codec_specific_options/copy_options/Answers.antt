use Rattle.std.proofs.Common.{◌≡◌, [], ◌∷◌, ◌++◌, sym, ap, ◌∙◌, subst, append_assoc}
use Rattle.std.specs.List.Sorted.{IsStrictlySortedBy}
use Rattle.std.specs.Map.{keys_of}
use Rattle.std.specs.String.{string_cmp}
use Rattle.zarrs_codec_error.specs.CodecSpecificOptions.{entries_seen}
use Rattle.zarrs_codec_error.proofs.OptionLemmas.{Entry, entries_copied}
use Rattle.zarrs_codec_error.proofs.codec_specific_options.copy_options.Goals as goal

pub loop-name-preserved : goal.loop-name-preserved
loop-name-preserved c =
    let l = c.loop-name in
    let done = l.invariant.2.0 in
    let e : Entry = (c.in-Some.name.now, c.in-Some.option.now) in
    let left = c.next.new.self in
    let all : c.args.options.now.entries ≡ done ++ e ∷ left =
    l.invariant.2.1 ∙ ap (λ es. done ++ es) c.in-Some.ensures.steps in
    let sorted = subst (λ es. IsStrictlySortedBy string_cmp (keys_of es)) all c.iter-name-items.ensures.ordered in (
      tt,
      tt,
      (
        done ++ e ∷ [],
        all ∙ sym (append_assoc done (e ∷ []) left),
        ap entries_seen c.in_ok-insert.ensures.entries ∙ entries_copied l.copies.entries done e left c.in_ok-name.name
            c.in_ok-try_clone.field-0 l.invariant.2.2 c.in_ok-name.ensures.cases c.in_ok-try_clone.ensures sorted,
      ),
    )
