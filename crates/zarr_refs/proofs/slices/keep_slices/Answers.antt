use Rattle.std.proofs.Common.{rules, ◌≡◌, ◌∙◌, ap, sym, subst₂, is_some, true, None, Some, List, ℕ, ◌<◌, cond, get_or}
use Rattle.std.proofs.Common.{take, length}
use Rattle.std.specs.Ordering.{nat_cmp, is_eq}
use Rattle.std.specs.Cmp.Lexicographic.{slice_cmp}
use Rattle.zarr_refs.specs.declared.slices.Slice.{Slice}
use Rattle.zarr_refs.specs.Slices.{slice_by, slice_at, slice_named}
use Rattle.zarr_refs.proofs.ReferenceLaws.{one_more_at, not_repeated_at, is_repeated_at, is_absent}
use Rattle.zarr_refs.proofs.slices.keep_slices.Goals as goal

pub returns-then-contains_key-clause-refused : goal.returns-then-contains_key-clause-refused
returns-then-contains_key-clause-refused c =
    let r = c.reference-item.result in
    let item : get_or c.args.references.now c.loop-reference.reference-index r ≡ r = search rules in
    let less : c.loop-reference.reference-index < length c.args.references.now = search rules in
    let there : is_some (slice_at c.loop-reference.slices r.key) ≡ true = search rules in
    let named_there : is_some (slice_named r.key (take c.loop-reference.reference-index c.args.references.now)) ≡ true =
    sym (ap is_some (c.loop-reference.invariant.0 r.key)) ∙ there in
    let same : c.in_ok-key.key ≡ r.key = search rules in
    c.loop-reference.invariant.1 ∙
    (is_repeated_at c.args.references.now c.loop-reference.reference-index r less item named_there ∙ ap Some (sym same))

pub loop-reference-preserved : goal.loop-reference-preserved
loop-reference-preserved c =
    let r = c.reference-item.result in
    let item : get_or c.args.references.now c.loop-reference.reference-index r ≡ r = search rules in
    let less : c.loop-reference.reference-index < length c.args.references.now = search rules in
    let same : c.in_ok-key.key ≡ r.key = search rules in
    let value : c.in_ok-slice.slice ≡ slice_by r = search rules in
    let absent : slice_at c.loop-reference.slices r.key ≡ None =
    is_absent (slice_at c.loop-reference.slices r.key) (search rules) in
    let none = sym (c.loop-reference.invariant.0 r.key) ∙ absent in
    let updated : (key : List ℕ) → slice_at c.insert.new.self key ≡
    cond (is_eq (slice_cmp nat_cmp r.key key)) (Some (slice_by r)) (slice_at c.loop-reference.slices key) =
    subst₂ (λ (k : List ℕ) (v : Slice). (key : List ℕ) → slice_at c.insert.new.self key ≡ cond (is_eq (slice_cmp nat_cmp
    k key)) (Some v) (slice_at c.loop-reference.slices key)) same value (c.in_ok-insert.ensures.updates.0) in (
      one_more_at c.args.references.now c.loop-reference.reference-index r less item c.loop-reference.slices
          c.insert.new.self c.loop-reference.invariant.0 absent updated,
      c.loop-reference.invariant.1
          ∙ not_repeated_at c.args.references.now c.loop-reference.reference-index r less item none,
    )
