use Rattle.std.proofs.Common.{rules, ◌≡◌, false, true, ◌<◌, ◌∙◌, ◌++◌, ◌∷◌, [], length, map, get_or, ap, sym, arith}
use Rattle.std.proofs.lemmas.List.{map-append}
use Rattle.zarr_model.specs.Prelude.{cuts}
use Rattle.zarr_basics.specs.Axes.{lengths_of, axis_lengths}
use Rattle.zarr_basics.proofs.MadeAxes.{other_rank, not_made, one_made, length_items, item_of}
use Rattle.zarr_basics.proofs.boundary_configuration.axes_of.Goals as goal

pub returns-then-lists-shape-clause-none : goal.returns-then-lists-shape-clause-none
returns-then-lists-shape-clause-none c =
    other_rank c.args.shape.now (map (λ list. list.items) c.args.lists.now)
    (λ e. c.if-lists-shape.true (sym (length_items c.args.lists.now) ∙ e))

pub returns-in_default-clause-none : goal.returns-in_default-clause-none
returns-in_default-clause-none c =
    let l = c.loop-k in
    let below : l.k < length c.args.lists.now = search rules in
    let refused : cuts (get_or c.args.shape.now l.k 0) c.deref.result.now ≡ false = search rules in
    not_made c.args.shape.now (map (λ list. list.items) c.args.lists.now) l.k (lengths_of l.axes.items) l.invariant
    (omega (arith, c.if-lists-shape.false, below)) (omega (arith, length_items c.args.lists.now, below))
    (ap (cuts (get_or c.args.shape.now l.k 0)) (item_of c.args.lists.now l.k c.index-lists-k.result below
    c.index-lists-k.is ∙ sym c.deref.ensures.value) ∙ refused)

pub loop-k-preserved : goal.loop-k-preserved
loop-k-preserved c =
    let l = c.loop-k in
    let below : l.k < length c.args.lists.now = search rules in
    let cut : cuts (get_or c.args.shape.now l.k 0) (axis_lengths c.in-Some.axis) ≡ true = search rules in
    let own : axis_lengths c.in-Some.axis ≡ c.deref.result.now = search rules in
    let pushed : c.push.new.self.items ≡ l.axes.items ++ c.in-Some.axis ∷ [] = search rules in
    rw (pushed, map-append axis_lengths l.axes.items (c.in-Some.axis ∷ []))
    (one_made c.args.shape.now (map (λ list. list.items) c.args.lists.now) l.k (lengths_of l.axes.items) l.invariant
    (omega (arith, c.if-lists-shape.false, below)) (omega (arith, length_items c.args.lists.now, below))
    (axis_lengths c.in-Some.axis) (own
    ∙ (c.deref.ensures.value ∙ sym (item_of c.args.lists.now l.k c.index-lists-k.result below c.index-lists-k.is))) cut)
