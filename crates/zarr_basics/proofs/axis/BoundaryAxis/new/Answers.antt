use Rattle.std.proofs.Common.{rules, ◌≡◌, ◌<◌, ◌-◌, ◌++◌, ◌∷◌, [], length, get_or, arith, ap, ◌∙◌}
use Rattle.zarr_basics.specs.Lengths.{nonzeros}
use Rattle.zarr_model.proofs.LaidLaws.{stops_at, stops_by, laid_next}
use Rattle.zarr_basics.proofs.MadeAxes.{nonzeros_more}
use Rattle.zarr_basics.proofs.axis.BoundaryAxis.new.Goals as goal

pub returns-then-left-eq0-clause-none : goal.returns-then-left-eq0-clause-none
returns-then-left-eq0-clause-none c =
    let l = c.loop-length in
    let below : l.length-index < length c.args.lengths.now = search rules in
    stops_at c.args.extent c.args.lengths.now l.length-index l.left (nonzeros l.kept.items) l.starts.items l.invariant
    below c.if-left-eq0.true

pub returns-in_default-clause-none : goal.returns-in_default-clause-none
returns-in_default-clause-none c =
    let l = c.loop-length in
    let below : l.length-index < length c.args.lengths.now = search rules in
    let zero : get_or c.args.lengths.now l.length-index 0 ≡ 0 = search rules in
    stops_by c.args.extent c.args.lengths.now l.length-index l.left (nonzeros l.kept.items) l.starts.items l.invariant
    below zero

pub loop-length-preserved : goal.loop-length-preserved
loop-length-preserved c =
    let l = c.loop-length in
    let below : l.length-index < length c.args.lengths.now = search rules in
    let is : c.in-Some.length.value ≡ get_or c.args.lengths.now l.length-index 0 = search rules in
    let some : 0 < l.left = omega (arith, c.if-left-eq0.false) in
    let left : c.saturating_sub-left.result ≡ l.left - c.in-Some.length.value = search rules in
    let start : c.saturating_sub.result ≡ c.args.extent - l.left = search rules in
    let kept : c.push-in-loop-length.new.self.items ≡ l.kept.items ++ c.in-Some.length ∷ [] = search rules in
    let starts : c.push.new.self.items ≡ l.starts.items ++ c.saturating_sub.result ∷ [] = search rules in
    laid_next c.args.extent c.args.lengths.now l.length-index l.left (nonzeros l.kept.items) l.starts.items
    c.in-Some.length.value c.saturating_sub-left.result c.saturating_sub.result
    (nonzeros c.push-in-loop-length.new.self.items) c.push.new.self.items l.invariant below is c.in-Some.length.ok some
    left start (ap nonzeros kept ∙ nonzeros_more l.kept.items c.in-Some.length) starts
