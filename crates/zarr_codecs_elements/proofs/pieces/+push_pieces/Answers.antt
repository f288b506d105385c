use Rattle.std.proofs.Common.{ℕ, ◌+◌, ◌-◌, ◌*◌, ◌++◌, length, take, drop, get_or, flat_map, arith, sym, ◌∙◌, eqb-true}
use Rattle.std.specs.List.{range_with_len}
use Rattle.zarrs_codec_slices.specs.Picking.{piece_of}
use Rattle.zarr_codecs_elements.specs.Moved.{strided}
use Rattle.zarr_codecs_elements.proofs.LoopLaws.{next_part, no_part}
use Rattle.zarr_codecs_elements.proofs.PieceSteps.{run_pieces, part_pieces}
use Rattle.zarr_codecs_elements.proofs.pieces.+push_pieces.Goals as goal

pub returns-then-is_empty : goal.returns-then-is_empty
returns-then-is_empty t c =
    run_pieces (λ v. v.items) (piece_of c.args.size c.args.items.now) c.push_run-then-is_empty.result c.args.shape.now
    c.args.steps.now c.args.given.items c.args.from
    (omega (arith, c.in-len1-up.len_at_least)) (omega (arith, c.in-len1-up-steps.len_at_least))
    (eqb-true (length (take (length c.args.shape.now - 1) (drop 1 c.args.shape.now))) 0
    (sym c.is_empty.ensures ∙ c.if-is_empty.true)) c.push_run-then-is_empty.ensures

pub loop-i-preserved : goal.loop-i-preserved
loop-i-preserved t c =
    let shape = c.args.shape.now in
    let steps = c.args.steps.now in
    next_part (λ i. flat_map (piece_of c.args.size c.args.items.now) (strided (take (length shape - 1) (drop 1 shape))
    (take (length steps - 1) (drop 1 steps)) (c.args.from + i * get_or steps 0 0)))
    c.loop-i.out.items c.in_ok-out.out.items _ c.loop-i.i (get_or shape 0 0) c.loop-i-test.true c.in_ok-out.ensures
    c.loop-i.invariant

pub returns : goal.returns
returns t c =
    let shape = c.args.shape.now in
    let steps = c.args.steps.now in
    let part = λ (i : ℕ). flat_map (piece_of c.args.size c.args.items.now) (strided (take (length shape - 1) (drop 1
    shape)) (take (length steps - 1) (drop 1 steps)) (c.args.from + i * get_or steps 0 0)) in
    part_pieces (piece_of c.args.size c.args.items.now) shape steps c.args.given.items c.loop-i.out.items c.args.from
    (omega (arith, c.in-len1-up.len_at_least)) (omega (arith, c.in-len1-up-steps.len_at_least))
    (no_part part c.loop-i.out.items (c.args.given.items ++ flat_map part (range_with_len 0 (get_or shape 0 0)))
    c.loop-i.i (get_or shape 0 0) (omega (arith, c.loop-i-test.false)) c.loop-i.invariant)
