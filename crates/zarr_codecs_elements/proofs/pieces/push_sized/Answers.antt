use Rattle.std.proofs.Common.{◌≡◌, ◌+◌, ◌-◌, ◌*◌, ◌++◌, length, take, drop, arith, ap, ◌∙◌}
use Rattle.zarrs_codec_slices.specs.Picking.{piece_of}
use Rattle.zarrs_codec_slices.proofs.PieceLaws.{piece_ends}
use Rattle.zarr_codecs_elements.proofs.LoopLaws.{next_part, run_below}
use Rattle.zarr_codecs_elements.proofs.pieces.push_sized.Goals as goal

pub slice_bounds-extend_from_slice-end : goal.slice_bounds-extend_from_slice-end
slice_bounds-extend_from_slice-end c =
    piece_ends (c.args.from + c.loop-i.i * c.args.step) c.args.count c.args.size (length c.args.items.now)
    (run_below c.args.count c.args.from c.args.len c.args.step c.loop-i.i c.loop-i-test.true c.requires.within)
    c.requires.long

pub loop-i-preserved : goal.loop-i-preserved
loop-i-preserved c =
    let at = (c.args.from + c.loop-i.i * c.args.step) * c.args.size in
    next_part (λ j. piece_of c.args.size c.args.items.now (c.args.from + j * c.args.step)) c.loop-i.out.items
    c.extend_from_slice.new.self.items _ c.loop-i.i c.args.len c.loop-i-test.true
    (c.in_ok-extend_from_slice.ensures.items ∙ ap (λ n. c.loop-i.out.items ++ take n (drop at c.args.items.now))
    (let e : at + c.args.size - at ≡ c.args.size = omega arith in e)) c.loop-i.invariant
