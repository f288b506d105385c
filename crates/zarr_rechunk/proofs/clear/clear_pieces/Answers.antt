use Rattle.std.proofs.Common.{◌+◌, ◌++◌, get_or, drop, ap, ◌∙◌, arith}
use Rattle.zarr_rechunk.specs.Cleared.{kept_piece, pieces_under}
use Rattle.zarr_rechunk.proofs.MaskLaws.{piece_more, piece_left, piece_room}
use Rattle.zarr_rechunk.proofs.clear.clear_pieces.Goals as goal

pub loop-flag-preserved : goal.loop-flag-preserved
loop-flag-preserved c =
    let i = c.loop-flag.flag-index in
    let mask = c.args.mask.now in
    let done = c.loop-flag.cleared.items in
    let new = c.push_piece.new.cleared.items in record {
      done = ap (λ rest. new ++ pieces_under c.args.size (drop (i + 1) mask) rest) c.split_at.ensures.back
          ∙ piece_more c.args.size i mask c.loop-flag.left.now done new (pieces_under c.args.size mask c.args.value.now)
          c.loop-flag-test.true
          (c.in_ok-push_piece.ensures ∙
          ap (λ piece. done ++ kept_piece (get_or mask i 0) piece) c.split_at.ensures.front) c.loop-flag.invariant.done;
      room = piece_room (get_or mask i 0) c.args.size done new c.split_at.result.0.now c.loop-flag.left.now
          c.split_at.result.1.now c.args.value.now
          c.in_ok-push_piece.ensures c.split_at.ensures.front_len c.split_at.ensures.back_len
          c.loop-flag.invariant.room;
      long = piece_left c.args.size i mask c.loop-flag.left.now c.split_at.result.1.now c.loop-flag-test.true
          c.split_at.ensures.back_len c.loop-flag.invariant.long;
    }

pub push_piece-requires : goal.push_piece-requires
push_piece-requires c =
    omega (arith, c.loop-flag.invariant.room, c.split_at.ensures.front_len, c.split_at.ensures.back_len)
