use Rattle.std.proofs.Common.{◌≡◌, ◌++◌, length, take, refl, ap, subst, arith, le_trans, length-append}
use Rattle.std.proofs.Common.{length-take}
use Rattle.zarr_cli.specs.Steps.{AreRead}
use Rattle.zarr_cli.proofs.TakenLaws.{taken_more, taken_all, nothing_read}
use Rattle.zarr_cli.proofs.read.read_input.Goals as goal

pub returns-then-got-eq0-clause-whole : goal.returns-then-got-eq0-clause-whole
returns-then-got-eq0-clause-whole g c = λ left e.
    let bytes = c.pieces.invariant.bytes in
    let got = c.in_ok-got.got in
    let all = taken_all (g.R.Source.shown c.args.source.now).left (g.R.Source.shown c.pieces.source).left
    (g.R.Source.shown c.read_piece.new.source).left bytes c.read_piece.new.buffer got
    c.pieces.invariant.taken c.in_ok-got.ensures.tells c.in_ok-got.ensures.next c.if-got-eq0.true
    (omega (arith, c.read_piece.ensures.room, length-take c.min-room.result c.pieces.buffer)) left e in (
      subst (λ t. AreRead t c.read_piece.new.so_far) (nothing_read (bytes ++ take got c.read_piece.new.buffer) bytes
          c.read_piece.new.buffer left got refl c.if-got-eq0.true all.0)
          (c.in_ok-got.ensures.appended bytes c.pieces.invariant.read),
      (let many : length bytes ≡ c.pieces.taken = c.pieces.invariant.many in
          omega (arith, many, ap length all.0, c.pieces-test.true)),
      all.1,
    )

pub pieces-preserved : goal.pieces-preserved
pieces-preserved g c =
    let bytes = c.pieces.invariant.bytes in
    let got = c.in_ok-got.got in
    let many : length bytes ≡ c.pieces.taken = c.pieces.invariant.many in
    record {
      within = omega
          (arith, c.read_piece.ensures.room, length-take c.min-room.result c.pieces.buffer, c.in_ok-got.ensures.within);
      bytes = bytes ++ take got c.read_piece.new.buffer;
      many = omega (
        arith,
        many,
        length-append bytes (take got c.read_piece.new.buffer),
        length-take got c.read_piece.new.buffer,
        c.in_ok-got.ensures.within,
      );
      read = c.in_ok-got.ensures.appended bytes c.pieces.invariant.read;
      taken = taken_more (g.R.Source.shown c.args.source.now).left (g.R.Source.shown c.pieces.source).left
          (g.R.Source.shown c.read_piece.new.source).left bytes c.read_piece.new.buffer got
          c.pieces.invariant.taken c.in_ok-got.ensures.tells c.in_ok-got.ensures.next;
      later = le_trans c.pieces.invariant.later c.read_piece.ensures.later;
    }
