use Rattle.std.proofs.Common.{rules, ◌≡◌, ◌<◌, ◌-◌, ◌+◌, ◌*◌, ◌^◌, ℕ, length, take, drop, refl, sym, subst}
use Rattle.std.proofs.Common.{slice_index_or, arith}
use Rattle.zarrs_codec_traits.specs.Prelude.{region_of, lengths}
use Rattle.zarr_codecs_to_bytes.proofs.RowLaws.{row_of, box_room, row_room, row_few, one_row_more, rows_done}
use Rattle.zarr_codecs_to_bytes.proofs.ranges.+push_runs.Goals as goal

pub num_elements-elements-requires : goal.num_elements-elements-requires
num_elements-elements-requires t c =
    omega (
      arith,
      row_few c.args.start.now c.args.shape.now c.args.array_shape.now _ c.args.before c.args.size
          c.requires.fits c.requires.inside c.requires.some (sym c.if-is_empty.ensures) refl c.requires.room,
      c.requires.few,
    )

pub overflow_mul-start : goal.overflow_mul-start
overflow_mul-start t c =
    omega (
      arith,
      box_room c.args.start.now c.args.shape.now c.args.array_shape.now c.num_elements-elements.result
          c.args.before c.args.size
          c.requires.fits c.requires.inside c.requires.some (sym c.if-is_empty.ensures) c.num_elements-elements.ensures
          c.requires.room,
    )

pub overflow_add-before : goal.overflow_add-before
overflow_add-before t c =
    omega (
      arith,
      box_room c.args.start.now c.args.shape.now c.args.array_shape.now c.num_elements-elements.result
          c.args.before c.args.size
          c.requires.fits c.requires.inside c.requires.some (sym c.if-is_empty.ensures) c.num_elements-elements.ensures
          c.requires.room,
    )

pub overflow_mul-shape : goal.overflow_mul-shape
overflow_mul-shape t c =
    omega (
      arith,
      box_room c.args.start.now c.args.shape.now c.args.array_shape.now c.num_elements-elements.result
          c.args.before c.args.size
          c.requires.fits c.requires.inside c.requires.some (sym c.if-is_empty.ensures) c.num_elements-elements.ensures
          c.requires.room,
    )

pub returns-then-has_all : goal.returns-then-has_all
returns-then-has_all t c =
    let r = row_of c.args.start.now c.args.shape.now c.args.array_shape.now c.num_elements-elements.result
    c.requires.fits c.requires.inside c.requires.some (sym c.if-is_empty.ensures) c.num_elements-elements.ensures in
    rw (r.whole_rows c.args.before c.args.size (sym c.if-has_all.ensures)) (search rules)

pub overflow_mul-start-in-loop-i : goal.overflow_mul-start-in-loop-i
overflow_mul-start-in-loop-i t c =
    omega (
      arith,
      row_room c.args.start.now c.args.shape.now c.args.array_shape.now c.num_elements-elements.result
          c.args.before c.args.size
          c.requires.fits c.requires.inside c.requires.some (sym c.if-is_empty.ensures) c.num_elements-elements.ensures
          c.requires.room c.loop-i.i c.loop-i-test.true,
    )

pub overflow_add-before-in-loop-i : goal.overflow_add-before-in-loop-i
overflow_add-before-in-loop-i t c =
    omega (
      arith,
      row_room c.args.start.now c.args.shape.now c.args.array_shape.now c.num_elements-elements.result
          c.args.before c.args.size
          c.requires.fits c.requires.inside c.requires.some (sym c.if-is_empty.ensures) c.num_elements-elements.ensures
          c.requires.room c.loop-i.i c.loop-i-test.true,
    )

pub push_runs-requires : goal.push_runs-requires
push_runs-requires t c =
    let r = row_of c.args.start.now c.args.shape.now c.args.array_shape.now c.num_elements-elements.result
    c.requires.fits c.requires.inside c.requires.some (sym c.if-is_empty.ensures) c.num_elements-elements.ensures in
    let before = c.args.before + (slice_index_or c.args.start.now 0 0 + c.loop-i.i) * (c.num_elements-elements.result
    * c.args.size) in (
      search rules,
      (
        r.fits,
        (
          search rules,
          (
            search rules,
            (
              r.inside,
              (
                r.some,
                (
                  omega (arith, c.num_elements-elements.ensures, c.num_elements-elements.type_inv),
                  subst (λ (k : ℕ). before + k * c.args.size < 2 ^ 64) c.num_elements-elements.ensures
                      (row_room c.args.start.now c.args.shape.now c.args.array_shape.now c.num_elements-elements.result
                      c.args.before
                      c.args.size
                      c.requires.fits c.requires.inside c.requires.some (sym c.if-is_empty.ensures)
                      c.num_elements-elements.ensures
                      c.requires.room c.loop-i.i c.loop-i-test.true),
                ),
              ),
            ),
          ),
        ),
      ),
    )

pub loop-i-preserved : goal.loop-i-preserved
loop-i-preserved t c =
    let below = lengths (take (length c.args.array_shape.now - 1) (drop 1 c.args.array_shape.now)) in
    let region = region_of (take (length c.args.start.now - 1) (drop 1 c.args.start.now)) (take (length
    c.args.shape.now - 1) (drop 1 c.args.shape.now)) in
    one_row_more c.args.before c.args.size (c.num_elements-elements.result * c.args.size) below region
    (slice_index_or c.args.start.now 0 0) c.loop-i.i
    c.args.ranges.now.items c.loop-i.ranges.items _ c.loop-i.invariant c.in_ok-push_runs.ensures

pub returns : goal.returns
returns t c =
    let r = row_of c.args.start.now c.args.shape.now c.args.array_shape.now c.num_elements-elements.result
    c.requires.fits c.requires.inside c.requires.some (sym c.if-is_empty.ensures) c.num_elements-elements.ensures in
    let below = lengths (take (length c.args.array_shape.now - 1) (drop 1 c.args.array_shape.now)) in
    let region = region_of (take (length c.args.start.now - 1) (drop 1 c.args.start.now)) (take (length
    c.args.shape.now - 1) (drop 1 c.args.shape.now)) in
    rows_done c.args.before c.args.size (c.num_elements-elements.result * c.args.size) below region (slice_index_or
    c.args.start.now 0 0) c.loop-i.i (slice_index_or c.args.shape.now 0 0)
    c.args.ranges.now.items c.loop-i.ranges.items _ c.loop-i.invariant (let all : c.loop-i.i ≡ slice_index_or
    c.args.shape.now 0 0 = omega arith in all)
    (r.part_rows c.args.before c.args.size (sym c.if-has_all.ensures))
