use Rattle.std.proofs.Common.{◌∙◌, ◌≤◌, ◌*◌, ℕ, sym, ap, subst, slice_index_or, arith}
use Rattle.std.proofs.Math.Nat.{mul-le-mul_left}
use Rattle.zarr_codecs_to_bytes.proofs.RowLaws.{row_of, point}
use Rattle.zarr_codecs_to_bytes.proofs.ranges.+count_runs.Goals.{then-is_empty-via-then-is_empty}
use Rattle.zarr_codecs_to_bytes.proofs.ranges.+count_runs.Goals.{then-is_empty-via-else-is_empty+then-has_all}
use Rattle.zarr_codecs_to_bytes.proofs.ranges.+count_runs.Goals as goal

pub returns-then-is_empty : goal.returns-then-is_empty
returns-then-is_empty t c = elim c.then-is_empty.branch [
  | then-is_empty-via-then-is_empty w ↦ sym (point c.args.start.now c.args.shape.now c.args.array_shape.now 0 0
      c.requires.fits c.requires.inside (sym w.if-is_empty.ensures)).0
  | then-is_empty-via-else-is_empty+then-has_all w ↦
      sym ((row_of c.args.start.now c.args.shape.now c.args.array_shape.now w.num_elements.result c.requires.fits
      c.requires.inside c.requires.some (sym w.if-is_empty.ensures) w.num_elements.ensures).one (sym
      w.if-has_all.ensures))
]

pub returns : goal.returns
returns t c =
    ap (λ (k : ℕ). slice_index_or c.args.shape.now 0 0 * k) c.count_runs.ensures
    ∙ sym ((row_of c.args.start.now c.args.shape.now c.args.array_shape.now c.num_elements.result c.requires.fits
    c.requires.inside c.requires.some (sym c.if-is_empty.ensures) c.num_elements.ensures).many (sym
    c.if-has_all.ensures))

pub overflow_mul-result : goal.overflow_mul-result
overflow_mul-result t c =
    let r = row_of c.args.start.now c.args.shape.now c.args.array_shape.now c.num_elements.result c.requires.fits
    c.requires.inside c.requires.some (sym c.if-is_empty.ensures) c.num_elements.ensures in
    let less : slice_index_or c.args.shape.now 0 0 * c.count_runs.result ≤ slice_index_or c.args.shape.now 0 0 *
    c.num_elements.result =
    mul-le-mul_left (slice_index_or c.args.shape.now 0 0) (subst (λ (k : ℕ). k ≤ c.num_elements.result) (sym
    c.count_runs.ensures) r.runs) in
    omega (arith, less, r.room, c.requires.few)
