use Rattle.std.proofs.Common.{◌<◌, ◌*◌, ◌^◌, slice_index_or, arith, rules}
use Rattle.zarr_codecs_elements.proofs.PieceLaws.{few_digits, more_digits, tail_short}
use Rattle.zarr_codecs_elements.proofs.numbers.+number_of.Goals as goal

pub overflow_mul-result : goal.overflow_mul-result
overflow_mul-result t c =
    let all : 256 * c.number_of-above.result < 2 ^ 64 = omega (
      arith,
      few_digits _ _ (tail_short c.args.bytes.now
          c.in-len1-up.len_at_least c.requires) (more_digits 0 _ _ (omega arith) c.number_of-above.ensures.below),
    ) in
    omega (arith, all)

pub overflow_add-result : goal.overflow_add-result
overflow_add-result t c =
    let byte : slice_index_or c.args.bytes.now 0 0 < 256 = search rules in
    let all = few_digits _ _ (tail_short c.args.bytes.now c.in-len1-up.len_at_least c.requires)
    (more_digits (slice_index_or c.args.bytes.now 0 0) _ _ byte c.number_of-above.ensures.below) in
    omega (arith, all)
