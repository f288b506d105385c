use Rattle.std.proofs.Common.{arith}
use Rattle.zarrs_array_subset.specs.ArraySubset.{region}
use Rattle.zarrs_codec_array_bytes_parts.proofs.ViewLaws.{run_fits}
use Rattle.zarrs_codec_array_bytes_parts.proofs.part.part_in.Goals as goal

pub overflow_mul-contiguous_len : goal.overflow_mul-contiguous_len
overflow_mul-contiguous_len c =
    omega (
      arith,
      run_fits c.shape-shape.result.now (region c.args.subset) c.args.size c.part_bytes-len.result
          c.contiguous_elements-num_contiguous.result
          c.part_bytes-len.type_inv c.part_bytes-len.ensures c.contiguous_elements-num_contiguous.ensures,
    )
