use Rattle.std.proofs.Common.{◌/◌, ◌%◌, bit_xor, ap, ◌∙◌, arith}
use Rattle.zarr_codecs_to_bytes.specs.Crc32c.{bit_steps}
use Rattle.zarr_codecs_to_bytes.proofs.TableLaws.{one_byte}
use Rattle.zarr_codecs_to_bytes.proofs.checksum.byte_step.Goals as goal

pub returns : goal.returns
returns c =
    ap (λ b. bit_xor (bit_xor c.args.register b / 256) c.lowest_in.result) c.from.ensures
    ∙ one_byte c.args.register c.args.byte c.lowest_in.result
    (c.lowest_in.ensures 8 (c.tables.ensures 0 (omega arith))
    ∙ ap (λ n. bit_steps 8 (n % 256)) (c.from-2.ensures ∙ ap (bit_xor c.args.register) c.from.ensures))
