use Rattle.std.proofs.Common.{◌≡◌, ◌<◌, ◌^◌, length, slice_index_or, bit_xor, ap, ◌∙◌, rules, arith}
use lib.Bits.{xor_lt}
use Rattle.zarr_codecs_to_bytes.specs.Crc32c.{bit_steps}
use Rattle.zarr_codecs_to_bytes.proofs.TableLaws.{all_tables, word_steps}
use Rattle.zarr_codecs_to_bytes.proofs.checksum.word_step.Goals as goal

pub returns : goal.returns
returns c =
    let word = c.args.word in
    let b0 : slice_index_or word 0 0 < 256 = search rules in
    let b1 : slice_index_or word 1 0 < 256 = search rules in
    let b2 : slice_index_or word 2 0 < 256 = search rules in
    let b3 : slice_index_or word 3 0 < 256 = search rules in
    let b4 : slice_index_or word 4 0 < 256 = search rules in
    let b5 : slice_index_or word 5 0 < 256 = search rules in
    let b6 : slice_index_or word 6 0 < 256 = search rules in
    let b7 : slice_index_or word 7 0 < 256 = search rules in
    let long : length word ≡ 8 = search rules in
    let number : c.from_le_bytes.result < 2 ^ 64 = search rules in
    let held : c.from.result < 2 ^ 64 = search rules in
    all_tables (bit_xor c.from_le_bytes.result c.from.result) _ _ _ _ _ _ _ _
    (xor_lt 64 c.from_le_bytes.result c.from.result number held)
    (c.lowest_in.ensures 8 (c.tables-tables.ensures 0 (omega arith))) (c.lowest_in-2.ensures 16
    (c.tables-tables.ensures 1 (omega arith))) (c.lowest_in-3.ensures 24 (c.tables-tables.ensures 2 (omega arith)))
    (c.lowest_in-4.ensures 32 (c.tables-tables.ensures 3 (omega arith)))
    (c.lowest_in-5.ensures 40 (c.tables-tables.ensures 4 (omega arith))) (c.lowest_in-6.ensures 48
    (c.tables-tables.ensures 5 (omega arith))) (c.lowest_in-7.ensures 56 (c.tables-tables.ensures 6 (omega arith)))
    (c.lowest_in-8.ensures 64 (c.tables-tables.ensures 7 (omega arith)))
    ∙ (ap (λ r. bit_steps 64 (bit_xor c.from_le_bytes.result r)) c.from.ensures
    ∙ word_steps word c.args.register c.from_le_bytes.result long b0 b1 b2 b3 b4 b5 b6 b7 c.from_le_bytes.ensures)
