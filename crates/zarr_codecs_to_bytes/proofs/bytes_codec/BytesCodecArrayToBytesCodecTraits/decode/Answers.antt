use Rattle.std.proofs.Common.{◌≡◌, length, arith}
use Rattle.std.proofs.lemmas.Grind.{common_steps}
use Rattle.zarrs_codec_traits.specs.Views.{level_of, options_of}
use Rattle.zarr_codecs_to_bytes.specs.BytesCodec.{bytes_size}
use Rattle.zarr_codecs_to_bytes.proofs.OrderLaws.{decoded_here}
use Rattle.zarr_codecs_to_bytes.proofs.bytes_codec.BytesCodecArrayToBytesCodecTraits.decode.Goals as goal

pub returns-clause-value : goal.returns-clause-value
returns-clause-value c = λ served.
    let level = level_of c.args.shape.now c.args.data_type.now c.args._fill_value.now in
    let long : length c.args.bytes.items ≡
    bytes_size (level_of c.args.shape.now c.args.data_type.now c.args._fill_value.now) = grind
    (arith, common_steps, c.len.ensures, c.if-len-expected_len.false, c.num_elements.ensures, c.element_size.ensures) in
    decoded_here c.args.self.now.endianness (options_of c.args._options.now) level
    c.in_ok-support.support.component_size c.args.bytes.items c.ordered-decoded.result.items
    c.in_ok-support.ensures.seen c.ordered-decoded.ensures long
