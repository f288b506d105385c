use Rattle.std.proofs.Common.{◌≡◌, sym}
use Rattle.zarrs_codec_traits.specs.Prelude.{count_of, kind_of, type_of, raw_of, fine, validity, lengths, level_of}
use Rattle.zarr_codecs_to_bytes.proofs.OrderLaws.{encoded_here}
use Rattle.zarr_codecs_to_bytes.proofs.bytes_codec.BytesCodecArrayToBytesCodecTraits.encode.Goals as goal

pub returns-clause-value : goal.returns-clause-value
returns-clause-value c = λ served under.
    let valid : fine ≡ validity (kind_of (type_of c.args.data_type.now)) (count_of (lengths c.args.shape.now))
    (raw_of c.args.bytes) = rw c.num_elements.ensures at c.in_ok-validate.ensures in
    encoded_here c.args.self.now.endianness under
    (level_of c.args.shape.now c.args.data_type.now c.args._fill_value.now)
    c.in_ok-support.support.component_size (raw_of c.args.bytes) c.in_ok-value.value.items c.ordered.result.items
    c.in_ok-support.ensures.seen (sym valid) c.in_ok-value.ensures.value c.ordered.ensures
