use Rattle.zarr_codecs_to_bytes.proofs.ChecksumLaws.{number_back}
use Rattle.zarr_codecs_to_bytes.proofs.crc32c_codec.Crc32cCodecBytesToBytesCodecTraits.encode.Goals as goal

pub returns : goal.returns
returns c = λ under. number_back under.validate_checksums c.args.decoded_value.items c.append_number.new.bytes.items
    c.in_ok-append_number.ensures
