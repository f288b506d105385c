use Rattle.zarr_codecs_to_bytes.proofs.DigestLaws.{digest_back}
use Rattle.zarr_codecs_to_bytes.proofs.sha256_codec.Sha256CodecBytesToBytesCodecTraits.encode.Goals as goal

pub returns : goal.returns
returns c = λ under. digest_back under.validate_checksums c.args.decoded_value.items c.append_digest.new.bytes.items
    c.in_ok-append_digest.ensures
