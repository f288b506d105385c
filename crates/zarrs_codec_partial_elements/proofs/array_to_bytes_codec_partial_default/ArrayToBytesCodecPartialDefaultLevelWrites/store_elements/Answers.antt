use Rattle.zarrs_codec_partial_elements.proofs.ServedLaws.{served_for}
use Rattle.zarrs_codec_partial_elements.proofs.array_to_bytes_codec_partial_default.ArrayToBytesCodecPartialDefaultLevelWrites.store_elements.Goals as goal

pub returns-clause-named : goal.returns-clause-named
returns-clause-named g c = λ there. served_for _ c.store_elements.result c.requires.served
