use Rattle.zarrs_codec_partial_elements.proofs.BottomLaws.{held_of}
use Rattle.zarrs_codec_partial_elements.proofs.array_to_bytes_codec_partial_default.ArrayToBytesCodecPartialDefaultLevelWrites.old_elements.Goals as goal

pub returns-clause-reads : goal.returns-clause-reads
returns-clause-reads g c = held_of g.C.ArrayToBytesCodecTraits.request c.old_elements.result c.requires.served
    c.old_elements.ensures
