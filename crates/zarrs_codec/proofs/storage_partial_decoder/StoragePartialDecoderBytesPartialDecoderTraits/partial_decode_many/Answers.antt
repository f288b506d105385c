use Rattle.zarrs_storage.specs.Store.{part_bytes}
use Rattle.zarrs_codec.proofs.StoredLaws.{stored_given, stored_reads, stored_told}
use Rattle.zarrs_codec.proofs.storage_partial_decoder.StoragePartialDecoderBytesPartialDecoderTraits.partial_decode_many.Goals as goal

pub returns-in-Ok-clause-value : goal.returns-in-Ok-clause-value
returns-in-Ok-clause-value g c = stored_given (part_bytes c.in-Ok.parts) c.args.decoded_regions.now _
    c.in-Ok.ensures.reads.value c.in-Ok.ensures.reads.valid

pub returns-in-Ok-clause-reads : goal.returns-in-Ok-clause-reads
returns-in-Ok-clause-reads g c = stored_reads c.args.self.now.storage.ghost_name c.args.self.now.key
    c.args.decoded_regions.now _ _ c.in-Ok.parts c.in-Ok.ensures.reads

pub returns-in-Err-clause-cause : goal.returns-in-Err-clause-cause
returns-in-Err-clause-cause g c = stored_told _ c.args.decoded_regions.now _ _ c.in-Err.error c.from.result
    c.in-Err.ensures.reads.error c.in-Err.ensures.reads.cause.failed c.from.ensures
