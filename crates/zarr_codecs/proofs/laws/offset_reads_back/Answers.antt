use Rattle.zarr_codecs.proofs.ReadsBack.{offset_back}
use Rattle.zarr_codecs.proofs.laws.offset_reads_back.Goals as goal

pub returns : goal.returns
returns c = λ names number. offset_back names number
