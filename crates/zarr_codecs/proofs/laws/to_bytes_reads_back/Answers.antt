use Rattle.zarr_codecs.proofs.ReadsBack.{to_bytes_back}
use Rattle.zarr_codecs.proofs.laws.to_bytes_reads_back.Goals as goal

pub returns : goal.returns
returns c = λ names bytes texts strings optionals plain. to_bytes_back names bytes texts strings optionals plain
