use Rattle.zarr_codecs.proofs.ReadsBack.{transpose_back}
use Rattle.zarr_codecs.proofs.laws.transpose_reads_back.Goals as goal

pub returns : goal.returns
returns c = λ names order orders. transpose_back names order orders
