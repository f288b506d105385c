use Rattle.zarr_v2.proofs.MeaningTextLaws.{nests, opens}
use Rattle.zarr_v2.proofs.meaning.translation_opens_as_text.Goals as goal

pub returns : goal.returns
returns c = λ names text a f reads translates. record {
  nests = nests text a f reads translates;
  opens = opens text a f reads translates names;
}
