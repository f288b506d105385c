use Rattle.zarrs_metadata_values.proofs.FormLemmas.{given_again}
use Rattle.zarrs_metadata.specs.ArrayMetadata.{array_seen, array_fields_of}
use Rattle.zarrs_metadata.proofs.ArrayBack.{array_reads_back}
use Rattle.zarrs_metadata.proofs.Twice.{array_again_stays}
use Rattle.zarrs_metadata.proofs.v3.laws.read_array_again.Goals as goal

pub returns : goal.returns
returns c =
    let f = array_seen c.args.metadata.now in
    let again = given_again array_seen array_fields_of c.from_value.result _ _ _ c.from_value.ensures.gives
    c.in_ok-value.ensures (array_reads_back f) in record {
      again = again;
      stays = array_again_stays f c.from_value.result again c.from_value.ensures.kept;
    }
