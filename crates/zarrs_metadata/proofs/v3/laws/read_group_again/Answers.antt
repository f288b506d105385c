use Rattle.zarrs_metadata_values.proofs.FormLemmas.{given_again}
use Rattle.zarrs_metadata.specs.GroupMetadata.{group_seen, group_of}
use Rattle.zarrs_metadata.proofs.GroupBack.{group_reads_back}
use Rattle.zarrs_metadata.proofs.v3.laws.read_group_again.Goals as goal

pub returns-clause-again : goal.returns-clause-again
returns-clause-again c =
    given_again group_seen group_of c.from_value.result _ _ _ c.from_value.ensures.gives c.in_ok-value.ensures
    (group_reads_back (group_seen c.args.metadata.now))
