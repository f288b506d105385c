use Rattle.zarr_cli_runs.proofs.BetweenLaws.{honest_sees_none, means_undamaged}
use Rattle.zarr_cli_runs.proofs.laws.honest_is_without_damage.Goals as goal

pub returns : goal.returns
returns c = λ description options commands store. record {
  unseen = honest_sees_none description options commands store;
  alike = means_undamaged description options commands store;
}
