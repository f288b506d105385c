use Rattle.zarr_basics.proofs.KeysApart.{keys_differ}
use Rattle.zarr_basics.proofs.laws.keys_differ.Goals as goal

pub returns : goal.returns
returns c = keys_differ
