use Rattle.zarr_model.proofs.SeenLaws.{SeesNoDamage-none, SeesNoDamage-read, SeesNoDamage-append}
use Rattle.zarr_model.proofs.damage.damage_seen_adds_up.Goals as goal

pub returns-clause-none : goal.returns-clause-none
returns-clause-none c = SeesNoDamage-none

pub returns-clause-read : goal.returns-clause-read
returns-clause-read c = SeesNoDamage-read

pub returns-clause-more : goal.returns-clause-more
returns-clause-more c = SeesNoDamage-append
