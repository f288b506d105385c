use Rattle.zarr_v2.proofs.DecodeLaws.{columns}
use Rattle.zarr_v2.proofs.meaning.columns_agree.Goals as goal

pub returns : goal.returns
returns c = λ bytes n level value some same. columns bytes n level value some same
