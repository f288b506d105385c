use Rattle.zarr_v2.proofs.DecodeLaws.{rows}
use Rattle.zarr_v2.proofs.meaning.rows_agree.Goals as goal

pub returns : goal.returns
returns c = λ bytes n level value some same. rows bytes n level value some same
