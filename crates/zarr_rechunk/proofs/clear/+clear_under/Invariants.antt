use Rattle.zarrs_codec_array_bytes.specs.Raw.{raw_of}
use Rattle.zarr_rechunk.specs.Cleared.{levels}
use Rattle.zarr_rechunk.proofs.clear.+clear_under.Given as goal

abbrev pub decreases-clear_under : goal.decreases-clear_under
decreases-clear_under l = levels (raw_of l.bytes.now)
