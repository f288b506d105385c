use Rattle.std.proofs.Common.{◌∙◌, sym, arith}
use Rattle.zarr_codec_chain.proofs.RegionLaws.{last-at}
use Rattle.zarr_codec_chain.proofs.regions.last_or.Goals as goal

pub returns-in-len1-up : goal.returns-in-len1-up
returns-in-len1-up c =
    c.last-item.is ∙ sym (last-at c.args.boxes.now c.args.region.now c.last-item.result (omega arith))
