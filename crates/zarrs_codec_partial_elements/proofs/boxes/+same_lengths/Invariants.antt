use Rattle.std.proofs.Common.{length}
use Rattle.zarrs_codec_partial_elements.proofs.boxes.+same_lengths.Given as goal

abbrev pub decreases-same_lengths : goal.decreases-same_lengths
decreases-same_lengths l = length l.sizes.now
