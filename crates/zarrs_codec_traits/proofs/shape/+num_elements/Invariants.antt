use Rattle.std.proofs.Common.{length}
use Rattle.zarrs_codec_traits.proofs.shape.+num_elements.Given as goal

abbrev pub decreases-num_elements : goal.decreases-num_elements
decreases-num_elements l = length l.shape.now
