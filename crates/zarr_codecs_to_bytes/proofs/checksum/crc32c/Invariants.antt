use Rattle.std.proofs.Common.{◌≡◌, length}
use Rattle.zarr_codecs_to_bytes.specs.Crc32c.{register_after}
use Rattle.zarr_codecs_to_bytes.proofs.checksum.crc32c.Given as goal

abbrev pub decreases-words : goal.decreases-words
decreases-words l = length l.left

abbrev pub invariant-words : goal.invariant-words
invariant-words l = register_after l.register l.left ≡ register_after 4294967295 l.bytes
