use Rattle.std.proofs.Common.{◌≡◌, drop}
use Rattle.zarr_codecs_to_bytes.specs.Crc32c.{register_after}
use Rattle.zarr_codecs_to_bytes.proofs.checksum.bytes_after.Given as goal

abbrev pub invariant-loop-byte : goal.invariant-loop-byte
invariant-loop-byte l = register_after l.after (drop l.byte-index l.bytes) ≡ register_after l.fn.register l.bytes
