use Rattle.std.proofs.Common.{◌≡◌, nat_le, drop}
use Rattle.std.specs.List.{list_all}
use Rattle.zarrs_codec_array_bytes.proofs.array_bytes.validate.are_flags.Given as goal

abbrev pub invariant-loop-b : goal.invariant-loop-b
invariant-loop-b l = list_all (λ b. nat_le b 1) l.mask ≡ list_all (λ b. nat_le b 1) (drop l.b-index l.mask)
