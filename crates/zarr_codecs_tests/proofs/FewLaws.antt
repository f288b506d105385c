-- Fewer than 256 bytes.
use Rattle.std.proofs.Common.{◌≡◌, ℕ, ◌+◌, ◌*◌, ◌^◌, ◌<◌, sym, subst, arith}
use Rattle.zarrs_codec.specs.Prelude.{Kind, fixed, AreFew}

pub few_bytes : (kind : Kind) (n : ℕ) → kind ≡ fixed 1 → n < 256 → AreFew kind n
few_bytes kind n is few =
    subst (λ (k : Kind). AreFew k n) (sym is)
    (record {
      count = let h : n + 1 < 2 ^ 64 = omega (arith, few) in
          h;
      bytes = let h : n * 1 < 2 ^ 64 = omega (arith, few) in h;
    })
