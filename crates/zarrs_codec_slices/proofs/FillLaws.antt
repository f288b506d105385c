-- A fill value again and again whose bytes are all one byte.
use Rattle.std.proofs.Common.{◌≡◌, ℕ, zero, suc, ◌+◌, ◌*◌, List, ◌∷◌, ◌++◌, length, replicate, sym, ap, ◌∙◌, arith}
use Rattle.std.proofs.Math.Nat.{suc-mul}
use Rattle.zarrs_data_type_bytes.specs.Pieces.{repeated}

replicate-append : (m n b : ℕ) → replicate m b ++ replicate n b ≡ replicate (m + n) b
replicate-append zero n b = ap (λ k. replicate k b) (let e : n ≡ 0 + n = omega arith in e)
replicate-append (suc m) n b =
    ap (λ l. b ∷ l) (replicate-append m n b)
    ∙ ap (λ k. replicate k b) (let e : suc (m + n) ≡ suc m + n = omega arith in e)

repeated-replicate : (k n b : ℕ) → repeated k (replicate n b) ≡ replicate (k * n) b
repeated-replicate zero n b = ap (λ m. replicate m b) (let e : 0 ≡ 0 * n = omega arith in e)
repeated-replicate (suc k) n b =
    ap (λ l. replicate n b ++ l) (repeated-replicate k n b)
    ∙ (replicate-append n (k * n) b
    ∙ ap (λ m. replicate m b) (let e : n + k * n ≡ suc k * n = omega (arith, suc-mul k n) in e))

pub repeated_byte : (k b n : ℕ) (fill : List ℕ) → fill ≡ replicate (length fill) b → n ≡ k * length fill →
    replicate n b ≡ repeated k fill
repeated_byte k b n fill all is =
    ap (λ m. replicate m b) is ∙ (sym (repeated-replicate k (length fill) b) ∙ ap (repeated k) (sym all))
