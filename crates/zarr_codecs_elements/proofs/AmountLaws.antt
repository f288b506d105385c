-- How much an offset adds.
use Rattle.std.proofs.Common.{◌≡◌, ℕ, zero, suc, ◌+◌, ◌-◌, ◌%◌, ◌<◌, pos, negsuc, sym, ap, ◌∙◌, arith}
use Rattle.std.proofs.Math.Nat.{add-mod-mod, add-mod_right, mod-eq_of_lt}
use Rattle.zarr_model.specs.Codec.{opposite}
use Rattle.zarr_codecs_elements.specs.Numbers.{TakesOff}

pub takes_above : (m d : ℕ) → TakesOff m (pos d) ((m - d % m) % m)
takes_above m d = λ x. sym (add-mod-mod x (m - d % m) m)

pub takes_below : (m d : ℕ) → TakesOff m (negsuc d) ((d + 1) % m)
takes_below m d = λ x. let one : suc d ≡ d + 1 = omega arith in
    ap (λ (k : ℕ). (x + k) % m) one ∙ sym (add-mod-mod x (d + 1) m)

pub puts_above : (m d : ℕ) → 0 < m → TakesOff m (opposite (pos d)) (d % m)
puts_above m zero nonzero = λ x.
    let none : 0 % m ≡ 0 = mod-eq_of_lt nonzero in
    let all : m - 0 % m ≡ m = omega (arith, none) in
    ap (λ (k : ℕ). (x + k) % m) all
    ∙ (add-mod_right x m ∙ let same : x ≡ x + 0 % m = omega (arith, none) in ap (λ (k : ℕ). k % m) same)
puts_above m (suc d) nonzero = λ x. sym (add-mod-mod x (suc d) m)

pub puts_below : (m d : ℕ) → TakesOff m (opposite (negsuc d)) ((m - (d + 1) % m) % m)
puts_below m d = λ x. let one : suc d ≡ d + 1 = omega arith in
    ap (λ (k : ℕ). (x + (m - k % m)) % m) one ∙ sym (add-mod-mod x (m - (d + 1) % m) m)
