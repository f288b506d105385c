-- Ends that are made lengths, one after another.
use Rattle.std.proofs.Common.{◌≡◌, ℕ, zero, suc, ◌+◌, ◌-◌, ◌<◌, ◌≤◌, ◌^◌, ◌&&◌, true, nat_lt, nat_le, min, List, []}
use Rattle.std.proofs.Common.{◌∷◌, length, get_or, set, refl, ap, ap₂, ◌∙◌, arith}
use Rattle.std.proofs.lemmas.Bool.{and_parts, and_from, leb-true, ltb-true, lt-ltb}
use Rattle.zarrs_array_subset.specs.Boxes.{is_box, is_rising_inc, lengths_to, region_between, region_of, region_through}

-- the first k ends are lengths, and the others still ends
abbrev pub partly : ℕ → ℕ → List ℕ → List ℕ → List ℕ
partly more zero end start = end
partly more (suc k) (e ∷ end) (s ∷ start) = min (e - s + more) (2 ^ 64 - 1) ∷ partly more k end start
partly more (suc k) [] start = []
partly more (suc k) (e ∷ end) [] = e ∷ end

pub partly_at : (more k : ℕ) (end start : List ℕ) → get_or (partly more k end start) k 0 ≡ get_or end k 0
partly_at more zero end start = refl
partly_at more (suc k) [] start = refl
partly_at more (suc k) (e ∷ end) [] = refl
partly_at more (suc k) (e ∷ end) (s ∷ start) = partly_at more k end start

partly_step : (more k : ℕ) (end start : List ℕ) → k < length start → length end ≡ length start →
    set (partly more k end start) k (min (get_or end k 0 - get_or start k 0 + more) (2 ^ 64 - 1)) ≡
    partly more (suc k) end start
partly_step more k [] [] less rank = absurd (omega arith)
partly_step more k [] (s ∷ start) less rank = absurd (omega arith)
partly_step more k (e ∷ end) [] less rank = absurd (omega arith)
partly_step more zero (e ∷ end) (s ∷ start) less rank = refl
partly_step more (suc k) (e ∷ end) (s ∷ start) less rank =
    ap (λ rest. min (e - s + more) (2 ^ 64 - 1) ∷ rest) (partly_step more k end start (omega arith) (omega arith))

-- one more end is made a length
pub partly_more : (more k : ℕ) (end start : List ℕ) → k < length start → length end ≡ length start →
    set (partly more k end start) k
    (min (get_or (partly more k end start) k 0 - get_or start k 0 + more) (2 ^ 64 - 1)) ≡ partly more (k + 1) end start
partly_more more k end start less rank =
    let next : suc k ≡ k + 1 = omega arith in
    ap (λ n.
    set (partly more k end start) k (min (n - get_or start k 0 + more) (2 ^ 64 - 1))) (partly_at more k end start)
    ∙ partly_step more k end start less rank ∙ ap (λ n. partly more n end start) next

pub partly_all : (more : ℕ) (end start : List ℕ) → length end ≡ length start →
    partly more (length start) end start ≡ lengths_to more end start
partly_all more [] [] rank = refl
partly_all more [] (s ∷ start) rank = cc
partly_all more (e ∷ end) [] rank = cc
partly_all more (e ∷ end) (s ∷ start) rank =
    ap (λ rest. min (e - s + more) (2 ^ 64 - 1) ∷ rest) (partly_all more end start (omega arith))

pub ruleset of_steps = (partly_more, partly_all)

-- up to ends that are not included
pub between_is : (start end : List ℕ) → length start ≡ length end → ((k : ℕ) → k < length end →
    get_or end k 0 < 2 ^ 64) → region_of start (lengths_to 0 end start) ≡ region_between start end
between_is [] [] rank b = refl
between_is [] (e ∷ end) rank b = cc
between_is (s ∷ start) [] rank b = cc
between_is (s ∷ start) (e ∷ end) rank b =
    let here : min (e - s + 0) (2 ^ 64 - 1) ≡ e - s = omega (arith, b 0 (omega arith)) in
    ap₂ (λ n rest. record { start = s; size = n } ∷ rest) here
    (between_is start end (omega arith) (λ k h. b (suc k) (omega arith)))

pub between_fits : (start end : List ℕ) → length start ≡ length end →
    ((k : ℕ) → k < length start → get_or start k 0 < 2 ^ 64) → ((k : ℕ) → k < length end → get_or end k 0 < 2 ^ 64) →
    is_box start (lengths_to 0 end start) ≡ true
between_fits [] [] rank a b = refl
between_fits [] (e ∷ end) rank a b = cc
between_fits (s ∷ start) [] rank a b = cc
between_fits (s ∷ start) (e ∷ end) rank a b =
    let here : s + min (e - s + 0) (2 ^ 64 - 1) < 2 ^ 64 = omega (arith, a 0 (omega arith), b 0 (omega arith)) in
    and_from _ _ (lt-ltb _ _ here)
    (between_fits start end (omega arith) (λ k h. a (suc k) (omega arith)) (λ k h. b (suc k) (omega arith)))

-- up to ends that are included
through_parts : (s e : ℕ) → nat_le s e ≡ true → nat_lt (e + 1) (2 ^ 64) ≡ true →
    (min (e - s + 1) (2 ^ 64 - 1) ≡ e + 1 - s) × (s + min (e - s + 1) (2 ^ 64 - 1) < 2 ^ 64)
through_parts s e low high = let l : s ≤ e = leb-true _ _ low in let h : e + 1 < 2 ^ 64 = ltb-true _ _ high in
    (omega arith, omega arith)

pub through_is : (start end : List ℕ) → is_rising_inc start end ≡ true →
    region_of start (lengths_to 1 end start) ≡ region_through start end
through_is [] [] h = refl
through_is [] (e ∷ end) h = cc
through_is (s ∷ start) [] h = cc
through_is (s ∷ start) (e ∷ end) h =
    let parts = and_parts (nat_le s e && nat_lt (e + 1) (2 ^ 64)) (is_rising_inc start end) h in
    let both = and_parts (nat_le s e) (nat_lt (e + 1) (2 ^ 64)) parts.0 in
    ap₂ (λ n rest. record { start = s; size = n } ∷ rest) (through_parts s e both.0 both.1).0
    (through_is start end parts.1)

pub through_fits : (start end : List ℕ) → is_rising_inc start end ≡ true → is_box start (lengths_to 1 end start) ≡ true
through_fits [] [] h = refl
through_fits [] (e ∷ end) h = cc
through_fits (s ∷ start) [] h = cc
through_fits (s ∷ start) (e ∷ end) h =
    let parts = and_parts (nat_le s e && nat_lt (e + 1) (2 ^ 64)) (is_rising_inc start end) h in
    let both = and_parts (nat_le s e) (nat_lt (e + 1) (2 ^ 64)) parts.0 in
    and_from _ _ (lt-ltb _ _ (through_parts s e both.0 both.1).1) (through_fits start end parts.1)

pub ruleset of_ends = (through_is, through_fits)
