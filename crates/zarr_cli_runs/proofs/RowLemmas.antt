-- Elements joined row by row.
use Rattle.std.proofs.Common.{◌≡◌, ℕ, zero, suc, ◌+◌, ◌-◌, ◌≤◌, List, [], ◌++◌, flat_map, sym, ap, ◌∙◌, append_assoc}
use Rattle.std.proofs.Common.{rules, arith}
use Rattle.std.specs.List.{range_with_len}

-- the numbers from a on, and one more
last_joined : (f : ℕ → List ℕ) (a n : ℕ) →
    flat_map f (range_with_len a (suc n)) ≡ flat_map f (range_with_len a n) ++ f (a + n)
last_joined f a zero = search rules
last_joined f a (suc n) =
    ap (λ rest. f a ++ rest) (last_joined f (a + 1) n
    ∙ ap (λ k. flat_map f (range_with_len (a + 1) n) ++ f k) (let e : a + 1 + n ≡ a + suc n = omega arith in e))
    ∙ sym (append_assoc (f a) (flat_map f (range_with_len (a + 1) n)) (f (a + suc n)))

-- none so far
pub none_joined : (f : ℕ → List ℕ) (a : ℕ) (bytes : List ℕ) → bytes ≡ bytes ++ flat_map f (range_with_len a (a - a))
none_joined f a bytes = let e : bytes ≡ bytes ++ [] = search rules in
    e ∙ ap (λ n. bytes ++ flat_map f (range_with_len a n)) (let z : 0 ≡ a - a = omega arith in z)

-- the numbers from a up to k, and k
pub one_more_joined : (f : ℕ → List ℕ) (a k : ℕ) (before bytes now : List ℕ) → a ≤ k →
    bytes ≡ before ++ flat_map f (range_with_len a (k - a)) → now ≡ bytes ++ f k →
    now ≡ before ++ flat_map f (range_with_len a (k + 1 - a))
one_more_joined f a k before bytes now above so_far put =
    put ∙ (ap (λ b. b ++ f k) so_far ∙ (append_assoc before (flat_map f (range_with_len a (k - a))) (f k)
    ∙ ap (λ b. before ++ b) (sym (last_joined f a (k - a)
    ∙ ap (λ m. flat_map f (range_with_len a (k - a)) ++ f m) (let e : a + (k - a) ≡ k = omega arith in e))
    ∙ ap (λ n. flat_map f (range_with_len a n)) (let e : suc (k - a) ≡ k + 1 - a = omega arith in e))))
