-- Lengths cut a dimension exactly where their sum reaches it, and without the last is below it.
use Rattle.std.proofs.Common.{◌≡◌, ℕ, zero, suc, ◌-◌, ◌<◌, ◌&&◌, ◌↔◌, nat_lt, true, List, [], ◌∷◌, length, take, sum}
use Rattle.std.proofs.Common.{slice_index, refl, arith}
use Rattle.std.proofs.lemmas.Bool.{and_parts, and_from, ltb-true, lt-ltb, eqb-true, eq-eqb}
use Rattle.zarr_model.specs.Prelude.{cuts, ReachesEnd}
use Rattle.zarr_model.proofs.LaidLaws.{sum-cons}

to_words : (n : ℕ) (lengths : List ℕ) → cuts n lengths ≡ true → ReachesEnd n lengths
to_words n [] e = record {
  each = λ k h. absurd (omega arith);
  reaches = omega (arith, eqb-true n 0 e);
  needed =
      λ last h. absurd (omega arith);
}
to_words n (l ∷ []) e =
    let parts = and_parts (nat_lt 0 n && nat_lt 0 l) (cuts (n - l) []) e in
    let tests = and_parts (nat_lt 0 n) (nat_lt 0 l) parts.0 in
    let left : n - l ≡ 0 = eqb-true (n - l) 0 parts.1 in
    let some : 0 < n = ltb-true 0 n tests.0 in record {
      each = each_of (ltb-true 0 l tests.1);
      reaches = omega (arith, sum-cons l []);
      needed = needed_of some;
    }
  where
    needed_of : 0 < n → (last : ℕ) → suc last ≡ length (l ∷ []) → sum (take last (l ∷ [])) < n
    needed_of some zero h = omega (arith, some)
    needed_of some (suc last) h = absurd (omega arith)

    each_of : 0 < l → (k : ℕ) → k < 1 → 0 < slice_index (l ∷ []) k
    each_of positive zero h = positive
    each_of positive (suc k) h = absurd (omega arith)
to_words n (l ∷ m ∷ lengths) e =
    let parts = and_parts (nat_lt 0 n && nat_lt 0 l) (cuts (n - l) (m ∷ lengths)) e in
    let tests = and_parts (nat_lt 0 n) (nat_lt 0 l) parts.0 in
    let rest = to_words (n - l) (m ∷ lengths) parts.1 in
    record {
      each = each_of (ltb-true 0 l tests.1) rest.each;
      reaches = omega (arith, rest.reaches, sum-cons l (m ∷ lengths));
      needed = needed_of rest.needed;
    }
  where
    needed_of : ((last : ℕ) → suc last ≡ length (m ∷ lengths) → sum (take last (m ∷ lengths)) < n - l) → (last : ℕ) →
        suc last ≡ length (l ∷ m ∷ lengths) → sum (take last (l ∷ m ∷ lengths)) < n
    needed_of rest zero h = absurd (omega arith)
    needed_of rest (suc last) h = let below : sum (take last (m ∷ lengths)) < n - l = rest last (omega arith)
        in omega (arith, sum-cons l (take last (m ∷ lengths)))

    each_of : 0 < l → ((k : ℕ) → k < length (m ∷ lengths) → 0 < slice_index (m ∷ lengths) k) → (k : ℕ) →
        k < length (l ∷ m ∷ lengths) → 0 < slice_index (l ∷ m ∷ lengths) k
    each_of positive rest zero h = positive
    each_of positive rest (suc k) h = rest k (omega arith)

of_words : (n : ℕ) (lengths : List ℕ) → (n ≡ 0 → length lengths ≡ 0) → ReachesEnd n lengths → cuts n lengths ≡ true
of_words n [] none r = eq-eqb n 0 (omega (arith, r.reaches))
of_words n (l ∷ []) none r =
    let some : 0 < n = omega (arith, r.needed 0 refl) in
    and_from _ _ (and_from _ _ (lt-ltb 0 n some) (lt-ltb 0 l (r.each 0 (omega arith))))
    (eq-eqb (n - l) 0 (omega (arith, r.reaches, sum-cons l [])))
of_words n (l ∷ m ∷ lengths) none r =
    let below : sum (take (suc (length lengths)) (l ∷ m ∷ lengths)) < n =
    r.needed (suc (length lengths)) (omega arith) in
    let some : 0 < n = omega (arith, below) in
    let rest : ReachesEnd (n - l) (m ∷ lengths) = record {
      each = λ k h. r.each (suc k) (omega arith);
      reaches = omega (arith, r.reaches, sum-cons l (m ∷ lengths));
      needed = λ last h. let here : sum (take (suc last) (l ∷ m ∷ lengths)) < n = r.needed (suc last) (omega arith)
          in omega (arith, sum-cons l (take last (m ∷ lengths)));
    } in
    and_from _ _ (and_from _ _ (lt-ltb 0 n some) (lt-ltb 0 l (r.each 0 (omega arith))))
    (of_words (n - l) (m ∷ lengths)
    (λ e. absurd (omega (arith, below, sum-cons l (take (length lengths) (m ∷ lengths))))) rest)

pub cuts_words : (n : ℕ) (lengths : List ℕ) → (cuts n lengths ≡ true) ↔ ReachesEnd n lengths
cuts_words n lengths = (to_words n lengths, λ r. of_words n lengths (none lengths r) r)
  where
    none : (ls : List ℕ) → ReachesEnd n ls → n ≡ 0 → length ls ≡ 0
    none [] r e = refl
    none (l ∷ ls) r e = let below : sum (take (length ls) (l ∷ ls)) < n = r.needed (length ls) (omega arith)
        in absurd (omega arith)
