-- When bytes are a fill value again and again.
use Rattle.std.proofs.Common.{◌≡◌, ℕ, zero, suc, ◌*◌, ◌/◌, ◌%◌, ◌<◌, ◌≤◌, ◌==◌, Bool, true, false, List, [], ◌∷◌}
use Rattle.std.proofs.Common.{length, refl, sym, ap, ◌∙◌, arith, IsTrue, ◌↔◌, eqb-true, eq-eqb}
use Rattle.std.proofs.lemmas.Nat.{mod-mul-add}
use Rattle.std.proofs.Math.Nat.{mul-le-mul_right, suc-mul, mul-div_cancel, div-add-mod'}
use Rattle.zarrs_data_type_bytes.specs.Pieces.{repeated, Repeats}
use Rattle.zarrs_data_type_bytes.proofs.PieceLaws.{length-repeated}

no_bytes : (bytes : List ℕ) → length bytes ≡ 0 → bytes ≡ []
no_bytes [] e = refl
no_bytes (b ∷ bytes) e = absurd (omega arith)

nothing_repeated : (k : ℕ) → repeated k [] ≡ []
nothing_repeated zero = refl
nothing_repeated (suc k) = nothing_repeated k

-- an empty list equals only empty bytes
pub repeats-empty : (list bytes : List ℕ) → length list ≡ 0 → IsTrue (length bytes == 0) ↔ Repeats list bytes
repeats-empty list bytes none =
    let empty : list ≡ [] = no_bytes list none in (
      λ h. record {
        times = 1;
        once = omega arith;
        is = no_bytes bytes (eqb-true (length bytes) 0 h) ∙ sym (nothing_repeated 1) ∙ ap (repeated 1) (sym empty);
      },
      λ r. eq-eqb (length bytes) 0
          (ap length r.is ∙ (ap (λ l. length (repeated r.times l)) empty ∙ ap length (nothing_repeated r.times))),
    )

-- bytes that are a list again and again are as long as so many of them
pub repeats_count : (list bytes : List ℕ) → 0 < length list → (r : Repeats list bytes) →
    length bytes ≡ r.times * length list
repeats_count list bytes some r = ap length r.is ∙ length-repeated r.times list

-- none, or not a whole number of them
pub repeats_none : (list bytes : List ℕ) → 0 < length list → length bytes ≡ 0 → Repeats list bytes → ⊥
repeats_none list bytes some none r =
    let more : suc 0 * length list ≤ r.times * length list =
    mul-le-mul_right (length list) (let one : suc 0 ≤ r.times = omega (arith, r.once) in one) in
    absurd (omega (arith, more, suc-mul 0 (length list), repeats_count list bytes some r, none))

pub repeats_whole : (list bytes : List ℕ) → 0 < length list → Repeats list bytes → length bytes % length list ≡ 0
repeats_whole list bytes some r =
    ap (λ n. n % length list) (repeats_count list bytes some r ∙ omega arith) ∙ mod-mul-add r.times (length list) 0 some

-- else they are so many as go into the bytes
pub repeats-pieces : (list bytes : List ℕ) → 0 < length list → 0 < length bytes → length bytes % length list ≡ 0 →
    (bytes ≡ repeated (length bytes / length list) list) ↔ Repeats list bytes
repeats-pieces list bytes some full whole = (
  λ e. record { times = length bytes / length list; once = positive (length bytes / length list) refl; is = e },
  λ r. r.is ∙ ap (λ k. repeated k list)
      (sym (ap (λ n. n / length list) (repeats_count list bytes some r) ∙ mul-div_cancel r.times some)),
)
  where
    positive : (k : ℕ) → length bytes / length list ≡ k → 0 < length bytes / length list
    positive zero e =
        absurd (omega (arith, div-add-mod' (length bytes) (length list), ap (λ k. k * length list) e, whole, full))
    positive (suc k) e = omega (arith, e)

-- tests of lengths as facts
pub none_by : (n : ℕ) (b : Bool) → b ≡ (n == 0) → b ≡ true → n ≡ 0
none_by n b is e = eqb-true n 0 (sym is ∙ e)

pub some_by : (n : ℕ) (b : Bool) → b ≡ (n == 0) → b ≡ false → 0 < n
some_by zero b is e = absurd (clash b is e)
  where
    clash : (b : Bool) → b ≡ true → b ≡ false → ⊥
    clash b is e = cc
some_by (suc n) b is e = omega arith

-- an answer false
pub refused : {P : Type 0} → (P → ⊥) → IsTrue false ↔ P
refused never = (λ h. cc, λ p. absurd (never p))
