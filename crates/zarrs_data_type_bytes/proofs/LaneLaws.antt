-- A list again and again, in longer pieces.
use Rattle.std.proofs.Common.{◌≡◌, ℕ, zero, suc, ◌+◌, ◌*◌, ◌/◌, ◌%◌, ◌<◌, ◌≤◌, Bool, true, false, IsTrue, List}
use Rattle.std.proofs.Common.{◌++◌, length, take, drop, refl, sym, ap, ap₂, ◌∙◌, subst, arith}
use Rattle.std.proofs.lemmas.List.{append_assoc, length-take-le, take-append-drop}
use Rattle.std.proofs.lemmas.Nat.{div-add-mod'}
use Rattle.std.proofs.Math.Seq.{take-append_seam, drop-append_seam}
use Rattle.std.proofs.Math.Nat.{zero-mul, suc-mul, mul_assoc, mul-div_cancel, add-mul, mul-mod_left}
use Rattle.std.proofs.Math.Nat.{add-mul-mod_self_right}
use Rattle.zarrs_data_type_bytes.specs.Pieces.{repeated}
use Rattle.zarrs_data_type_bytes.proofs.PieceLaws.{length-repeated, next_same, one_differs}

-- one more piece of a known length
pub lane_same : (list bytes : List ℕ) (k n : ℕ) → length list ≡ n → take (k * n) bytes ≡ repeated k list →
    take n (drop (k * n) bytes) ≡ list → take ((k + 1) * n) bytes ≡ repeated (k + 1) list
lane_same list bytes k n long = subst (λ m. take (k * m) bytes ≡ repeated k list → take m (drop (k * m) bytes) ≡ list →
    take ((k + 1) * m) bytes ≡ repeated (k + 1) list) long
    (λ before here. next_same list bytes k (length list) refl before here)

pub lane_differs : (list bytes : List ℕ) (k n : ℕ) → length list ≡ n → k < length bytes / n →
    (take n (drop (k * n) bytes) ≡ list → ⊥) → bytes ≡ repeated (length bytes / n) list → ⊥
lane_differs list bytes k n long = subst (λ m. k < length bytes / m → (take m (drop (k * m) bytes) ≡ list → ⊥) →
    bytes ≡ repeated (length bytes / m) list → ⊥) long
    (λ below differs all. one_differs list bytes k (length list) refl below differs all)

pub repeated_add : (a b : ℕ) (list : List ℕ) → repeated (a + b) list ≡ repeated a list ++ repeated b list
repeated_add zero b list = ap (λ m. repeated m list) (let e : 0 + b ≡ b = omega arith in e)
repeated_add (suc a) b list = ap (λ m. repeated m list) (let e : suc a + b ≡ suc (a + b) = omega arith in e)
    ∙ (ap (λ l. list ++ l) (repeated_add a b list) ∙ sym (append_assoc list (repeated a list) (repeated b list)))

pub repeated_times : (k m : ℕ) (list : List ℕ) → repeated k (repeated m list) ≡ repeated (k * m) list
repeated_times zero m list = ap (λ n. repeated n list) (sym (zero-mul m))
repeated_times (suc k) m list = ap (λ l. repeated m list ++ l) (repeated_times k m list)
    ∙ (sym (repeated_add m (k * m) list)
    ∙ ap (λ n. repeated n list) (let e : m + k * m ≡ suc k * m = omega (arith, suc-mul k m) in e))

-- whole vectors: the first one is the list again and again, and each other one is the first
module _ (fill bytes : List ℕ) (m q wide : ℕ) (some : 0 < length fill)
    (many : 0 < wide) (lanes : m * length fill ≡ wide) (vectors : length bytes ≡ suc q * wide) where
  pieces : length bytes / length fill ≡ suc q * m
  pieces = ap (λ k. k / length fill) (vectors
      ∙ (ap (λ k. suc q * k) (sym lanes) ∙ sym (mul_assoc (suc q) m (length fill)))) ∙ mul-div_cancel (suc q * m) some

  counted : length bytes / wide ≡ suc q
  counted = ap (λ k. k / wide) vectors ∙ mul-div_cancel (suc q) many

  together : repeated (suc q) (repeated m fill) ≡ repeated (length bytes / length fill) fill
  together = repeated_times (suc q) m fill ∙ ap (λ k. repeated k fill) (sym pieces)

  wide_enough : wide ≤ length bytes
  wide_enough = omega (arith, vectors, suc-mul q wide)

  first_long : length (take wide bytes) ≡ wide
  first_long = length-take-le wide bytes wide_enough

  first_counted : length (take wide bytes) / length fill ≡ m
  first_counted = ap (λ k. k / length fill) (first_long ∙ sym lanes) ∙ mul-div_cancel m some

  first_of : bytes ≡ repeated (length bytes / length fill) fill → take wide bytes ≡ repeated m fill
  first_of e = ap (take wide) (e ∙ sym together)
      ∙ subst (λ k. take k (repeated m fill ++ repeated q (repeated m fill)) ≡ repeated m fill)
      (length-repeated m fill ∙ lanes) (take-append_seam (repeated m fill) (repeated q (repeated m fill)))

  vectors_all : take wide bytes ≡ repeated (length (take wide bytes) / length fill) fill →
      bytes ≡ repeated (length bytes / wide) (take wide bytes) → bytes ≡ repeated (length bytes / length fill) fill
  vectors_all first all = all ∙ (ap₂ repeated counted (first ∙ ap (λ k. repeated k fill) first_counted) ∙ together)

  first_is : bytes ≡ repeated (length bytes / length fill) fill →
      take wide bytes ≡ repeated (length (take wide bytes) / length fill) fill
  first_is e = first_of e ∙ ap (λ k. repeated k fill) (sym first_counted)

  others_are : bytes ≡ repeated (length bytes / length fill) fill →
      bytes ≡ repeated (length bytes / wide) (take wide bytes)
  others_are e = e ∙ (sym together ∙ ap₂ repeated (sym counted) (sym (first_of e)))

-- the same by tests
abbrev pub AreFill : List ℕ → List ℕ → Type 0
AreFill fill bytes = bytes ≡ repeated (length bytes / length fill) fill

pub by_vectors : (fill bytes : List ℕ) (wide : ℕ) → 0 < length fill → 0 < wide → wide % length fill ≡ 0 →
    length bytes % wide ≡ 0 → wide ≤ length bytes →
    (AreFill fill (take wide bytes) → bytes ≡ repeated (length bytes / wide) (take wide bytes) → AreFill fill bytes)
    × (AreFill fill bytes → AreFill fill (take wide bytes)) ×
    (AreFill fill bytes → bytes ≡ repeated (length bytes / wide) (take wide bytes))
by_vectors fill bytes wide some many divides whole room = go (length bytes / wide) refl
  where
    lanes : wide / length fill * length fill ≡ wide
    lanes = omega (arith, div-add-mod' wide (length fill), divides)

    go : (q : ℕ) → length bytes / wide ≡ q →
        (AreFill fill (take wide bytes) → bytes ≡ repeated (length bytes / wide) (take wide bytes) → AreFill fill bytes)
        × (AreFill fill bytes → AreFill fill (take wide bytes)) ×
        (AreFill fill bytes → bytes ≡ repeated (length bytes / wide) (take wide bytes))
    go zero e =
        absurd (omega (arith, div-add-mod' (length bytes) wide, whole, room, many, ap (λ k. k * wide) e, zero-mul wide))
    go (suc q) e =
        let vectors : length bytes ≡ suc q * wide =
        omega (arith, div-add-mod' (length bytes) wide, whole, ap (λ k. k * wide) e) in (
          vectors_all fill bytes (wide / length fill) q wide some many lanes vectors,
          first_is fill bytes (wide / length fill) q wide some many lanes vectors,
          others_are fill bytes (wide / length fill) q wide some many lanes vectors,
        )

-- two parts, the first as many whole pieces
module _ (fill front rest bytes : List ℕ) (some : 0 < length fill) (is : front ++ rest ≡ bytes) (i j : ℕ) (a : length
    front ≡ i * length fill) (b : length rest ≡ j * length fill) (n : length bytes ≡ length front + length rest) where
  front_counted : length front / length fill ≡ i
  front_counted = ap (λ k. k / length fill) a ∙ mul-div_cancel i some

  rest_counted : length rest / length fill ≡ j
  rest_counted = ap (λ k. k / length fill) b ∙ mul-div_cancel j some

  all_counted : length bytes / length fill ≡ i + j
  all_counted = ap (λ k. k / length fill) (n ∙ (ap₂ (λ x y. x + y) a b ∙ sym (add-mul i j (length fill))))
      ∙ mul-div_cancel (i + j) some

  split : repeated (length bytes / length fill) fill ≡ repeated i fill ++ repeated j fill
  split = ap (λ k. repeated k fill) all_counted ∙ repeated_add i j fill

  long : length (repeated i fill) ≡ length front
  long = length-repeated i fill ∙ sym a

  parts_join : AreFill fill front → AreFill fill rest → AreFill fill bytes
  parts_join f r = sym is ∙ (ap₂ (λ x y. x ++ y) (f ∙ ap (λ k. repeated k fill) front_counted)
      (r ∙ ap (λ k. repeated k fill) rest_counted) ∙ sym split)

  front_is : AreFill fill bytes → AreFill fill front
  front_is e = sym (take-append_seam front rest) ∙ (ap (take (length front)) (is ∙ (e ∙ split))
      ∙ (subst (λ k. take k (repeated i fill ++ repeated j fill) ≡ repeated i fill) long
      (take-append_seam (repeated i fill) (repeated j fill)) ∙ ap (λ k. repeated k fill) (sym front_counted)))

  rest_is : AreFill fill bytes → AreFill fill rest
  rest_is e = sym (drop-append_seam front rest) ∙ (ap (drop (length front)) (is ∙ (e ∙ split))
      ∙ (subst (λ k. drop k (repeated i fill ++ repeated j fill) ≡ repeated j fill) long
      (drop-append_seam (repeated i fill) (repeated j fill)) ∙ ap (λ k. repeated k fill) (sym rest_counted)))

-- the parts before and behind the last whole vector
module _ (fill bytes : List ℕ) (wide : ℕ) (some : 0 < length fill)
    (divides : wide % length fill ≡ 0) (whole : length bytes % length fill ≡ 0) where
  lanes : wide / length fill * length fill ≡ wide
  lanes = omega (arith, div-add-mod' wide (length fill), divides)

  seam : length bytes / wide * wide ≡ length bytes / wide * (wide / length fill) * length fill
  seam = ap (λ k. length bytes / wide * k) (sym lanes)
      ∙ sym (mul_assoc (length bytes / wide) (wide / length fill) (length fill))

  rest_pieces : (rest : List ℕ) → length rest + length bytes / wide * wide ≡ length bytes →
      length rest ≡ length rest / length fill * length fill
  rest_pieces rest e = omega (arith, div-add-mod' (length rest) (length fill), rest_whole rest e)
    where
      rest_whole : (rest : List ℕ) → length rest + length bytes / wide * wide ≡ length bytes →
          length rest % length fill ≡ 0
      rest_whole rest e = sym (add-mul-mod_self_right (length rest) (length bytes / wide * (wide / length fill))
          (length fill)) ∙ (ap (λ k. k % length fill) (ap (λ k. length rest + k) (sym seam) ∙ e) ∙ whole)

  pub rest_whole : (rest : List ℕ) → length rest + length bytes / wide * wide ≡ length bytes →
      length rest % length fill ≡ 0
  rest_whole rest e =
      ap (λ k. k % length fill) (rest_pieces rest e) ∙ mul-mod_left (length rest / length fill) (length fill)

  pub by_parts : (front rest : List ℕ) → front ≡ take (length bytes / wide * wide) bytes →
      rest ≡ drop (length bytes / wide * wide) bytes →
      length front ≡ length bytes / wide * wide → length rest + length bytes / wide * wide ≡ length bytes →
      (AreFill fill front → AreFill fill rest → AreFill fill bytes) × (AreFill fill bytes → AreFill fill front) ×
      (AreFill fill bytes → AreFill fill rest)
  by_parts front rest f r a b =
      let is : front ++ rest ≡ bytes = ap₂ (λ x y. x ++ y) f r ∙ take-append-drop (length bytes / wide * wide) bytes in
      let n : length bytes ≡ length front + length rest = omega (arith, a, b) in (
        parts_join fill front rest bytes some is (length bytes / wide * (wide / length fill))
            (length rest / length fill) (a ∙ seam) (rest_pieces rest b) n,
        front_is fill front rest bytes some is (length bytes / wide * (wide / length fill)) (length rest / length fill)
            (a ∙ seam) (rest_pieces rest b) n,
        rest_is fill front rest bytes some is (length bytes / wide * (wide / length fill)) (length rest / length fill)
            (a ∙ seam) (rest_pieces rest b) n,
      )

pub never : (b : Bool) {P : Type 0} → b ≡ false → IsTrue b → P
never b e h = absurd (clash b e h)
  where
    clash : (b : Bool) → b ≡ false → IsTrue b → ⊥
    clash true e h = cc
    clash false e h = cc
