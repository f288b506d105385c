-- Runs of elements, between offsets or of one length, are pieces of their bytes.
use Rattle.std.proofs.Common.{◌≡◌, ℕ, zero, suc, ◌+◌, ◌-◌, ◌*◌, ◌<◌, ◌≤◌, true, nat_lt, if◌then◌else◌, List, [], ◌∷◌}
use Rattle.std.proofs.Common.{◌++◌, length, take, drop, map, get_or, sym, ap, ap₂, refl, ◌∙◌, subst, subst₂, arith}
use Rattle.std.specs.List.{flat_map, range_with_len}
use Rattle.std.proofs.lemmas.Bool.{cond-true, cond-false}
use Rattle.std.proofs.lemmas.Bool.Decides.{nat_tests}
use Rattle.std.proofs.lemmas.List.{drop-drop, drop_more, length-take-le, length-take, length-drop, length-append}
use Rattle.std.proofs.lemmas.List.{get_or-take, get_or-drop, append_assoc, append-nil, drop_all, map-append}
use Rattle.std.proofs.lemmas.Grind.{flat_map-append}
use Rattle.std.proofs.Math.Seq.{take-add}
use Rattle.std.proofs.Math.Nat.{suc-mul, add-mul, mul-le-mul_right}
use Rattle.zarr_model.specs.ArrayBytes.{ends_from}
use Rattle.zarrs_codec_slices.specs.Picking.{piece_of, value_of, are_within}
use Rattle.zarrs_codec_slices.specs.PickedRuns.{run_numbers, AreRunsBelow, AreRunsOf, StayBetween}
use Rattle.zarrs_codec_slices.proofs.ValueLaws.{value_rises, value_ends, joined_map, gathered_within}

module _ (value offsets : List ℕ) (h : are_within value offsets ≡ true) where
  -- a run's first offset is at most the one behind it
  pub run_rises : (a k : ℕ) → a + k < length offsets → get_or offsets a 0 ≤ get_or offsets (a + k) 0
  run_rises a zero l = let same : a + 0 ≡ a = omega arith in
      subst (λ (i : ℕ). get_or offsets a 0 ≤ get_or offsets i 0) (sym same) (omega arith)
  run_rises a (suc k) l =
      let first : get_or offsets a 0 ≤ get_or offsets (a + 1) 0 = value_rises value offsets a h (omega (arith, l)) in
      let rest : get_or offsets (a + 1) 0 ≤ get_or offsets (a + 1 + k) 0 = run_rises (a + 1) k (omega (arith, l)) in
      let same : a + 1 + k ≡ a + suc k = omega arith in
      subst (λ (i : ℕ). get_or offsets a 0 ≤ get_or offsets i 0) same (omega (arith, first, rest))

  -- the offsets of a run stay between its first and its last one
  pub run_between : (a k : ℕ) → a + k < length offsets →
      StayBetween (get_or offsets a 0) (get_or offsets (a + k) 0) (take k (drop (a + 1) offsets))
  run_between a k l i below =
      let within : i < k = omega (arith, below, length-take k (drop (a + 1) offsets)) in
      let at : get_or (take k (drop (a + 1) offsets)) i 0 ≡ get_or offsets (a + (i + 1)) 0 =
      get_or-take k (drop (a + 1) offsets) i 0 within ∙ (get_or-drop (a + 1) offsets i 0
      ∙ ap (λ (j : ℕ). get_or offsets j 0) (let e : a + 1 + i ≡ a + (i + 1) = omega arith in e)) in
      let low : get_or offsets a 0 ≤ get_or offsets (a + (i + 1)) 0 = run_rises a (i + 1) (omega (arith, l, within)) in
      let rest : get_or offsets (a + (i + 1)) 0 ≤ get_or offsets (a + (i + 1) + (k - (i + 1))) 0 =
      run_rises (a + (i + 1)) (k - (i + 1)) (omega (arith, l, within)) in
      let high : get_or offsets (a + (i + 1)) 0 ≤ get_or offsets (a + k) 0 =
      subst (λ (j : ℕ). get_or offsets (a + (i + 1)) 0 ≤ get_or offsets j 0)
      (let e : a + (i + 1) + (k - (i + 1)) ≡ a + k = omega (arith, within) in e) rest in
      (omega (arith, at, low), omega (arith, at, high))

  -- the elements of a run are one piece of the bytes
  pub values_run : (a k : ℕ) → a + k < length offsets →
      flat_map (value_of value offsets) (range_with_len a k) ≡
      take (get_or offsets (a + k) 0 - get_or offsets a 0) (drop (get_or offsets a 0) value)
  values_run a zero l =
      let same : get_or offsets (a + 0) 0 - get_or offsets a 0 ≡ 0 =
      ap (λ (i : ℕ). get_or offsets i 0 - get_or offsets a 0) (let e : a + 0 ≡ a = omega arith in e)
      ∙ (let none : get_or offsets a 0 - get_or offsets a 0 ≡ 0 = omega arith in none) in
      sym (ap (λ (n : ℕ). take n (drop (get_or offsets a 0) value)) same)
  values_run a (suc k) l =
      let first : get_or offsets a 0 ≤ get_or offsets (a + 1) 0 = value_rises value offsets a h (omega (arith, l)) in
      let rest : get_or offsets (a + 1) 0 ≤ get_or offsets (a + 1 + k) 0 = run_rises (a + 1) k (omega (arith, l)) in
      let n : ℕ = get_or offsets (a + 1) 0 - get_or offsets a 0 in
      let m : ℕ = get_or offsets (a + 1 + k) 0 - get_or offsets (a + 1) 0 in
      let past : get_or offsets a 0 + n ≡ get_or offsets (a + 1) 0 = omega (arith, first) in
      let all : n + m ≡ get_or offsets (a + 1 + k) 0 - get_or offsets a 0 = omega (arith, first, rest) in
      let same : a + 1 + k ≡ a + suc k = omega arith in
      ap (λ (t : List ℕ). value_of value offsets a ++ t)
      (values_run (a + 1) k (omega (arith, l))
      ∙ ap (take m) (ap (λ (i : ℕ). drop i value) (sym past) ∙ sym (drop-drop n (get_or offsets a 0) value)))
      ∙ (sym (take-add n m (drop (get_or offsets a 0) value))
      ∙ ap (λ (i : ℕ). take i (drop (get_or offsets a 0) value))
      (all ∙ ap (λ (i : ℕ). get_or offsets i 0 - get_or offsets a 0) same))

  value_long : (a : ℕ) → a + 1 < length offsets →
      length (value_of value offsets a) ≡ get_or offsets (a + 1) 0 - get_or offsets a 0
  value_long a l =
      length-take-le (get_or offsets (a + 1) 0 - get_or offsets a 0) (drop (get_or offsets a 0) value)
      (let end : get_or offsets (a + 1) 0 ≤ length value = value_ends value offsets (a + 1) h l in
      omega (arith, length-drop (get_or offsets a 0) value, end))

  -- and their ends are its offsets, as far on as the run is moved
  ends_run_from : (first place a k : ℕ) → first ≤ get_or offsets a 0 → a + k < length offsets →
      ends_from (place + (get_or offsets a 0 - first)) (map (value_of value offsets) (range_with_len a k)) ≡
      map (λ offset. place + (offset - first)) (take k (drop (a + 1) offsets))
  ends_run_from first place a zero low l = refl
  ends_run_from first place a (suc k) low l =
      let up : get_or offsets a 0 ≤ get_or offsets (a + 1) 0 = value_rises value offsets a h (omega (arith, l)) in
      let long : length (value_of value offsets a) ≡ get_or offsets (a + 1) 0 - get_or offsets a 0 =
      value_long a (omega (arith, l)) in
      let end : place + (get_or offsets a 0 - first) + length (value_of value offsets a) ≡
      place + (get_or offsets (a + 1) 0 - first) = omega (arith, low, up, long) in
      ap (λ (e : ℕ). e ∷ ends_from e (map (value_of value offsets) (range_with_len (a + 1) k))) end
      ∙ (ap (λ (l : List ℕ). (place + (get_or offsets (a + 1) 0 - first))
      ∷ l) (ends_run_from first place (a + 1) k (omega (arith, low, up)) (omega (arith, l)))
      ∙ ap (λ (l : List ℕ). map (λ offset. place + (offset - first)) (take (suc k) l))
      (sym (drop_more offsets (a + 1) 0 (omega (arith, l)))))

  pub ends_run : (place a k : ℕ) → a + k < length offsets →
      map (λ offset. place + (offset - get_or offsets a 0)) (take (a + k + 1 - (a + 1)) (drop (a + 1) offsets)) ≡
      ends_from place (map (value_of value offsets) (range_with_len a k))
  ends_run place a k l =
      ap (λ (n : ℕ). map (λ offset. place + (offset - get_or offsets a 0)) (take n (drop (a + 1) offsets)))
      (let e : a + k + 1 - (a + 1) ≡ k = omega arith in e)
      ∙ (sym (ends_run_from (get_or offsets a 0) place a k (omega arith) l)
      ∙ ap (λ (p : ℕ). ends_from p (map (value_of value offsets) (range_with_len a k)))
      (let e : place + (get_or offsets a 0 - get_or offsets a 0) ≡ place = omega arith in e))

-- elements of one length
pub pieces_run : (n : ℕ) (value : List ℕ) (a k : ℕ) →
    flat_map (piece_of n value) (range_with_len a k) ≡ take (k * n) (drop (a * n) value)
pieces_run n value a zero = ap (λ (m : ℕ). take m (drop (a * n) value)) (let e : 0 ≡ 0 * n = omega arith in e)
pieces_run n value a (suc k) =
    ap (λ (t : List ℕ). piece_of n value a ++ t)
    (pieces_run n value (a + 1) k ∙ ap (take (k * n)) (ap (λ (i : ℕ). drop i value)
    (let e : (a + 1) * n ≡ a * n + n = omega (arith, suc-mul a n) in e) ∙ sym (drop-drop n (a * n) value)))
    ∙ (sym (take-add n (k * n) (drop (a * n) value))
    ∙ ap (λ (i : ℕ). take i (drop (a * n) value)) (let e : n + k * n ≡ suc k * n = omega (arith, suc-mul k n) in e))

-- the elements of a run are those of one list, or of another one behind it
module _ (number : ℕ) (f g : ℕ → List ℕ) where
  abbrev chosen : ℕ → List ℕ
  chosen w = if nat_lt w number then f w else g (w - number)

  pub run_of_first : (a k : ℕ) → a + k ≤ number → map chosen (range_with_len a k) ≡ map f (range_with_len a k)
  run_of_first a zero h = refl
  run_of_first a (suc k) h =
      ap₂ (λ x xs. x ∷ xs) (cond-true (nat_lt a number) (f a)
      (g (a - number)) (let l : a < number = omega (arith, h) in grind (arith, nat_tests)))
      (run_of_first (a + 1) k (omega (arith, h)))

  pub run_of_second : (a k : ℕ) → number ≤ a → map chosen (range_with_len a k) ≡ map g (range_with_len (a - number) k)
  run_of_second a zero h = refl
  run_of_second a (suc k) h =
      ap₂ (λ x xs. x ∷ xs) (cond-false (nat_lt a number) (f a) (g (a - number)) (grind (arith, nat_tests)))
      (run_of_second (a + 1) k (omega (arith, h))
      ∙ ap (λ (b : ℕ). map g (range_with_len b k)) (let e : a + 1 - number ≡ a - number + 1 = omega (arith, h) in e))

  pub joined_of_first : (a k : ℕ) → a + k ≤ number →
      flat_map chosen (range_with_len a k) ≡ flat_map f (range_with_len a k)
  joined_of_first a k h = sym (joined_map chosen (range_with_len a k))
      ∙ (ap (flat_map (λ v. v)) (run_of_first a k h) ∙ joined_map f (range_with_len a k))

  pub joined_of_second : (a k : ℕ) → number ≤ a →
      flat_map chosen (range_with_len a k) ≡ flat_map g (range_with_len (a - number) k)
  joined_of_second a k h = sym (joined_map chosen (range_with_len a k))
      ∙ (ap (flat_map (λ v. v)) (run_of_second a k h) ∙ joined_map g (range_with_len (a - number) k))

-- one more run
pub runs_more : (runs : List (ℕ × ℕ)) (i : ℕ) → i < length runs →
    run_numbers (drop i runs) ≡
    range_with_len (get_or runs i (0, 0)).0 (get_or runs i (0, 0)).1 ++ run_numbers (drop (i + 1) runs)
runs_more runs i h = ap run_numbers (drop_more runs i (0, 0) h)

ends_joined : (place : ℕ) (xs ys : List (List ℕ)) →
    ends_from place (xs ++ ys) ≡ ends_from place xs ++ ends_from (place + length (flat_map (λ v. v) xs)) ys
ends_joined place [] ys = ap (λ (p : ℕ). ends_from p ys) (let e : place ≡ place + 0 = omega arith in e)
ends_joined place (x ∷ xs) ys =
    ap (λ (l : List ℕ). (place + length x) ∷ l)
    (ends_joined (place + length x) xs ys
    ∙ ap (λ (p : ℕ). ends_from (place + length x) xs ++ ends_from p ys)
    (let e : place + length x + length (flat_map (λ v. v) xs) ≡ place + length (x ++ flat_map (λ v. v) xs) =
    omega (arith, length-append x (flat_map (λ v. v) xs)) in e))

module _ (f : ℕ → List ℕ) (runs : List (ℕ × ℕ)) (i : ℕ) (h : i < length runs) where
  abbrev run : List ℕ
  run = range_with_len (get_or runs i (0, 0)).0 (get_or runs i (0, 0)).1

  abbrev rest : List ℕ
  rest = run_numbers (drop (i + 1) runs)

  pub values_step : (bytes more all : List ℕ) → more ≡ bytes ++ flat_map f run →
      bytes ++ flat_map f (run_numbers (drop i runs)) ≡ all → more ++ flat_map f rest ≡ all
  values_step bytes more all is before =
      ap (λ l. l ++ flat_map f rest) is ∙ (append_assoc bytes (flat_map f run) (flat_map f rest)
      ∙ (ap (λ l. bytes ++ l) (sym (flat_map-append f run rest) ∙ ap (flat_map f) (sym (runs_more runs i h))) ∙ before))

  pub offsets_step : (bytes more offsets after all : List ℕ) → more ≡ bytes ++ flat_map f run →
      after ≡ offsets ++ ends_from (length bytes) (map f run) →
      offsets ++ ends_from (length bytes) (map f (run_numbers (drop i runs))) ≡ all →
      after ++ ends_from (length more) (map f rest) ≡ all
  offsets_step bytes more offsets after all is ends before =
      ap (λ l. l ++ ends_from (length more) (map f rest)) ends
      ∙ (append_assoc offsets (ends_from (length bytes) (map f run)) (ends_from (length more) (map f rest))
      ∙ (ap (λ l. offsets ++ l)
      (ap (λ n. ends_from (length bytes) (map f run) ++ ends_from n (map f rest)) (ap length is
      ∙ (length-append bytes (flat_map f run) ∙ ap (λ l. length bytes + length l) (sym (joined_map f run))))
      ∙ (sym (ends_joined (length bytes) (map f run) (map f rest))
      ∙ ap (ends_from (length bytes)) (sym (map-append f run rest) ∙ ap (map f) (sym (runs_more runs i h)))))
      ∙ before))

pub runs_within_at_end : (f : ℕ → List ℕ) (runs : List (ℕ × ℕ)) (i : ℕ) (bytes offsets : List ℕ) → length runs ≤ i →
    bytes ++ flat_map f (run_numbers (drop i runs)) ≡ flat_map f (run_numbers runs) →
    offsets ++ ends_from (length bytes) (map f (run_numbers (drop i runs))) ≡
    0 ∷ ends_from 0 (map f (run_numbers runs)) → are_within bytes offsets ≡ true
runs_within_at_end f runs i bytes offsets end e g =
    subst₂ (λ a b. are_within a b ≡ true)
    (sym e ∙ (ap (λ rest. bytes ++ flat_map f (run_numbers rest)) (drop_all i runs end) ∙ append-nil bytes))
    (sym g ∙ (ap (λ rest. offsets ++ ends_from (length bytes) (map f (run_numbers rest))) (drop_all i runs end)
    ∙ append-nil offsets))
    (gathered_within f (run_numbers runs))

-- a run of elements of one length lies in their bytes
pub run_starts : (start len size : ℕ) → start * size ≤ (start + len) * size
run_starts start len size = mul-le-mul_right size (let h : start ≤ start + len = omega arith in h)

pub run_ends : (start len count size long : ℕ) → start + len ≤ count → long ≡ count * size → (start + len) * size ≤ long
run_ends start len count size long h e = let rows : (start + len) * size ≤ count * size = mul-le-mul_right size h in
    omega (arith, rows, e)

pub run_pieces : (n : ℕ) (value : List ℕ) (a k : ℕ) →
    take ((a + k) * n - a * n) (drop (a * n) value) ≡ flat_map (piece_of n value) (range_with_len a k)
run_pieces n value a k = ap (λ (m : ℕ). take m (drop (a * n) value))
    (let e : (a + k) * n - a * n ≡ k * n = omega (arith, add-mul a k n) in e) ∙ sym (pieces_run n value a k)

-- runs within a first list are runs of either
pub runs_of_either : (number more : ℕ) (runs : List (ℕ × ℕ)) → AreRunsBelow number runs → AreRunsOf number more runs
runs_of_either number more runs all k h = let low : (get_or runs k (0, 0)).0 + (get_or runs k (0, 0)).1 ≤ number =
    all k h in ((λ l. low), omega (arith, low))
