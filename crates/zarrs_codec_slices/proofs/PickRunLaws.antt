-- Runs of neighbouring picks.
use Rattle.std.proofs.Common.{◌≡◌, ℕ, zero, suc, ◌+◌, ◌-◌, ◌<◌, ◌≤◌, List, [], ◌∷◌, ◌++◌, length, drop, get_or, set}
use Rattle.std.proofs.Common.{sym, ap, ap₂, refl, ◌∙◌, subst, subst₂, arith, inl, inr, ◌⊎◌}
use Rattle.std.specs.List.{range_with_len}
use Rattle.std.proofs.lemmas.Bool.{cases_lt}
use Rattle.std.proofs.lemmas.List.{append_assoc, append-nil, drop_more, length-append, get_or_append_left}
use Rattle.std.proofs.lemmas.List.{get_or_at}
use Rattle.std.proofs.lemmas.Grind.{common_steps, flat_map-append}
use Rattle.std.proofs.Math.Seq.{set-append_seam}
use Rattle.zarrs_codec_slices.specs.Picking.{AllBelow, replaced}
use Rattle.zarrs_codec_slices.specs.PickedRuns.{run_numbers, AreRunsBelow, AreRunsOf}
use Rattle.zarrs_codec_slices.proofs.PickLaws.{length_of_places}
use Rattle.zarrs_codec_slices.proofs.LeafLaws.{below_rest}
use Rattle.zarrs_codec_slices.proofs.ReplaceLaws.{below_first, range_below, picks_below}
use Rattle.zarrs_codec_slices.proofs.PieceRunLaws.{runs_more}

range_split : (a n m : ℕ) → range_with_len a (n + m) ≡ range_with_len a n ++ range_with_len (a + n) m
range_split a zero m = ap₂ range_with_len (let e : a ≡ a + 0 = omega arith in e) (let e : 0 + m ≡ m = omega arith in e)
range_split a (suc n) m =
    ap (range_with_len a) (let e : suc n + m ≡ suc (n + m) = omega arith in e)
    ∙ ap (λ l. a ∷ l) (range_split (a + 1) n m
    ∙ ap (λ (b : ℕ). range_with_len (a + 1) n ++ range_with_len b m) (let e : a + 1 + n ≡ a + suc n = omega arith in e))

replaced-append : {A : Type 0} (is js : List ℕ) (xs ys l : List A) → length is ≡ length xs →
    replaced (is ++ js) (xs ++ ys) l ≡ replaced js ys (replaced is xs l)
replaced-append [] js [] ys l e = refl
replaced-append [] js (x ∷ xs) ys l e = absurd (omega (arith, e))
replaced-append (i ∷ is) js [] ys l e = absurd (omega (arith, e))
replaced-append (i ∷ is) js (x ∷ xs) ys l e = replaced-append is js xs ys (set l i x) (omega (arith, e))

-- a part of a list is replaced by one as long
replaced_part : {A : Type 0} (s : ℕ) (front mid ys back : List A) → length front ≡ s → length mid ≡ length ys →
    replaced (range_with_len s (length ys)) ys (front ++ (mid ++ back)) ≡ front ++ (ys ++ back)
replaced_part s front [] [] back e f = refl
replaced_part s front [] (y ∷ ys) back e f = absurd (omega (arith, f))
replaced_part s front (x ∷ mid) [] back e f = absurd (omega (arith, f))
replaced_part s front (x ∷ mid) (y ∷ ys) back e f =
    ap (replaced (range_with_len (s + 1) (length ys)) ys)
    (ap (λ (i : ℕ). set (front ++ x ∷ (mid ++ back)) i y) (sym e)
    ∙ (set-append_seam front x (mid ++ back) y ∙ sym (append_assoc front (y ∷ []) (mid ++ back))))
    ∙ (replaced_part (s + 1) (front ++ y ∷ []) mid ys back (length-append front (y ∷ []) ∙ ap (λ (n : ℕ). n + 1) e)
    (omega (arith, f))
    ∙ append_assoc front (y ∷ []) (ys ++ back))

replaced_run : (s n given : ℕ) (front back : List ℕ) → length front ≡ s →
    replaced (range_with_len s n) (range_with_len given n) (front ++ (range_with_len s n ++ back)) ≡
    front ++ (range_with_len given n ++ back)
replaced_run s n given front back e =
    ap (λ (m : ℕ). replaced (range_with_len s m) (range_with_len given n)
    (front ++ (range_with_len s n ++ back))) (sym (length_of_places given n))
    ∙ replaced_part s front (range_with_len s n) (range_with_len given n) back e
    (length_of_places s n ∙ sym (length_of_places given n))

-- one more run is replaced
module _ (runs out : List (ℕ × ℕ)) (i next given count s n : ℕ) (all : List ℕ) (h : i < length runs)
    (s_is : (get_or runs i (0, 0)).0 ≡ s) (n_is : (get_or runs i (0, 0)).1 ≡ n)
    (behind : next ≤ s) (within : s + n ≤ count) (long : length (run_numbers out) ≡ next) where
  abbrev rest : List ℕ
  rest = run_numbers (drop (i + 1) runs)

  abbrev front : List ℕ
  front = run_numbers out ++ range_with_len next (s - next)

  abbrev back : List ℕ
  back = range_with_len (s + n) (count - (s + n))

  front_long : length front ≡ s
  front_long = omega (
    arith,
    length-append (run_numbers out) (range_with_len next (s - next)),
    long,
    length_of_places next (s - next),
    behind,
  )

  left : run_numbers out ++ range_with_len next (count - next) ≡ front ++ (range_with_len s n ++ back)
  left =
      ap (λ l. run_numbers out ++ l)
      (ap (range_with_len next)
      (let e : count - next ≡ (s - next) + (n + (count - (s + n))) = omega (arith, behind, within) in e)
      ∙ (range_split next (s - next) (n + (count - (s + n)))
      ∙ ap (λ l. range_with_len next (s - next) ++ l)
      (ap (λ (b : ℕ). range_with_len b (n + (count - (s + n)))) (let e : next + (s - next) ≡ s =
      omega (arith, behind) in e) ∙ range_split s n (count - (s + n)))))
      ∙ sym (append_assoc (run_numbers out) (range_with_len next (s - next)) (range_with_len s n ++ back))

  numbers : run_numbers (drop i runs) ≡ range_with_len s n ++ rest
  numbers = runs_more runs i h ∙ ap₂ (λ a b. range_with_len a b ++ rest) s_is n_is

  pub rest_long : length (run_numbers (drop i runs)) ≡ n + length rest
  rest_long = ap length numbers
      ∙ (length-append (range_with_len s n) rest ∙ ap (λ (m : ℕ). m + length rest) (length_of_places s n))

  made : run_numbers (out ++ (next, s - next) ∷ (given, n) ∷ []) ≡ front ++ range_with_len given n
  made =
      flat_map-append (λ run. range_with_len run.0 run.1) out ((next, s - next) ∷ (given, n) ∷ [])
      ∙ (ap (λ l. run_numbers out ++ (range_with_len next (s - next) ++ l)) (append-nil (range_with_len given n))
      ∙ sym (append_assoc (run_numbers out) (range_with_len next (s - next)) (range_with_len given n)))

  pub made_long : length (run_numbers (out ++ (next, s - next) ∷ (given, n) ∷ [])) ≡ s + n
  made_long =
      ap length made ∙ omega (arith, length-append front (range_with_len given n), front_long, length_of_places given n)

  pub replaced_step : replaced (run_numbers (drop i runs)) (range_with_len given (length (run_numbers (drop i runs))))
      (run_numbers out ++ range_with_len next (count - next)) ≡ all →
      replaced rest (range_with_len (given + n) (length rest))
      (run_numbers (out ++ (next, s - next) ∷ (given, n) ∷ []) ++ range_with_len (s + n) (count - (s + n))) ≡ all
  replaced_step before =
      ap (replaced rest (range_with_len (given + n) (length rest)))
      (ap (λ l. l ++ back) made ∙ (append_assoc front (range_with_len given n) back ∙ sym (replaced_run s n given front
      back front_long) ∙ ap (replaced (range_with_len s n) (range_with_len given n)) (sym left)))
      ∙ (sym (replaced-append (range_with_len s n) rest (range_with_len given n)
      (range_with_len (given + n) (length rest))
      (run_numbers out ++ range_with_len next (count - next)) (length_of_places s n ∙ sym (length_of_places given n)))
      ∙ (ap₂ (λ js xs. replaced js xs (run_numbers out ++ range_with_len next (count - next))) (sym numbers)
      (sym (range_split given n (length rest)) ∙ ap (range_with_len given) (sym rest_long))
      ∙ before))

-- one more run of two lists
abbrev IsOf : ℕ → ℕ → ℕ × ℕ → Type 0
IsOf number more run = (run.0 < number → run.0 + run.1 ≤ number) × (run.0 + run.1 ≤ number + more)

pub one_more_of : (number more : ℕ) (runs : List (ℕ × ℕ)) (a n : ℕ) → AreRunsOf number more runs →
    (a < number → a + n ≤ number) → a + n ≤ number + more → AreRunsOf number more (runs ++ (a, n) ∷ [])
one_more_of number more runs a n before first within k h = go (cases_lt k (length runs))
  where
    go : (k < length runs) ⊎ (length runs ≤ k) → IsOf number more (get_or (runs ++ (a, n) ∷ []) k (0, 0))
    go (inl low) = subst (IsOf number more) (sym (get_or_append_left runs ((a, n) ∷ []) (0, 0) k low)) (before k low)
    go (inr high) = subst (IsOf number more) (sym (get_or_at runs (a, n) [] (0, 0) k
        (omega (arith, high, h, length-append runs ((a, n) ∷ []))))) (first, within)

-- the picks once the first i runs are replaced: all places before the next one are named, and the new element that
-- comes next
pub record HasReplaced (runs : List (ℕ × ℕ)) (count i next given : ℕ) (out : List (ℕ × ℕ)) : Type 0 where
  pub low : next ≤ count
  pub long : length (run_numbers out) ≡ next
  pub given_is : given + length (run_numbers (drop i runs)) ≡ count + length (run_numbers runs)
  pub past : count ≤ given
  pub of_both : AreRunsOf count (length (run_numbers runs)) out
  pub numbers : replaced (run_numbers (drop i runs)) (range_with_len given (length (run_numbers (drop i runs))))
      (run_numbers out ++ range_with_len next (count - next))
      ≡ replaced (run_numbers runs) (range_with_len count (length (run_numbers runs))) (range_with_len 0 count)

module _ (runs out more : List (ℕ × ℕ)) (count i next given behind s n : ℕ) (h : i < length runs)
    (s_is : (get_or runs i (0, 0)).0 ≡ s) (n_is : (get_or runs i (0, 0)).1 ≡ n)
    (before : next ≤ s) (within : s + n ≤ count) (behind_is : behind ≡ given + n) (more_is : more ≡
    out ++ (next, s - next) ∷ (given, n) ∷ []) (all : HasReplaced runs count i next given out) where
  pub one_replaced : HasReplaced runs count (i + 1) (s + n) behind more
  one_replaced = subst₂ (λ (b : ℕ) (l : List (ℕ × ℕ)). HasReplaced runs count (i + 1) (s + n) b l) (sym behind_is)
      (sym more_is) (record {
        low = within;
        long = made_long runs out i next given count s n [] h s_is n_is before within all.long;
        given_is = omega (arith, rest_is, all.given_is);
        past = omega (arith, all.past);
        of_both =
            subst (AreRunsOf count (length (run_numbers runs)))
            (append_assoc out ((next, s - next) ∷ []) ((given, n) ∷ []))
            (one_more_of count (length (run_numbers runs)) (out ++ (next, s - next) ∷ []) given n
            (one_more_of count (length (run_numbers runs)) out next (s - next) all.of_both
            (λ l. omega (arith, before, within)) (omega (arith, before, within)))
            (λ l. absurd (omega (arith, l, all.past))) (omega (arith, rest_is, all.given_is)));
        numbers = replaced_step runs out i next given count s n _ h s_is n_is before within all.long all.numbers;
      })
    where
      rest_is : length (run_numbers (drop i runs)) ≡ n + length (run_numbers (drop (i + 1) runs))
      rest_is = rest_long runs out i next given count s n [] h s_is n_is before within all.long

module _ (runs out more : List (ℕ × ℕ)) (count i next given : ℕ) (end : length runs ≤ i) (more_is : more ≡
    out ++ (next, count - next) ∷ []) (all : HasReplaced runs count i next given out) where
  pub all_of_both : AreRunsOf count (length (run_numbers runs)) more
  all_of_both = subst (AreRunsOf count (length (run_numbers runs))) (sym more_is)
      (one_more_of count (length (run_numbers runs)) out next (count - next) all.of_both (λ l. omega (arith, all.low))
      (omega (arith, all.low)))

-- the first i picks as runs, the last of which may still grow
pub record HasJoined (picks : List ℕ) (count more i first len : ℕ) (runs : List (ℕ × ℕ)) : Type 0 where
  pub short : len ≤ i
  pub in_first : first < count → first + len ≤ count
  pub in_both : first + len ≤ count + more
  pub of_both : AreRunsOf count more runs
  pub numbers : run_numbers runs ++ (range_with_len first len ++ drop i picks) ≡ picks

joined_one : (runs : List (ℕ × ℕ)) (first len : ℕ) →
    run_numbers (runs ++ (first, len) ∷ []) ≡ run_numbers runs ++ range_with_len first len
joined_one runs first len =
    flat_map-append (λ run. range_with_len run.0 run.1) runs ((first, len) ∷ [])
    ∙ ap (λ l. run_numbers runs ++ l) (append-nil (range_with_len first len))

module _ (picks : List ℕ) (count more i first len : ℕ) (runs : List (ℕ × ℕ)) (h : i < length picks)
    (below : AllBelow (count + more) picks) (all : HasJoined picks count more i first len runs) where
  abbrev pick : ℕ
  pick = get_or picks i 0

  pub one_grown : (pick ≡ count → ⊥) → first ≤ pick → pick - first ≡ len →
      HasJoined picks count more (i + 1) first (len + 1) runs
  one_grown other behind next =
      let pick_is : pick ≡ first + len = omega (arith, behind, next) in
      let low : pick < count + more = below i h in
      record {
        short = omega (arith, all.short);
        in_first = λ l. let not_yet : first + len ≤ count = all.in_first l in grind (arith, common_steps);
        in_both = omega (arith, pick_is, low);
        of_both = all.of_both;
        numbers = ap (λ l. run_numbers runs ++ l)
            (ap (λ l. l ++ drop (i + 1) picks) (range_split first len 1)
            ∙ (append_assoc (range_with_len first len) ((first + len) ∷ []) (drop (i + 1) picks)
            ∙ ap (λ l. range_with_len first len ++ l) (ap (λ (p : ℕ). p ∷ drop (i + 1) picks) (sym pick_is)
            ∙ sym (drop_more picks i 0 h)))) ∙ all.numbers;
      }

  pub one_begun : (after : List (ℕ × ℕ)) → after ≡ runs ++ (first, len) ∷ [] →
      HasJoined picks count more (i + 1) pick 1 after
  one_begun after is =
      let low : pick < count + more = below i h in
      subst (HasJoined picks count more (i + 1) pick 1) (sym is) (record {
        short = omega arith;
        in_first = λ l. omega (arith, l);
        in_both = omega (arith, low);
        of_both = one_more_of count more runs first len all.of_both all.in_first all.in_both;
        numbers = ap₂ (λ a b. a ++ b) (joined_one runs first len) (sym (drop_more picks i 0 h))
            ∙ (append_assoc (run_numbers runs) (range_with_len first len) (drop i picks) ∙ all.numbers);
      })

-- the numbers of runs are below their limit, and the picks below both counts
below_joined : (limit : ℕ) (xs ys : List ℕ) → AllBelow limit xs → AllBelow limit ys → AllBelow limit (xs ++ ys)
below_joined limit [] ys a b = b
below_joined limit (x ∷ xs) ys a b =
    below_first limit x (xs ++ ys) (a 0 (omega arith)) (below_joined limit xs ys (below_rest limit x xs a) b)

pub numbers_below : (limit : ℕ) (runs : List (ℕ × ℕ)) → AreRunsBelow limit runs → AllBelow limit (run_numbers runs)
numbers_below limit [] all = λ k h. absurd (omega (arith, h))
numbers_below limit (run ∷ runs) all =
    below_joined limit (range_with_len run.0 run.1) (run_numbers runs)
    (range_below limit run.0 run.1 (all 0 (omega arith)))
    (numbers_below limit runs (λ k h. all (suc k) (omega (arith, h))))

pub picks_below_both : (number : ℕ) (indices picks : List ℕ) → picks ≡ replaced indices
    (range_with_len number (length indices)) (range_with_len 0 number) → AllBelow (number + length indices) picks
picks_below_both number indices picks is =
    subst (AllBelow (number + length indices)) (sym is) (picks_below number (length indices) indices refl)

pub numbers_step : (runs : List (ℕ × ℕ)) (i : ℕ) (numbers more all : List ℕ) → i < length runs →
    more ≡ numbers ++ range_with_len (get_or runs i (0, 0)).0 (get_or runs i (0, 0)).1 →
    numbers ++ run_numbers (drop i runs) ≡ all → more ++ run_numbers (drop (i + 1) runs) ≡ all
numbers_step runs i numbers more all h is before =
    ap (λ l. l ++ run_numbers (drop (i + 1) runs)) is
    ∙ (append_assoc numbers (range_with_len (get_or runs i (0, 0)).0 (get_or runs i (0, 0)).1)
    (run_numbers (drop (i + 1) runs)) ∙ (ap (λ l. numbers ++ l) (sym (runs_more runs i h)) ∙ before))
