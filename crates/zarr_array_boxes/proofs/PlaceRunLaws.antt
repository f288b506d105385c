-- Which number stands at each place, by runs in the order in which they were given and in rising order.
use Rattle.std.proofs.Common.{IsPermutation, ◌^◌, ◌≡◌, ℕ, zero, suc, ◌+◌, ◌-◌, ◌<◌, ◌≤◌, ◌==◌, ◌&&◌, ◌||◌, Bool, true}
use Rattle.std.proofs.Common.{false, nat_le, nat_lt, if◌then◌else◌, List, [], ◌∷◌, ◌++◌, length, take, drop}
use Rattle.std.proofs.Common.{get_or, replicate, arith, ap, ap₂, sym, refl, ◌∙◌, subst, true≢false, inl, inr, ◌⊎◌}
use Rattle.std.specs.List.{range_with_len, list_any, All}
use Rattle.std.proofs.lemmas.Bool.{cond-true, cond-false, and_parts, and_from, leb-true, le-leb, lt-ltb}
use Rattle.std.proofs.lemmas.Bool.{ltb-true, cases_lt}
use Rattle.std.proofs.lemmas.Bool.Decides.{nat_tests}
use Rattle.std.proofs.lemmas.List.Elements.{All-nil, All-cons, All-head, All-tail}
use Rattle.std.proofs.lemmas.List.{length-append, length-replicate, get_or_append_left, get_or-append_right}
use Rattle.std.proofs.lemmas.List.{get_or-replicate, drop_more, drop_all, append_assoc, append-nil, same_lists}
use Rattle.std.proofs.lemmas.List.{get_or_default}
use Rattle.std.proofs.lemmas.Grind.{flat_map-append}
use Rattle.std.proofs.lemmas.List.Sorted.{All-permutation, IsPermutation-sym}
use Rattle.zarrs_codec_slices.proofs.ReplaceLaws.{length-replaced, get_or-replaced}
use Rattle.zarrs_codec_slices.specs.Picking.{AllBelow, replaced, last_given}
use Rattle.zarrs_codec_slices.specs.PickedRuns.{run_numbers, AreRunsBelow}
use Rattle.zarr_array_boxes.specs.declared.place_runs.GivenRun.{GivenRun}
use Rattle.zarr_array_boxes.specs.PlaceRuns.{numbered_from, has_place, given_at, AreRising, numbers_over, IsGivenWithin}

-- the number that a run gives to a place
abbrev value_at : ℕ → GivenRun → ℕ
value_at place run = run.number + (place - run.place)

-- runs that all give the same number to a place
abbrev AllGive : ℕ → ℕ → List GivenRun → Type 0
AllGive place value runs = All (λ run. has_place place run ≡ true → value_at place run ≡ value) runs

length_of_range : (from n : ℕ) → length (range_with_len from n) ≡ n
length_of_range from zero = refl
length_of_range from (suc n) = ap suc (length_of_range (from + 1) n)

range_at : (from n i d : ℕ) → i < n → get_or (range_with_len from n) i d ≡ from + i
range_at from zero i d h = absurd (omega (arith, h))
range_at from (suc n) zero d h = omega arith
range_at from (suc n) (suc i) d h = range_at (from + 1) n i d (omega (arith, h)) ∙ omega arith

-- what a run gives to a place, and the runs behind it
module _ (place before : ℕ) (run : GivenRun) (runs : List GivenRun) where
  abbrev pub first_given : ℕ
  first_given = if has_place place run then value_at place run else before

  pub of_run : has_place place run ≡ true →
      given_at place before (run ∷ runs) ≡ given_at place (value_at place run) runs
  of_run h = ap (λ n. given_at place n runs) (cond-true (has_place place run) (value_at place run) before h)

  pub past_run : has_place place run ≡ false → given_at place before (run ∷ runs) ≡ given_at place before runs
  past_run h = ap (λ n. given_at place n runs) (cond-false (has_place place run) (value_at place run) before h)

  pub any_behind : has_place place run ≡ false →
      list_any (has_place place) (run ∷ runs) ≡ list_any (has_place place) runs
  any_behind h = ap (λ b. b || list_any (has_place place) runs) h

given_same : (place value : ℕ) (runs : List GivenRun) → AllGive place value runs → given_at place value runs ≡ value
given_same place value [] all = refl
given_same place value (run ∷ runs) all =
    go (given_same place value runs
    (All-tail (λ run. has_place place run ≡ true → value_at place run ≡ value) run runs all)) (has_place place run) refl
  where
    go : given_at place value runs ≡ value → (b : Bool) → has_place place run ≡ b →
        given_at place value (run ∷ runs) ≡ value
    go rest true h =
        let same : value_at place run ≡ value =
        All-head (λ run. has_place place run ≡ true → value_at place run ≡ value) run runs all h in
        of_run place value run runs h ∙ (ap (λ n. given_at place n runs) same ∙ rest)
    go rest false h = past_run place value run runs h ∙ rest

given_some : (place before value : ℕ) (runs : List GivenRun) → AllGive place value runs →
    list_any (has_place place) runs ≡ true → given_at place before runs ≡ value
given_some place before value [] all some = cc
given_some place before value (run ∷ runs) all some =
    go (All-tail (λ run. has_place place run ≡ true → value_at place run ≡ value) run runs all)
    (given_some place before value runs
    (All-tail (λ run. has_place place run ≡ true → value_at place run ≡ value) run runs all)) (has_place place run) refl
  where
    go : AllGive place value runs → (list_any (has_place place) runs ≡ true → given_at place before runs ≡ value) →
        (b : Bool) → has_place place run ≡ b → given_at place before (run ∷ runs) ≡ value
    go rest later true h =
        let same : value_at place run ≡ value =
        All-head (λ run. has_place place run ≡ true → value_at place run ≡ value) run runs all h in
        of_run place before run runs h ∙ (ap (λ n. given_at place n runs) same ∙ given_same place value runs rest)
    go rest later false h = past_run place before run runs h ∙ later (sym (any_behind place before run runs h) ∙ some)

given_none : (place before : ℕ) (runs : List GivenRun) → All (λ run. has_place place run ≡ false) runs →
    given_at place before runs ≡ before
given_none place before [] all = refl
given_none place before (run ∷ runs) all =
    past_run place before run runs (All-head (λ run. has_place place run ≡ false) run runs all)
    ∙ given_none place before runs (All-tail (λ run. has_place place run ≡ false) run runs all)

none_has : (place : ℕ) (runs : List GivenRun) → list_any (has_place place) runs ≡ false →
    All (λ run. has_place place run ≡ false) runs
none_has place [] none = All-nil (λ run. has_place place run ≡ false)
none_has place (run ∷ runs) none = go (none_has place runs) (has_place place run) refl
  where
    go : (list_any (has_place place) runs ≡ false → All (λ run. has_place place run ≡ false) runs) → (b : Bool) →
        has_place place run ≡ b → All (λ run. has_place place run ≡ false) (run ∷ runs)
    go rest true h = let yes : true ≡ false = sym (ap (λ b. b || list_any (has_place place) runs) h) ∙ none in
        absurd (true≢false yes)
    go rest false h =
        All-cons (λ run. has_place place run ≡ false) run runs h (rest (sym (any_behind place 0 run runs h) ∙ none))

-- where runs rise, none of them has a place before the first one
out_before : (place : ℕ) (run : GivenRun) → place < run.place → has_place place run ≡ false
out_before place run h = ap (λ b. b && nat_lt place (run.place + run.len)) (let no : nat_le run.place place ≡ false =
    grind (arith, nat_tests) in no)

out_behind : (place : ℕ) (run : GivenRun) → run.place + run.len ≤ place → has_place place run ≡ false
out_behind place run h = go (nat_le run.place place)
  where
    no : nat_lt place (run.place + run.len) ≡ false
    no = grind (arith, nat_tests)

    go : (b : Bool) → (b && nat_lt place (run.place + run.len)) ≡ false
    go true = no
    go false = refl

inside_run : (place : ℕ) (run : GivenRun) → run.place ≤ place → place < run.place + run.len → has_place place run ≡ true
inside_run place run low high = and_from (nat_le run.place place)
    (nat_lt place (run.place + run.len)) (le-leb run.place place low) (lt-ltb place (run.place + run.len) high)

before_rising : (next place : ℕ) (runs : List GivenRun) → place < next → AreRising next runs →
    All (λ run. has_place place run ≡ false) runs
before_rising next place [] h rises = All-nil (λ run. has_place place run ≡ false)
before_rising next place (run ∷ runs) h rises =
    All-cons (λ run. has_place place run ≡ false) run runs (out_before place run (omega (arith, h, rises.0)))
    (before_rising (run.place + run.len) place runs (omega (arith, h, rises.0)) rises.1)

-- and so each that has a place gives it the number that stands there
rising_gives : (next place before : ℕ) (runs : List GivenRun) → AreRising next runs →
    AllGive place (given_at place before runs) runs
rising_gives next place before [] rises = All-nil (λ run. has_place place run ≡ true → value_at place run ≡ before)
rising_gives next place before (run ∷ runs) rises =
    go (λ b. rising_gives (run.place + run.len) place b runs rises.1) (has_place place run) refl
  where
    go : ((b : ℕ) → AllGive place (given_at place b runs) runs) → (b : Bool) → has_place place run ≡ b →
        AllGive place (given_at place before (run ∷ runs)) (run ∷ runs)
    go later true h =
        let parts = and_parts (nat_le run.place place) (nat_lt place (run.place + run.len)) h in
        let none =
        before_rising (run.place + run.len) place runs (ltb-true place (run.place + run.len) parts.1) rises.1 in
        let is : given_at place before (run ∷ runs) ≡ value_at place run =
        of_run place before run runs h ∙ given_none place (value_at place run) runs none in
        All-cons (λ other. has_place place other ≡ true → value_at place other ≡ given_at place before (run ∷ runs)) run
        runs (λ e. sym is)
        (subst (λ v. AllGive place v runs) (sym (of_run place before run runs h)) (later (value_at place run)))
    go later false h =
        All-cons (λ other. has_place place other ≡ true → value_at place other ≡ given_at place before (run ∷ runs)) run
        runs (λ e. absurd (true≢false (sym e ∙ h)))
        (subst (λ v. AllGive place v runs) (sym (past_run place before run runs h)) (later before))

-- runs in two orders, of which the one rises, give each place the same number
pub given_in_any_order : (place blank : ℕ) (runs sorted : List GivenRun) → AreRising 0 sorted →
    ((P : GivenRun → Type 0) → All P sorted → All P runs) → ((P : GivenRun → Type 0) → All P runs → All P sorted) →
    given_at place blank runs ≡ given_at place blank sorted
given_in_any_order place blank runs sorted rises back on = go (list_any (has_place place) runs) refl
  where
    go : (b : Bool) → list_any (has_place place) runs ≡ b → given_at place blank runs ≡ given_at place blank sorted
    go true some = given_some place blank (given_at place blank sorted) runs (back (λ run. has_place place run ≡ true →
        value_at place run ≡ given_at place blank sorted) (rising_gives 0 place blank sorted rises)) some
    go false none =
        let out = none_has place runs none in
        given_none place blank runs out
        ∙ sym (given_none place blank sorted (on (λ run. has_place place run ≡ false) out))

-- the numbers over rising runs, by their places
pub length-numbers_over : (blank count total next : ℕ) (runs : List GivenRun) → AreRising next runs →
    All (IsGivenWithin count total) runs → next ≤ count → length (numbers_over blank count next runs) ≡ count - next
length-numbers_over blank count total next [] rises all low = length-replicate (count - next) blank
length-numbers_over blank count total next (run ∷ runs) rises all low =
    let here : IsGivenWithin count total run = All-head (IsGivenWithin count total) run runs all in
    let rest = length-numbers_over blank count total (run.place + run.len) runs rises.1
    (All-tail (IsGivenWithin count total) run runs all) here.below in
    let long : length {A = ℕ} (replicate (run.place - next) blank) ≡ run.place - next =
    length-replicate (run.place - next) blank in
    length-append (replicate (run.place - next) blank)
    (range_with_len run.number run.len ++ numbers_over blank count (run.place + run.len) runs)
    ∙ omega (
      arith,
      long,
      length-append (range_with_len run.number run.len) (numbers_over blank count
          (run.place + run.len) runs),
      length_of_range run.number run.len,
      rest,
      rises.0,
      here.below,
    )

pub at_numbers_over : (blank count next place : ℕ) (runs : List GivenRun) → AreRising next runs → next ≤ place →
    place < count →
    get_or (numbers_over blank count next runs) (place - next) 0 ≡ given_at place blank runs
at_numbers_over blank count next place [] rises low high =
    get_or-replicate (count - next) (place - next) blank 0 (omega (arith, low, high))
at_numbers_over blank count next place (run ∷ runs) rises low high =
    go (λ l. at_numbers_over blank count (run.place + run.len) place runs rises.1 l high) (cases_lt place run.place)
    (cases_lt place (run.place + run.len))
  where
    go : (run.place + run.len ≤ place → get_or (numbers_over blank count (run.place + run.len) runs)
        (place - (run.place + run.len)) 0 ≡ given_at place blank runs) → (place < run.place) ⊎ (run.place ≤ place) →
        (place < run.place + run.len) ⊎ (run.place + run.len ≤ place) → get_or ((replicate (run.place - next) blank) ++
        (range_with_len run.number run.len ++ numbers_over blank count (run.place + run.len) runs)) (place - next) 0 ≡
        given_at place blank (run ∷ runs)
    go later (inl before) side =
        get_or_append_left (replicate (run.place - next) blank)
        (range_with_len run.number run.len ++ numbers_over blank count (run.place + run.len) runs) 0 (place - next)
        (subst (λ n. place - next < n) (sym (length-replicate (run.place - next) blank)) (omega (arith, before, low)))
        ∙ (get_or-replicate (run.place - next) (place - next) blank 0 (omega (arith, before, low))
        ∙ sym (past_run place blank run runs (out_before place run before)
        ∙ given_none place blank runs (before_rising (run.place + run.len) place runs (omega (arith, before)) rises.1)))
    go later (inr from) (inl within) =
        let at : get_or ((replicate (run.place - next) blank) ++ (range_with_len run.number run.len
        ++ numbers_over blank count (run.place + run.len) runs)) (place - next) 0 ≡ get_or (range_with_len run.number
        run.len ++ numbers_over blank count (run.place + run.len) runs) (place - next - (run.place - next)) 0 =
        get_or-append_right (replicate (run.place - next) blank)
        (range_with_len run.number run.len ++ numbers_over blank count (run.place + run.len) runs)
        (run.place - next) (place - next) 0 (length-replicate (run.place - next) blank) (omega (arith, from, low)) in
        let same : place - next - (run.place - next) ≡ place - run.place = omega (arith, from, low, rises.0) in
        let below : place - run.place < run.len = omega (arith, from, within) in
        at ∙ (ap (λ (i : ℕ).
        get_or (range_with_len run.number run.len ++ numbers_over blank count (run.place + run.len) runs) i 0) same
        ∙
        (get_or_append_left (range_with_len run.number run.len) (numbers_over blank count (run.place + run.len) runs) 0
        (place - run.place) (subst (λ (n : ℕ). place - run.place < n) (sym (length_of_range run.number run.len)) below)
        ∙ (range_at run.number run.len (place - run.place) 0 below
        ∙ sym (of_run place blank run runs (inside_run place run from within)
        ∙ given_none place (value_at place run) runs (before_rising (run.place + run.len) place runs within rises.1)))))
    go later (inr from) (inr behind) =
        let at : get_or ((replicate (run.place - next) blank) ++ (range_with_len run.number run.len
        ++ numbers_over blank count (run.place + run.len) runs)) (place - next) 0 ≡ get_or (range_with_len run.number
        run.len ++ numbers_over blank count (run.place + run.len) runs) (place - next - (run.place - next)) 0 =
        get_or-append_right (replicate (run.place - next) blank)
        (range_with_len run.number run.len ++ numbers_over blank count (run.place + run.len) runs)
        (run.place - next) (place - next) 0 (length-replicate (run.place - next) blank) (omega (arith, from, low)) in
        let same : place - next - (run.place - next) ≡ place - run.place = omega (arith, from, low, rises.0) in
        let following : get_or (range_with_len run.number run.len
        ++ numbers_over blank count (run.place + run.len) runs) (place - run.place) 0 ≡
        get_or (numbers_over blank count (run.place + run.len) runs) (place - run.place - run.len) 0 =
        get_or-append_right (range_with_len run.number run.len) (numbers_over blank count (run.place + run.len) runs)
        run.len (place - run.place) 0 (length_of_range run.number run.len) (omega (arith, behind)) in
        let last : place - run.place - run.len ≡ place - (run.place + run.len) = omega (arith, behind) in
        at ∙ (ap (λ (i : ℕ).
        get_or (range_with_len run.number run.len ++ numbers_over blank count (run.place + run.len) runs) i 0) same
        ∙ (following ∙ (ap (λ (i : ℕ). get_or (numbers_over blank count (run.place + run.len) runs) i 0) last
        ∙ (later behind ∙ sym (past_run place blank run runs (out_behind place run behind))))))

-- what the numbers of runs, replaced one after another, give to a place
last_given-append : (place : ℕ) (is js xs ys : List ℕ) (before : ℕ) → length is ≡ length xs →
    last_given place (is ++ js) (xs ++ ys) before ≡ last_given place js ys (last_given place is xs before)
last_given-append place [] js [] ys before e = refl
last_given-append place [] js (x ∷ xs) ys before e = absurd (omega (arith, e))
last_given-append place (i ∷ is) js [] ys before e = absurd (omega (arith, e))
last_given-append place (i ∷ is) js (x ∷ xs) ys before e =
    last_given-append place is js xs ys (if place == i then x else before) (omega (arith, e))

range_split : (a n m : ℕ) → range_with_len a (n + m) ≡ range_with_len a n ++ range_with_len (a + n) m
range_split a zero m = ap₂ range_with_len (let e : a ≡ a + 0 = omega arith in e) (let e : 0 + m ≡ m = omega arith in e)
range_split a (suc n) m =
    ap (range_with_len a) (let e : suc n + m ≡ suc (n + m) = omega arith in e)
    ∙ ap (λ l. a ∷ l) (range_split (a + 1) n m
    ∙ ap (λ (b : ℕ). range_with_len (a + 1) n ++ range_with_len b m) (let e : a + 1 + n ≡ a + suc n = omega arith in e))

past_range : (place from number n before : ℕ) → place < from →
    last_given place (range_with_len from n) (range_with_len number n) before ≡ before
past_range place from number zero before h = refl
past_range place from number (suc n) before h =
    ap (last_given place (range_with_len (from + 1) n) (range_with_len (number + 1) n))
    (cond-false (place == from) number before (let no : (place == from) ≡ false = grind (arith, nat_tests) in no))
    ∙ past_range place (from + 1) (number + 1) n before (omega (arith, h))

in_range : (place from number n before : ℕ) → from ≤ place → place < from + n →
    last_given place (range_with_len from n) (range_with_len number n) before ≡ number + (place - from)
in_range place from number zero before low high = absurd (omega (arith, low, high))
in_range place from number (suc n) before low high =
    go (λ b l. in_range place (from + 1) (number + 1) n b l (omega (arith, high)))
    (λ b l. past_range place (from + 1) (number + 1) n b l) (cases_lt from place)
  where
    go : ((b : ℕ) → from + 1 ≤ place → last_given place (range_with_len (from + 1) n) (range_with_len (number + 1) n)
        b ≡ number + 1 + (place - (from + 1))) →
        ((b : ℕ) → place < from + 1 → last_given place (range_with_len (from + 1) n) (range_with_len (number + 1) n) b ≡
        b) → (from < place) ⊎ (place ≤ from) →
        last_given place (range_with_len (from + 1) n) (range_with_len (number + 1) n)
        (if place == from then number else before) ≡ number + (place - from)
    go later none (inl more) =
        later (if place == from then number else before) (omega (arith, more)) ∙ omega (arith, more)
    go later none (inr same) =
        none (if place == from then number else before) (omega (arith, same))
        ∙ (cond-true (place == from) number before (let yes : (place == from) ≡ true = grind (arith, nat_tests) in yes)
        ∙ omega (arith, same, low))

behind_range : (place from number n before : ℕ) → from + n ≤ place →
    last_given place (range_with_len from n) (range_with_len number n) before ≡ before
behind_range place from number zero before h = refl
behind_range place from number (suc n) before h =
    ap (last_given place (range_with_len (from + 1) n) (range_with_len (number + 1) n))
    (cond-false (place == from) number before (let no : (place == from) ≡ false = grind (arith, nat_tests) in no))
    ∙ behind_range place (from + 1) (number + 1) n before (omega (arith, h))

pub given_by_runs : (place number before : ℕ) (runs : List (ℕ × ℕ)) →
    last_given place (run_numbers runs) (range_with_len number (length (run_numbers runs))) before ≡
    given_at place before (numbered_from number runs)
given_by_runs place number before [] = refl
given_by_runs place number before (run ∷ runs) =
    ap (λ (l : List ℕ). last_given place (range_with_len run.0 run.1 ++ run_numbers runs) l before)
    (ap (range_with_len number) (length-append (range_with_len run.0 run.1) (run_numbers runs) ∙ ap (λ (n : ℕ). n
    + length (run_numbers runs)) (length_of_range run.0 run.1)) ∙ range_split number run.1 (length (run_numbers runs)))
    ∙ (last_given-append place (range_with_len run.0 run.1) (run_numbers runs) (range_with_len number run.1)
    (range_with_len (number + run.1) (length (run_numbers runs))) before
    (length_of_range run.0 run.1 ∙ sym (length_of_range number run.1))
    ∙ go (λ b. given_by_runs place (number + run.1) b runs) (cases_lt place run.0) (cases_lt place (run.0 + run.1)))
  where
    go : ((b : ℕ) → last_given place (run_numbers runs) (range_with_len (number + run.1) (length (run_numbers runs)))
        b ≡ given_at place b (numbered_from (number + run.1) runs)) →
        (place < run.0) ⊎ (run.0 ≤ place) → (place < run.0 + run.1) ⊎ (run.0 + run.1 ≤ place) →
        last_given place (run_numbers runs) (range_with_len (number + run.1) (length (run_numbers runs)))
        (last_given place (range_with_len run.0 run.1) (range_with_len number run.1) before)
        ≡ given_at place before (numbered_from number (run ∷ runs))
    go later (inl out) side =
        ap (last_given place (run_numbers runs) (range_with_len (number + run.1) (length (run_numbers runs))))
        (past_range place run.0 number run.1 before out)
        ∙ (later before ∙ sym (past_run place before (record { place = run.0; number = number; len = run.1 })
        (numbered_from (number + run.1) runs)
        (out_before place (record { place = run.0; number = number; len = run.1 }) out)))
    go later (inr low) (inl high) =
        ap (last_given place (run_numbers runs) (range_with_len (number + run.1) (length (run_numbers runs))))
        (in_range place run.0 number run.1 before low high)
        ∙ (later (number + (place - run.0)) ∙ sym (of_run place before
        (record { place = run.0; number = number; len = run.1 }) (numbered_from (number + run.1) runs)
        (inside_run place (record { place = run.0; number = number; len = run.1 }) low high)))
    go later (inr low) (inr out) =
        ap (last_given place (run_numbers runs) (range_with_len (number + run.1) (length (run_numbers runs))))
        (behind_range place run.0 number run.1 before out)
        ∙ (later before ∙ sym (past_run place before (record { place = run.0; number = number; len = run.1 })
        (numbered_from (number + run.1) runs)
        (out_behind place (record { place = run.0; number = number; len = run.1 }) out)))

-- each run of places below a count has its numbers within those of all
pub numbered_within : (count total number : ℕ) (runs : List (ℕ × ℕ)) → AreRunsBelow count runs →
    number + length (run_numbers runs) ≤ total →
    All (IsGivenWithin count total) (numbered_from number runs)
numbered_within count total number [] below within = All-nil (IsGivenWithin count total)
numbered_within count total number (run ∷ runs) below within =
    let long : length (run_numbers (run ∷ runs)) ≡ run.1 + length (run_numbers runs) =
    length-append (range_with_len run.0 run.1) (run_numbers runs)
    ∙ ap (λ (n : ℕ). n + length (run_numbers runs)) (length_of_range run.0 run.1) in
    All-cons (IsGivenWithin count total) (record { place = run.0; number = number; len = run.1 })
    (numbered_from (number + run.1) runs)
    (record { below = below 0 (omega arith); within = omega (arith, within, long) })
    (numbered_within count total (number + run.1) runs (λ k h. below (suc k) (omega (arith, h)))
    (omega (arith, within, long)))

-- the first i runs are numbered
pub record HasNumbered (runs : List (ℕ × ℕ)) (i total : ℕ) (out : List GivenRun) : Type 0 where
  pub all : out ++ numbered_from total (drop i runs) ≡ numbered_from 0 runs
  pub count : total + length (run_numbers (drop i runs)) ≡ length (run_numbers runs)

pub one_numbered : (runs : List (ℕ × ℕ)) (i total behind : ℕ) (out more : List GivenRun) → i < length runs →
    behind ≡ total + (get_or runs i (0, 0)).1 →
    more ≡ out ++ (record { place = (get_or runs i (0, 0)).0; number = total; len = (get_or runs i (0, 0)).1 }) ∷ [] →
    HasNumbered runs i total out → HasNumbered runs (i + 1) behind more
one_numbered runs i total behind out more h behind_is more_is so_far =
    let run = get_or runs i (0, 0) in
    let rest : drop i runs ≡ run ∷ drop (i + 1) runs = drop_more runs i (0, 0) h in
    let long : length (run_numbers (drop i runs)) ≡ run.1 + length (run_numbers (drop (i + 1) runs)) =
    ap (λ l. length (run_numbers l)) rest
    ∙ (length-append (range_with_len run.0 run.1) (run_numbers (drop (i + 1) runs))
    ∙ ap (λ (n : ℕ). n + length (run_numbers (drop (i + 1) runs))) (length_of_range run.0 run.1)) in
    record {
      all = ap₂ (λ l n. l ++ numbered_from n (drop (i + 1) runs)) more_is behind_is
          ∙ (append_assoc out ((record { place = run.0; number = total; len = run.1 })
          ∷ []) (numbered_from (total + run.1) (drop (i + 1) runs))
          ∙ (ap (λ l. out ++ numbered_from total l) (sym rest) ∙ so_far.all));
      count = omega (arith, behind_is, long, so_far.count);
    }

-- one element so many times
pub blanks_step : (blank : ℕ) (picks more all : List (ℕ × ℕ)) (n i : ℕ) → i < n → more ≡ picks ++ (blank, 1) ∷ [] →
    picks ++ replicate (n - i) (blank, 1) ≡ all → more ++ replicate (n - (i + 1)) (blank, 1) ≡ all
blanks_step blank picks more all n i h is before =
    ap (λ l. l ++ replicate (n - (i + 1)) (blank, 1)) is
    ∙ (append_assoc picks ((blank, 1) ∷ []) (replicate (n - (i + 1)) (blank, 1))
    ∙ (ap (λ m. picks ++ replicate m (blank, 1)) (let e : suc (n - (i + 1)) ≡ n - i = omega (arith, h) in e) ∙ before))

blank_numbers : (blank n : ℕ) → run_numbers (replicate n (blank, 1)) ≡ replicate n blank
blank_numbers blank zero = refl
blank_numbers blank (suc n) = ap (λ l. blank ∷ l) (blank_numbers blank n)

abbrev IsBelow : ℕ → ℕ × ℕ → Type 0
IsBelow limit run = run.0 + run.1 ≤ limit

append_below : (limit : ℕ) (xs ys : List (ℕ × ℕ)) → AreRunsBelow limit xs → AreRunsBelow limit ys →
    AreRunsBelow limit (xs ++ ys)
append_below limit xs ys a b k h = go (cases_lt k (length xs))
  where
    go : (k < length xs) ⊎ (length xs ≤ k) → IsBelow limit (get_or (xs ++ ys) k (0, 0))
    go (inl low) = subst (IsBelow limit) (sym (get_or_append_left xs ys (0, 0) k low)) (a k low)
    go (inr high) = subst (IsBelow limit) (sym (get_or-append_right xs ys (length xs) k (0, 0) refl high))
        (b (k - length xs) (omega (arith, high, h, length-append xs ys)))

blanks_below : (total n : ℕ) → AreRunsBelow (total + 1) (replicate n (total, 1))
blanks_below total n k h = subst (IsBelow (total + 1))
    (sym (get_or-replicate n k (total, 1) (0, 0) (subst (λ m. k < m) (length-replicate n (total, 1)) h))) (omega arith)

-- the picks of the first i rising runs
pub record HasPlaced (runs : List GivenRun) (count total i next : ℕ) (out : List (ℕ × ℕ)) : Type 0 where
  pub low : next ≤ count
  pub rises : AreRising next (drop i runs) → AreRising 0 runs
  pub numbers : run_numbers out ++ numbers_over total count next (drop i runs) ≡ numbers_over total count 0 runs
  pub below : AreRunsBelow (total + 1) out

pub one_placed : (runs : List GivenRun) (count total i next : ℕ) (run : GivenRun) (out gap more : List (ℕ × ℕ)) →
    drop i runs ≡ run ∷ drop (i + 1) runs → IsGivenWithin count total run → next ≤ run.place →
    gap ≡ out ++ replicate (run.place - next) (total, 1) → more ≡ gap ++ (run.number, run.len) ∷ [] →
    HasPlaced runs count total i next out → HasPlaced runs count total (i + 1) (run.place + run.len) more
one_placed runs count total i next run out gap more rest_is within low gap_is more_is so_far =
    let made : more ≡ (out ++ replicate (run.place - next) (total, 1)) ++ (run.number, run.len) ∷ [] =
    more_is ∙ ap (λ l. l ++ (run.number, run.len) ∷ []) gap_is in
    let numbers : run_numbers more ≡
    run_numbers out ++ (replicate (run.place - next) total ++ range_with_len run.number run.len) =
    ap run_numbers made
    ∙ (flat_map-append (λ run. range_with_len run.0 run.1) (out ++ replicate (run.place - next) (total, 1))
    ((run.number, run.len) ∷ [])
    ∙ (ap₂ (λ a b. a ++ b) (flat_map-append (λ run. range_with_len run.0 run.1) out
    (replicate (run.place - next) (total, 1)) ∙ ap (λ l. run_numbers out ++ l) (blank_numbers total (run.place - next)))
    (append-nil (range_with_len run.number run.len))
    ∙ append_assoc (run_numbers out) (replicate (run.place - next) total) (range_with_len run.number run.len))) in
    record {
      low = within.below;
      rises = λ rises. so_far.rises (subst (AreRising next) (sym rest_is) (low, rises));
      numbers = ap (λ l. l ++ numbers_over total count (run.place + run.len) (drop (i + 1) runs)) numbers
          ∙ (append_assoc (run_numbers out) (replicate (run.place - next) total ++ range_with_len run.number run.len)
          (numbers_over total count (run.place + run.len) (drop (i + 1) runs))
          ∙ (ap (λ l. run_numbers out ++ l) (append_assoc (replicate (run.place - next) total)
          (range_with_len run.number run.len) (numbers_over total count (run.place + run.len) (drop (i + 1) runs)))
          ∙ (ap (λ l. run_numbers out ++ numbers_over total count next l) (sym rest_is) ∙ so_far.numbers)));
      below = subst (AreRunsBelow (total + 1)) (sym made)
          (append_below (total + 1) (out ++ replicate (run.place - next) (total, 1)) ((run.number, run.len) ∷ [])
          (append_below (total + 1) out (replicate (run.place - next) (total, 1)) so_far.below
          (blanks_below total (run.place - next))) (one_below within));
    }
  where
    one_below : IsGivenWithin count total run → AreRunsBelow (total + 1) ((run.number, run.len) ∷ [])
    one_below within zero h = omega (arith, within.within)
    one_below within (suc k) h = absurd (omega (arith, h))

module _ (runs : List GivenRun) (count total i next : ℕ) (out more : List (ℕ × ℕ)) (end : length runs ≤ i) (more_is :
    more ≡ out ++ replicate (count - next) (total, 1)) (all : HasPlaced runs count total i next out) where
  pub all_placed : run_numbers more ≡ numbers_over total count 0 runs
  all_placed =
      ap run_numbers more_is
      ∙ (flat_map-append (λ run. range_with_len run.0 run.1) out (replicate (count - next) (total, 1))
      ∙ (ap (λ l. run_numbers out ++ l) (blank_numbers total (count - next))
      ∙ (ap (λ l. run_numbers out ++ numbers_over total count next l) (sym (drop_all i runs end)) ∙ all.numbers)))

-- the first numbers of a run are written to their places
abbrev first_of : GivenRun → ℕ → GivenRun
first_of run offset = record { place = run.place; number = run.number; len = offset }

pub record HasPutSome (run : GivenRun) (offset : ℕ) (old new : List ℕ) : Type 0 where
  pub long : length new ≡ length old
  pub each : (place : ℕ) → place < length old →
      get_or new place 0 ≡ given_at place (get_or old place 0) (first_of run offset ∷ [])

-- the first i runs are
given_at-append : (place before : ℕ) (xs ys : List GivenRun) →
    given_at place before (xs ++ ys) ≡ given_at place (given_at place before xs) ys
given_at-append place before [] ys = refl
given_at-append place before (x ∷ xs) ys = given_at-append place (first_given place before x []) xs ys

pub record HasPutFirst (runs : List GivenRun) (i : ℕ) (old new : List ℕ) : Type 0 where
  pub long : length new ≡ length old
  pub each : (place : ℕ) → place < length old → get_or new place 0 ≡ given_at place (get_or old place 0) (take i runs)

pub one_more_put : (runs : List GivenRun) (i : ℕ) (run : GivenRun) (old mid new : List ℕ) →
    take (i + 1) runs ≡ take i runs ++ run ∷ [] → length new ≡ length mid →
    ((place : ℕ) → place < length mid → get_or new place 0 ≡ given_at place (get_or mid place 0) (run ∷ [])) →
    HasPutFirst runs i old mid → HasPutFirst runs (i + 1) old new
one_more_put runs i run old mid new more_is long each so_far = record {
  long = long ∙ so_far.long;
  each = λ place h.
      each place (subst (λ n. place < n) (sym so_far.long) h)
      ∙ (ap (λ b. given_at place b (run ∷ [])) (so_far.each place h)
      ∙ (sym (given_at-append place (get_or old place 0) (take i runs) (run ∷ []))
      ∙ ap (given_at place (get_or old place 0)) (sym more_is)));
}

abbrev pub nowhere_run : GivenRun
nowhere_run = record { place = 0; number = 0; len = 0 }

-- numbers that are those of the runs at each place are the picks
module _ (count total : ℕ) (runs : List (ℕ × ℕ)) (numbers : List ℕ) (total_is : total ≡ length (run_numbers runs))
    (long : length numbers ≡ count)
    (each : (place : ℕ) → place < count → get_or numbers place 0 ≡ given_at place total (numbered_from 0 runs)) where
  abbrev over : List ℕ
  over = replaced (run_numbers runs) (range_with_len 0 (length (run_numbers runs)))
      (replicate count (length (run_numbers runs)))

  over_long : length over ≡ count
  over_long = length-replaced (run_numbers runs) (range_with_len 0 (length (run_numbers runs)))
      (replicate count (length (run_numbers runs))) ∙ length-replicate count (length (run_numbers runs))

  pub picks_over : numbers ≡ over
  picks_over = same_lists numbers over (long ∙ sym over_long) (λ place d h. at place d (subst (λ n. place < n) long h))
    where
      at : (place d : ℕ) → place < count → get_or numbers place d ≡ get_or over place d
      at place d h =
          get_or_default numbers place d 0 (subst (λ n. place < n) (sym long) h)
          ∙ (each place h
          ∙ (sym (given_by_runs place 0 total runs)
          ∙ (ap (last_given place (run_numbers runs) (range_with_len 0 (length (run_numbers runs))))
          (total_is ∙ sym (get_or-replicate count place (length (run_numbers runs)) 0 h))
          ∙ (sym (get_or-replaced 0 place (run_numbers runs) (range_with_len 0 (length (run_numbers runs)))
          (replicate count (length (run_numbers runs)))
          (subst (λ n. place < n) (sym (length-replicate count (length (run_numbers runs)))) h))
          ∙ get_or_default over place 0 d (subst (λ n. place < n) (sym over_long) h)))))

pub all_within : (count total : ℕ) (runs : List (ℕ × ℕ)) → AreRunsBelow count runs → total ≡ length (run_numbers runs) →
    All (IsGivenWithin count total) (numbered_from 0 runs)
all_within count total runs below is = numbered_within count total 0 runs below (omega (arith, is))

pub sorted_within : (count total : ℕ) (runs : List (ℕ × ℕ)) (sorted : List GivenRun) → AreRunsBelow count runs →
    total ≡ length (run_numbers runs) → IsPermutation (numbered_from 0 runs) sorted →
    All (IsGivenWithin count total) sorted
sorted_within count total runs sorted below total_is shuffled = All-permutation (IsGivenWithin count total)
    (numbered_from 0 runs) sorted shuffled (all_within count total runs below total_is)

-- by rising runs
pub rising_over : (count total : ℕ) (runs : List (ℕ × ℕ)) (sorted : List GivenRun) (picks : List (ℕ × ℕ)) →
    AreRunsBelow count runs → total ≡ length (run_numbers runs) → IsPermutation (numbered_from 0 runs) sorted →
    AreRising 0 sorted → run_numbers picks ≡ numbers_over total count 0 sorted →
    run_numbers picks ≡ replaced (run_numbers runs) (range_with_len 0 (length (run_numbers runs)))
    (replicate count (length (run_numbers runs)))
rising_over count total runs sorted picks below total_is shuffled rises is =
    picks_over count total runs (run_numbers picks) total_is
    (ap length is ∙ (length-numbers_over total count total 0 sorted rises
    (sorted_within count total runs sorted below total_is shuffled) (omega arith) ∙ omega arith))
    (λ place h. ap (λ l. get_or l place 0) is ∙ (ap (λ (i : ℕ). get_or (numbers_over total count 0 sorted) i 0)
    (let e : place ≡ place - 0 = omega arith in e) ∙ at_numbers_over total count 0 place sorted rises (omega arith) h
    ∙ sym (given_in_any_order place total (numbered_from 0 runs) sorted rises
    (λ P. All-permutation P sorted (numbered_from 0 runs) (IsPermutation-sym (numbered_from 0 runs) sorted shuffled))
    (λ P. All-permutation P (numbered_from 0 runs) sorted shuffled))))

-- a number that stands at a place is at most that of the blank one
pub given_below : (place count total before : ℕ) (runs : List GivenRun) → before ≤ total →
    All (IsGivenWithin count total) runs → given_at place before runs ≤ total
given_below place count total before [] low all = low
given_below place count total before (run ∷ runs) low all =
    go (λ b l. given_below place count total b runs l (All-tail (IsGivenWithin count total) run runs all))
    (All-head (IsGivenWithin count total) run runs all) (has_place place run) refl
  where
    go : ((b : ℕ) → b ≤ total → given_at place b runs ≤ total) → IsGivenWithin count total run → (b : Bool) →
        has_place place run ≡ b → given_at place before (run ∷ runs) ≤ total
    go later here true h =
        let parts = and_parts (nat_le run.place place) (nat_lt place (run.place + run.len)) h in
        let high : place < run.place + run.len = ltb-true place (run.place + run.len) parts.1 in
        subst (λ n. n ≤ total) (sym (of_run place before run runs h))
        (later (value_at place run) (omega (arith, high, here.within, leb-true run.place place parts.0)))
    go later here false h = subst (λ n. n ≤ total) (sym (past_run place before run runs h)) (later before low)

-- by writing each number to its place
module _ (count total : ℕ) (runs : List (ℕ × ℕ)) (given lent : List GivenRun) (blank new shown : List ℕ)
    (below : AreRunsBelow count runs) (total_is : total ≡ length (run_numbers runs)) (fits : total < 2 ^ 64)
    (given_is : given ≡ numbered_from 0 runs) (lent_is : lent ≡ given) (blank_is : blank ≡ replicate count total) where
  blank_long : length blank ≡ count
  blank_long = ap length blank_is ∙ length-replicate count total

  pub put_within : All (IsGivenWithin (length blank) (2 ^ 64)) lent
  put_within = subst (All (IsGivenWithin (length blank) (2 ^ 64))) (sym (lent_is ∙ given_is))
      (subst (λ n. All (IsGivenWithin n (2 ^ 64)) (numbered_from 0 runs)) (sym blank_long)
      (numbered_within count (2 ^ 64) 0 runs below (omega (arith, total_is, fits))))

  module _ (new_long : length new ≡ length blank) (new_each : (place : ℕ) → place < length blank →
      get_or new place 0 ≡ given_at place (get_or blank place 0) lent) (shown_is : shown ≡ new) where
    shown_long : length shown ≡ count
    shown_long = ap length shown_is ∙ (new_long ∙ blank_long)

    shown_each : (place : ℕ) → place < count → get_or shown place 0 ≡ given_at place total (numbered_from 0 runs)
    shown_each place h =
        ap (λ l. get_or l place 0) shown_is
        ∙ (new_each place (subst (λ n. place < n) (sym blank_long) h)
        ∙ ap₂ (given_at place) (ap (λ l. get_or l place 0) blank_is ∙ get_or-replicate count place total 0 h)
        (lent_is ∙ given_is))

    pub shown_below : AllBelow (total + 1) shown
    shown_below k h =
        let low : k < count = subst (λ n. k < n) shown_long h in
        let at : get_or shown k 0 ≤ total = subst (λ n. n ≤ total) (sym (shown_each k low)) (given_below k count total
        total (numbered_from 0 runs) (omega arith) (all_within count total runs below total_is)) in
        omega (arith, at)

    pub shown_over : shown ≡ replaced (run_numbers runs) (range_with_len 0 (length (run_numbers runs)))
        (replicate count (length (run_numbers runs)))
    shown_over = picks_over count total runs shown total_is shown_long shown_each
