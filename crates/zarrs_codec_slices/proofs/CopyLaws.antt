-- A copy between two boxes, row by row.
use Rattle.std.proofs.Common.{◌≡◌, ℕ, zero, suc, ◌+◌, ◌-◌, ◌*◌, ◌/◌, ◌%◌, ◌<◌, ◌≤◌, max, min, nat_lt, nat_le, ◌&&◌}
use Rattle.std.proofs.Common.{Bool, true, false, if◌then◌else◌, List, [], ◌∷◌, ◌++◌, length, get_or, take, drop, refl}
use Rattle.std.proofs.Common.{sym, ap, ap₂, ◌∙◌, subst, subst₂, arith, ⊎_elim}
use Rattle.std.proofs.lemmas.Bool.{and_parts, lt-ltb, ltb-true, cases_lt, cond-true, cond-false, false_from_ne_true}
use Rattle.std.proofs.lemmas.Bool.Decides.{nat_tests}
use Rattle.std.proofs.lemmas.Nat.{div-mul-add, mod-mul-add, div_below}
use Rattle.std.proofs.lemmas.List.{get_or_append_left, get_or-append_right, get_or-drop, get_or-take, length-drop}
use Rattle.std.proofs.lemmas.List.{length-take-le, length-append}
use Rattle.std.proofs.Math.Nat.{div-add-mod', mod-lt, mul_comm, suc-mul, mul-le-mul_right}
use Rattle.zarr_model.specs.Prelude.{Span, Region, count, contains, is_in, place, tuple_at}
use Rattle.zarr_model.proofs.RegionLaws.{span_in, in_span, positive_factor, place_below}
use Rattle.zarrs_codec_slices.specs.Overlap.{span_at, shared_from, shared_size, with_run, Copied, in_bytes}

-- whether a tuple's first index is below a limit
abbrev pub is_before : ℕ → List ℕ → Bool
is_before limit [] = true
is_before limit (index ∷ tuple) = nat_lt index limit

-- the copy is done as far as the first indices are below a limit
pub record CopiedRows {A : Type 0} (limit : ℕ) (target_box source_box : Region) (source old new : List A) : Type 0 where
  pub as_long : length new ≡ length old
  pub each : (k : ℕ) (d : A) → k < count target_box → get_or new k d ≡
      (if is_before limit (tuple_at target_box k) && contains source_box (tuple_at target_box k)
      then get_or source (place source_box (tuple_at target_box k)) d else get_or old k d)

-- the dimensions from an axis on begin with its span
pub drop-span : (region : Region) (axis : ℕ) → axis < length region →
    drop axis region ≡ span_at region axis ∷ drop (axis + 1) region
drop-span [] axis h = absurd (omega arith)
drop-span (span ∷ region) zero h = refl
drop-span (span ∷ region) (suc axis) h =
    let more : axis + 1 ≡ suc axis = omega arith in
    let further : suc axis + 1 ≡ suc (suc axis) = omega arith in
    drop-span region axis (omega arith)
    ∙ (ap (λ n. span_at region axis ∷ drop n region) more
    ∙ ap (λ n. span_at region axis ∷ drop n (span ∷ region)) (sym further))

pub bytes-span : (region : Region) (axis size : ℕ) → axis < length region →
    in_bytes size (drop axis region) ≡ span_at region axis ∷ in_bytes size (drop (axis + 1) region)
bytes-span region axis size h = ap (in_bytes size) (drop-span region axis h)

-- a row lies within its rows
pub row_within : (r n long : ℕ) → r < n → r * (long / n) + long / n ≤ long
row_within r n long h =
    let rows : suc r * (long / n) ≤ n * (long / n) =
    mul-le-mul_right (long / n) (let one : suc r ≤ n = omega arith in one) in
    omega (arith, rows, suc-mul r (long / n), div-add-mod' long n, mul_comm n (long / n))

module _ {A : Type 0} (t s : Span) (target_rest source_rest : Region) (source old : List A) where
  -- the test of a row below a limit: the first index is below it, and the tuple is in the source
  abbrev row_test : (limit k : ℕ) → Bool
  row_test limit k = nat_lt (t.start + k / count target_rest) limit
      &&
      (is_in (t.start + k / count target_rest) s && contains source_rest (tuple_at target_rest (k % count target_rest)))

  -- what a row's place holds once the rows below a limit are done
  abbrev Done : ℕ → List A → ℕ → A → Type 0
  Done limit new k d = get_or new k d ≡ (if row_test limit k
      then get_or source ((t.start + k / count target_rest - s.start) * count source_rest + place source_rest
      (tuple_at target_rest (k % count target_rest))) d else get_or old k d)

  -- no row is done below the first index that both have
  pub no_rows : (limit : ℕ) → limit ≡ max t.start s.start →
      CopiedRows limit (t ∷ target_rest) (s ∷ source_rest) source old old
  no_rows limit is = record {
    as_long = refl;
    each = λ k d h. sym (cond-false (row_test limit k) _ _ (false_from_ne_true (row_test limit k)
        (λ both. never (t.start + k / count target_rest)
        (contains source_rest (tuple_at target_rest (k % count target_rest))) (omega arith) both)));
  }
    where
      never : (index : ℕ) (b : Bool) → t.start ≤ index → (nat_lt index limit && (is_in index s && b)) ≡ true → ⊥
      never index b high both =
          let parts = and_parts (nat_lt index limit) (is_in index s && b) both in
          let below : index < limit = ltb-true _ _ parts.0 in
          let near : (s.start ≤ index) × (index - s.start < s.size) =
          in_span index s (and_parts (is_in index s) b parts.1).0 in
          absurd (omega (arith, near.0))

  -- all rows are done below the last index that both have
  pub all_rows : (limit len : ℕ) (new : List A) → limit ≡ max t.start s.start + len →
      len ≡ min (t.size - (max t.start s.start - t.start)) (s.size - (max t.start s.start - s.start)) →
      CopiedRows limit (t ∷ target_rest) (s ∷ source_rest) source old new →
      Copied (t ∷ target_rest) (s ∷ source_rest) source old new
  all_rows limit len new is len_is rows = record {
    as_long = rows.as_long;
    each = λ k d h. rows.each k d h ∙ ap (λ b. if b then get_or source ((t.start + k / count target_rest - s.start)
        * count source_rest + place source_rest (tuple_at target_rest (k % count target_rest))) d else get_or old k d)
        (drop_first (nat_lt (t.start + k / count target_rest) limit) (is_in (t.start + k / count target_rest) s
        && contains source_rest (tuple_at target_rest (k % count target_rest)))
        (λ both. lt-ltb _ _ (before (k / count target_rest) (row_in k h) (and_parts (is_in (t.start
        + k / count target_rest) s) (contains source_rest (tuple_at target_rest (k % count target_rest))) both).0)));
  }
    where
      drop_first : (a b : Bool) → (b ≡ true → a ≡ true) → (a && b) ≡ b
      drop_first true b h = refl
      drop_first false true h = h refl
      drop_first false false h = refl

      row_in : (k : ℕ) → k < t.size * count target_rest → k / count target_rest < t.size
      row_in k h = div_below k (count target_rest) t.size (positive_factor k t.size (count target_rest) h) h

      before : (row : ℕ) → row < t.size → is_in (t.start + row) s ≡ true → t.start + row < limit
      before row below inside =
          let near : (s.start ≤ t.start + row) × (t.start + row - s.start < s.size) =
          in_span (t.start + row) s inside in
          omega (arith, near.0, near.1)

  -- one more row is done
  pub next_row : (limit i at from : ℕ) (mid row new : List A) →
      at ≡ max t.start s.start - t.start + i → from ≡ max t.start s.start - s.start + i → limit ≡ t.start + at →
      at < t.size → from < s.size →
      length mid ≡ t.size * count target_rest → length source ≡ s.size * count source_rest →
      CopiedRows limit (t ∷ target_rest) (s ∷ source_rest) source old mid →
      Copied target_rest source_rest (take (count source_rest) (drop (from * count source_rest) source))
      (take (count target_rest) (drop (at * count target_rest) mid)) row →
      new ≡ take (at * count target_rest) mid ++ (row ++ drop (count target_rest) (drop (at * count target_rest) mid)) →
      CopiedRows (limit + 1) (t ∷ target_rest) (s ∷ source_rest) source old new
  next_row limit i at from mid row new at_is from_is limit_is at_in from_in long source_long rows copied new_is =
      record {
        as_long = ap length new_is ∙ (length-append front (row ++ back)
            ∙ (ap₂ (λ a b. a + b) front_long (length-append row back ∙ ap₂ (λ a b. a + b) row_long back_long)
            ∙ (let same : at * c + (c + (length mid - at * c - c)) ≡ length mid = omega (arith, room) in
            same ∙ rows.as_long)));
        each = λ k d h. ⊎_elim
            (λ (low : k < at * c). outside k d h (λ here. let less : k / c < at =
            div_below k c at (positive_factor k t.size c h) low in absurd (omega (arith, here)))
            (ap (λ l. get_or l k d) new_is ∙ (get_or_append_left front (row ++ back) d k
            (subst (λ n. k < n) (sym front_long) low) ∙ get_or-take (at * c) mid k d low)))
            (λ (high : at * c ≤ k). ⊎_elim
            (λ (within : k < at * c + c). inside k d h high within)
            (λ (past : at * c + c ≤ k).
            outside k d h (λ here. let some : k % c < c = mod-lt k (positive_factor k t.size c h) in
            let split : k / c * c + k % c ≡ k = div-add-mod' k c in
            let same : k / c * c ≡ at * c = ap (λ n. n * c) here in absurd (omega (arith, some, split, same)))
            (ap (λ l. get_or l k d) new_is
            ∙ (get_or-append_right front (row ++ back) (at * c) k d front_long (omega arith)
            ∙ (get_or-append_right row back c (k - at * c) d row_long (omega arith)
            ∙ (get_or-drop c (drop (at * c) mid) (k - at * c - c) d ∙ (get_or-drop (at * c) mid (c + (k - at * c - c)) d
            ∙ ap (λ n. get_or mid n d) (let same : at * c + (c + (k - at * c - c)) ≡ k = omega arith in same)))))))
            (cases_lt k (at * c + c)))
            (cases_lt k (at * c));
      }
    where
      c : ℕ
      c = count target_rest

      e : ℕ
      e = count source_rest

      front : List A
      front = take (at * c) mid

      back : List A
      back = drop c (drop (at * c) mid)

      room : at * c + c ≤ length mid
      room = let all : suc at * c ≤ t.size * c = mul-le-mul_right c (let one : suc at ≤ t.size = omega arith in one) in
          omega (arith, all, suc-mul at c, long)

      front_long : length front ≡ at * c
      front_long = length-take-le (at * c) mid (omega (arith, room))

      row_long : length row ≡ c
      row_long = copied.as_long ∙ length-take-le c (drop (at * c) mid) (omega (arith, room, length-drop (at * c) mid))

      back_long : length back ≡ length mid - at * c - c
      back_long = length-drop c (drop (at * c) mid) ∙ ap (λ n. n - c) (length-drop (at * c) mid)

      lt_next : (x n : ℕ) → (x ≡ n → ⊥) → nat_lt x n ≡ nat_lt x (n + 1)
      lt_next x n differ = grind (arith, nat_tests)

      outside : (k : ℕ) (d : A) → k < t.size * c → (k / c ≡ at → ⊥) → get_or new k d ≡ get_or mid k d →
          Done (limit + 1) new k d
      outside k d h other same = same ∙ (rows.each k d h
          ∙ ap (λ b. if b && (is_in (t.start + k / c) s && contains source_rest (tuple_at target_rest (k % c)))
          then get_or source ((t.start + k / c - s.start) * e + place source_rest (tuple_at target_rest (k % c))) d else
          get_or old k d)
          (lt_next (t.start + k / c) limit (λ is. other (omega arith))))

      inside : (k : ℕ) (d : A) → k < t.size * c → at * c ≤ k → k < at * c + c → Done (limit + 1) new k d
      inside k d h high within =
          ap (λ l. get_or l k d) new_is ∙ (get_or-append_right front (row ++ back) (at * c) k d front_long high
          ∙ (get_or_append_left row back d (k - at * c) (subst (λ n. k - at * c < n) (sym row_long) column_in)
          ∙ (copied.each (k - at * c) d column_in ∙ (turn (contains source_rest
          (tuple_at target_rest (k - at * c))) refl ∙ (ap (λ b. if b then get_or source ((t.start + at - s.start) * e
          + place source_rest (tuple_at target_rest (k - at * c))) d else get_or old k d) (sym tests)
          ∙ ap₂ (λ r j. if nat_lt (t.start + r) (limit + 1) && (is_in (t.start + r) s
          && contains source_rest (tuple_at target_rest j)) then get_or source ((t.start + r - s.start) * e
          + place source_rest (tuple_at target_rest j)) d else get_or old k d) (sym row_is) (sym column_is))))))
        where
          not_below : (x n : ℕ) → n ≤ x → nat_lt x n ≡ false
          not_below x n h = grind (arith, nat_tests)

          column_in : k - at * c < c
          column_in = omega arith

          whole : at * c + (k - at * c) ≡ k
          whole = omega arith

          row_is : k / c ≡ at
          row_is = ap (λ n. n / c) (sym whole) ∙ div-mul-add at c (k - at * c) column_in

          column_is : k % c ≡ k - at * c
          column_is = ap (λ n. n % c) (sym whole) ∙ mod-mul-add at c (k - at * c) column_in

          tests : (nat_lt (t.start + at) (limit + 1) && (is_in (t.start + at) s && contains source_rest
              (tuple_at target_rest (k - at * c)))) ≡ contains source_rest (tuple_at target_rest (k - at * c))
          tests = ap₂ (λ a b. a && (b && contains source_rest (tuple_at target_rest (k - at * c))))
              (lt-ltb (t.start + at) (limit + 1) (omega arith)) (span_in (t.start + at) s (omega arith) (omega arith))

          turn : (b : Bool) → contains source_rest (tuple_at target_rest (k - at * c)) ≡ b →
              (if b then get_or (take e (drop (from * e) source)) (place source_rest
              (tuple_at target_rest (k - at * c))) d else get_or (take c (drop (at * c) mid)) (k - at * c) d)
              ≡ (if b then get_or source ((t.start + at - s.start) * e + place source_rest
              (tuple_at target_rest (k - at * c))) d else get_or old k d)
          turn true is = get_or-take e (drop (from * e) source) (place source_rest
              (tuple_at target_rest (k - at * c))) d (place_below source_rest (tuple_at target_rest (k - at * c)) is)
              ∙ (get_or-drop (from * e) source (place source_rest (tuple_at target_rest (k - at * c))) d
              ∙ ap (λ n. get_or source (n * e + place source_rest (tuple_at target_rest (k - at * c))) d)
              (let same : from ≡ t.start + at - s.start = omega arith in same))
          turn false is = get_or-take c (drop (at * c) mid) (k - at * c) d column_in
              ∙ (get_or-drop (at * c) mid (k - at * c) d ∙ (ap (λ n. get_or mid n d) whole
              ∙ (rows.each k d h ∙ cond-false (nat_lt (t.start + k / c) limit
              && (is_in (t.start + k / c) s && contains source_rest (tuple_at target_rest (k % c)))) _ _
              (ap (λ r. nat_lt (t.start + r) limit
              && (is_in (t.start + r) s && contains source_rest (tuple_at target_rest (k % c)))) row_is
              ∙ ap (λ b. b && (is_in (t.start + at) s && contains source_rest (tuple_at target_rest (k % c))))
              (not_below (t.start + at) limit (omega arith))))))

-- the same over two boxes whose first spans are t and s
module _ {A : Type 0} (t s : Span) (target_box target_rest source_box source_rest : Region) (target_is : target_box ≡
    t ∷ target_rest) (source_is : source_box ≡ s ∷ source_rest) where
  pub shared_none : (source old : List A) → shared_size t s ≡ 0 → Copied target_box source_box source old old
  shared_none source old none =
      subst₂ (λ a b. Copied a b source old old) (sym target_is) (sym source_is)
      (all_rows t s target_rest source_rest source old (max t.start s.start) 0 old (omega arith) (omega (arith, none))
      (no_rows t s target_rest source_rest source old (max t.start s.start) refl))

  pub rows_start : (source old : List A) (at : ℕ) → at ≡ shared_from t s →
      CopiedRows (t.start + (at + 0)) target_box source_box source old old
  rows_start source old at is =
      subst₂ (λ a b. CopiedRows (t.start + (at + 0)) a b source old old) (sym target_is) (sym source_is)
      (no_rows t s target_rest source_rest source old (t.start + (at + 0)) (omega (arith, is)))

  pub rows_end : (source old new : List A) (at i len : ℕ) → at ≡ shared_from t s → len ≡ shared_size t s → i ≡ len →
      CopiedRows (t.start + (at + i)) target_box source_box source old new → Copied target_box source_box source old new
  rows_end source old new at i len at_is len_is done rows =
      subst₂ (λ a b. Copied a b source old new) (sym target_is) (sym source_is)
      (all_rows t s target_rest source_rest source old (t.start + (at + i)) len new (omega (arith, at_is))
      (omega (arith, len_is))
      (subst₂ (λ a b. CopiedRows (t.start + (at + i)) a b source old new) target_is source_is rows))

  pub rows_step : (source old mid row : List A) (target_at source_at len i target_row source_row to from : ℕ) →
      target_at ≡ shared_from t s → source_at ≡ shared_from s t → len ≡ shared_size t s → i < len →
      length old ≡ count target_box → length source ≡ count source_box →
      target_row ≡ length old / t.size → source_row ≡ length source / s.size → to ≡ (target_at + i) * target_row →
      from ≡ (source_at + i) * source_row →
      CopiedRows (t.start + (target_at + i)) target_box source_box source old mid →
      Copied target_rest source_rest (take (from + source_row - from) (drop from source))
      (take (to + target_row - to) (drop to mid)) row →
      CopiedRows (t.start + (target_at + (i + 1))) target_box source_box source old
      (take to mid ++ (row ++ drop (to + target_row - to) (drop to mid)))
  rows_step source old mid row target_at source_at len i target_row source_row to from at_is from_is len_is below long
      source_long target_row_is source_row_is to_is from_at_is rows copied =
      subst₂ (λ a b. CopiedRows (t.start + (target_at + (i + 1))) a b source old
      (take to mid ++ (row ++ drop (to + target_row - to) (drop to mid)))) (sym target_is) (sym source_is)
      (subst (λ n. CopiedRows n (t ∷ target_rest) (s ∷ source_rest) source old
      (take to mid ++ (row ++ drop (to + target_row - to) (drop to mid))))
      (let e : t.start + (target_at + i) + 1 ≡ t.start + (target_at + (i + 1)) = omega arith in e)
      (next_row t s target_rest source_rest source old (t.start + (target_at + i)) i (target_at + i) (source_at + i) mid
      row (take to mid ++ (row ++ drop (to + target_row - to) (drop to mid)))
      (omega (arith, at_is)) (omega (arith, from_is)) refl (omega (arith, at_is, len_is))
      (omega (arith, from_is, len_is))
      (first.as_long ∙ (long ∙ ap count target_is)) (source_long ∙ ap count source_is) first
      (subst₂ (λ part other. Copied target_rest source_rest part other row)
      (ap₂ (λ n a. take n (drop a source)) source_len (from_at_is ∙ ap (λ n. (source_at + i) * n) source_row_e))
      (ap₂ (λ n a. take n (drop a mid)) target_len to_c) copied)
      (ap₂ (λ n a. take a mid ++ (row ++ drop n (drop a mid))) target_len to_c)))
    where
      quotient : (n c : ℕ) → 0 < n → n * c / n ≡ c
      quotient n c h =
          ap (λ m. m / n) (let e : n * c ≡ c * n + 0 = omega (arith, mul_comm n c) in e) ∙ div-mul-add c n 0 h

      first : CopiedRows (t.start + (target_at + i)) (t ∷ target_rest) (s ∷ source_rest) source old mid
      first = subst₂ (λ a b. CopiedRows (t.start + (target_at + i)) a b source old mid) target_is source_is rows

      target_row_c : target_row ≡ count target_rest
      target_row_c = target_row_is ∙ (ap (λ n. n / t.size) (long ∙ ap count target_is)
          ∙ quotient t.size (count target_rest) (omega (arith, len_is)))

      source_row_e : source_row ≡ count source_rest
      source_row_e = source_row_is ∙ (ap (λ n. n / s.size) (source_long ∙ ap count source_is)
          ∙ quotient s.size (count source_rest) (omega (arith, len_is)))

      target_len : to + target_row - to ≡ count target_rest
      target_len = omega (arith, target_row_c)

      source_len : from + source_row - from ≡ count source_rest
      source_len = omega (arith, source_row_e)

      to_c : to ≡ (target_at + i) * count target_rest
      to_c = to_is ∙ ap (λ n. (target_at + i) * n) target_row_c

-- what is passed on for one row is as long as the rest's count
pub row_part : {B : Type 0} (t : Span) (box rest : Region) (list : List B) (at row to : ℕ) → box ≡ t ∷ rest →
    length list ≡ count box → row ≡ length list / t.size → at < t.size → to ≡ at * row →
    length (take (to + row - to) (drop to list)) ≡ count rest
row_part t box rest list at row to box_is long row_is within to_is =
    length-take-le (to + row - to) (drop to list) (omega (arith, length-drop to list, room))
    ∙ (let e : to + row - to ≡ row = omega arith in e ∙ row_c)
  where
    row_c : row ≡ count rest
    row_c = row_is ∙ (ap (λ n. n / t.size) (long ∙ ap count box_is)
        ∙ (ap (λ m. m / t.size) (let e : t.size * count rest ≡ count rest * t.size + 0 =
        omega (arith, mul_comm t.size (count rest)) in e) ∙ div-mul-add (count rest) t.size 0 (omega arith)))

    room : to + row ≤ length list
    room = subst₂ (λ a b. a + b ≤ length list) (sym (to_is ∙ ap (λ n. at * n) row_is)) (sym row_is)
        (row_within at t.size (length list) within)

-- a run in its place: the length stays, and each element is the run's or the old one
module _ {A : Type 0} (old source : List A) (at from len : ℕ) (room : at + len ≤ length old)
    (enough : from + len ≤ length source) where
  front_long : length (take at old) ≡ at
  front_long = length-take-le at old (omega (arith, room))

  run_long : length (take len (drop from source)) ≡ len
  run_long = length-take-le len (drop from source) (omega (arith, enough, length-drop from source))

  pub length-with_run : length (with_run old at source from len) ≡ length old
  length-with_run = length-append (take at old) (take len (drop from source) ++ drop (at + len) old)
      ∙ (ap₂ (λ a b. a + b) front_long (length-append (take len (drop from source)) (drop (at + len) old)
      ∙ ap₂ (λ a b. a + b) run_long (length-drop (at + len) old))
      ∙ (let same : at + (len + (length old - (at + len))) ≡ length old = omega (arith, room) in same))

  pub get_or-with_run : (k : ℕ) (d : A) → get_or (with_run old at source from len) k d
      ≡ (if nat_le at k && nat_lt k (at + len) then get_or source (from + (k - at)) d else get_or old k d)
  get_or-with_run k d = ⊎_elim
      (λ (low : k < at). get_or_append_left (take at old) (take len (drop from source) ++ drop (at + len) old) d k
      (subst (λ n. k < n) (sym front_long) low)
      ∙ (get_or-take at old k d low ∙ sym (cond-false (nat_le at k && nat_lt k (at + len)) _ _ (low_test low))))
      (λ (high : at ≤ k).
      get_or-append_right (take at old) (take len (drop from source) ++ drop (at + len) old) at k d front_long high
      ∙ ⊎_elim
      (λ (within : k < at + len). get_or_append_left (take len (drop from source)) (drop (at + len) old) d
      (k - at) (subst (λ n. k - at < n) (sym run_long) (omega arith))
      ∙ (get_or-take len (drop from source) (k - at) d (omega arith) ∙ (get_or-drop from source (k - at) d
      ∙ sym (cond-true (nat_le at k && nat_lt k (at + len)) _ _ (run_test high within)))))
      (λ (past : at + len ≤ k).
      get_or-append_right (take len (drop from source)) (drop (at + len) old) len (k - at) d run_long (omega arith)
      ∙ (get_or-drop (at + len) old (k - at - len) d
      ∙ (ap (λ n. get_or old n d) (let same : at + len + (k - at - len) ≡ k = omega arith in same)
      ∙ sym (cond-false (nat_le at k && nat_lt k (at + len)) _ _ (past_test past)))))
      (cases_lt k (at + len)))
      (cases_lt k at)
    where
      low_test : k < at → (nat_le at k && nat_lt k (at + len)) ≡ false
      low_test low = grind (arith, nat_tests)

      run_test : at ≤ k → k < at + len → (nat_le at k && nat_lt k (at + len)) ≡ true
      run_test high within = grind (arith, nat_tests)

      past_test : at + len ≤ k → (nat_le at k && nat_lt k (at + len)) ≡ false
      past_test past = grind (arith, nat_tests)
