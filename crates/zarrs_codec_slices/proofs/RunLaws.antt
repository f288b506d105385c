-- Runs of neighbouring elements that two boxes share.
use Rattle.std.proofs.Common.{◌≡◌, ℕ, zero, suc, ◌+◌, ◌-◌, ◌*◌, ◌/◌, ◌%◌, ◌^◌, ◌<◌, ◌≤◌, ◌==◌, nat_le, nat_lt, ◌&&◌}
use Rattle.std.proofs.Common.{true, false, if◌then◌else◌, List, [], ◌∷◌, length, get_or, drop, refl, sym, ap, ap₂, ◌∙◌}
use Rattle.std.proofs.Common.{subst, subst₂, arith, ⊎_elim}
use Rattle.std.proofs.lemmas.Bool.{and_parts, cases_lt, cond-true, cond-false, false_from_ne_true, true≢false}
use Rattle.std.proofs.lemmas.Bool.Decides.{nat_tests}
use Rattle.std.proofs.lemmas.Nat.{div_below, mod_below}
use Rattle.std.proofs.Math.Nat.{add-mul, div-add-mod', suc-mul, mul-le-mul_right, mul-le-mul_left, mul_comm, mul_assoc}
use Rattle.zarr_model.specs.Prelude.{Span, Region, count, contains, is_in, tuple_at}
use Rattle.zarr_model.proofs.RegionLaws.{positive_parts, positive_factor, place_below, in_span, span_in}
use Rattle.zarr_model.proofs.RegionLaws.{contains-tuple_at, place-tuple_at, ends_of_span}
use Rattle.zarrs_codec_slices.specs.Elements.{fixed_elements}
use Rattle.zarrs_codec_slices.specs.Overlap.{Copied, in_bytes, span_at, shared_from, shared_size, with_run}
use Rattle.zarrs_codec_slices.specs.Runs.{AreApart, IsRunAxis, IsSharedRun}
use Rattle.zarrs_codec_slices.proofs.CopyLaws.{drop-span, length-with_run, get_or-with_run}
use Rattle.zarrs_codec_slices.proofs.ElementLaws.{count-in_bytes, of_elements, element_copied}

-- the dimensions from an axis on have no more elements than all of them
part_below : (region : Region) (axis : ℕ) → 0 < count region → count (drop axis region) ≤ count region
part_below [] zero some = omega arith
part_below [] (suc axis) some = omega arith
part_below (span ∷ region) zero some = omega arith
part_below (span ∷ region) (suc axis) some =
    let parts = positive_parts span region some in
    let rows : 1 * count region ≤ span.size * count region = mul-le-mul_right (count region)
    (let one : 1 ≤ span.size = omega (arith, parts.0) in one) in
    omega (arith, part_below region axis parts.1, rows)

-- and so have some of an axis' indices
pub indices_fit : (region : Region) (axis m : ℕ) → axis < length region → 0 < count region →
    m ≤ (span_at region axis).size →
    m * count (drop (axis + 1) region) ≤ count region
indices_fit region axis m low some fits =
    let rows : m * count (drop (axis + 1) region) ≤ (span_at region axis).size * count
    (drop (axis + 1) region) = mul-le-mul_right (count (drop (axis + 1) region)) fits in
    omega (arith, rows, ap count (drop-span region axis low), part_below region axis some)

same_span : (a b : Span) → ((a.start == b.start) && (a.size == b.size)) ≡ true → a ≡ b
same_span a b h =
    let parts = and_parts (a.start == b.start) (a.size == b.size) h in
    ap₂ (λ x y. record { start = x; size = y }) (same a.start b.start parts.0) (same a.size b.size parts.1)
  where
    same : (x y : ℕ) → (x == y) ≡ true → x ≡ y
    same x y e = grind (arith, nat_tests)

-- two boxes are the same after one axis more, as long as they are the same in it too
module _ (target source : Region) (axis n : ℕ) (rank : length target ≡ length source)
    (run : IsRunAxis target source axis n) where
  pub axis_room : 0 < count target → n * (span_at target axis).size ≤ count target
  axis_room some =
      omega (
        arith,
        indices_fit target axis (span_at target axis).size run.in_range some (omega arith),
        mul_comm n (span_at target axis).size,
        ap (λ m. (span_at target axis).size * m) run.num_elements_is,
      )

  pub axis_step : 0 < axis → (((span_at target axis).start == (span_at source axis).start) &&
      ((span_at target axis).size == (span_at source axis).size)) ≡ true →
      IsRunAxis target source (axis - 1) (n * (span_at target axis).size)
  axis_step some same = record {
    in_range = omega (arith, run.in_range);
    same_after = ap (λ m. drop m target) back ∙ (drop-span target axis run.in_range
        ∙ (ap₂ (λ a b. a ∷ b) (same_span (span_at target axis) (span_at source axis) same) run.same_after
        ∙ (sym (drop-span source axis (omega (arith, run.in_range, rank))) ∙ ap (λ m. drop m source) (sym back))));
    num_elements_is = mul_comm n (span_at target axis).size ∙
        (ap (λ m. (span_at target axis).size * m) run.num_elements_is
        ∙ (sym (ap count (drop-span target axis run.in_range)) ∙ ap (λ m. count (drop m target)) (sym back)));
  }
    where
      back : axis - 1 + 1 ≡ axis
      back = omega (arith, some)

-- boxes that share no index of one dimension share no tuple
pub apart_at : (target source : Region) (axis : ℕ) → axis < length target → axis < length source →
    shared_size (span_at target axis) (span_at source axis) ≡ 0 → AreApart target source
apart_at target source axis low source_low none = record {
  each = λ k h. false_from_ne_true (contains source (tuple_at target k))
      (never target source axis low source_low none k h);
}
  where
    never : (target source : Region) (axis : ℕ) → axis < length target → axis < length source →
        shared_size (span_at target axis) (span_at source axis) ≡ 0 →
        (k : ℕ) → k < count target → contains source (tuple_at target k) ≡ true → ⊥
    never [] source axis low source_low none k h inside = absurd (omega arith)
    never (t ∷ target) [] axis low source_low none k h inside = absurd (omega arith)
    never (t ∷ target) (s ∷ source) zero low source_low none k h inside =
        let near = in_span (t.start + k / count target) s (and_parts (is_in (t.start + k / count target) s)
        (contains source (tuple_at target (k % count target))) inside).0 in
        let row : k / count target < t.size = div_below k (count target) t.size
        (positive_factor k t.size (count target) h) h in
        absurd (omega (arith, near.0, near.1, row, none))
    never (t ∷ target) (s ∷ source) (suc axis) low source_low none k h inside =
        never target source axis (omega arith) (omega arith) none (k % count target)
        (mod_below k (count target) (positive_factor k t.size (count target) h))
        (and_parts (is_in (t.start + k / count target) s) (contains source (tuple_at target (k % count target)))
        inside).1

-- so do boxes one of which has none
pub apart_none : (target source : Region) → count source ≡ 0 → AreApart target source
apart_none target source none = record {
  each = λ k h. false_from_ne_true (contains source (tuple_at target k))
      (λ inside. absurd (omega (arith, place_below source (tuple_at target k) inside, none)));
}

pub apart_nothing : (target source : Region) → count target ≡ 0 → AreApart target source
apart_nothing target source none = record { each = λ k h. absurd (omega (arith, h, none)) }

-- then nothing is copied
pub apart_copied : {A : Type 0} (target source : Region) (from old : List A) → AreApart target source →
    Copied target source from old old
apart_copied target source from old apart = record {
  as_long = refl;
  each = λ k d h. sym (cond-false (contains source (tuple_at target k)) _ _ (apart.each k h));
}

-- the run of some indices has some elements, as long as the box has some
pub run_some : (region : Region) (axis m n : ℕ) → axis < length region → 0 < count region → 0 < m → n
    ≡ count (drop (axis + 1) region) → 0 < m * n
run_some region axis m n low some more is =
    let all : 0 < count (drop axis region) = positive_rest region axis some in
    let rest : 0 < count (drop (axis + 1) region) = (positive_parts (span_at region axis) (drop (axis + 1) region)
    (subst (λ l. 0 < count l) (drop-span region axis low) all)).1 in
    let rows : 1 * n ≤ m * n = mul-le-mul_right n more in
    omega (arith, rest, rows, is)
  where
    positive_rest : (region : Region) (axis : ℕ) → 0 < count region → 0 < count (drop axis region)
    positive_rest [] zero some = omega arith
    positive_rest [] (suc axis) some = omega arith
    positive_rest (span ∷ region) zero some = some
    positive_rest (span ∷ region) (suc axis) some = positive_rest region axis (positive_parts span region some).1

-- some indices of the axis of the runs have no more elements than either box
module _ (target source : Region) (axis n : ℕ) (rank : length target ≡ length source)
    (run : IsRunAxis target source axis n) where
  pub some_fit : (m : ℕ) → m ≤ (span_at target axis).size → 0 < count target → m * n ≤ count target
  some_fit m fits some = omega (
    arith,
    indices_fit target axis m run.in_range some fits,
    ap (λ k. m * k) run.num_elements_is,
  )

  pub some_fit_source : (m : ℕ) → m ≤ (span_at source axis).size → 0 < count source → m * n ≤ count source
  some_fit_source m fits some =
      omega (
        arith,
        indices_fit source axis m (omega (arith, run.in_range, rank)) some fits,
        ap (λ k. m * k) (run.num_elements_is ∙ ap count run.same_after),
      )

-- a run of some indices of a dimension, each of which has a whole box that both lists are over
module _ {A : Type 0} (t s : Span) (rest : Region) (source old : List A) (at from len : ℕ)
    (at_is : at ≡ shared_from t s) (from_is : from ≡ shared_from s t)
    (len_is : len ≡ shared_size t s) (some : 0 < len) (long : length old ≡ t.size * count rest)
    (source_long : length source ≡ s.size * count rest) where
  abbrev c : ℕ
  c = count rest

  room : (m size : ℕ) → m + len ≤ size → m * c + len * c ≤ size * c
  room m size fits = let rows : (m + len) * c ≤ size * c = mul-le-mul_right c fits in
      omega (arith, rows, add-mul m len c)

  run_room : at * c + len * c ≤ length old
  run_room = omega (arith, room at t.size (omega (arith, at_is, len_is, some)), long)

  run_enough : from * c + len * c ≤ length source
  run_enough = omega (arith, room from s.size (omega (arith, from_is, len_is, some)), source_long)

  run_copied : Copied (t ∷ rest) (s ∷ rest) source old (with_run old (at * c) source (from * c) (len * c))
  run_copied = record {
    as_long = length-with_run old source (at * c) (from * c) (len * c) run_room run_enough;
    each = λ k d h. let positive = positive_factor k t.size c h in
        get_or-with_run old source (at * c) (from * c) (len * c) run_room run_enough k d
        ∙ (in_rows k d (k / c) (k % c) (sym (div-add-mod' k c)) (mod_below k c positive)
        (div_below k c t.size positive h)
        ∙ ap₂ (λ b m. if is_in (t.start + k / c) s && b then get_or source ((t.start + k / c - s.start) * c + m)
        d else get_or old k d)
        (sym (contains-tuple_at rest (k % c) (mod_below k c positive)))
        (sym (place-tuple_at rest (k % c) (mod_below k c positive))));
  }
    where
      -- an element by its index q and its place r in the rest
      in_rows : (k : ℕ) (d : A) (q r : ℕ) → k ≡ q * c + r → r < c → q < t.size →
          (if nat_le (at * c) k && nat_lt k (at * c + len * c) then get_or source (from * c + (k - at * c)) d else
          get_or old k d) ≡
          (if is_in (t.start + q) s && true then get_or source ((t.start + q - s.start) * c + r) d else get_or old k d)
      in_rows k d q r k_is r_in q_in = ⊎_elim
          (λ (low : q < at). both_out (below low) (outside (λ near. omega (arith, near.0, low, at_is))))
          (λ (high : at ≤ q). ⊎_elim
          (λ (within : q < at + len). both_in high within)
          (λ (past : at + len ≤ q). both_out (above past) (outside
          (λ near. omega (arith, near.0, near.1, past, at_is, len_is, q_in))))
          (cases_lt q (at + len)))
          (cases_lt q at)
        where
          below : q < at → (nat_le (at * c) k && nat_lt k (at * c + len * c)) ≡ false
          below low =
              let rows : suc q * c ≤ at * c = mul-le-mul_right c (let less : suc q ≤ at = omega arith in less) in
              let small : k < at * c = omega (arith, rows, suc-mul q c, k_is, r_in) in
              test (at * c) (at * c + len * c) small
            where
              test : (a b : ℕ) → k < a → (nat_le a k && nat_lt k b) ≡ false
              test a b small = grind (arith, nat_tests)

          above : at + len ≤ q → (nat_le (at * c) k && nat_lt k (at * c + len * c)) ≡ false
          above past =
              let rows : (at + len) * c ≤ q * c = mul-le-mul_right c past in
              let large : at * c + len * c ≤ k = omega (arith, rows, add-mul at len c, k_is) in
              test (at * c) (at * c + len * c) large
            where
              test : (a b : ℕ) → b ≤ k → (nat_le a k && nat_lt k b) ≡ false
              test a b large = grind (arith, nat_tests)

          outside : ((s.start ≤ t.start + q) × (t.start + q < s.start + s.size) → ⊥) → (is_in (t.start + q) s && true)
              ≡ false
          outside never = false_from_ne_true (is_in (t.start + q) s && true)
              (λ yes. never (ends_of_span (t.start + q) s (and_parts (is_in (t.start + q) s) true yes).0))

          both_out : (nat_le (at * c) k && nat_lt k (at * c + len * c)) ≡ false → (is_in (t.start + q) s && true)
              ≡ false →
              (if nat_le (at * c) k && nat_lt k (at * c + len * c) then get_or source (from * c + (k - at * c)) d else
              get_or old k d) ≡
              (if is_in (t.start + q) s && true then get_or source ((t.start + q - s.start) * c + r) d else get_or old
              k d)
          both_out e f = cond-false (nat_le (at * c) k && nat_lt k (at * c + len * c)) _ _ e
              ∙ sym (cond-false (is_in (t.start + q) s && true) _ _ f)

          both_in : at ≤ q → q < at + len →
              (if nat_le (at * c) k && nat_lt k (at * c + len * c) then get_or source (from * c + (k - at * c)) d else
              get_or old k d) ≡
              (if is_in (t.start + q) s && true then get_or source ((t.start + q - s.start) * c + r) d else get_or old
              k d)
          both_in high within =
              let rows : at * c ≤ q * c = mul-le-mul_right c high in
              let more : suc q * c ≤ (at + len) * c = mul-le-mul_right c
              (let less : suc q ≤ at + len = omega arith in less) in
              let start : at * c ≤ k = omega (arith, rows, k_is) in
              let end : k < at * c + len * c = omega (arith, more, suc-mul q c, add-mul at len c, k_is, r_in) in
              cond-true (nat_le (at * c) k && nat_lt k (at * c + len * c)) _ _
              (test (at * c) (at * c + len * c) start end)
              ∙ (ap (λ m. get_or source m d) place_is
              ∙ sym (cond-true (is_in (t.start + q) s && true) _ _
              (ap (λ b. b && true) (span_in (t.start + q) s (omega (arith, at_is)) (omega (arith, at_is, len_is))))))
            where
              test : (a b : ℕ) → a ≤ k → k < b → (nat_le a k && nat_lt k b) ≡ true
              test a b low up = grind (arith, nat_tests)

              place_is : from * c + (k - at * c) ≡ (t.start + q - s.start) * c + r
              place_is =
                  let shift : t.start + q - s.start ≡ from + (q - at) = omega (arith, at_is, from_is, high) in
                  let apart : (q - at + at) * c ≡ (q - at) * c + at * c = add-mul (q - at) at c in
                  let whole : (q - at + at) * c ≡ q * c = ap (λ m. m * c)
                  (let e : q - at + at ≡ q = omega (arith, high) in e) in
                  let sum : (from + (q - at)) * c ≡ from * c + (q - at) * c = add-mul from (q - at) c in
                  let turned : (t.start + q - s.start) * c ≡ (from + (q - at)) * c = ap (λ m. m * c) shift in
                  omega (arith, apart, whole, sum, turned, k_is)

-- a shared run lies in the source
module _ (target source : Region) (axis at to from len : ℕ) (at_is : at ≡ axis) (rank : length target ≡ length source)
    (run : IsSharedRun target source axis to from len) where
  abbrev t : Span
  t = span_at target axis

  abbrev s : Span
  s = span_at source axis

  abbrev rest : ℕ
  rest = count (drop (axis + 1) target)

  shares : 0 < shared_size t s
  shares = positive_factor 0 rest (shared_size t s) (omega (
    arith,
    run.some,
    run.len_is,
    mul_comm (shared_size t s) rest,
  ))

  pub shared_within : from + len ≤ count (drop at source)
  shared_within = omega (
    arith,
    rows,
    run.from_is,
    run.len_is,
    add-mul (shared_from s t) (shared_size t s) rest,
    rows_are,
  )
    where
      rows : (shared_from s t + shared_size t s) * rest ≤ s.size * rest
      rows = mul-le-mul_right rest (let fits : shared_from s t + shared_size t s ≤ s.size = omega (arith, shares) in
          fits)

      rows_are : count (drop at source) ≡ s.size * rest
      rows_are = ap (λ m. count (drop m source)) at_is ∙ (ap count
          (drop-span source axis (omega (arith, run.in_range, rank))) ∙ ap (λ l. s.size * count l) (sym run.same_after))

  -- in elements of n bytes
  module _ (n : ℕ) (bytes old : List ℕ) (long : length old ≡ count (in_bytes n (drop at target)))
      (source_long : length bytes ≡ count (in_bytes n (drop at source))) where
    abbrev element : Region
    element = in_bytes n (drop (axis + 1) target)

    target_is : in_bytes n (drop at target) ≡ t ∷ element
    target_is = ap (λ m. in_bytes n (drop m target)) at_is ∙ ap (in_bytes n) (drop-span target axis run.in_range)

    source_is : in_bytes n (drop at source) ≡ s ∷ element
    source_is = ap (λ m. in_bytes n (drop m source)) at_is ∙
        (ap (in_bytes n) (drop-span source axis (omega (arith, run.in_range, rank)))
        ∙ ap (λ l. s ∷ in_bytes n l) (sym run.same_after))

    in_elements : (m k : ℕ) → k ≡ m * count (drop (axis + 1) target) → m * count element ≡ k * n
    in_elements m k is =
        ap (λ l. m * l) (count-in_bytes n (drop (axis + 1) target))
        ∙ (sym (mul_assoc m (count (drop (axis + 1) target)) n) ∙ ap (λ l. l * n) (sym is))

    to_is : shared_from t s * count element ≡ to * n
    to_is = in_elements (shared_from t s) to run.to_is

    from_is : shared_from s t * count element ≡ from * n
    from_is = in_elements (shared_from s t) from run.from_is

    len_is : shared_size t s * count element ≡ len * n
    len_is = in_elements (shared_size t s) len run.len_is

    pub shared_room : (to + len) * n ≤ length old
    shared_room = omega (
      arith,
      run_room t s element bytes old (shared_from t s) (shared_from s t) (shared_size t s) refl refl refl shares
          (long ∙ ap count target_is) (source_long ∙ ap count source_is),
      to_is,
      len_is,
      add-mul to len n,
    )

    pub shared_enough : (from + len) * n ≤ length bytes
    shared_enough = omega (
      arith,
      run_enough t s element bytes old (shared_from t s) (shared_from s t) (shared_size t s) refl refl refl shares
          (long ∙ ap count target_is) (source_long ∙ ap count source_is),
      from_is,
      len_is,
      add-mul from len n,
    )

    pub shared_copied : Copied (in_bytes n (drop at target)) (in_bytes n (drop at source)) bytes old
        (with_run old (to * n) bytes (from * n) (len * n))
    shared_copied =
        subst₂ (λ a b. Copied a b bytes old (with_run old (to * n) bytes (from * n) (len * n))) (sym target_is)
        (sym source_is)
        (subst (λ m. Copied (t ∷ element) (s ∷ element) bytes old (with_run old (to * n) bytes (from * n) m)) len_is
        (subst₂ (λ a b. Copied (t ∷ element) (s ∷ element) bytes old
        (with_run old a bytes b (shared_size t s * count element))) to_is from_is
        (run_copied t s element bytes old (shared_from t s) (shared_from s t) (shared_size t s) refl refl refl shares
        (long ∙ ap count target_is) (source_long ∙ ap count source_is))))

-- how many elements of n bytes some bytes are
module _ (n count long : ℕ) (is : long ≡ count * n) where
  pub counts_some : (long == 0) ≡ false → 0 < count
  counts_some e = above count is
    where
      above : (count : ℕ) → long ≡ count * n → 0 < count
      above zero none = let nothing : long ≡ 0 = none ∙ omega arith in let both : (long == 0)
          ≡ true = grind (arith, nat_tests) in absurd (true≢false (sym both ∙ e))
      above (suc count) some = omega arith

  pub counts_none : 0 < n → (long == 0) ≡ true → count ≡ 0
  counts_none some e = let rows : count * 1 ≤ count * n = mul-le-mul_left count some in let none : long
      ≡ 0 = grind (arith, nat_tests) in omega (arith, rows, none, is)

  pub count_fits : 0 < n → long < 2 ^ 64 → count < 2 ^ 64
  count_fits some fits = let rows : count * 1 ≤ count * n = mul-le-mul_left count some in omega (arith, rows, is, fits)

-- boxes of no dimension have one element
pub one_copied : (n : ℕ) (target source : Region) (from old : List ℕ) → 0 < n → length target ≡ 0 → length target
    ≡ length source →
    length old ≡ count target * n → length from ≡ count source * n →
    Copied target source (fixed_elements n from) (fixed_elements n old) (fixed_elements n from)
one_copied n target source from old some none rank long from_long =
    of_elements n target source from old from some long from_long
    (element_copied n 0 target source from old (omega (arith, none)) (omega (arith, none, rank))
    (from_long ∙ sym (count-in_bytes n source)) (long ∙ sym (count-in_bytes n target)))
