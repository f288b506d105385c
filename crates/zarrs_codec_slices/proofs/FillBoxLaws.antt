-- A box that is filled in its place, as a copy of the fill again and again.
use Rattle.std.proofs.Common.{◌≡◌, ℕ, zero, suc, ◌+◌, ◌-◌, ◌*◌, ◌/◌, ◌<◌, ◌≤◌, nat_le, ◌&&◌, Bool, true, false}
use Rattle.std.proofs.Common.{if◌then◌else◌, List, [], ◌∷◌, ◌++◌, length, get_or, take, drop, replicate, refl, sym, ap}
use Rattle.std.proofs.Common.{ap₂, ◌∙◌, subst, arith}
use Rattle.std.proofs.lemmas.Bool.{and_parts, leb-true, cond-false}
use Rattle.std.proofs.lemmas.List.{get_or-replicate}
use Rattle.std.proofs.Math.Seq.{take-append_seam, drop-append_seam}
use Rattle.std.proofs.Math.Nat.{add-mul, suc-mul, mul-le-mul_right, mul-le-mul_left, mul_comm, mul_assoc}
use Rattle.std.proofs.Math.Nat.{mul-div_cancel}
use Rattle.zarr_model.specs.Prelude.{Span, Region, count, contains, place, tuple_at, of_bytes}
use Rattle.zarr_model.proofs.RegionLaws.{place_below}
use Rattle.zarrs_array_subset.specs.Boxes.{is_within}
use Rattle.zarrs_data_type_bytes.specs.Pieces.{repeated}
use Rattle.zarrs_data_type_bytes.proofs.PieceLaws.{length-repeated}
use Rattle.zarrs_codec_slices.specs.Elements.{fixed_elements}
use Rattle.zarrs_codec_slices.specs.Filled.{Filled}
use Rattle.zarrs_codec_slices.specs.Overlap.{Copied, in_bytes, span_at, shared_from, shared_size, with_run}
use Rattle.zarrs_codec_slices.specs.Runs.{AreApart, IsSharedRun}
use Rattle.zarrs_codec_slices.proofs.CopyLaws.{CopiedRows, drop-span, shared_none, rows_start, rows_step, rows_end}
use Rattle.zarrs_codec_slices.proofs.ElementLaws.{count-in_bytes, of_elements, element_copied}
use Rattle.zarrs_codec_slices.proofs.RunLaws.{shared_room, shared_within, shared_copied}
use Rattle.zarrs_codec_slices.proofs.FixedLaws.{fills}

append_more : {A : Type 0} (xs ys zs : List A) → (xs ++ ys) ++ zs ≡ xs ++ (ys ++ zs)
append_more [] ys zs = refl
append_more (x ∷ xs) ys zs = ap (λ l. x ∷ l) (append_more xs ys zs)

append_none : {A : Type 0} (xs : List A) → xs ++ [] ≡ xs
append_none [] = refl
append_none (x ∷ xs) = ap (λ l. x ∷ l) (append_none xs)

repeated_more : (a b : ℕ) (fill : List ℕ) → repeated a fill ++ repeated b fill ≡ repeated (a + b) fill
repeated_more zero b fill = ap (λ n. repeated n fill) (let e : b ≡ 0 + b = omega arith in e)
repeated_more (suc a) b fill = append_more fill (repeated a fill) (repeated b fill)
    ∙ (ap (λ l. fill ++ l) (repeated_more a b fill) ∙ ap (λ n. repeated n fill)
    (let e : suc (a + b) ≡ suc a + b = omega arith in e))

-- a part of a repeated fill, from one of its elements on, is a repeated fill
pub repeated_part : (m from len : ℕ) (fill : List ℕ) → from + len ≤ m →
    take (len * length fill) (drop (from * length fill) (repeated m fill)) ≡ repeated len fill
repeated_part m from len fill fits =
    ap (λ l. take (len * length fill) (drop (from * length fill) l)) parts
    ∙ (ap (take (len * length fill)) (subst (λ n. drop n (repeated from fill
    ++ (repeated len fill ++ repeated (m - from - len) fill)) ≡ repeated len fill ++ repeated (m - from - len) fill)
    (length-repeated from fill) (drop-append_seam (repeated from fill)
    (repeated len fill ++ repeated (m - from - len) fill)))
    ∙ subst (λ n. take n (repeated len fill ++ repeated (m - from - len) fill) ≡ repeated len fill)
    (length-repeated len fill) (take-append_seam (repeated len fill) (repeated (m - from - len) fill)))
  where
    parts : repeated m fill ≡ repeated from fill ++ (repeated len fill ++ repeated (m - from - len) fill)
    parts = ap (λ n. repeated n fill) (let e : m ≡ from + (len + (m - from - len)) = omega (arith, fits) in e)
        ∙ (sym (repeated_more from (len + (m - from - len)) fill)
        ∙ ap (λ l. repeated from fill ++ l) (sym (repeated_more len (m - from - len) fill)))

-- a fill for each element of a box
repeated_long : (box : Region) (fill : List ℕ) → length (repeated (count box) fill) ≡ count (in_bytes (length fill) box)
repeated_long box fill = length-repeated (count box) fill ∙ sym (count-in_bytes (length fill) box)

-- some more elements are filled from those that are
module _ (fill mid : List ℕ) (filled more : ℕ) (done : take (filled * length fill) mid ≡ repeated filled fill)
    (fewer : more ≤ filled) where
  abbrev size : ℕ
  size = length fill

  more_part : take (more * size) mid ≡ repeated more fill
  more_part = sym (take_shorter (more * size) (filled * size) mid (mul-le-mul_right size fewer))
      ∙ (ap (take (more * size)) done ∙ (ap (λ m. take (more * size) (drop m (repeated filled fill)))
      (let e : 0 ≡ 0 * size = omega arith in e)
      ∙ repeated_part filled 0 more fill (omega (arith, fewer))))
    where
      take_shorter : {A : Type 0} (a b : ℕ) (l : List A) → a ≤ b → take a (take b l) ≡ take a l
      take_shorter zero b l h = refl
      take_shorter (suc a) zero l h = absurd (omega arith)
      take_shorter (suc a) (suc b) [] h = refl
      take_shorter (suc a) (suc b) (x ∷ l) h = ap (λ m. x ∷ m) (take_shorter a b l (omega arith))

  pub filled_more : (new : List ℕ) → new ≡ with_run mid (filled * size) mid 0 (more * size) →
      take ((filled + more) * size) new ≡ repeated (filled + more) fill
  filled_more new is =
      ap (take ((filled + more) * size)) (is ∙ (ap₂ (λ a b. a ++ (b ++ rest)) done more_part
      ∙ (sym (append_more (repeated filled fill) (repeated more fill) rest)
      ∙ ap (λ l. l ++ rest) (repeated_more filled more fill))))
      ∙ subst (λ m. take m (repeated (filled + more) fill ++ rest) ≡ repeated (filled + more) fill)
      (length-repeated (filled + more) fill) (take-append_seam (repeated (filled + more) fill) rest)
    where
      rest : List ℕ
      rest = drop (filled * size + more * size) mid

pub more_fits : (filled more all n long : ℕ) → filled + more ≤ all → long ≡ all * n → filled * n + more * n ≤ long
more_fits filled more all n long h is =
    let rows : (filled + more) * n ≤ all * n = mul-le-mul_right n h in
    omega (arith, rows, add-mul filled more n, is)

-- a box in another has its rank
pub within_rank : (box target : Region) → is_within box target ≡ true → length box ≡ length target
within_rank [] [] h = refl
within_rank [] (b ∷ target) h = cc
within_rank (a ∷ box) [] h = cc
within_rank (a ∷ box) (b ∷ target) h = ap suc (within_rank box target
    (and_parts (nat_le b.start a.start && nat_le (a.start + a.size) (b.start + b.size)) (is_within box target) h).1)

-- and no more elements
pub inside_fewer : (box target : Region) → is_within box target ≡ true → count box ≤ count target
inside_fewer [] [] h = omega arith
inside_fewer [] (b ∷ target) h = cc
inside_fewer (a ∷ box) [] h = cc
inside_fewer (a ∷ box) (b ∷ target) h =
    let parts = and_parts (nat_le b.start a.start && nat_le (a.start + a.size) (b.start + b.size))
    (is_within box target) h in
    let spans = and_parts (nat_le b.start a.start) (nat_le (a.start + a.size) (b.start + b.size)) parts.0 in
    let shorter : a.size ≤ b.size = omega (
      arith,
      leb-true b.start a.start spans.0,
      leb-true (a.start + a.size) (b.start + b.size) spans.1,
    ) in
    let rows : a.size * count box ≤ b.size * count box = mul-le-mul_right (count box) shorter in
    let columns : b.size * count box ≤ b.size * count target = mul-le-mul_left b.size
    (inside_fewer box target parts.1) in
    omega (arith, rows, columns)

-- of boxes that share nothing nothing is filled
pub apart_filled : {A : Type 0} (target box : Region) (fill : A) (old : List A) → AreApart target box →
    Filled target box fill old old
apart_filled target box fill old apart = record {
  as_long = refl;
  each = λ k d h. sym (cond-false (contains box (tuple_at target k)) _ _ (apart.each k h));
}

-- a copy of a fill again and again is a fill
pub of_fill : (target box : Region) (fill old new : List ℕ) → 0 < length fill → length old
    ≡ count target * length fill →
    Copied (in_bytes (length fill) target) (in_bytes (length fill) box) (repeated (count box) fill) old new →
    Filled target box (of_bytes fill) (fixed_elements (length fill) old) (fixed_elements (length fill) new)
of_fill target box fill old new some long copied = record {
  as_long = elements.as_long;
  each = λ k d h. elements.each k d h ∙ (ap (λ l. if contains box (tuple_at target k) then get_or l
      (place box (tuple_at target k)) d else get_or (fixed_elements (length fill) old) k d)
      (fills (length fill) some (count box) fill refl)
      ∙ turn k d (contains box (tuple_at target k)) refl);
}
  where
    elements : Copied target box (fixed_elements (length fill) (repeated (count box) fill))
        (fixed_elements (length fill) old) (fixed_elements (length fill) new)
    elements = of_elements (length fill) target box (repeated (count box) fill) old new some long
        (length-repeated (count box) fill) copied

    turn : (k : ℕ) (d : _) (b : Bool) → contains box (tuple_at target k) ≡ b →
        (if b then get_or (replicate (count box) (of_bytes fill)) (place box (tuple_at target k)) d else get_or
        (fixed_elements (length fill) old) k d)
        ≡ (if b then of_bytes fill else get_or (fixed_elements (length fill) old) k d)
    turn k d true is = get_or-replicate (count box) (place box (tuple_at target k)) (of_bytes fill) d
        (place_below box (tuple_at target k) is)
    turn k d false is = refl

-- the fill of what a box has of another one, from a dimension on
module _ (target box : Region) (axis : ℕ) (fill old : List ℕ) (rank : length target ≡ length box)
    (low : axis < length target)
    (long : length old ≡ count (in_bytes (length fill) (drop axis target))) where
  abbrev pub n : ℕ
  n = length fill

  abbrev pub t : Span
  t = span_at target axis

  abbrev pub s : Span
  s = span_at box axis

  abbrev pub rest : ℕ
  rest = count (drop (axis + 1) box)

  abbrev pub source : List ℕ
  source = repeated (count (drop axis box)) fill

  box_low : axis < length box
  box_low = omega (arith, low, rank)

  target_is : in_bytes n (drop axis target) ≡ t ∷ in_bytes n (drop (axis + 1) target)
  target_is = ap (in_bytes n) (drop-span target axis low)

  box_is : in_bytes n (drop axis box) ≡ s ∷ in_bytes n (drop (axis + 1) box)
  box_is = ap (in_bytes n) (drop-span box axis box_low)

  source_long : length source ≡ count (in_bytes n (drop axis box))
  source_long = repeated_long (drop axis box) fill

  pub fill_none : shared_size t s ≡ 0 → Copied (in_bytes n (drop axis target)) (in_bytes n (drop axis box)) source old
      old
  fill_none none = shared_none t s _ _ _ _ target_is box_is source old none

  pub fill_start : (at : ℕ) → at ≡ shared_from t s → CopiedRows (t.start + (at + 0)) (in_bytes n (drop axis target))
      (in_bytes n (drop axis box)) source old old
  fill_start at is = rows_start t s _ _ _ _ target_is box_is source old at is

  pub fill_end : (new : List ℕ) (at i : ℕ) → at ≡ shared_from t s → i ≡ shared_size t s →
      CopiedRows (t.start + (at + i)) (in_bytes n (drop axis target)) (in_bytes n (drop axis box)) source old new →
      Copied (in_bytes n (drop axis target)) (in_bytes n (drop axis box)) source old new
  fill_end new at i is i_is rows = rows_end t s _ _ _ _ target_is box_is source old new at i (shared_size t s) is refl
      i_is rows

  pub fill_step : (mid row : List ℕ) (at i target_row to : ℕ) → at ≡ shared_from t s → i < shared_size t s →
      target_row ≡ length old / t.size → to ≡ (at + i) * target_row →
      CopiedRows (t.start + (at + i)) (in_bytes n (drop axis target)) (in_bytes n (drop axis box)) source old mid →
      Copied (in_bytes n (drop (axis + 1) target)) (in_bytes n (drop (axis + 1) box)) (repeated rest fill)
      (take (to + target_row - to) (drop to mid)) row →
      CopiedRows (t.start + (at + (i + 1))) (in_bytes n (drop axis target)) (in_bytes n (drop axis box)) source old
      (take to mid ++ (row ++ drop (to + target_row - to) (drop to mid)))
  fill_step mid row at i target_row to is below row_is to_is rows copied =
      rows_step t s _ _ _ _ target_is box_is source old mid row at (shared_from s t) (shared_size t s) i target_row
      (length source / s.size) to (at_source * (length source / s.size))
      is refl refl below long source_long row_is refl to_is refl rows
      (subst (λ l. Copied (in_bytes n (drop (axis + 1) target)) (in_bytes n (drop (axis + 1) box)) l
      (take (to + target_row - to) (drop to mid)) row) (sym part) copied)
    where
      at_source : ℕ
      at_source = shared_from s t + i

      rows_are : count (drop axis box) ≡ s.size * rest
      rows_are = ap count (drop-span box axis box_low)

      source_row : length source / s.size ≡ rest * n
      source_row = ap (λ m. m / s.size) (length-repeated (count (drop axis box)) fill ∙ (ap (λ m. m * n) rows_are
          ∙ (mul_assoc s.size rest n ∙ mul_comm s.size (rest * n))))
          ∙ mul-div_cancel (rest * n) (let e : 0 < s.size = omega (arith, below) in e)

      from_is : at_source * (length source / s.size) ≡ at_source * rest * n
      from_is = ap (λ b. at_source * b) source_row ∙ sym (mul_assoc at_source rest n)

      fits : at_source * rest + rest ≤ count (drop axis box)
      fits = let more : suc at_source * rest ≤ s.size * rest = mul-le-mul_right rest
          (let one : suc at_source ≤ s.size = omega (arith, below) in one) in
          omega (arith, more, suc-mul at_source rest, rows_are)

      part : take (at_source * (length source / s.size) + length source /
          s.size - at_source * (length source / s.size)) (drop (at_source * (length source / s.size)) source)
          ≡ repeated rest fill
      part = ap₂ (λ a b. take a (drop b source)) (gone (at_source * (length source / s.size)) (length source / s.size)
          ∙ source_row) from_is
          ∙ repeated_part (count (drop axis box)) (at_source * rest) rest fill fits
        where
          gone : (a b : ℕ) → a + b - a ≡ b
          gone a b = omega arith

-- a run that is filled
module _ (target box : Region) (axis at to from len : ℕ) (at_is : at ≡ axis) (rank : length target ≡ length box)
    (run : IsSharedRun target box axis to from len)
    (fill old : List ℕ) (long : length old ≡ count (in_bytes (length fill) (drop at target))) where
  abbrev filling : List ℕ
  filling = repeated (count (drop at box)) fill

  pub fill_run_room : (to + len) * length fill ≤ length old
  fill_run_room = shared_room target box axis at to from len at_is rank run (length fill) filling old long
      (repeated_long (drop at box) fill)

  pub fill_run_done : (new : List ℕ) → new ≡ take (to * length fill) old
      ++ (repeated len fill ++ drop (to * length fill + len * length fill) old) →
      Copied (in_bytes (length fill) (drop at target)) (in_bytes (length fill) (drop at box)) filling old new
  fill_run_done new is =
      subst (λ l. Copied (in_bytes (length fill) (drop at target)) (in_bytes (length fill) (drop at box)) filling old l)
      (ap (λ part. take (to * length fill) old ++ (part ++ drop (to * length fill + len * length fill) old))
      (repeated_part (count (drop at box)) from len fill (shared_within target box axis at to from len at_is rank
      run)) ∙ sym is)
      (shared_copied target box axis at to from len at_is rank run (length fill) filling old long
      (repeated_long (drop at box) fill))

-- a box of no dimension is filled
pub fill_one : (target box : Region) (fill old : List ℕ) → 0 < length fill → length target ≡ 0 → length box
    ≡ length target → length old ≡ count target * length fill →
    Filled target box (of_bytes fill) (fixed_elements (length fill) old) (fixed_elements (length fill) fill)
fill_one [] [] fill old some none rank long =
    of_fill [] [] fill old fill some long (subst (λ l. Copied (in_bytes (length fill) []) (in_bytes (length fill) [])
    l old fill) (sym (append_none fill))
    (element_copied (length fill) 0 [] [] fill old (omega arith) (omega arith) (omega arith) (omega (arith, long))))
fill_one [] (s ∷ box) fill old some none rank long = absurd (omega (arith, rank))
fill_one (t ∷ target) box fill old some none rank long = absurd (omega (arith, none))
