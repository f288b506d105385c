-- The chunks of a dimension that a span meets, where a chunk is found for each index.
use Rattle.std.proofs.Common.{◌≡◌, ℕ, zero, suc, ◌+◌, ◌-◌, ◌<◌, ◌≤◌, ◌&&◌, nat_lt, min, max, sym, ap, subst, arith}
use Rattle.std.proofs.Common.{⊎_elim}
use Rattle.std.proofs.lemmas.Bool.{and_parts, and_from, ltb-true, lt-ltb, cases_lt}
use Rattle.zarr_model.specs.Prelude.{Span, is_in, Axis, CutsLength}
use Rattle.zarr_model.proofs.Choices.{same_test}
use Rattle.zarr_model.proofs.RegionLaws.{span_in, ends_of_span}

-- for each index below a length, a chunk whose span has it
pub record Finds (n : ℕ) (axis : Axis) (at : ℕ → ℕ) : Type 0 where
  pub found : (index : ℕ) → index < n → (at index < axis.chunk_count) × ((axis.chunk_span (at index)).start ≤ index)
      × (index < (axis.chunk_span (at index)).start + (axis.chunk_span (at index)).size)

-- the chunks from that of a span's first index to that of its last
abbrev pub span_of_chunks : (ℕ → ℕ) → Span → Span
span_of_chunks at span = record { start = at span.start; size = at (span.start + span.size - 1) - at span.start + 1 }

module _ (n : ℕ) (axis : Axis) (cuts : CutsLength n axis) (at : ℕ → ℕ) (finds : Finds n axis at) where
  -- a chunk ends before each later one begins
  before : (part other : ℕ) → part < other → other < axis.chunk_count →
      (axis.chunk_span part).start + (axis.chunk_span part).size ≤ (axis.chunk_span other).start
  before part zero less within = absurd (omega arith)
  before part (suc other) less within = ⊎_elim
      (λ (earlier : part < other). omega (
        arith,
        before part other earlier (omega arith),
        cuts.next other within,
        cuts.positive other (omega arith),
      ))
      (λ (least : other ≤ part). let same : part ≡ other = omega arith in
      subst (λ k. (axis.chunk_span k).start + (axis.chunk_span k).size ≤ (axis.chunk_span (suc other)).start)
      (sym same) (omega (arith, cuts.next other within)))
      (cases_lt part other)

  -- so chunks that begin d indices apart at least are d apart at most
  apart : (d part : ℕ) → part + d < axis.chunk_count →
      (axis.chunk_span part).start + d ≤ (axis.chunk_span (part + d)).start
  apart zero part within = let e : (axis.chunk_span (part + 0)).start ≡ (axis.chunk_span part).start =
      ap (λ k. (axis.chunk_span k).start) (let s : part + 0 ≡ part = omega arith in s) in omega arith
  apart (suc d) part within =
      let rest : (axis.chunk_span part).start + d ≤ (axis.chunk_span (part + d)).start = apart d part (omega arith) in
      let step : (axis.chunk_span (suc (part + d))).start
      ≡ (axis.chunk_span (part + d)).start + (axis.chunk_span (part + d)).size =
      cuts.next (part + d) (omega arith) in
      let some : 0 < (axis.chunk_span (part + d)).size = cuts.positive (part + d) (omega arith) in
      let same : (axis.chunk_span (part + suc d)).start ≡ (axis.chunk_span (suc (part + d))).start =
      ap (λ k. (axis.chunk_span k).start) (let s : part + suc d ≡ suc (part + d) = omega arith in s) in
      omega arith

  -- later indices are in later chunks
  in_order : (i j : ℕ) → i ≤ j → j < n → at i ≤ at j
  in_order i j le below = ⊎_elim
      (λ (back : at j < at i).
      let ends : (axis.chunk_span (at j)).start + (axis.chunk_span (at j)).size ≤ (axis.chunk_span (at i)).start =
      before (at j) (at i) back (finds.found i (omega arith)).0 in
      absurd (omega (arith, (finds.found j below).2, (finds.found i (omega arith)).1)))
      (λ (fine : at i ≤ at j). fine)
      (cases_lt (at j) (at i))

  -- and no more of them than indices
  in_steps : (i j : ℕ) → i ≤ j → j < n → at j - at i ≤ j - i
  in_steps i j le below =
      let order : at i ≤ at j = in_order i j le below in
      let same : at i + (at j - at i) ≡ at j = omega arith in
      let fi = finds.found i (omega arith) in
      let fj = finds.found j below in ⊎_elim
      (λ (none : at j - at i < 1). omega arith)
      (λ (some : 1 ≤ at j - at i).
      let next : (axis.chunk_span (at i)).start + (axis.chunk_span (at i)).size ≤ (axis.chunk_span (suc (at i))).start
      = before (at i) (suc (at i)) (omega arith) (omega (arith, fj.0)) in
      let later : (axis.chunk_span (suc (at i))).start + (at j - at i - 1) ≤ (axis.chunk_span
      (suc (at i) + (at j - at i - 1))).start = apart (at j - at i - 1) (suc (at i)) (omega (arith, fj.0)) in
      let last : (axis.chunk_span (suc (at i) + (at j - at i - 1))).start ≡ (axis.chunk_span (at j)).start =
      ap (λ k. (axis.chunk_span k).start) (let s : suc (at i) + (at j - at i - 1) ≡ at j = omega arith in s) in
      omega (arith, fi.2, fj.1))
      (cases_lt (at j - at i) 1)

  -- a span inside meets exactly these chunks
  pub span_meets : (c : ℕ) (span : Span) → 0 < span.size → span.start + span.size ≤ n →
      is_in c (span_of_chunks at span)
      ≡ (is_in c (record { start = 0; size = axis.chunk_count }) && nat_lt (max (axis.chunk_span c).start span.start)
      (min ((axis.chunk_span c).start + (axis.chunk_span c).size) (span.start + span.size)))
  span_meets c span some end = same_test _ _
      (λ h.
      let e = ends_of_span c (span_of_chunks at span) h in
      let high : c ≤ at last = omega (arith, e.0, e.1, order) in
      let counted : c < axis.chunk_count = omega (arith, high, fl.0) in
      let begins : (axis.chunk_span c).start ≤ last = begins_by high in
      let ends : span.start < (axis.chunk_span c).start + (axis.chunk_span c).size = ends_past e.0 counted in
      and_from _ _ (span_in c (record { start = 0; size = axis.chunk_count }) (omega arith) (omega arith))
      (lt-ltb _ _ (omega (arith, some, cuts.positive c counted, begins, ends))))
      (λ h.
      let parts = and_parts (is_in c (record { start = 0; size = axis.chunk_count }))
      (nat_lt (max (axis.chunk_span c).start span.start)
      (min ((axis.chunk_span c).start + (axis.chunk_span c).size) (span.start + span.size))) h in
      let b = ends_of_span c (record { start = 0; size = axis.chunk_count }) parts.0 in
      let counted : c < axis.chunk_count = omega (arith, b.1) in
      let shared : max (axis.chunk_span c).start span.start < min
      ((axis.chunk_span c).start + (axis.chunk_span c).size) (span.start + span.size) = ltb-true _ _ parts.1 in
      let low : at span.start ≤ c = not_before counted (omega arith) in
      let high : c ≤ at last = not_behind counted (omega (arith, shared, some)) in
      span_in c (span_of_chunks at span) low (omega (arith, low, high)))
    where
      last : ℕ
      last = span.start + span.size - 1

      fs : (at span.start < axis.chunk_count) × ((axis.chunk_span (at span.start)).start ≤ span.start)
          × (span.start < (axis.chunk_span (at span.start)).start + (axis.chunk_span (at span.start)).size)
      fs = finds.found span.start (omega (arith, some, end))

      fl : (at (span.start + span.size - 1) < axis.chunk_count)
          × ((axis.chunk_span (at (span.start + span.size - 1))).start ≤ span.start + span.size - 1)
          × (span.start + span.size - 1 < (axis.chunk_span (at (span.start + span.size - 1))).start + (axis.chunk_span
          (at (span.start + span.size - 1))).size)
      fl = finds.found (span.start + span.size - 1) (omega (arith, some, end))

      order : at span.start ≤ at (span.start + span.size - 1)
      order = in_order span.start (span.start + span.size - 1) (omega (arith, some)) (omega (arith, some, end))

      begins_by : c ≤ at (span.start + span.size - 1) → (axis.chunk_span c).start ≤ span.start + span.size - 1
      begins_by high = ⊎_elim
          (λ (less : c < at (span.start + span.size - 1)). omega
          (arith, before c (at (span.start + span.size - 1)) less fl.0, fl.1))
          (λ (least : at (span.start + span.size - 1) ≤ c). subst
          (λ k. (axis.chunk_span k).start ≤ span.start + span.size - 1) (let s : at (span.start + span.size - 1)
          ≡ c = omega arith in s) fl.1)
          (cases_lt c (at (span.start + span.size - 1)))

      ends_past : at span.start ≤ c → c < axis.chunk_count →
          span.start < (axis.chunk_span c).start + (axis.chunk_span c).size
      ends_past low counted = ⊎_elim
          (λ (more : at span.start < c). omega (arith, before (at span.start) c more counted, fs.2))
          (λ (least : c ≤ at span.start). subst
          (λ k. span.start < (axis.chunk_span k).start + (axis.chunk_span k).size) (let s : at span.start ≡ c =
          omega arith in s) fs.2)
          (cases_lt (at span.start) c)

      not_before : c < axis.chunk_count → span.start < (axis.chunk_span c).start + (axis.chunk_span c).size →
          at span.start ≤ c
      not_before counted past = ⊎_elim
          (λ (less : c < at span.start). absurd (omega (arith, before c (at span.start) less fs.0, fs.1, past)))
          (λ (fine : at span.start ≤ c). fine)
          (cases_lt c (at span.start))

      not_behind : c < axis.chunk_count → (axis.chunk_span c).start ≤ span.start + span.size - 1 →
          c ≤ at (span.start + span.size - 1)
      not_behind counted early = ⊎_elim
          (λ (more : at (span.start + span.size - 1) < c). absurd
          (omega (arith, before (at (span.start + span.size - 1)) c more counted, fl.2, early)))
          (λ (fine : c ≤ at (span.start + span.size - 1)). fine)
          (cases_lt (at (span.start + span.size - 1)) c)

  pub span_within : (span : Span) → 0 < span.size → span.start + span.size ≤ n →
      (at span.start + (at (span.start + span.size - 1) - at span.start + 1) ≤ axis.chunk_count)
      × (at (span.start + span.size - 1) - at span.start + 1 ≤ span.size)
  span_within span some end =
      let order : at span.start ≤ at (span.start + span.size - 1) = in_order span.start (span.start + span.size - 1)
      (omega (arith, some)) (omega (arith, some, end)) in
      let fl : at (span.start + span.size - 1) < axis.chunk_count =
      (finds.found (span.start + span.size - 1) (omega (arith, some, end))).0 in
      let steps : at (span.start + span.size - 1) - at span.start ≤ span.start + span.size - 1 - span.start =
      in_steps span.start (span.start + span.size - 1) (omega (arith, some)) (omega (arith, some, end)) in
      (omega arith, omega (arith, some))
