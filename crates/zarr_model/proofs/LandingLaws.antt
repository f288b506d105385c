-- Where an index lands among lengths laid one after another.
use Rattle.std.proofs.Common.{◌≡◌, ℕ, suc, ◌+◌, ◌-◌, ◌<◌, ◌≤◌, nat_le, cond, true, false, List, [], ◌∷◌, length, take}
use Rattle.std.proofs.Common.{sum, slice_index, refl, sym, ap, ap₂, ◌∙◌, subst, arith, ⊎_elim}
use Rattle.std.specs.List.{AllByRecursion, AllZip}
use Rattle.std.proofs.lemmas.Bool.{and_parts, le-leb, leb-true, cases_lt, false_from_ne_true}
use Rattle.zarr_model.specs.Prelude.{boundary_axis, boundary_grid, CutsLength, CoversShape, starts_from, cuts, are_cut}
use Rattle.zarr_model.specs.Prelude.{reached, chunk_at}
use Rattle.zarr_model.proofs.GridLaws.{ReachesLength, boundary_axis-cuts, boundary_grid-covers}
use Rattle.zarr_model.proofs.LaidLaws.{AllPositive, cuts_positive, cuts_reach, sum-cons}
use Rattle.zarr_model.proofs.AxisLaws.{Finds}

not_reached : (start index : ℕ) → index < start → nat_le start index ≡ false
not_reached start index h = false_from_ne_true (nat_le start index) (λ t. let le : start ≤ index =
    leb-true start index t in absurd (omega arith))

none_reached : (a : ℕ) (lengths : List ℕ) (index : ℕ) → index < a → reached index (starts_from a lengths) ≡ 0
none_reached a [] index h = refl
none_reached a (n ∷ lengths) index h = ap₂ (λ b r. cond b 1 0 + r) (not_reached a index h)
    (none_reached (a + n) lengths index (omega arith))

-- no more starts are reached than indices lie before
pub few_reached : (a : ℕ) (lengths : List ℕ) (index : ℕ) → AllPositive lengths → a ≤ index + 1 →
    reached index (starts_from a lengths) + a ≤ index + 1
few_reached a [] index all le = omega arith
few_reached a (n ∷ lengths) index all le = ⊎_elim
    (λ (past : index < a). let none : reached index (starts_from a (n ∷ lengths)) ≡ 0 =
    none_reached a (n ∷ lengths) index past in omega arith)
    (λ (from : a ≤ index).
    let more : reached index (starts_from a (n ∷ lengths)) ≡ 1 + reached index (starts_from (a + n) lengths) =
    ap (λ b. cond b 1 0 + reached index (starts_from (a + n) lengths)) (le-leb a index from) in
    let some : 0 < n = all 0 (omega arith) in ⊎_elim
    (λ (end : index < a + n). let none : reached index (starts_from (a + n) lengths) ≡ 0 =
    none_reached (a + n) lengths index end in omega arith)
    (λ (on : a + n ≤ index). let rest : reached index (starts_from (a + n) lengths) + (a + n) ≤ index + 1 =
    few_reached (a + n) lengths index (λ k h. all (suc k) (omega arith)) (omega arith) in omega arith)
    (cases_lt index (a + n)))
    (cases_lt index a)

pub chunk_below : (lengths : List ℕ) (index : ℕ) → AllPositive lengths →
    chunk_at (starts_from 0 lengths) index ≤ index
chunk_below lengths index all = let few : reached index (starts_from 0 lengths) + 0 ≤ index + 1 =
    few_reached 0 lengths index all (omega arith) in omega arith

pub record Lands (a : ℕ) (lengths : List ℕ) (index chunk : ℕ) : Type 0 where
  pub counted : chunk < length lengths
  pub low : a + sum (take chunk lengths) ≤ index
  pub high : index < a + sum (take chunk lengths) + slice_index lengths chunk

pub lands : (a : ℕ) (lengths : List ℕ) (index : ℕ) → a ≤ index → index < a + sum lengths →
    (0 < reached index (starts_from a lengths)) × Lands a lengths index (reached index (starts_from a lengths) - 1)
lands a [] index low high = absurd (omega arith)
lands a (n ∷ lengths) index low high = ⊎_elim
    (λ (here : index < a + n).
    let one : reached index (starts_from a (n ∷ lengths)) ≡ 1 = ap₂ (λ b r. cond b 1 0 + r) (le-leb a index low)
    (none_reached (a + n) lengths index here) in (
      omega (arith, one),
      subst (Lands a (n ∷ lengths) index) (ap (λ r. r - 1) (sym one))
          (record { counted = omega arith; low = omega arith; high = omega (arith, here) }),
    ))
    (λ (later : a + n ≤ index).
    let rest = lands (a + n) lengths index later (omega (arith, high, sum-cons n lengths)) in
    let r = reached index (starts_from (a + n) lengths) in
    let more : reached index (starts_from a (n ∷ lengths)) ≡ suc r = ap (λ b. cond b 1 0 + r) (le-leb a index low)
    ∙ (let e : 1 + r ≡ suc r = omega arith in e) in
    let next : reached index (starts_from a (n ∷ lengths)) - 1 ≡ suc (r - 1) = omega (arith, more, rest.0) in (
      omega (arith, more),
      subst (Lands a (n ∷ lengths) index) (sym next) (record {
        counted = omega (arith, rest.1.counted);
        low = omega (arith, rest.1.low, sum-cons n (take (r - 1) lengths));
        high = omega (arith, rest.1.high, sum-cons n (take (r - 1) lengths));
      }),
    ))
    (cases_lt index (a + n))

positive_each : (lengths : List ℕ) → AllPositive lengths → AllByRecursion (λ n. 0 < n) lengths
positive_each [] all = tt
positive_each (n ∷ lengths) all = (all 0 (omega arith), positive_each lengths (λ k h. all (suc k) (omega arith)))

-- lengths that cut a dimension are a grid over it, and an index is found in it
pub cuts_reaches : (n : ℕ) (lengths : List ℕ) → cuts n lengths ≡ true → ReachesLength n lengths
cuts_reaches n lengths cut = record {
  each = positive_each lengths (cuts_positive n lengths cut);
  reaches =
      cuts_reach n lengths cut;
}

pub cuts_axis : (n : ℕ) (lengths : List ℕ) → cuts n lengths ≡ true → CutsLength n (boundary_axis lengths)
cuts_axis n lengths cut = boundary_axis-cuts n lengths (cuts_reaches n lengths cut)

pub finds_chunk : (n : ℕ) (lengths : List ℕ) → cuts n lengths ≡ true →
    Finds n (boundary_axis lengths) (chunk_at (starts_from 0 lengths))
finds_chunk n lengths cut = record {
  found = λ index below.
      let at : Lands 0 lengths index (chunk_at (starts_from 0 lengths) index) =
      (lands 0 lengths index (omega arith) (let reach : n ≤ sum lengths = cuts_reach n lengths cut in omega arith)).1
      in
      (at.counted, omega (arith, at.low), omega (arith, at.high));
}

pub are_cut_cover : (shape : List ℕ) (lengths : List (List ℕ)) → are_cut shape lengths ≡ true →
    CoversShape shape (boundary_grid lengths)
are_cut_cover shape lengths e = boundary_grid-covers shape lengths (go shape lengths e)
  where
    go : (ns : List ℕ) (ls : List (List ℕ)) → are_cut ns ls ≡ true → AllZip ReachesLength ns ls
    go [] [] e = tt
    go [] (l ∷ ls) e = cc
    go (n ∷ ns) [] e = cc
    go (n ∷ ns) (l ∷ ls) e = let parts = and_parts (cuts n l) (are_cut ns ls) e
        in (cuts_reaches n l parts.0, go ns ls parts.1)
