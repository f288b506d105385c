-- The pieces of a region, and the ranges of its runs.
use Rattle.std.proofs.Common.{◌≡◌, ℕ, zero, suc, ◌+◌, ◌*◌, ◌<◌, ◌≤◌, Bool, true, false, ◌&&◌, nat_le, if◌then◌else◌}
use Rattle.std.proofs.Common.{List, [], ◌∷◌, ◌++◌, map, Some, None, refl, sym, ap, ap₂, ◌∙◌, subst, arith}
use Rattle.std.specs.List.{list_all, range_with_len, AllByRecursion}
use Rattle.std.proofs.lemmas.Bool.{and_parts, leb-true, le-leb}
use Rattle.std.proofs.lemmas.List.Elements.{recursion_from_All}
use Rattle.std.proofs.Math.Nat.{mul-le-mul_right}
use Rattle.zarrs_codec_traits.specs.Prelude.{Span, Region, ends_within, tuples, linear_index, first_invalid}
use Rattle.zarr_model.specs.Parts.{holds_pieces}
use Rattle.zarrs_chunk_grid_iterators.specs.Runs.{runs, joined}
use Rattle.zarrs_chunk_grid_iterators.proofs.BoxFacts.{box_joins}
use Rattle.zarrs_chunk_grid_iterators.proofs.RunCover.{covers_least}
use Rattle.zarr_codecs_to_bytes.specs.Ranges.{run_range, run_ranges}

module _ (n long : ℕ) where
  piece_fits : ℕ → Bool
  piece_fits place = nat_le ((place + 1) * n) long

  all_map : {A : Type 0} (f : A → ℕ) (xs : List A) →
      list_all piece_fits (map f xs) ≡ list_all (λ x. piece_fits (f x)) xs
  all_map f [] = refl
  all_map f (x ∷ xs) = ap (λ (b : Bool). piece_fits (f x) && b) (all_map f xs)

  all_append : (xs ys : List ℕ) → list_all piece_fits (xs ++ ys) ≡ (list_all piece_fits xs && list_all piece_fits ys)
  all_append [] ys = refl
  all_append (x ∷ xs) ys = ap (λ (b : Bool). piece_fits x && b) (all_append xs ys)
      ∙ assoc (piece_fits x) (list_all piece_fits xs) (list_all piece_fits ys)
    where
      assoc : (a b c : Bool) → (a && (b && c)) ≡ ((a && b) && c)
      assoc true b c = refl
      assoc false b c = refl

  -- a run whose end lies within the bytes
  run_held : (a k : ℕ) → (a + k) * n ≤ long → list_all piece_fits (range_with_len a k) ≡ true
  unfolding piece_fits
  run_held a zero fits = refl
  run_held a (suc k) fits =
      let high : (a + 1) * n ≤ (a + suc k) * n =
      mul-le-mul_right n (let more : a + 1 ≤ a + suc k = omega arith in more) in
      let rest : (a + 1 + k) * n ≤ long = ap_le (a + suc k) (a + 1 + k) (omega arith) fits in
      ap₂ (λ (x y : Bool). x && y) (le-leb _ _ (omega (arith, high, fits))) (run_held (a + 1) k rest)
    where
      ap_le : (x y : ℕ) → x ≡ y → x * n ≤ long → y * n ≤ long
      ap_le x y e h = subst (λ (m : ℕ). m * n ≤ long) e h

  -- and the other way round
  run_end : (a k : ℕ) → 0 < k → list_all piece_fits (range_with_len a k) ≡ true → (a + k) * n ≤ long
  unfolding piece_fits
  run_end a zero some all = absurd (omega (arith, some))
  run_end a (suc zero) some all = leb-true _ _ (and_parts (nat_le ((a + 1) * n) long) true all).0
  run_end a (suc (suc k)) some all =
      let rest : (a + 1 + suc k) * n ≤ long = run_end (a + 1) (suc k) (omega arith)
      (and_parts (nat_le ((a + 1) * n) long) (list_all piece_fits (range_with_len (a + 1) (suc k))) all).1 in
      subst (λ (m : ℕ). m * n ≤ long) (let e : a + 1 + suc k ≡ a + suc (suc k) = omega arith in e) rest

  spans_held : (spans : List Span) → first_invalid long (map (run_range n) spans) ≡ None →
      list_all piece_fits (joined spans) ≡ true
  spans_held [] within = refl
  spans_held (s ∷ spans) within =
      go (nat_le (s.start * n + s.size * n) long) refl within (λ rest. spans_held spans rest)
    where
      go : (b : Bool) → nat_le (s.start * n + s.size * n) long ≡ b →
          (if b then first_invalid long (map (run_range n) spans) else Some (run_range n s)) ≡ None →
          (first_invalid long (map (run_range n) spans) ≡ None → list_all piece_fits (joined spans) ≡ true) →
          list_all piece_fits (joined (s ∷ spans)) ≡ true
      go false is within others = cc
      go true is within others =
          let fits : s.start * n + s.size * n ≤ long = leb-true _ _ is in
          all_append (range_with_len s.start s.size) (joined spans)
          ∙ ap₂ (λ (x y : Bool). x && y) (run_held s.start s.size (omega (arith, fits))) (others within)

  spans_valid : (spans : List Span) → AllByRecursion (λ span. 0 < span.size) spans →
      list_all piece_fits (joined spans) ≡ true → first_invalid long (map (run_range n) spans) ≡ None
  spans_valid [] some all = refl
  spans_valid (s ∷ spans) some all =
      let parts = and_parts (list_all piece_fits (range_with_len s.start s.size)) (list_all piece_fits (joined spans))
      (sym (all_append (range_with_len s.start s.size) (joined spans)) ∙ all) in
      let fits : (s.start + s.size) * n ≤ long = run_end s.start s.size some.0 parts.0 in
      let room : s.start * n + s.size * n ≤ long = omega (arith, fits) in
      ap (λ (b : Bool). if b then first_invalid long (map (run_range n) spans) else Some (run_range n s))
      (le-leb _ _ room) ∙ spans_valid spans some.1 parts.1

  -- where the ranges of a box's runs lie within bytes its pieces do
  pub ranges_held : (shape : List ℕ) (box : Region) → ends_within box shape ≡ true →
      first_invalid long (run_ranges n shape box) ≡ None → holds_pieces n shape box long ≡ true
  unfolding piece_fits
  ranges_held shape box inside within =
      sym (all_map (linear_index shape) (tuples box))
      ∙ (ap (list_all piece_fits) (sym (box_joins box shape inside)) ∙ spans_held (runs shape box) within)

  -- and where its pieces do the ranges do
  pub pieces_valid : (shape : List ℕ) (box : Region) → ends_within box shape ≡ true →
      holds_pieces n shape box long ≡ true → first_invalid long (run_ranges n shape box) ≡ None
  unfolding piece_fits
  pieces_valid shape box inside held =
      spans_valid (runs shape box)
      (recursion_from_All (λ span. 0 < span.size) (runs shape box) (covers_least shape box inside).least.cover.nonempty)
      (ap (list_all piece_fits) (box_joins box shape inside) ∙ (all_map (linear_index shape) (tuples box) ∙ held))
