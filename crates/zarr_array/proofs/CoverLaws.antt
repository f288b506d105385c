-- A chunk that a region covers: what they share is all of it.
use Rattle.std.proofs.Common.{◌≡◌, ℕ, ◌+◌, ◌-◌, ◌*◌, max, min, Bool, true, false, ◌==◌, not, if◌then◌else◌, List, []}
use Rattle.std.proofs.Common.{◌∷◌, length, Some, None, IsSome, unwrap_or, inl, refl, sym, ap, ap₂, ◌∙◌, subst, arith}
use Rattle.std.proofs.lemmas.Bool.{eq-eqb}
use Rattle.std.proofs.lemmas.Option.{same_Some}
use Rattle.zarrs_codec_traits.specs.Prelude.{Region, starts, sizes, count, whole, part_of_box}
use Rattle.zarrs_codec_traits.specs.Prelude.{kind, fixed_size, meaning, Options, Shown, raw_of}
use Rattle.zarrs_array_subset.specs.Boxes.{is_within, overlap_of, moved_back}
use Rattle.zarr_model.specs.Prelude.{Span, Description, counted, present_in}
use Rattle.zarr_model.proofs.BytesLaws.{length-meaning}
use Rattle.zarr_model.proofs.MeetingLaws.{shared_count}
use Rattle.zarr_array_boxes.proofs.ShareLaws.{overlap_inside}
use Rattle.zarrs_codec_array_bytes.specs.declared.array_bytes.ArrayBytes as code
use Rattle.zarr_chunks.specs.declared.fetched.Fetched.TheVariants as fetched
use Rattle.zarr_array.specs.Access.{Access, Costs, by_chunk, by_part, described}
use Rattle.zarr_array.specs.Asked.{chunk_asked}
use Rattle.zarr_array.specs.Fetch.{HasElements, chunk_list}
use Rattle.zarr_array.specs.Pays.{Pays, PaysWhole, PaysShared}
use Rattle.zarr_array.specs.Shared.{IsHeldShared}
use Rattle.zarr_array.proofs.ChunkLaws.{some_list}

moved_whole : (box : Region) → moved_back box (starts box) ≡ whole (sizes box)
moved_whole [] = refl
moved_whole (span ∷ box) =
    let none : span.start - span.start ≡ 0 = omega arith in
    ap₂ (λ (n : ℕ) (rest : Region). record { start = n; size = span.size } ∷ rest) none (moved_whole box)

whole_part : (region box : Region) → is_within box region ≡ true → part_of_box region box ≡ whole (sizes box)
whole_part region box covers =
    ap (λ (b : Region). moved_back b (starts box)) (overlap_inside region box covers) ∙ moved_whole box

-- or what lies within a chunk
overlap_swap : (a b : Region) → overlap_of a b ≡ overlap_of b a
overlap_swap [] [] = refl
overlap_swap [] (y ∷ b) = refl
overlap_swap (x ∷ a) [] = refl
overlap_swap (x ∷ a) (y ∷ b) = ap₂ (λ (s : Span) (rest : Region). s ∷ rest) (ap₂ (λ (n m : ℕ). span_of n m)
    (same_start x.start y.start) (same_size x.start y.start x.size y.size)) (overlap_swap a b)
  where
    span_of : ℕ → ℕ → Span
    span_of n m = record { start = n; size = m }

    same_start : (a b : ℕ) → max a b ≡ max b a
    same_start a b = omega arith

    same_size : (a b m n : ℕ) → min (a + m) (b + n) - max a b ≡ min (b + n) (a + m) - max b a
    same_size a b m n = omega arith

pub overlap_own : (region box : Region) → is_within region box ≡ true → region ≡ overlap_of region box
overlap_own region box within = sym (overlap_swap region box ∙ overlap_inside box region within)

module _ (region : Region) (chunk : List ℕ) where
  -- no part is asked for
  pub none_asked : (description : Description) → is_within (description.grid.chunk_box chunk) region ≡ true →
      None ≡ chunk_asked description (Some region) chunk
  none_asked description covers =
      let box = description.grid.chunk_box chunk in
      let all : not (count (overlap_of region box) == count box) ≡ false =
      ap not (ap (λ (b : Region). count b == count box) (overlap_inside region box covers)
      ∙ eq-eqb (count box) (count box) refl) in
      sym (ap (λ (part : Bool). if part then Some (part_of_box region box) else None) all)

  -- its elements are those for what they share
  pub held_whole : (array : Access) (options : Options) (before : Shown) (bytes : code.ArrayBytes) →
      is_within ((described array).grid.chunk_box chunk) region ≡ true →
      HasElements array options chunk before (raw_of bytes) →
      IsHeldShared array options region chunk before (fetched.Chunk bytes)
  held_whole array options before bytes covers has =
      let box = (described array).grid.chunk_box chunk in
      let list = chunk_list array chunk (raw_of bytes) in
      let means = some_list (meaning (kind (described array)) (count box) (raw_of bytes)) has.mean.means in
      record {
        list = list;
        content = λ own is. same_Some own list (sym is ∙ has.elements);
        readable = inl (subst IsSome (sym has.elements) refl);
        holds = record {
          as_long = length-meaning (kind (described array)) (count box) (raw_of bytes) list means;
          gives = means;
          short = has.mean.short;
        };
      }

  -- and it costs no more than what they share
  pub pays_covered : (costs : Costs) (description : Description) (options : Options) (before now : Shown) →
      length region ≡ length (description.grid.chunk_box chunk) →
      is_within (description.grid.chunk_box chunk) region ≡ true →
      PaysWhole costs description options chunk before now →
      PaysShared costs description options region chunk before now
  pays_covered (by_chunk alone) description options before now rank covers paid = record {
    asks = paid.asks;
    taken = λ told. paid.taken told
        ∙ ap (λ (n : ℕ). counted before.taken
        (if present_in description before.content chunk then unwrap_or (fixed_size (kind description)) 0 * n else 0))
        (sym (shared_count region (description.grid.chunk_box chunk) rank
        ∙ ap count (overlap_inside region (description.grid.chunk_box chunk) covers)));
  }
  pays_covered (by_part cost) description options before now rank covers paid =
      subst (λ w. Pays (cost options chunk w (before.content (description.key chunk))) before now)
      (sym (whole_part region (description.grid.chunk_box chunk) covers)) paid
