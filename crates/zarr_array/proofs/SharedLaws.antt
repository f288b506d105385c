-- Elements that were fetched for what a chunk and a region share, put into the region's.
use Rattle.std.proofs.Common.{◌≡◌, ℕ, ◌+◌, ◌-◌, ◌*◌, ◌^◌, ◌<◌, ◌≤◌, max, min, Bool, true, false, ◌&&◌, if◌then◌else◌}
use Rattle.std.proofs.Common.{nat_le, nat_lt, List, [], ◌∷◌, length, map, get_or, replicate, Option, Some, None, refl}
use Rattle.std.proofs.Common.{sym, ap, ◌∙◌, subst, arith, mul-le-mul_right}
use Rattle.std.proofs.lemmas.Bool.{and_parts, and_from, le-leb, ltb-true, cond-true, cond-false}
use Rattle.std.proofs.lemmas.List.{length-replicate, get_or-map, get_or_default}
use Rattle.std.proofs.lemmas.Simd.{map-map}
use Rattle.zarr_model.specs.Prelude.{Region, starts, sizes, count, contains, place, tuple_at, tuples, linear_index}
use Rattle.zarr_model.specs.Prelude.{ends_within, Element, null, IsChunk, Layout, IsSound, box_content, chunk_content}
use Rattle.zarrs_codec_traits.specs.Prelude.{share_tuple, Copied, select}
use Rattle.zarr_model.proofs.RegionLaws.{place_below, contains-tuple_at, get_or-tuples, length-tuples, tuple_at-place}
use Rattle.zarr_model.proofs.RegionLaws.{count_within}
use Rattle.zarrs_array_subset.specs.Boxes.{overlap_of, moved_back}
use Rattle.zarrs_array_subset.proofs.MoveLaws.{overlap_is_both}
use Rattle.zarr_array_boxes.proofs.ShareLaws.{count-moved, places-moved, shares_second}

-- what a region shares with a box that it meets lies inside the box
shared_within : (a b : ℕ) (m n : ℕ) → max b a < min (b + n) (a + m) → max a b - b + (min (a + m) (b + n) - max a b) ≤ n
shared_within a b m n some = omega (arith, some)

pub shared_inside : (region box : Region) → share_tuple box region ≡ true →
    ends_within (moved_back (overlap_of region box) (starts box)) (sizes box) ≡ true
shared_inside [] [] some = refl
shared_inside [] (b ∷ box) some = cc
shared_inside (a ∷ region) [] some = cc
shared_inside (a ∷ region) (b ∷ box) some =
    let parts = and_parts (nat_lt (max b.start a.start) (min (b.start + b.size) (a.start + a.size))) (share_tuple box
    region) some in
    let low : max b.start a.start < min (b.start + b.size) (a.start + a.size) = ltb-true _ _ parts.0 in
    and_from (nat_le (max a.start b.start - b.start + (min (a.start + a.size) (b.start + b.size) - max a.start b.start))
    b.size) (ends_within (moved_back (overlap_of region box) (starts box)) (sizes box))
    (le-leb _ _ (shared_within a.start b.start a.size b.size low)) (shared_inside region box parts.1)

-- and has an element
pub shared_some : (region box : Region) → share_tuple box region ≡ true →
    0 < count (moved_back (overlap_of region box) (starts box))
shared_some [] [] some = omega arith
shared_some [] (b ∷ box) some = cc
shared_some (a ∷ region) [] some = cc
shared_some (a ∷ region) (b ∷ box) some =
    let parts = and_parts (nat_lt (max b.start a.start) (min (b.start + b.size) (a.start + a.size))) (share_tuple box
    region) some in
    let low : max b.start a.start < min (b.start + b.size) (a.start + a.size) = ltb-true _ _ parts.0 in
    let rest : 0 < count (moved_back (overlap_of region box) (starts box)) = shared_some region box parts.1 in
    let one : 1 ≤ min (a.start + a.size) (b.start + b.size) - max a.start b.start = omega (arith, low) in
    let times : 1 * count (moved_back (overlap_of region box) (starts box)) ≤ (min (a.start + a.size) (b.start + b.size)
    - max a.start b.start) * count (moved_back (overlap_of region box) (starts box)) =
    mul-le-mul_right (count (moved_back (overlap_of region box) (starts box))) one in
    omega (arith, rest, times)

-- an element of what two boxes share is that of the source at its tuple, so a copy of it is one of
-- the source
module _ (target source : Region) (rank : length target ≡ length source) (xs old new : List Element)
    (long : length xs ≡ count source) where
  abbrev part : Region
  part = overlap_of target source

  abbrev taken : List ℕ → Element
  taken tuple = get_or xs (place source tuple) null

  selected : select (sizes source) (moved_back part (starts source)) xs ≡ map taken (tuples part)
  selected =
      sym (map-map (λ (k : ℕ). get_or xs k null) (linear_index (sizes source))
      (tuples (moved_back part (starts source))))
      ∙ (ap (map (λ (k : ℕ). get_or xs k null)) (places-moved source part (shares_second target source rank))
      ∙ map-map (λ (k : ℕ). get_or xs k null) (place source) (tuples part))

  at_tuple : (tuple : List ℕ) (d : Element) → contains part tuple ≡ true → contains source tuple ≡ true →
      get_or (select (sizes source) (moved_back part (starts source)) xs) (place part tuple) d ≡
      get_or xs (place source tuple) d
  at_tuple tuple d inside here =
      let below : place part tuple < count part = place_below part tuple inside in
      ap (λ l. get_or l (place part tuple) d) selected
      ∙ (get_or-map taken (tuples part) (place part tuple) [] d
      (subst (λ n. place part tuple < n) (sym (length-tuples part)) below)
      ∙ (ap taken (get_or-tuples part (place part tuple) [] below ∙ tuple_at-place part tuple inside)
      ∙ get_or_default xs (place source tuple) null d
      (subst (λ n. place source tuple < n) (sym long) (place_below source tuple here))))

  pub copied_part : Copied target part (select (sizes source) (moved_back part (starts source)) xs) old new →
      Copied target source xs old new
  copied_part copied = record {
    as_long = copied.as_long;
    each = λ k d below.
        let tuple = tuple_at target k in
        let same : contains part tuple ≡ contains source tuple =
        overlap_is_both target source tuple rank
        ∙ ap (λ b. b && contains source tuple) (contains-tuple_at target k below) in
        copied.each k d below ∙ turn (contains source tuple) k d refl same;
  }
    where
      turn : (b : Bool) (k : ℕ) (d : Element) → contains source (tuple_at target k) ≡ b →
          contains part (tuple_at target k) ≡ contains source (tuple_at target k) →
          (if contains part (tuple_at target k) then get_or (select (sizes source) (moved_back part (starts source)) xs)
          (place part (tuple_at target k)) d else get_or old k d)
          ≡ (if contains source (tuple_at target k) then get_or xs (place source (tuple_at target k)) d else get_or old
          k d)
      turn true k d here same =
          cond-true (contains part (tuple_at target k)) _ _ (same ∙ here) ∙ (at_tuple (tuple_at target k) d
          (same ∙ here) here ∙ sym (cond-true (contains source (tuple_at target k)) _ _ here))
      turn false k d out same = cond-false (contains part (tuple_at target k)) _ _ (same ∙ out)
          ∙ sym (cond-false (contains source (tuple_at target k)) _ _ out)

-- a chunk's list has an element for each of its places
pub content_long : (place : Layout Element) (store : List ℕ → Option (List ℕ)) (chunk : List ℕ) (list : List Element) →
    IsSound place → IsChunk place.grid chunk →
    chunk_content place store chunk ≡ Some list → length list ≡ count (place.grid.chunk_box chunk)
content_long place store chunk list sound is_chunk content = go (store (place.key chunk)) content
  where
    go : (value : Option (List ℕ)) → box_content place (place.grid.chunk_box chunk) value ≡ Some list →
        length list ≡ count (place.grid.chunk_box chunk)
    go None e = let same : replicate (count (place.grid.chunk_box chunk)) place.fill ≡ list = cc in
        ap length (sym same) ∙ length-replicate (count (place.grid.chunk_box chunk)) place.fill
    go (Some value) e = sound.count chunk value list is_chunk e

-- what is shared has no more elements than the chunk
pub shared_few : (region box : Region) (size : ℕ) → length region ≡ length box → share_tuple box region ≡ true →
    count box + 1 < 2 ^ 64 → count box * size < 2 ^ 64 →
    (count (overlap_of region box) + 1 < 2 ^ 64) × (count (overlap_of region box) * size < 2 ^ 64)
shared_few region box size rank some few room =
    let less : count (overlap_of region box) ≤ count box =
    subst (λ n. n ≤ count box) (count-moved (overlap_of region box) (starts box) (shares_second region box rank))
    (count_within (moved_back (overlap_of region box) (starts box)) (sizes box) (shared_inside region box some)) in
    let more : count (overlap_of region box) * size ≤ count box * size = mul-le-mul_right size less in
    (omega (arith, less, few), omega (arith, more, room))
