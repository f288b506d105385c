-- Fetching what a chunk shares with a region, and putting it into the region's elements.
use Rattle.std.proofs.Common.{◌≡◌, ℕ, suc, ◌+◌, ◌*◌, ◌^◌, ◌<◌, inl, inr, true, List, [], ◌∷◌, length, Option, Some}
use Rattle.std.proofs.Common.{IsSome, unwrap_or, refl, sym, ap, ◌∙◌, subst, subst₂, arith}
use Rattle.zarrs_codec_traits.specs.Prelude.{Region, starts, sizes, count, ends_within, Element, Kind, kind, fixed_size}
use Rattle.zarrs_codec_traits.specs.Prelude.{ArrayBytes, meaning, Options, Content, Shown, IsChunk, part_of_box}
use Rattle.zarrs_codec_traits.specs.Prelude.{share_tuple, Copied, size_in, list_at, at_box}
use Rattle.zarrs_codec_traits.specs.Prelude.{select}
use Rattle.zarrs_array_subset.specs.Boxes.{overlap_of}
use Rattle.zarr_array_boxes.specs.Elements.{list_in}
use Rattle.zarr_chunks.specs.declared.fetched.Fetched.{Fetched}
use Rattle.zarr_array_boxes.proofs.ShareLaws.{count-moved, shares_second}
use Rattle.zarr_array_open.specs.ChunkLevels.{chunk_level}
use Rattle.zarr_array.specs.Access.{Access, IsServed, described}
use Rattle.zarr_array.specs.Asked.{finds_asked}
use Rattle.zarr_array.specs.Shared.{IsFound, IsPartOf, HasSharedPart, IsReadable, IsHeldShared}
use Rattle.zarr_array.proofs.AskedLaws.{shared_asked, asked_shared}
use Rattle.zarr_array.proofs.RoomLaws.{room}
use Rattle.zarr_array.proofs.SharedLaws.{shared_inside, shared_some, copied_part, shared_few}

-- what a region shares with a chunk lies inside the chunk
pub shared_lies : (region box within : Region) → within ≡ part_of_box region box → share_tuple box region ≡ true →
    ends_within within (sizes box) ≡ true
shared_lies region box within is some =
    subst (λ b. ends_within b (sizes box) ≡ true) (sym is) (shared_inside region box some)

pub shared_has : (region box within : Region) → within ≡ part_of_box region box → share_tuple box region ≡ true →
    0 < count within
shared_has region box within is some = subst (λ b. 0 < count b) (sym is) (shared_some region box some)

-- and is as many elements as they share
as_many : (region box : Region) → length region ≡ length box →
    count (part_of_box region box) ≡ count (overlap_of region box)
as_many region box rank = count-moved (overlap_of region box) (starts box) (shares_second region box rank)

pub shared_many : (region box within : Region) → length region ≡ length box → within ≡ part_of_box region box →
    count within ≡ count (overlap_of region box)
shared_many region box within rank is = ap count is ∙ as_many region box rank

-- what holds the box that a region shares with a chunk holds what is shared
readable_part : (array : Access) (options : Options) (region within : Region) (chunk : List ℕ) (store : Content) →
    length region ≡ length ((described array).grid.chunk_box chunk) →
    within ≡ part_of_box region ((described array).grid.chunk_box chunk) → IsFound array options chunk within store →
    IsReadable (described array) options region store chunk
readable_part array options region within chunk store rank is (inl some) = inl some
readable_part array options region within chunk store rank is (inr held) = inr (
    sym (asked_shared (described array) options region chunk (store ((described array).key chunk)))
    ∙ (ap (λ (a : Option Region). finds_asked (described array) options chunk a (store ((described array).key chunk)))
    (sym (shared_asked (described array) region chunk within is
    (shared_many region ((described array).grid.chunk_box chunk) within rank is)))
    ∙ held))

pub held_shared : (array : Access) (options : Options) (region within : Region) (chunk : List ℕ) (before : Shown)
    (fetched : Fetched) → length region ≡ length ((described array).grid.chunk_box chunk) →
    within ≡ part_of_box region ((described array).grid.chunk_box chunk) →
    IsPartOf array options chunk within before fetched → IsHeldShared array options region chunk before fetched
held_shared array options region within chunk before fetched rank within_is is = record {
  list = is.list;
  content = is.content;
  readable = readable_part array options region within chunk before.content rank within_is is.found;
  holds = subst (λ b. HasSharedPart array chunk b is.list fetched) within_is is.has;
}

-- it is put into the region's elements by itself
overlap_rank : (a b : Region) → length a ≡ length b → length a ≡ length (overlap_of a b)
overlap_rank [] [] e = refl
overlap_rank [] (y ∷ b) e = refl
overlap_rank (x ∷ a) [] e = cc
overlap_rank (x ∷ a) (y ∷ b) e = ap suc (overlap_rank a b (omega (arith, e)))

module _ (array : Access) (served : IsServed (described array)) (region : Region) (chunk : List ℕ) (is_chunk :
    IsChunk (described array).grid chunk) (rank : length region ≡ length ((described array).grid.chunk_box chunk))
    (some : share_tuple ((described array).grid.chunk_box chunk) region ≡
    true) (part : Region) (is : part ≡ overlap_of region ((described array).grid.chunk_box chunk)) where
  abbrev box : Region
  box = (described array).grid.chunk_box chunk

  abbrev within : Region
  within = part_of_box region box

  pub its_rank_too : length region ≡ length part
  its_rank_too = overlap_rank region box rank ∙ ap length (sym is)

  pub its_counts : (of_kind : Kind) → of_kind ≡ kind (described array) →
      (count part + 1 < 2 ^ 64) × (count part * size_in (fixed_size of_kind) < 2 ^ 64)
  its_counts of_kind kind_is =
      let counts = room (described array) served chunk is_chunk in
      subst₂ (λ b k. (count b + 1 < 2 ^ 64) × (count b * size_in (fixed_size k) < 2 ^ 64)) (sym is) (sym kind_is)
      (shared_few region box (size_in (fixed_size (kind (described array)))) rank some counts.few counts.bytes)

  module _ (bytes : ArrayBytes) (list : List Element) (gives :
      list_at (at_box within (chunk_level (described array) chunk)) bytes ≡ Some (select (sizes box) within list)) where
    pub its_meaning : (of_kind : Kind) → of_kind ≡ kind (described array) →
        meaning of_kind (count part) bytes ≡ Some (select (sizes box) within list)
    its_meaning of_kind kind_is =
        subst₂ (λ k n. meaning k n bytes ≡ Some (select (sizes box) within list)) (sym kind_is)
        (as_many region box rank ∙ ap count (sym is)) gives

    pub its_means : (of_kind : Kind) → of_kind ≡ kind (described array) → IsSome (meaning of_kind (count part) bytes)
    its_means of_kind kind_is = subst IsSome (sym (its_meaning of_kind kind_is)) refl

    pub its_copy : (of_kind : Kind) (over : Region) (old new : List Element) → of_kind ≡ kind (described array) →
        over ≡ region → length list ≡ count box →
        Copied over part (list_in of_kind part bytes) old new → Copied region box list old new
    its_copy of_kind over old new kind_is over_is long copied =
        let listed : list_in of_kind part bytes ≡ select (sizes box) within list =
        ap (λ o. unwrap_or o []) (its_meaning of_kind kind_is) in
        copied_part region box rank list old new long
        (subst₂ (λ b xs. Copied region b xs old new) is listed
        (subst (λ r. Copied r part (list_in of_kind part bytes) old new) over_is copied))
