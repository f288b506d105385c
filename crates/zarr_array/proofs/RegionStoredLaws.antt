-- What is stored of a chunk's elements, and what it stands for.
use Rattle.std.proofs.Common.{◌≡◌, ℕ, ◌<◌, ◌≤◌, ◌||◌, ◌&&◌, not, Bool, true, false, if◌then◌else◌, List, [], length}
use Rattle.std.proofs.Common.{replicate, Option, Some, None, IsSome, is_some, get_or, refl, sym, ap, ap₂, ◌∙◌, subst}
use Rattle.std.proofs.Common.{arith, ◌⊎◌, inl, inr, ⊎_elim}
use Rattle.std.specs.List.{list_all}
use Rattle.std.proofs.lemmas.List.{length-map, get_or-map, get_or_default, same_lists}
use Rattle.std.proofs.lemmas.Option.{same_Some}
use Rattle.zarr_model.specs.Prelude.{Region, count, contains, tuples, place, tuple_at, Element, same_element, Array}
use Rattle.zarr_model.specs.Prelude.{elements_in, written, Options, Content, Layout, box_content, chunk_content, Shown}
use Rattle.zarr_model.specs.Prelude.{Description, layout, ChunkHas, Rose}
use Rattle.zarr_model.proofs.RegionLaws.{length-tuples, get_or-tuples}
use Rattle.zarr_model.proofs.ElementLaws.{each_same}
use Rattle.zarrs_storage.specs.Store.{IsFault, IsPlain}
use Rattle.zarrs_storage.specs.declared.store.StorageError.{StorageError}
use Rattle.zarrs_storage.specs.declared.store.StorageError.TheVariants as Storage
use Rattle.zarrs_codec_slices.specs.Overlap.{Copied}
use Rattle.zarr_chunks.specs.Put.{Decoding, IsPutValue, PutsChunk, MayPutChunk}
use Rattle.zarr_array.specs.Chunk.{is_dropped, decode_at, storage_kind}
use Rattle.zarr_array.specs.Write.{HoldsChunk, ChangesChunk, FailsToChange}

-- the list that replaces a box's elements at a region's tuples is the box's part of the written array
pub updated_box : {E : Type 0} (box region : Region) (list old new : List E) (array : Array E) →
    old ≡ elements_in box array → length new ≡ count box →
    ((k : ℕ) (d : E) → k < count box → get_or new k d ≡ (if contains region (tuple_at box k) then get_or list
    (place region (tuple_at box k)) array.fill else get_or old k d)) →
    new ≡ elements_in box (written region list array)
updated_box {E} box region list old new array was full each =
    let after : Array E = written region list array in
    let long : length (elements_in box after) ≡ count box = length-map (tuples box) after.element ∙ length-tuples box in
    same_lists new (elements_in box after) (full ∙ sym long) (λ k d h.
    let below : k < count box = subst (λ n. k < n) full h in
    let within : k < length (tuples box) = subst (λ n. k < n) (sym (length-tuples box)) below in
    each k d below
    ∙ (ap (λ e. if contains region (tuple_at box k) then get_or list (place region (tuple_at box k)) array.fill else e)
    (ap (λ l. get_or l k d) was
    ∙ (get_or-map array.element (tuples box) k [] d within ∙ ap array.element (get_or-tuples box k [] below)))
    ∙ (ap after.element (sym (get_or-tuples box k [] below))
    ∙ sym (get_or-map after.element (tuples box) k [] d within))))

-- a chunk's elements with a region's put in are those of the written array
put-elements : {E : Type 0} (region box : Region) (elements old list : List E) (array : Array E) →
    length old ≡ count box → old ≡ elements_in box array → Copied box region elements old list →
    list ≡ elements_in box (written region elements array)
put-elements region box elements old list array long was copied =
    let full : length list ≡ count box = copied.as_long ∙ long in
    updated_box box region elements old list array was full (λ k d below.
    get_or_default list k d array.fill (subst (λ m. k < m) (sym full) below)
    ∙ (copied.each k array.fill below
    ∙
    ap (λ e. if contains region (tuple_at box k) then get_or elements (place region (tuple_at box k)) array.fill else e)
    (get_or_default old k array.fill d (subst (λ m. k < m) (sym long) below))))

-- what was put stands for the elements, and is there exactly where it was not dropped
put-content : (description : Description) (chunk : List ℕ) (under : Options) (drops : Bool) (list : List Element)
    (value : Option (List ℕ)) →
    (drops ≡ true → list ≡ replicate (count (description.grid.chunk_box chunk)) description.fill) →
    IsPutValue (decode_at description chunk) drops list value →
    box_content (layout description under) (description.grid.chunk_box chunk) value ≡ Some list
put-content description chunk under true list value all put =
    ap (box_content (layout description under) (description.grid.chunk_box chunk)) put ∙ ap Some (sym (all refl))
put-content description chunk under false list None all put = absurd put
put-content description chunk under false list (Some value) all put = put under

put-there : (decode : Decoding) (drops : Bool) (list : List Element) (value : Option (List ℕ)) →
    IsPutValue decode drops list value → is_some value ≡ not drops
put-there decode true list value put = ap is_some put
put-there decode false list None put = absurd put
put-there decode false list (Some value) put = refl

not_dropped : (keeps blank : Bool) → not (not keeps && blank) ≡ keeps || not blank
not_dropped true blank = refl
not_dropped false blank = refl

dropped_blank : (keeps blank : Bool) → (not keeps && blank) ≡ true → blank ≡ true
dropped_blank false blank e = e
dropped_blank true blank e = cc

-- a chunk's elements were fetched, a region's elements were put in, and they are to be stored
module _ (description : Description) (options : Options) (region : Region) (chunk key : List ℕ)
    (elements old list : List Element) (before : Shown)
    (its_key : key ≡ description.key chunk)
    (fetched : chunk_content (layout description options) before.content chunk ≡ Some old)
    (long : length old ≡ count (description.grid.chunk_box chunk))
    (copied : Copied (description.grid.chunk_box chunk) region elements old list) where
  abbrev place_of : Layout Element
  place_of = layout description options

  abbrev box : Region
  box = description.grid.chunk_box chunk

  abbrev change : Array Element → Array Element
  change = written region elements

  abbrev drops : Bool
  drops = is_dropped description options list

  was : (plain : Array Element) → ChunkHas place_of before.content plain chunk → old ≡ elements_in box plain
  was plain has = same_Some _ _ (sym fetched ∙ has)

  now_is : (plain : Array Element) → ChunkHas place_of before.content plain chunk →
      list ≡ elements_in box (change plain)
  now_is plain has = put-elements region box elements old list plain long (was plain has) copied

  all_fill : drops ≡ true → list ≡ replicate (count box) description.fill
  all_fill dropped =
      each_same description.fill list
      (dropped_blank options.store_empty_chunks (list_all (same_element description.fill) list) dropped)
      ∙ ap (λ n. replicate n description.fill) (copied.as_long ∙ long)

  content_is : (after : Content) (under : Options) → IsPutValue (decode_at description chunk) drops list (after key) →
      chunk_content (layout description under) after chunk ≡ Some list
  content_is after under put = ap (λ k. box_content (layout description under) box (after k)) (sym its_key)
      ∙ put-content description chunk under drops list (after key) all_fill put

  holds_put : (after : Content) (plain : Array Element) → plain.fill ≡ description.fill →
      IsPutValue (decode_at description chunk) drops list (after key) → ChunkHas place_of before.content plain chunk →
      HoldsChunk description options (change plain) chunk after
  holds_put after plain filler put has = record {
    has = λ under. content_is after under put ∙ ap Some (now_is plain has);
    present =
        ap (λ k. is_some (after k)) (sym its_key)
        ∙ (put-there (decode_at description chunk) drops list (after key) put
        ∙ (not_dropped options.store_empty_chunks (list_all (same_element description.fill) list)
        ∙ ap (λ t. options.store_empty_chunks || not t)
        (ap₂ (λ f l. list_all (same_element f) l) (sym filler) (now_is plain has))));
  }

  pub chunk-changed : (mid after : Content) → ((other : List ℕ) → mid other ≡ before.content other) →
      PutsChunk (decode_at description chunk) drops list mid after key →
      ChangesChunk description options change chunk before.content after
  chunk-changed mid after same puts = record {
    decoded = subst IsSome (sym fetched) refl;
    mended = λ under. subst IsSome (sym (content_is after under puts.here)) refl;
    holds = λ plain filler has. holds_put after plain filler puts.here has;
    others = λ other apart. puts.others other (λ e. apart (e ∙ its_key)) ∙ same other;
  }

  pub chunk-stops : (mid now : Shown) (error : StorageError) →
      ((other : List ℕ) → mid.content other ≡ before.content other) →
      MayPutChunk (decode_at description chunk) drops list mid.content now.content key →
      (error ≡ Storage.OutOfMemory → (other : List ℕ) → now.content other ≡ mid.content other) →
      (IsFault error → Rose mid.faults now.faults) → before.faults ≤ mid.faults → IsPlain error →
      FailsToChange description options change chunk before now (storage_kind error)
  chunk-stops mid now (Storage.InvalidByteRange range) same puts memory rose later plain = absurd plain
  chunk-stops mid now Storage.OutOfMemory same puts memory rose later plain = λ other. memory refl other ∙ same other
  chunk-stops mid now Storage.Failed same puts memory rose later plain = (
    omega (arith, rose tt),
    record {
      here = λ plain filler has. ⊎_elim
          (λ (kept : now.content key ≡ mid.content key).
          inl (ap now.content (sym its_key) ∙ (kept ∙ (same key ∙ ap before.content its_key))))
          (λ (other : IsPutValue (decode_at description chunk) drops list (now.content key) ⊎ (now.content key ≡ None)).
          ⊎_elim
          (λ (put : IsPutValue (decode_at description chunk) drops list (now.content key)).
          inr (inl (holds_put now.content plain filler put has)))
          (λ (gone : now.content key ≡ None). inr (inr (ap now.content (sym its_key) ∙ gone)))
          other)
          puts.here;
      stays = ⊎_elim
          (λ (kept : now.content key ≡ mid.content key).
          inl (ap now.content (sym its_key) ∙ (kept ∙ (same key ∙ ap before.content its_key))))
          (λ (other : IsPutValue (decode_at description chunk) drops list (now.content key) ⊎ (now.content key ≡ None)).
          inr (
            subst IsSome (sym fetched) refl,
            ⊎_elim
                (λ (put : IsPutValue (decode_at description chunk) drops list (now.content key)) under.
                subst IsSome (sym (content_is now.content under put)) refl)
                (λ (gone : now.content key ≡ None) under.
                subst IsSome
                (sym (ap (box_content (layout description under) box) (ap now.content (sym its_key) ∙ gone))) refl)
                other,
          ))
          puts.here;
      others = λ other apart. puts.others other (λ e. apart (e ∙ its_key)) ∙ same other;
    },
  )
