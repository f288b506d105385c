-- What a command leaves in any store where it ends at one of its chunks.
use Rattle.std.proofs.Common.{◌≡◌, ℕ, ◌<◌, not, Bool, true, false, IsTrue, bytes_eq, List, [], ◌∷◌, slice_get, Some}
use Rattle.std.proofs.Common.{None, is_some, refl, sym, ap, ◌∙◌, subst, arith, ⊎_elim, ◌⊎◌, inl, inr}
use Rattle.std.specs.List.{list_any}
use Rattle.std.proofs.lemmas.Bool.{and_parts, or_parts, true≢false, cases_Bool}
use Rattle.std.proofs.lemmas.List.Folds.{list_any_at}
use Rattle.std.proofs.lemmas.Option.{slice_get_within, get_or_from_slice_get}
use Rattle.zarr_model.specs.Prelude.{Element, Array, IsChunk, CoversShape, Options, Content, IsSound, WhollyMeans}
use Rattle.zarr_model.specs.Prelude.{chunk_content, Command, read, write, erase, Description, layout, refusal, after}
use Rattle.zarr_model.specs.Prelude.{command_chunks, asks_store, erases_chunk, Changes, ChunkHas, IsPartWay, IsCutShort}
use Rattle.zarr_model.specs.Prelude.{without_chunks, is_damaged, is_still_damaged, mended, LeftAt, ChangedFirst}
use Rattle.zarr_model.specs.Prelude.{StopsAt, StaysDamaged}
use Rattle.zarr_model.proofs.FailureLaws.{listed_is_chunk, chunks_under-once, part_way-fails, same_bytes, bytes_eq-refl}
use Rattle.zarr_model.specs.LeavesLaws.{IsWithout}
use Rattle.zarr_model.proofs.WithoutLaws.{without-is, without-key, without-same}
use Rattle.zarr_model.proofs.Choices.{none_of, not_true}
use Rattle.zarr_model.proofs.MendedLaws.{content-same, still-start}

-- the chunk of an erase is erased by it
erased_listed : (description : Description) (command : Command) → asks_store command ≡ false →
    (k : ℕ) (chunk : List ℕ) → slice_get (command_chunks description command) k ≡ Some chunk →
    erases_chunk description chunk command ≡ true
erased_listed description (read region) e k chunk listed = cc
erased_listed description (write region value) e k chunk listed = cc
erased_listed description (erase own) e k chunk listed =
    list_any_at (bytes_eq chunk) (command_chunks description (erase own)) k chunk
    (slice_get_within (command_chunks description (erase own)) k chunk listed)
    (ap (bytes_eq chunk) (get_or_from_slice_get (command_chunks description (erase own)) k chunk chunk listed)
    ∙ bytes_eq-refl chunk)

-- a store that was cut short, and one that holds the same
pub cut_short-same : (description : Description) (options : Options) (command : Command) (k : ℕ) (by_store : Bool)
    (old new : Array Element) (store other : Content) → ((key : List ℕ) → other key ≡ store key) →
    IsCutShort description options command k by_store old new store →
    IsCutShort description options command k by_store old new other
cut_short-same description options command k by_store old new store other same cut = record {
  few = cut.few;
  finished = λ place chunk h e. content-same (layout description options) store other chunk
      (same (description.key chunk)) ∙ cut.finished place chunk h e;
  next = λ chunk e. ⊎_elim
      (λ (was : ChunkHas (layout description options) store old chunk). inl
      (content-same (layout description options) store other chunk (same (description.key chunk)) ∙ was))
      (λ (rest : ChunkHas (layout description options) store new chunk
      ⊎ (IsTrue by_store × Changes command × (store (description.key chunk) ≡ None))). inr (⊎_elim
      (λ (is : ChunkHas (layout description options) store new chunk). inl
      (content-same (layout description options) store other chunk (same (description.key chunk)) ∙ is))
      (λ (gone : IsTrue by_store × Changes command × (store (description.key chunk) ≡ None)). inr
      (gone.0, gone.1, same (description.key chunk) ∙ gone.2))
      rest))
      (cut.next chunk e);
  others = λ chunk is_chunk apart. content-same (layout description options) store other chunk
      (same (description.key chunk)) ∙ cut.others chunk is_chunk apart;
}

module _ (description : Description) (options : Options) (covers : CoversShape description.shape description.grid)
    (sound : IsSound (layout description options)) (command : Command) (old : Content) where
  abbrev pub which : List ℕ → Bool
  which = is_damaged (layout description options) old

  abbrev pub clean : Content → Content
  clean store = without_chunks (layout description options) which store

  is_clean : (store : Content) → IsWithout (layout description options) which store (clean store)
  is_clean = without-is (layout description options) which sound

  listed_chunk : (place : ℕ) (chunk : List ℕ) → slice_get (command_chunks description command) place ≡ Some chunk →
      IsChunk description.grid chunk
  listed_chunk place chunk e = listed_is_chunk description covers (refusal description command) command refl place
      chunk e

  once : (i j : ℕ) (chunk : List ℕ) → slice_get (command_chunks description command) i ≡ Some chunk →
      slice_get (command_chunks description command) j ≡ Some chunk → i ≡ j
  once i j chunk first second = chunks_under-once description (refusal description command) command i j chunk first
      second

  -- a chunk that decoded at the start is the same with and without the damage
  same_as : (store : Content) (chunk : List ℕ) → IsChunk description.grid chunk → which chunk ≡ false →
      chunk_content (layout description options) (clean store) chunk
      ≡ chunk_content (layout description options) store chunk
  same_as store chunk is_chunk good = content-same (layout description options) store (clean store) chunk
      ((is_clean store).kept chunk is_chunk good)

  module _ (k : ℕ) (mid : Content) (changed : ChangedFirst description options (after description command)
      (command_chunks description command) k old mid) where
    -- the key of a chunk that is none of the first k holds what it held
    pub kept : (chunk : List ℕ) → IsChunk description.grid chunk →
        ((place : ℕ) → place < k → ¬ (slice_get (command_chunks description command) place ≡ Some chunk)) →
        mid (description.key chunk) ≡ old (description.key chunk)
    kept chunk is_chunk apart = changed.others (description.key chunk) (λ place other h e same.
        apart place h (e ∙ ap Some (sym (sound.keys_apart chunk other is_chunk (listed_chunk place other e) same))))

    -- the first k chunks are new in the store without its damage, and each other one is old
    pub part_way : (array : Array Element) → array.fill ≡ description.fill →
        WhollyMeans (layout description options) (clean old) array →
        IsPartWay description options command k array (after description command array) (clean mid)
    part_way array is_fill meant = record {
      finished = λ place chunk h e.
          let is_chunk = listed_chunk place chunk e in
          let good : which chunk ≡ false = ap not (changed.decoded place chunk h e) in
          same_as mid chunk is_chunk good
          ∙ changed.holds array place chunk is_fill h e (sym (same_as old chunk is_chunk good)
          ∙ meant.each_chunk chunk is_chunk);
      others = λ chunk is_chunk apart.
          content-same (layout description options) (clean old) (clean mid) chunk
          (without-key (layout description options) which old mid (description.key chunk) (kept chunk is_chunk apart))
          ∙ meant.each_chunk chunk is_chunk;
    }

    module _ (chunk : List ℕ) (listed : slice_get (command_chunks description command) k ≡ Some chunk) where
      is_chunk : IsChunk description.grid chunk
      is_chunk = listed_chunk k chunk listed

      -- the next chunk holds what it held at the start
      still_old : mid (description.key chunk) ≡ old (description.key chunk)
      still_old = kept chunk is_chunk (λ place h e. let equal : place ≡ k = once place k chunk e listed
          in absurd (omega (arith, h, equal)))

      module _ (by_store : Bool) (new : Content)
          (stops : StopsAt description options (after description command) chunk (IsTrue by_store × Changes command)
          mid new) where
        pub cut_short : (array : Array Element) → array.fill ≡ description.fill →
            WhollyMeans (layout description options) (clean old) array →
            IsCutShort description options command k by_store array (after description command array) (clean new)
        cut_short array is_fill meant = part_way-fails description covers options sound command k chunk by_store array
            (after description command array) (clean mid) (clean new) listed
            (part_way array is_fill meant) here
            (λ key apart. without-key (layout description options) which mid new key (stops.others key apart))
          where
            here : (clean new (description.key chunk) ≡ clean mid (description.key chunk))
                ⊎ (ChunkHas (layout description options) (clean new) (after description command array) chunk
                ⊎ (IsTrue by_store × Changes command × (clean new (description.key chunk) ≡ None)))
            here = ⊎_elim
                (λ (hurt : which chunk ≡ true). inl ((is_clean new).dropped chunk is_chunk hurt
                ∙ sym ((is_clean mid).dropped chunk is_chunk hurt)))
                (λ (good : which chunk ≡ false).
                let had : ChunkHas (layout description options) mid array chunk =
                content-same (layout description options) old mid chunk still_old
                ∙ (sym (same_as old chunk is_chunk good) ∙ meant.each_chunk chunk is_chunk) in
                ⊎_elim
                (λ (stays : new (description.key chunk) ≡ mid (description.key chunk)). inl
                (without-key (layout description options) which mid new (description.key chunk) stays))
                (λ (changed_here : ChunkHas (layout description options) new (after description command array) chunk
                ⊎ ((IsTrue by_store × Changes command) × (new (description.key chunk) ≡ None))).
                inr (⊎_elim
                (λ (has : ChunkHas (layout description options) new (after description command array) chunk). inl
                (same_as new chunk is_chunk good ∙ has))
                (λ (gone : (IsTrue by_store × Changes command) × (new (description.key chunk) ≡ None)).
                inr (gone.0.0, gone.0.1, (is_clean new).kept chunk is_chunk good ∙ gone.1))
                changed_here))
                (stops.here array is_fill had))
                (cases_Bool (which chunk))

        -- damage of the start stands, but for a chunk that the command erases
        pub stands : (asks_store command ≡ true → StaysDamaged description options chunk mid new) → (other : List ℕ) →
            IsChunk description.grid other →
            which other ≡ true → erases_chunk description other command ≡ false → new (description.key other)
            ≡ old (description.key other)
        stands stays other is_other hurt none = ⊎_elim
            (λ (same : bytes_eq other chunk ≡ true). here (same_bytes other chunk same))
            (λ (differ : bytes_eq other chunk ≡ false).
            stops.others (description.key other) (λ same_key.
            let same : other ≡ chunk = sound.keys_apart other chunk is_other is_chunk same_key in
            true≢false (sym (bytes_eq-refl other) ∙ (ap (bytes_eq other) same ∙ differ)))
            ∙ was)
            (cases_Bool (bytes_eq other chunk))
          where
            gone : chunk_content (layout description options) old other ≡ None
            gone = none_of (chunk_content (layout description options) old other) hurt

            -- none of the first k chunks was damaged
            was : mid (description.key other) ≡ old (description.key other)
            was = kept other is_other
                (λ place h e. true≢false (sym (changed.decoded place other h e) ∙ ap is_some gone))

            here : other ≡ chunk → new (description.key other) ≡ old (description.key other)
            here same = ⊎_elim
                (λ (asks : asks_store command ≡ true).
                subst (λ c. new (description.key c) ≡ mid (description.key c)) (sym same)
                (stays asks (subst (λ c. chunk_content (layout description options) mid c ≡ None) same
                (content-same (layout description options) old mid other was ∙ gone)))
                ∙ was)
                (λ (erases : asks_store command ≡ false).
                absurd (true≢false (sym
                (erased_listed description command erases k other (listed ∙ ap Some (sym same))) ∙ none)))
                (cases_Bool (asks_store command))

        pub left_at : (asks_store command ≡ true → StaysDamaged description options chunk mid new) →
            LeftAt description options (command ∷ []) 0 k by_store old new
        left_at stays = record {
          stands = λ other is_other still.
              let parts = and_parts (which other) (not (list_any (erases_chunk description other) (command ∷ [])))
              still in
              stands stays other is_other parts.0
              (or_parts (erases_chunk description other command) false
              (not_true (list_any (erases_chunk description other) (command ∷ [])) parts.1)).0;
          left = λ array meant. (
            command,
            refl,
            cut_short-same description options command k by_store array (after description command array) (clean new)
                (mended description options [] old new)
                (without-same (layout description options) (is_still_damaged description options [] old) which new
                (λ c is_c. still-start description options old c))
                (cut_short array meant.fill meant),
          );
        }
