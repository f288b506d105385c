-- One command over any store, and what is left of honest stores.
use Rattle.std.proofs.Common.{◌≡◌, ℕ, ◌≤◌, ◌||◌, not, Bool, false, List, [], ◌∷◌, length, take, slice_get, Option, Some}
use Rattle.std.proofs.Common.{None, is_some, refl, sym, ap, ◌∙◌, subst, arith, inl}
use Rattle.std.specs.List.{list_any}
use Rattle.std.proofs.lemmas.Bool.{and_parts, true≢false}
use Rattle.zarr_model.specs.Prelude.{Region, ArrayBytes, Element, Array, IsChunk, CoversShape, Options, Content}
use Rattle.zarr_model.specs.Prelude.{IsSound, IsHonest, WhollyMeans, box_content, chunk_content, Command, write, erase}
use Rattle.zarr_model.specs.Prelude.{Description, Answer, answered_done, kind, layout, refusal, reply, reply_of, after}
use Rattle.zarr_model.specs.Prelude.{Matches, command_chunks, chunks_under, erases_chunk, ChunkHas, IsPartWay}
use Rattle.zarr_model.specs.Prelude.{IsCutShort, FailedAt, IsLeftAt, undamaged, KeepsDamage, MeetsNoDamage, IsUndecoded}
use Rattle.zarr_model.specs.Prelude.{PutsKey, without_chunks, is_damaged, is_still_damaged, mended, RanOver, LeftAt}
use Rattle.zarr_model.specs.Prelude.{ChangedFirst}
use Rattle.zarr_model.proofs.FailureLaws.{listed_is_chunk, chunks_under-once, part_way-end, erase-done, undecoded-met}
use Rattle.zarr_model.proofs.StepLaws.{WhollyMeans-same, KeepsDamage-none}
use Rattle.zarr_model.proofs.WithoutLaws.{without-is, without-key, without-same, without-at}
use Rattle.zarr_model.proofs.Choices.{none_of}
use Rattle.zarr_model.proofs.MendedLaws.{content-same, honest-mended, still-start, ran-mended, and_not_false}
use Rattle.zarr_model.proofs.LeftLaws.{part_way, kept, cut_short-same}

pub RanOver-none : (description : Description) (options : Options) (store : Content) →
    RanOver description options [] store store []
RanOver-none description options store = record {
  keeps = KeepsDamage-none description options store;
  whole = λ array meant. meant;
  matches = λ unmet array meant. tt;
}

-- the test that the start of a run without commands has, and that of the store
pub mended-start : (description : Description) (options : Options) (old new : Content) (key : List ℕ) →
    without_chunks (layout description options) (is_damaged (layout description options) old) new key
    ≡ mended description options [] old new key
mended-start description options old new = without-same (layout description options)
    (is_damaged (layout description options) old) (is_still_damaged description options [] old) new
    (λ chunk is_chunk. sym (still-start description options old chunk))

-- stores with the same content have the same content without their damage
undamaged-same : (description : Description) (options : Options) (old new : Content) →
    ((key : List ℕ) → new key ≡ old key) → (key : List ℕ) →
    undamaged (layout description options) new key ≡ undamaged (layout description options) old key
undamaged-same description options old new same key =
    without-same (layout description options) (is_damaged (layout description options) new)
    (is_damaged (layout description options) old) new
    (λ chunk is_chunk. ap (λ o. not (is_some o))
    (content-same (layout description options) old new chunk (same (description.key chunk)))) key
    ∙ without-key (layout description options) (is_damaged (layout description options) old) old new key (same key)

pub RanOver-unchanged : (description : Description) (options : Options) (command : Command) (old new : Content)
    (answer : Answer) → ((array : Array Element) → after description command array ≡ array) →
    ((key : List ℕ) → new key ≡ old key) → KeepsDamage description options (command ∷ []) old new →
    (MeetsNoDamage description options (command ∷ []) old → (array : Array Element) →
    WhollyMeans (layout description options) (undamaged (layout description options) old) array →
    Matches (kind description) answer (reply description command array)) →
    RanOver description options (command ∷ []) old new (answer ∷ [])
RanOver-unchanged description options command old new answer stays same keeps right = record {
  keeps = keeps;
  whole = λ array meant. subst (WhollyMeans (layout description options) (undamaged (layout description options) new))
      (sym (stays array))
      (WhollyMeans-same (layout description options) (undamaged (layout description options) old)
      (undamaged (layout description options) new) array (undamaged-same description options old new same) meant);
  matches = λ unmet array meant. (right unmet array meant, tt);
}

module _ (description : Description) (options : Options) (covers : CoversShape description.shape description.grid)
    (sound : IsSound (layout description options)) where
  pub RanOver-write : (region : Region) (value : ArrayBytes) (old new : Content) →
      refusal description (write region value) ≡ None →
      ChangedFirst description options (after description (write region value))
      (command_chunks description (write region value)) (length (command_chunks description (write region value))) old
      new →
      KeepsDamage description options (write region value ∷ []) old new →
      RanOver description options (write region value ∷ []) old new (answered_done ∷ [])
  RanOver-write region value old new accepted changed keeps = record {
    keeps = keeps;
    whole = λ array meant.
        WhollyMeans-same (layout description options)
        (without_chunks (layout description options) (is_damaged (layout description options) old) new)
        (undamaged (layout description options) new)
        (after description (write region value) array)
        (λ key. ran-mended description options (write region value ∷ []) old new keeps new key
        ∙ without-same (layout description options)
        (is_still_damaged description options (write region value ∷ []) old)
        (is_damaged (layout description options) old) new
        (λ chunk is_chunk. and_not_false (is_damaged (layout description options) old chunk) (false || false) refl)
        key)
        (part_way-end description covers options sound (write region value) array
        (without_chunks (layout description options) (is_damaged (layout description options) old) new)
        meant.shape meant.fill
        (part_way description options covers sound (write region value) old
        (length (command_chunks description (write region value))) new changed array meant.fill meant));
    matches = λ unmet array meant. (
      subst (λ why. Matches (kind description) answered_done (reply_of why (write region value) array))
          (sym accepted) tt,
      tt,
    );
  }

  pub RanOver-erase : (chunk : List ℕ) (old new : Content) → refusal description (erase chunk) ≡ None →
      PutsKey old new (description.key chunk) None →
      KeepsDamage description options (erase chunk ∷ []) old new → RanOver description options (erase chunk ∷ []) old
      new (answered_done ∷ [])
  RanOver-erase chunk old new accepted puts keeps = record {
    keeps = keeps;
    whole = λ array meant. erase-done description covers options sound chunk array
        (undamaged (layout description options) old) (undamaged (layout description options) new) accepted meant
        (record {
          here = (without-is (layout description options) (is_damaged (layout description options) new) sound new).kept
              chunk is_chunk gone ∙ puts.here;
          others = λ key apart.
              without-at (layout description options) (is_damaged (layout description options) new)
              (is_damaged (layout description options) old) new key (λ other is_other its_key.
              ap (λ o. not (is_some o))
              (content-same (layout description options) old new other
              (puts.others (description.key other) (λ e. apart (sym its_key ∙ e)))))
              ∙ without-key (layout description options) (is_damaged (layout description options) old) old new key
              (puts.others key apart);
        });
    matches = λ unmet array meant. (
      subst (λ why. Matches (kind description) answered_done (reply_of why (erase chunk) array)) (sym accepted) tt,
      tt,
    );
  }
    where
      listed : slice_get (command_chunks description (erase chunk)) 0 ≡ Some chunk
      listed = ap (λ why. slice_get (chunks_under description why (erase chunk)) 0) accepted

      is_chunk : IsChunk description.grid chunk
      is_chunk = listed_is_chunk description covers (refusal description (erase chunk)) (erase chunk) refl 0 chunk
          listed

      gone : is_damaged (layout description options) new chunk ≡ false
      gone = ap (λ value. not
          (is_some (box_content (layout description options) (description.grid.chunk_box chunk) value))) puts.here

  -- ended with no further change
  pub changes-stay : (command : Command) (k : ℕ) (by_store : Bool) (old new : Content) →
      k ≤ length (command_chunks description command) →
      ChangedFirst description options (after description command) (command_chunks description command) k old new →
      LeftAt description options (command ∷ []) 0 k by_store old new
  changes-stay command k by_store old new few changed = record {
    stands = λ chunk is_chunk still.
        let parts = and_parts (is_damaged (layout description options) old chunk)
        (not (list_any (erases_chunk description chunk) (command ∷ []))) still in
        let none : chunk_content (layout description options) old chunk ≡ None =
        none_of (chunk_content (layout description options) old chunk) parts.0 in
        kept description options covers sound command old k new changed chunk is_chunk
        (λ place h e. true≢false (sym (changed.decoded place chunk h e) ∙ ap is_some none));
    left = λ array meant. (
      command,
      refl,
      cut_short-same description options command k by_store array (after description command array)
          (without_chunks (layout description options) (is_damaged (layout description options) old) new)
          (mended description options [] old new) (λ key. sym (mended-start description options old new key))
          (cut_short_of command k by_store array (after description command array)
          (without_chunks (layout description options) (is_damaged (layout description options) old) new) few
          (part_way description options covers sound command old k new changed array meant.fill meant)),
    );
  }
    where
      cut_short_of : (command : Command) (k : ℕ) (by_store : Bool) (before now : Array Element) (store : Content) →
          k ≤ length (command_chunks description command) →
          IsPartWay description options command k before now store →
          IsCutShort description options command k by_store before now store
      cut_short_of command k by_store before now store few part = record {
        few = few;
        finished = part.finished;
        next = λ chunk e. inl
            (part.others chunk (listed_is_chunk description covers (refusal description command) command refl k chunk
            e) (λ place h e'.
            let equal : place ≡ k = chunks_under-once description (refusal description command) command place k chunk
            e' e in absurd (omega (arith, h, equal))));
        others = λ chunk is_chunk apart. part.others chunk is_chunk (λ place h. apart place (omega (arith, h)));
      }

  pub unchanged-left : (command : Command) (k : ℕ) (by_store : Bool) (old new : Content) →
      k ≤ length (command_chunks description command) →
      ((array : Array Element) → after description command array ≡ array) → ((key : List ℕ) → new key ≡ old key) →
      LeftAt description options (command ∷ []) 0 k by_store old new
  unchanged-left command k by_store old new few stays same = record {
    stands = λ chunk is_chunk still. same (description.key chunk);
    left = λ array meant. (command, refl, cut array meant);
  }
    where
      now : (array : Array Element) →
          WhollyMeans (layout description options) (undamaged (layout description options) old) array →
          WhollyMeans (layout description options) (mended description options [] old new) array
      now array meant = WhollyMeans-same (layout description options) (undamaged (layout description options) old)
          (mended description options [] old new) array
          (λ key. sym (mended-start description options old new key) ∙ without-key (layout description options)
          (is_damaged (layout description options) old) old new key (same key)) meant

      listed_chunk : (place : ℕ) (chunk : List ℕ) → slice_get (command_chunks description command) place
          ≡ Some chunk → IsChunk description.grid chunk
      listed_chunk place chunk e = listed_is_chunk description covers (refusal description command) command refl place
          chunk e

      cut : (array : Array Element) →
          WhollyMeans (layout description options) (undamaged (layout description options) old) array →
          IsCutShort description options command k by_store array (after description command array)
          (mended description options [] old new)
      cut array meant = record {
        few = few;
        finished = λ place chunk h e. subst
            (λ a. ChunkHas (layout description options) (mended description options [] old new) a chunk)
            (sym (stays array)) ((now array meant).each_chunk chunk (listed_chunk place chunk e));
        next = λ chunk e. inl ((now array meant).each_chunk chunk (listed_chunk k chunk e));
        others = λ chunk is_chunk apart. (now array meant).each_chunk chunk is_chunk;
      }

  pub left-by_chunk : (commands : List Command) (old new : Content) (chunk : List ℕ) →
      IsChunk description.grid chunk → is_still_damaged description options commands old chunk ≡ false →
      chunk_content (layout description options) (mended description options commands old new) chunk
      ≡ chunk_content (layout description options) new chunk
  left-by_chunk commands old new chunk is_chunk good =
      content-same (layout description options) new (mended description options commands old new) chunk
      ((without-is (layout description options) (is_still_damaged description options commands old) sound new).kept
      chunk is_chunk good)

pub honest-left : (description : Description) (options : Options) (commands : List Command) (m k : ℕ)
    (by_store : Bool) (old new : Content) → IsHonest (layout description options) old →
    LeftAt description options commands m k by_store old new → IsLeftAt description options commands old new by_store
    (Some (m, k))
honest-left description options commands m k by_store old new honest left array meant =
    turn (left.left array
    (WhollyMeans-same (layout description options) old (undamaged (layout description options) old) array
    (λ key. mended-start description options old old key ∙ honest-mended description options [] old old honest key)
    meant))
  where
    turn : FailedAt description options commands m k by_store array
        (mended description options (take m commands) old new) → FailedAt description options commands m k by_store
        array new
    turn (command, is, cut) = (
      command,
      is,
      cut_short-same description options command k by_store _ _ (mended description options (take m commands) old new)
          new
          (λ key. sym (honest-mended description options (take m commands) old new honest key)) cut,
    )

pub undecoded-unmet : (description : Description) (options : Options) (commands : List Command) (old new : Content)
    (key : List ℕ) (at : Option (ℕ × ℕ)) → MeetsNoDamage description options commands old →
    IsUndecoded description options commands old new key at → ⊥
undecoded-unmet description options commands old new key None unmet u = u
undecoded-unmet description options commands old new key (Some (m, k)) unmet u =
    unmet.no_key key (undecoded-met description options commands old new key m k u)
