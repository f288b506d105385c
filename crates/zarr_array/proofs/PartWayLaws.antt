-- Changing some chunks, one after another.
use Rattle.std.proofs.Common.{◌≡◌, ℕ, ◌+◌, ◌^◌, ◌-◌, ◌<◌, ◌≤◌, List, length, slice_get, Some, None, IsSome, is_some}
use Rattle.std.proofs.Common.{refl, sym, ap, ◌∙◌, subst, arith, ◌⊎◌, inl, inr, ⊎_elim, le_trans}
use Rattle.std.proofs.lemmas.Bool.{cases_eq}
use Rattle.std.proofs.lemmas.Option.{same_Some, slice_get_within}
use Rattle.zarr_model.specs.Prelude.{Region, Element, Array, Grid, IsChunk, chunks_meeting, Options, Content}
use Rattle.zarr_model.specs.Prelude.{IsSound, chunk_content, Shown, read, Description, layout, counted}
use Rattle.zarr_model.specs.Prelude.{ChunkHas}
use Rattle.zarr_model.proofs.FailureLaws.{meeting_is, chunks_under-once}
use Rattle.zarr_model.proofs.MendedLaws.{content-same}
use Rattle.zarr_array.specs.declared.command_error.SessionErrorKind.{SessionErrorKind}
use Rattle.zarr_array.specs.declared.command_error.SessionErrorKind.TheVariants.{OutOfMemory}
use Rattle.zarr_array.specs.Write.{HoldsChunk, ChangesChunk, FailsToChange}
use Rattle.zarr_array.specs.PartWay.{ChangedSome, FailsPartWay}

holds-same : (description : Description) (options : Options) (array : Array Element) (chunk : List ℕ)
    (old new : Content) → new (description.key chunk) ≡ old (description.key chunk) →
    HoldsChunk description options array chunk old → HoldsChunk description options array chunk new
holds-same description options array chunk old new same holds = record {
  has = λ under. content-same (layout description under) old new chunk same ∙ holds.has under;
  present = ap is_some same ∙ holds.present;
}

module _ (description : Description) (options : Options) (sound : IsSound (layout description options))
    (change : Array Element → Array Element) (chunks : List (List ℕ))
    (are_chunks : (place : ℕ) (chunk : List ℕ) → slice_get chunks place ≡ Some chunk →
    IsChunk description.grid chunk) where
  -- the key of a chunk that is none of the first k holds what it held
  pub changed-kept : (k : ℕ) (old now : Shown) (chunk : List ℕ) →
      ChangedSome description options change chunks k old now →
      IsChunk description.grid chunk → ((place : ℕ) → place < k → ¬ (slice_get chunks place ≡ Some chunk)) →
      now.content (description.key chunk) ≡ old.content (description.key chunk)
  changed-kept k old now chunk changed is_chunk apart = changed.others (description.key chunk) (λ place other h e same.
      apart place h (e ∙ ap Some (sym (sound.keys_apart chunk other is_chunk (are_chunks place other e) same))))

  -- a key that is no chunk's holds what it held
  pub changed-outside : (k : ℕ) (old now : Shown) (key : List ℕ) →
      ChangedSome description options change chunks k old now →
      ((chunk : List ℕ) → IsChunk description.grid chunk → ¬ (description.key chunk ≡ key)) →
      now.content key ≡ old.content key
  changed-outside k old now key changed apart =
      changed.others key (λ place other h e same. apart other (are_chunks place other e) (sym same))

  pub changed-start : (store : Shown) → store.puts ≤ 2 ^ 64 - 1 →
      ChangedSome description options change chunks 0 store store
  changed-start store few = record {
    decoded = λ place chunk h e. absurd (omega (arith, h));
    mended = λ place chunk h e under. absurd (omega (arith, h));
    holds = λ array place chunk is_fill h e was. absurd (omega (arith, h));
    others = λ key apart. refl;
    puts = omega (arith, few);
    later = omega arith;
  }

  -- memory ran out after the first k
  pub changed-starves : (k : ℕ) (old mid new : Shown) → ChangedSome description options change chunks k old mid →
      k ≤ length chunks → ((key : List ℕ) → new.content key ≡ mid.content key) → new.puts ≡ mid.puts →
      mid.faults ≤ new.faults →
      FailsPartWay description options change chunks k old new OutOfMemory
  changed-starves k old mid new changed few same unput later = record {
    mid = mid;
    few = few;
    changed = changed;
    stops = inl (refl, same);
    puts = inl (unput ∙ changed.puts);
    later = later;
  }

  -- memory ran out before the first
  pub changed-starved : (store : Shown) → store.puts ≤ 2 ^ 64 - 1 →
      FailsPartWay description options change chunks 0 store store OutOfMemory
  changed-starved store few =
      changed-starves 0 store store store (changed-start store few) (omega arith) (λ key. refl) refl (omega arith)

  -- the next chunk was not changed
  pub changed-fails : (k : ℕ) (old mid new : Shown) (chunk : List ℕ) (kind : SessionErrorKind) →
      ChangedSome description options change chunks k old mid → slice_get chunks k ≡ Some chunk →
      FailsToChange description options change chunk mid new kind →
      ((new.puts ≡ mid.puts) ⊎ (new.puts ≡ counted mid.puts 1)) → mid.faults ≤ new.faults →
      FailsPartWay description options change chunks k old new kind
  changed-fails k old mid new chunk kind changed here fails put later = record {
    mid = mid;
    few = let within : k < length chunks = slice_get_within chunks k chunk here in omega (arith, within);
    changed = changed;
    stops = inr (chunk, here, fails);
    puts = ⊎_elim (λ (none : new.puts ≡ mid.puts). inl (none ∙ changed.puts)) (λ (one : new.puts ≡ counted mid.puts 1).
        inr (slice_get_within chunks k chunk here, omega (arith, one, changed.puts))) put;
    later = later;
  }

  module _ (once : (i j : ℕ) (chunk : List ℕ) → slice_get chunks i ≡ Some chunk → slice_get chunks j ≡ Some chunk →
      i ≡ j) where
    -- the next chunk is changed too
    pub changed-step : (k : ℕ) (old mid new : Shown) (chunk : List ℕ) →
        ChangedSome description options change chunks k old mid → slice_get chunks k ≡ Some chunk →
        ChangesChunk description options change chunk mid.content new.content → new.puts ≡ counted mid.puts 1 →
        mid.faults ≤ new.faults →
        ChangedSome description options change chunks (k + 1) old new
    changed-step k old mid new chunk changed here changes put later = record {
      decoded =
          λ place other h e. at place other h e (IsSome (chunk_content (layout description options) old.content other))
          (λ same. subst (λ c. IsSome (chunk_content (layout description options) old.content c)) same
          (subst IsSome (content-same (layout description options) old.content mid.content chunk was) changes.decoded))
          (λ below apart. changed.decoded place other below e);
      mended = λ place other h e under.
          at place other h e (IsSome (chunk_content (layout description under) new.content other))
          (λ same.
          subst (λ c. IsSome (chunk_content (layout description under) new.content c)) same (changes.mended under))
          (λ below apart. subst IsSome (sym (content-same (layout description under) mid.content new.content other
          apart)) (changed.mended place other below e under));
      holds = λ array place other is_fill h e had.
          at place other h e (HoldsChunk description options (change array) other new.content)
          (λ same. subst (λ c. HoldsChunk description options (change array) c new.content) same
          (changes.holds array is_fill (had_then array other same had)))
          (λ below apart. holds-same description options (change array) other mid.content new.content apart
          (changed.holds array place other is_fill below e had));
      others = λ key apart.
          changes.others key (apart k chunk (omega arith) here)
          ∙ changed.others key (λ place other h e. apart place other (omega (arith, h)) e);
      puts = omega (arith, put, changed.puts);
      later = le_trans changed.later later;
    }
      where
        -- the chunk holds what it held at the start
        was : mid.content (description.key chunk) ≡ old.content (description.key chunk)
        was = changed-kept k old mid chunk changed (are_chunks k chunk here) (λ place h e.
            let same : place ≡ k = once place k chunk e here in absurd (omega (arith, h, same)))

        had_then : (array : Array Element) (other : List ℕ) → chunk ≡ other → ChunkHas (layout description options)
            old.content array other → ChunkHas (layout description options) mid.content array chunk
        had_then array other same had = content-same (layout description options) old.content mid.content chunk was
            ∙ subst (ChunkHas (layout description options) old.content array) (sym same) had

        -- a place is the last one, or its chunk's key holds what it held before the step
        at : (place : ℕ) (other : List ℕ) → place < k + 1 → slice_get chunks place ≡ Some other → (P : Type 0) →
            (chunk ≡ other → P) →
            (place < k → new.content (description.key other) ≡ mid.content (description.key other) → P) → P
        at place other h e P last before = ⊎_elim
            (λ (is_here : place ≡ k).
            last (same_Some chunk other (sym here ∙ (ap (slice_get chunks) (sym is_here) ∙ e))))
            (λ (is_not : place ≡ k → ⊥).
            before (omega (arith, h, is_not)) (changes.others (description.key other) (λ same.
            is_not (once place k other e (here ∙
            ap Some (sym (sound.keys_apart other chunk (are_chunks place other e) (are_chunks k chunk here) same)))))))
            (cases_eq place k)

-- the chunks that a region meets are chunks, each listed once
pub met-chunks : (grid : Grid) (region : Region) (place : ℕ) (chunk : List ℕ) →
    slice_get (chunks_meeting grid region) place ≡ Some chunk → IsChunk grid chunk
met-chunks grid region place chunk e = (meeting_is grid region place chunk e).0

pub met-once : (description : Description) (region : Region) (i j : ℕ) (chunk : List ℕ) →
    slice_get (chunks_meeting description.grid region) i ≡ Some chunk →
    slice_get (chunks_meeting description.grid region) j ≡ Some chunk → i ≡ j
met-once description region i j chunk first second =
    chunks_under-once description None (read region) i j chunk first second
