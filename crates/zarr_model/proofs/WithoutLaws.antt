-- A store without some of its chunks.
use Rattle.std.proofs.Common.{◌≡◌, ℕ, ◌&&◌, not, Bool, true, false, bytes_eq, List, Option, Some, None, is_some, IsSome}
use Rattle.std.proofs.Common.{refl, sym, ap, ◌∙◌, subst, ⊎_elim}
use Rattle.std.specs.List.{list_any}
use Rattle.std.proofs.lemmas.Bool.{and_parts, and_from, cond-true, cond-false, false_from_ne_true, true≢false}
use Rattle.std.proofs.lemmas.Bool.{cases_Bool}
use Rattle.std.proofs.lemmas.List.Folds.{Any-from_list_any, list_any-from_Any}
use Rattle.zarr_model.specs.Prelude.{whole, Element, IsChunk, chunks, Content, Layout, IsSound, IsHonest, box_content}
use Rattle.zarr_model.specs.Prelude.{chunk_content, without_chunks, is_damaged, undamaged}
use Rattle.zarr_model.specs.Laws.{IsUndamaged}
use Rattle.zarr_model.specs.LeavesLaws.{IsWithout}
use Rattle.zarr_model.proofs.ArrayLaws.{tuples_are}
use Rattle.zarr_model.proofs.FailureLaws.{same_bytes, bytes_eq-refl}

abbrev left_out : {E : Type 0} → Layout E → (List ℕ → Bool) → List ℕ → Bool
left_out place which key = list_any (λ chunk. bytes_eq (place.key chunk) key && which chunk) (chunks place.grid)

module _ {E : Type 0} (place : Layout E) (which : List ℕ → Bool) where
  out_key : (chunk : List ℕ) → IsChunk place.grid chunk → which chunk ≡ true → left_out place which (place.key chunk)
      ≡ true
  out_key chunk is_chunk out =
      let (k, below, here) = (tuples_are (whole place.grid.grid_shape) chunk).0 is_chunk in
      list_any-from_Any (λ c. bytes_eq (place.key c) (place.key chunk) && which c) (chunks place.grid) (
        k,
        chunk,
        below,
        here,
        and_from (bytes_eq (place.key chunk) (place.key chunk)) (which chunk) (bytes_eq-refl (place.key chunk)) out,
      )

  pub out_chunk : (key : List ℕ) → left_out place which key ≡ true →
      (chunk : List ℕ) × IsChunk place.grid chunk × (place.key chunk ≡ key) × (which chunk ≡ true)
  out_chunk key e =
      let (k, chunk, below, here, passes) = Any-from_list_any (λ c. bytes_eq (place.key c) key && which c)
      (chunks place.grid) e in
      let parts = and_parts (bytes_eq (place.key chunk) key) (which chunk) passes in (
        chunk,
        (tuples_are (whole place.grid.grid_shape) chunk).1 (k, below, here),
        same_bytes (place.key chunk) key parts.0,
        parts.1,
      )

  pub without-is : IsSound place → (store : Content) → IsWithout place which store (without_chunks place which store)
  without-is sound store = record {
    kept = λ chunk is_chunk stays. cond-false (left_out place which (place.key chunk)) None (store (place.key chunk))
        (false_from_ne_true (left_out place which (place.key chunk)) (λ out.
        let (other, is_other, same_key, gone) = out_chunk (place.key chunk) out in
        let same : other ≡ chunk = sound.keys_apart other chunk is_other is_chunk same_key in
        true≢false (sym gone ∙ (ap which same ∙ stays))));
    dropped = λ chunk is_chunk out. cond-true (left_out place which (place.key chunk)) None (store (place.key chunk))
        (out_key chunk is_chunk out);
    others = λ key apart. cond-false (left_out place which key) None (store key)
        (false_from_ne_true (left_out place which key) (λ out.
        let (chunk, is_chunk, same_key, gone) = out_chunk key out in apart (chunk, is_chunk, same_key)));
  }

  -- where nothing is left out
  pub without-none : (store : Content) → ((chunk : List ℕ) → IsChunk place.grid chunk → which chunk ≡ false) →
      (key : List ℕ) → without_chunks place which store key ≡ store key
  without-none store none key = cond-false (left_out place which key) None (store key)
      (false_from_ne_true (left_out place which key) (λ out.
      let (chunk, is_chunk, same_key, gone) = out_chunk key out in true≢false (sym gone ∙ none chunk is_chunk)))

  -- a key that holds the same in two stores does so without these chunks
  pub without-key : (old new : Content) (key : List ℕ) → new key ≡ old key → without_chunks place which new key
      ≡ without_chunks place which old key
  without-key old new key same = ⊎_elim
      (λ (out : left_out place which key ≡ true). cond-true (left_out place which key) None (new key) out
      ∙ sym (cond-true (left_out place which key) None (old key) out))
      (λ (here : left_out place which key ≡ false). cond-false (left_out place which key) None (new key) here
      ∙ (same ∙ sym (cond-false (left_out place which key) None (old key) here)))
      (cases_Bool (left_out place which key))

-- two tests that agree on the chunks of a key leave out the same there
out_too : {E : Type 0} (place : Layout E) (which other : List ℕ → Bool) (key : List ℕ) →
    ((chunk : List ℕ) → IsChunk place.grid chunk → place.key chunk ≡ key → which chunk ≡ other chunk) →
    left_out place which key ≡ true → left_out place other key ≡ true
out_too place which other key same out =
    let (chunk, is_chunk, same_key, gone) = out_chunk place which key out in
    subst (λ k. left_out place other k ≡ true) same_key
    (out_key place other chunk is_chunk (sym (same chunk is_chunk same_key) ∙ gone))

pub without-at : {E : Type 0} (place : Layout E) (which other : List ℕ → Bool) (store : Content) (key : List ℕ) →
    ((chunk : List ℕ) → IsChunk place.grid chunk → place.key chunk ≡ key → which chunk ≡ other chunk) →
    without_chunks place which store key ≡ without_chunks place other store key
without-at place which other store key same = ⊎_elim
    (λ (out : left_out place which key ≡ true).
    cond-true (left_out place which key) None (store key) out
    ∙ sym (cond-true (left_out place other key) None (store key) (out_too place which other key same out)))
    (λ (here : left_out place which key ≡ false).
    cond-false (left_out place which key) None (store key) here
    ∙ sym (cond-false (left_out place other key) None (store key)
    (false_from_ne_true (left_out place other key) (λ out.
    true≢false (sym (out_too place other which key (λ chunk is_chunk is. sym (same chunk is_chunk is)) out)
    ∙ here)))))
    (cases_Bool (left_out place which key))

-- two tests that agree on the grid's chunks leave out the same
pub without-same : {E : Type 0} (place : Layout E) (which other : List ℕ → Bool) (store : Content) →
    ((chunk : List ℕ) → IsChunk place.grid chunk → which chunk ≡ other chunk) → (key : List ℕ) →
    without_chunks place which store key ≡ without_chunks place other store key
without-same place which other store same key =
    without-at place which other store key (λ chunk is_chunk is. same chunk is_chunk)

-- a store without its damaged keys
module _ {E : Type 0} (place : Layout E) (sound : IsSound place) (store : Content) where
  clean_is : IsWithout place (is_damaged place store) store (undamaged place store)
  clean_is = without-is place (is_damaged place store) sound store

  honest_after : (chunk : List ℕ) → IsChunk place.grid chunk → (content : Option (List E)) →
      chunk_content place store chunk ≡ content → IsSome (chunk_content place (undamaged place store) chunk)
  honest_after chunk is_chunk None e =
      subst (λ value. IsSome (box_content place (place.grid.chunk_box chunk) value))
      (sym (clean_is.dropped chunk is_chunk (ap (λ o. not (is_some o)) e))) refl
  honest_after chunk is_chunk (Some elements) e =
      subst (λ value. IsSome (box_content place (place.grid.chunk_box chunk) value))
      (sym (clean_is.kept chunk is_chunk (ap (λ o. not (is_some o)) e))) (subst IsSome (sym e) refl)

  pub undamaged-honest : IsHonest place (undamaged place store)
  undamaged-honest chunk is_chunk = honest_after chunk is_chunk (chunk_content place store chunk) refl

pub undamaged-is : (place : Layout Element) (store : Content) → IsSound place →
    IsUndamaged place store (undamaged place store)
undamaged-is place store sound =
    let clean = without-is place (is_damaged place store) sound store in record {
      kept = λ chunk is_chunk there. clean.kept chunk is_chunk (ap not there);
      dropped = λ chunk is_chunk none. clean.dropped chunk is_chunk (ap (λ o. not (is_some o)) none);
      others = clean.others;
      honest = undamaged-honest place sound store;
    }
