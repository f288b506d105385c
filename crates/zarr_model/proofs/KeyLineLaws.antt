-- Key lines that are set one after another.
use Rattle.std.proofs.Common.{◌≡◌, ℕ, suc, true, false, bytes_eq, List, [], ◌∷◌, ◌++◌, length, take, slice_get, Some}
use Rattle.std.proofs.Common.{None, refl, sym, ap, ◌∙◌, subst, arith, ⊎_elim, ◌⊎◌, inl, inr}
use Rattle.std.proofs.lemmas.Bool.{cond-true, cond-false, true≢false, cases_Bool}
use Rattle.std.proofs.lemmas.List.{take_all}
use Rattle.std.proofs.lemmas.Option.{slice_get_within}
use Rattle.zarr_model.specs.Prelude.{Content, with_key, with_keys, PutsKey, MayPutKey, SetsSome}
use Rattle.zarr_model.proofs.FailureLaws.{same_bytes, bytes_eq-refl}
use Rattle.zarr_model.specs.LeavesLaws.{KeyLinesSet}
use Rattle.zarr_model.proofs.StepLaws.{take_one}

with_keys-append : (entries more : List (List ℕ × List ℕ)) (store : Content) → with_keys (entries ++ more) store
    ≡ with_keys more (with_keys entries store)
with_keys-append [] more store = refl
with_keys-append (entry ∷ entries) more store = with_keys-append entries more (with_key entry.0 entry.1 store)

module _ (entries : List (List ℕ × List ℕ)) where
  one_more : (n : ℕ) (entry : List ℕ × List ℕ) (old : Content) → slice_get entries n ≡ Some entry →
      with_keys (take (suc n) entries) old ≡ with_key entry.0 entry.1 (with_keys (take n entries) old)
  one_more n entry old here = ap (λ es. with_keys es old) (take_one entries n entry here)
      ∙ with_keys-append (take n entries) (entry ∷ []) old

  sets : (n : ℕ) (entry : List ℕ × List ℕ) (old mid new : Content) → slice_get entries n ≡ Some entry →
      ((key : List ℕ) → mid key ≡ with_keys (take n entries) old key) →
      PutsKey mid new entry.0 (Some entry.1) → (key : List ℕ) → new key ≡ with_keys (take (suc n) entries) old key
  sets n entry old mid new here so_far puts key = ⊎_elim
      (λ (same : bytes_eq key entry.0 ≡ true).
      ap new (same_bytes key entry.0 same)
      ∙ (puts.here ∙ sym (cond-true (bytes_eq key entry.0) (Some entry.1) (with_keys (take n entries) old key)
      same)))
      (λ (differ : bytes_eq key entry.0 ≡ false).
      puts.others key (λ e. true≢false (sym (bytes_eq-refl key) ∙ (ap (bytes_eq key) e ∙ differ)))
      ∙ (so_far key ∙ sym (cond-false (bytes_eq key entry.0) (Some entry.1) (with_keys (take n entries) old key)
      differ)))
      (cases_Bool (bytes_eq key entry.0))
      ∙ ap (λ store. store key) (sym (one_more n entry old here))

  nothing_next : {P : Type 0} (entry : List ℕ × List ℕ) → slice_get entries (length entries) ≡ Some entry → P
  nothing_next entry e = absurd (let h = slice_get_within entries (length entries) entry e in omega (arith, h))

  fails : (n : ℕ) (entry : List ℕ × List ℕ) (old mid new : Content) → slice_get entries n ≡ Some entry →
      ((key : List ℕ) → mid key ≡ with_keys (take n entries) old key) →
      MayPutKey mid new entry.0 (Some entry.1) → SetsSome entries n old new
  fails n entry old mid new here so_far may = record {
    few = let h = slice_get_within entries n entry here in omega (arith, h);
    next = λ other e.
        let same : other ≡ entry = same_some other entry (sym e ∙ here) in
        subst (λ x. (new x.0 ≡ with_keys (take n entries) old x.0) ⊎ ((new x.0 ≡ Some x.1) ⊎ (new x.0 ≡ None)))
        (sym same)
        (⊎_elim (λ (was : new entry.0 ≡ mid entry.0). inl (was ∙ so_far entry.0))
        (λ (rest : (new entry.0 ≡ Some entry.1) ⊎ (new entry.0 ≡ None)). inr rest) may.here);
    others = λ key apart. may.others key (apart entry here) ∙ so_far key;
  }
    where
      same_some : (x y : List ℕ × List ℕ) → Some x ≡ Some y → x ≡ y
      same_some x y e = cc

  pub key-lines : KeyLinesSet entries
  key-lines = record {
    start = λ store. record {
      few = omega arith;
      next = λ entry e. inl refl;
      others = λ key apart. refl;
    };
    done = λ old new same. record {
      few = omega arith;
      next = λ entry e. nothing_next entry e;
      others = λ key apart. same key
          ∙ ap (λ es. with_keys es old key) (sym (take_all (length entries) entries (omega arith)));
    };
    sets = sets;
    fails = fails;
  }
