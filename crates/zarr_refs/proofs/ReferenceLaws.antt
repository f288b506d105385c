-- References by their keys, one after another.
use Rattle.std.proofs.Common.{◌≡◌, ◌∙◌, ap, sym, refl, ℕ, ◌+◌, ◌<◌, Bool, true, false, cond, subst, List, [], ◌∷◌, ◌++◌}
use Rattle.std.proofs.Common.{take, drop, get_or, length, Option, Some, None, is_some}
use Rattle.std.specs.Prelude.{bytes_eq}
use Rattle.std.specs.Ordering.{nat_cmp, is_eq}
use Rattle.std.specs.Cmp.Lexicographic.{slice_cmp}
use Rattle.std.specs.BTreeMap.{BTreeMap}
use Rattle.std.proofs.lemmas.List.{take_more, drop_more}
use Rattle.std.proofs.lemmas.Map.Text.{is_eq-slice_cmp}
use Rattle.std.proofs.lemmas.Slice.Eq.{bytes_eq-Decides}
use Rattle.zarr_refs.specs.declared.reference.Reference.{Reference}
use Rattle.zarr_refs.specs.declared.slices.Slice.{Slice}
use Rattle.zarr_refs.specs.References.{has_key, repeated_after}
use Rattle.zarr_refs.specs.Slices.{slice_by, slice_at, slice_named}

-- a key has a slice exactly where one of the references has it
pub has_named : (references : List Reference) (key : List ℕ) →
    is_some (slice_named key references) ≡ has_key references key
has_named [] key = refl
has_named (r ∷ rs) key = go (bytes_eq r.key key) refl (has_named rs key)
  where
    go : (b : Bool) → bytes_eq r.key key ≡ b → is_some (slice_named key rs) ≡ has_key rs key →
        is_some (slice_named key (r ∷ rs)) ≡ has_key (r ∷ rs) key
    go true is rest = rw is refl
    go false is rest = rw is rest

-- a reference behind others whose keys are not this one, and one of another key
behind : (references : List Reference) (r : Reference) (key : List ℕ) → slice_named key references ≡ None →
    slice_named key (references ++ r ∷ []) ≡ slice_named key (r ∷ [])
behind [] r key none = refl
behind (x ∷ xs) r key none = go (bytes_eq x.key key) refl (behind xs r key)
  where
    go : (b : Bool) → bytes_eq x.key key ≡ b → (slice_named key xs ≡ None → slice_named key (xs ++ r ∷ []) ≡
        slice_named key (r ∷ [])) → slice_named key ((x ∷ xs) ++ r ∷ []) ≡ slice_named key (r ∷ [])
    go true is rest = let some : slice_named key (x ∷ xs) ≡ Some (slice_by x) = rw is refl in cc
    go false is rest = let here : slice_named key (x ∷ xs) ≡ slice_named key xs = rw is refl in
        rw is (rest (sym here ∙ none))

apart_from : (references : List Reference) (r : Reference) (key : List ℕ) → bytes_eq r.key key ≡ false →
    slice_named key (references ++ r ∷ []) ≡ slice_named key references
apart_from [] r key apart = rw apart refl
apart_from (x ∷ xs) r key apart =
    ap (λ rest. cond (bytes_eq x.key key) (Some (slice_by x)) rest) (apart_from xs r key apart)

-- one more entry of a map of slices
pub one_more : (references : List Reference) (r : Reference) (old new : BTreeMap (List ℕ) Slice) →
    ((key : List ℕ) → slice_at old key ≡ slice_named key references) →
    slice_at old r.key ≡ None →
    ((key : List ℕ) →
    slice_at new key ≡ cond (is_eq (slice_cmp nat_cmp r.key key)) (Some (slice_by r)) (slice_at old key)) →
    (key : List ℕ) → slice_at new key ≡ slice_named key (references ++ r ∷ [])
one_more references r old new kept absent updated key = go (bytes_eq r.key key) refl
  where
    test : is_eq (slice_cmp nat_cmp r.key key) ≡ bytes_eq r.key key
    test = is_eq-slice_cmp r.key key

    go : (b : Bool) → bytes_eq r.key key ≡ b → slice_at new key ≡ slice_named key (references ++ r ∷ [])
    go true is =
        let same : r.key ≡ key = (bytes_eq-Decides r.key key).0 is in
        let none : slice_named key references ≡ None =
        subst (λ k. slice_named k references ≡ None) same (sym (kept r.key) ∙ absent) in
        let own : slice_named key (r ∷ []) ≡ Some (slice_by r) = rw is refl in
        updated key ∙ (ap (λ (b : Bool). cond b (Some (slice_by r)) (slice_at old key)) (test ∙ is)
        ∙ sym (behind references r key none ∙ own))
    go false is = updated key ∙ (ap (λ (b : Bool). cond b (Some (slice_by r)) (slice_at old key)) (test ∙ is)
        ∙ (kept key ∙ sym (apart_from references r key is)))

-- a key that is new among those before it, and one that is not
pub not_repeated : (before : List Reference) (r : Reference) (rest : List Reference) → slice_named r.key before ≡ None →
    repeated_after before (r ∷ rest) ≡ repeated_after (before ++ r ∷ []) rest
not_repeated before r rest none =
    let no : has_key before r.key ≡ false = sym (has_named before r.key) ∙ ap is_some none in
    rw no refl

pub is_repeated : (before : List Reference) (r : Reference) (rest : List Reference) →
    is_some (slice_named r.key before) ≡ true → repeated_after before (r ∷ rest) ≡ Some r.key
is_repeated before r rest some =
    let yes : has_key before r.key ≡ true = sym (has_named before r.key) ∙ some in
    rw yes refl

-- the same at a place of a list
module _ (references : List Reference) (i : ℕ) (r : Reference) (h : i < length references)
    (item : get_or references i r ≡ r) where
  front : take (i + 1) references ≡ take i references ++ r ∷ []
  front = take_more references i r h ∙ ap (λ x. take i references ++ x ∷ []) item

  back : drop i references ≡ r ∷ drop (i + 1) references
  back = drop_more references i r h ∙ ap (λ x. x ∷ drop (i + 1) references) item

  pub not_repeated_at : slice_named r.key (take i references) ≡ None →
      repeated_after (take i references) (drop i references) ≡
      repeated_after (take (i + 1) references) (drop (i + 1) references)
  not_repeated_at none =
      ap (repeated_after (take i references)) back
      ∙ (not_repeated (take i references) r (drop (i + 1) references) none
      ∙ ap (λ xs. repeated_after xs (drop (i + 1) references)) (sym front))

  pub is_repeated_at : is_some (slice_named r.key (take i references)) ≡ true →
      repeated_after (take i references) (drop i references) ≡ Some r.key
  is_repeated_at some =
      ap (repeated_after (take i references)) back ∙ is_repeated (take i references) r (drop (i + 1) references) some

  pub one_more_at : (old new : BTreeMap (List ℕ) Slice) →
      ((key : List ℕ) → slice_at old key ≡ slice_named key (take i references)) →
      slice_at old r.key ≡ None →
      ((key : List ℕ) →
      slice_at new key ≡ cond (is_eq (slice_cmp nat_cmp r.key key)) (Some (slice_by r)) (slice_at old key)) →
      (key : List ℕ) → slice_at new key ≡ slice_named key (take (i + 1) references)
  one_more_at old new kept absent updated key =
      one_more (take i references) r old new kept absent updated key ∙ ap (slice_named key) (sym front)

pub is_absent : {X : Type 0} (found : Option X) → is_some found ≡ false → found ≡ None
is_absent None e = refl
is_absent (Some x) e = cc
