-- What was taken from a source.
use Rattle.std.proofs.Common.{◌≡◌, ℕ, ◌+◌, ◌<◌, List, [], ◌∷◌, ◌++◌, length, take, Option, Some, None, IsSome, ◌↔◌}
use Rattle.std.proofs.Common.{rules, refl, sym, ap, ◌∙◌, append_assoc, append-nil}
use Rattle.zarr_model.specs.Prelude.{ReadsNext}
use Rattle.zarr_cli.specs.Steps.{HasTaken}

abbrev none_left : Option (List ℕ)
none_left = None

some_is : (bytes : List ℕ) → IsSome (Some bytes)
some_is bytes = search rules

gone : IsSome none_left → ⊥
gone h = cc

-- a read takes the next bytes
pub taken_more : (before mid now : Option (List ℕ)) (taken buffer : List ℕ) (got : ℕ) → HasTaken before taken mid →
    (IsSome now ↔ IsSome mid) →
    ((b n : List ℕ) → mid ≡ Some b → now ≡ Some n → ReadsNext b n got buffer) →
    HasTaken before (taken ++ take got buffer) now
taken_more None mid now taken buffer got h tells next = tt
taken_more (Some left) None now taken buffer got h tells next = absurd h
taken_more (Some left) (Some m) None taken buffer got h tells next = absurd (gone (tells.1 (some_is m)))
taken_more (Some left) (Some m) (Some n) taken buffer got h tells next =
    h ∙ (ap (λ rest. taken ++ rest) (next m n refl refl).bytes ∙ sym (append_assoc taken (take got buffer) n))

-- a read that takes nothing is at the end
pub taken_all : (before mid now : Option (List ℕ)) (taken buffer : List ℕ) (got : ℕ) → HasTaken before taken mid →
    (IsSome now ↔ IsSome mid) →
    ((b n : List ℕ) → mid ≡ Some b → now ≡ Some n → ReadsNext b n got buffer) → got ≡ 0 → 0 < length buffer →
    (left : List ℕ) → before ≡ Some left → (taken ≡ left) × (now ≡ Some [])
taken_all None mid now taken buffer got h tells next none room left e = absurd (cc)
taken_all (Some all) None now taken buffer got h tells next none room left e = absurd h
taken_all (Some all) (Some m) None taken buffer got h tells next none room left e = absurd (gone (tells.1 (some_is m)))
taken_all (Some all) (Some m) (Some n) taken buffer got h tells next none room left e =
    let step : ReadsNext m n got buffer = next m n refl refl in
    let ended : m ≡ [] = step.end none room in
    let same : all ≡ left = cc in
    let empty : take got buffer ++ n ≡ [] = sym step.bytes ∙ ended in (
      sym (append-nil taken) ∙ (ap (λ rest. taken ++ rest) (sym ended) ∙ (sym h ∙ same)),
      ap Some (last (take got buffer) n empty),
    )
  where
    last : (a b : List ℕ) → a ++ b ≡ [] → b ≡ []
    last [] b e = e
    last (x ∷ a) b e = cc

-- an empty read appends nothing
pub nothing_read : (new old buffer left : List ℕ) (got : ℕ) → new ≡ old ++ take got buffer → got ≡ 0 → old ≡ left →
    new ≡ left
nothing_read new old buffer left got appended none same =
    appended ∙ (ap (λ n. old ++ take n buffer) none ∙ (append-nil old ∙ same))
