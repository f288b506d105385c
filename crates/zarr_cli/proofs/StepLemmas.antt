-- Key lines that are set one after another.
use Rattle.std.proofs.Common.{◌≡◌, ℕ, zero, suc, slice_get, ◌<◌, ◌≤◌, List, [], ◌∷◌, length, take, map, get_or, Some}
use Rattle.std.proofs.Common.{sym, ap, ◌∙◌, subst, arith}
use Rattle.std.proofs.Math.Path.{fun_ext}
use Rattle.std.proofs.lemmas.List.{get_or-map, length-map, take_all}
use Rattle.zarr_model.specs.Prelude.{Content, with_keys}
use Rattle.zarr_cli.specs.Lines.{IsKeyOf}

-- an entry of a slice, as a key line
pub entry_here : {E : Type 0} (view : E → List ℕ × List ℕ) (entries : List E) (i : ℕ) (entry : E) → i < length entries →
    get_or entries i entry ≡ entry → slice_get (map view entries) i ≡ Some (view entry)
entry_here view [] i entry within is = absurd (omega arith)
entry_here view (first ∷ entries) zero entry within is = ap (λ e. Some (view e)) is
entry_here view (first ∷ entries) (suc i) entry within is = entry_here view entries i entry (omega arith) is

-- all key lines are set
pub set_all : {E : Type 0} (view : E → List ℕ × List ℕ) (entries : List E) (i : ℕ) (old new : Content) →
    length entries ≤ i →
    ((key : List ℕ) → new key ≡ with_keys (take i (map view entries)) old key) → new ≡ with_keys (map view entries) old
set_all view entries i old new over so_far =
    fun_ext (λ key. so_far key ∙ ap (λ es. with_keys es old key)
    (take_all i (map view entries) (let mapped = length-map entries view in omega (arith, over, mapped))))

-- an entry of a list is among its keys
pub listed_key : {E : Type 0} (view : E → List ℕ × List ℕ) (entries : List E) (i : ℕ) (entry : E) → i < length entries →
    get_or entries i entry ≡ entry → (key : List ℕ) →
    key ≡ (view entry).0 → IsKeyOf (map view entries) key
listed_key {E} view entries i entry within here key same = (
  (view entry).1,
  (
    i,
    subst (λ n. i < n) (sym (length-map entries view)) within,
    get_or-map view entries i entry (key, (view entry).1) within
        ∙ (ap view here ∙ ap (λ k. (k, (view entry).1)) (sym same)),
  ),
)
