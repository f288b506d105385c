-- A list that is read item by item.
use Rattle.std.proofs.Common.{◌≡◌, ℕ, zero, suc, ◌+◌, ◌<◌, List, [], ◌∷◌, ◌++◌, length, take, map, get_or, Option, Some}
use Rattle.std.proofs.Common.{None, refl, ap, arith, add-one}
use Rattle.std.proofs.lemmas.List.{map-append}
use Rattle.serde_json.specs.Data.{Data}
use Rattle.serde_json.specs.View.{view, items_of, items_view}
use Rattle.serde_json.specs.declared.value.Value.{Value}
use Rattle.zarrs_metadata_values.specs.declared.error.MetadataError.{MetadataError}
use Rattle.zarrs_metadata_values.specs.declared.error.MetadataError.TheVariants.{InvalidJson, FloatNumber}
use Rattle.zarrs_metadata_values.specs.declared.error.MetadataError.TheVariants.{InvalidMetadata, OutOfMemory}
use Rattle.zarrs_metadata_values.specs.Reading.{◌>>=◌, each, Fails}

pub bind_some : {A B : Type 0} (o : Option A) (f : A → Option B) (y : B) → (o >>= f) ≡ Some y →
    (x : A) × (o ≡ Some x) × (f x ≡ Some y)
bind_some (Some x) f y e = (x, refl, e)
bind_some None f y e = absurd cc

pub none_after : {Y : Type 0} (o : Option Y) (r : Option (List Y)) → r ≡ None →
    (o >>= λ y. r >>= λ ys. Some (y ∷ ys)) ≡ None
none_after (Some y) r h = rw h refl
none_after None r h = refl

-- of items that are shown as values
module _ {V Y : Type 0} (shown : V → Data) (g : Data → Option Y) where
  pub each_none : (vs : List V) (i : ℕ) (v : V) → i < length vs → v ≡ get_or vs i v → g (shown v) ≡ None →
      each g (items_of (map shown vs)) ≡ None
  each_none [] i v lt is none = absurd (omega arith)
  each_none (w ∷ vs) zero v lt is none = let here : g (shown w) ≡ None = rw (← is) none in rw here refl
  each_none (w ∷ vs) (suc i) v lt is none = none_after (g (shown w)) _ (each_none vs i v (omega arith) is none)

  pub each_more : (vs : List V) (i : ℕ) (v : V) (ys : List Y) (y : Y) → i < length vs → v ≡ get_or vs i v
      → each g (items_of (map shown (take i vs))) ≡ Some ys → g (shown v) ≡ Some y →
      each g (items_of (map shown (take (suc i) vs))) ≡ Some (ys ++ y ∷ [])
  each_more [] i v ys y lt is front here = absurd (omega arith)
  each_more (w ∷ vs) zero v [] y lt is front here = let it : g (shown w) ≡ Some y = rw (← is) here in rw it refl
  each_more (w ∷ vs) zero v (z ∷ ys) y lt is front here = absurd cc
  each_more (w ∷ vs) (suc i) v ys y lt is front here =
      let a = bind_some (g (shown w)) (λ z. each g (items_of (map shown (take i vs))) >>= λ zs. Some (z ∷ zs)) ys front
      in
      let b = bind_some (each g (items_of (map shown (take i vs)))) (λ zs. Some (a.0 ∷ zs)) ys a.2 in
      let e : Some (a.0 ∷ b.0) ≡ Some ys = b.2 in
      let whole : a.0 ∷ b.0 ≡ ys = cc in
      rw (a.1, each_more vs i v b.0 y (omega arith) is b.1 here) (ap (λ (o : List Y). Some (o ++ y ∷ [])) whole)

-- one more item is read, as it is
pub each_push_same : {Y : Type 0} (g : Data → Option Y) (vs : List Value) (i : ℕ) (v : Value) (ys : List Y) (y : Y) →
    i < length vs → v ≡ get_or vs i v
    → each g (items_view (take i vs)) ≡ Some ys → g (view v) ≡ Some y →
    each g (items_view (take (i + 1) vs)) ≡ Some (ys ++ y ∷ [])
each_push_same g vs i v ys y lt is front here = rw add-one (each_more view g vs i v ys y lt is front here)

pub each_push : {X Y : Type 0} (g : Data → Option Y) (seen : X → Y) (vs : List Value) (i : ℕ) (v : Value) (xs : List X)
    (x : X) → i < length vs → v ≡ get_or vs i v
    → each g (items_view (take i vs)) ≡ Some (map seen xs) → g (view v) ≡ Some (seen x) →
    each g (items_view (take (i + 1) vs)) ≡ Some (map seen (xs ++ x ∷ []))
each_push g seen vs i v xs x lt is front here =
    rw (add-one, map-append) (each_more view g vs i v (map seen xs) (seen x) lt is front here)

-- an item that isn't read
pub each_fails : {Y : Type 0} (g : Data → Option Y) (vs : List Value) (i : ℕ) (v : Value) (e : MetadataError) →
    i < length vs → v ≡ get_or vs i v
    → Fails e (g (view v)) → Fails e (each g (items_view vs))
each_fails g vs i v OutOfMemory lt is fails = tt
each_fails g vs i v InvalidMetadata lt is fails = each_none view g vs i v lt is fails
each_fails g vs i v InvalidJson lt is fails = fails
each_fails g vs i v FloatNumber lt is fails = fails

-- a list that was written item by item
pub each_written : {X Y : Type 0} (g : Data → Option Y) (written : X → Data) (again : X → Y) →
    ((x : X) → g (written x) ≡ Some (again x)) → (xs : List X)
    → each g (items_of (map written xs)) ≡ Some (map again xs)
each_written g written again back [] = refl
each_written g written again back (x ∷ xs) = rw (back x, each_written g written again back xs)
