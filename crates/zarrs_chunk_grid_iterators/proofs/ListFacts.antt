-- What holds of a list of things, each of which stands for a list.
use Rattle.std.proofs.Common.{◌≡◌, ℕ, zero, suc, ◌+◌, ◌-◌, ◌*◌, ◌<◌, ◌≤◌, ◌^◌, ◌⊎◌, inl, inr, Bool, true, false, ◌&&◌}
use Rattle.std.proofs.Common.{nat_lt, List, [], ◌∷◌, ◌++◌, length, take, get_or, map, refl, sym, ap, ap₂, ◌∙◌, subst}
use Rattle.std.proofs.Common.{arith}
use Rattle.std.specs.List.{AllByRecursion, list_all, flat_map, range_with_len}
use Rattle.std.proofs.lemmas.List.{length-append, map-append, length-map, get_or-map, take-map}
use Rattle.std.proofs.lemmas.Bool.{and_parts, lt-ltb, ltb-true}
use Rattle.std.proofs.lemmas.Grind.{flat_map-append}
use Rattle.std.specs.Bool.{MatchBool}
use Rattle.zarr_model.specs.Region.{Span, count_of, whole, contains, is_in, linear_index}
use Rattle.zarr_model.proofs.RegionLaws.{place_below, span_in, count_whole}
use Rattle.zarr_model.proofs.Choices.{same_test}
use Rattle.zarrs_array_subset.specs.Ravel.{count_front, place_front, is_below}
use Rattle.zarrs_array_subset.specs.Errors.{no_memory}
use Rattle.zarrs_array_subset.specs.declared.error.IndexerError.{IndexerError}
use Rattle.zarrs_array_subset.specs.declared.error.IndexerError.TheVariants.{OutOfMemory, IncompatibleDimensionality}
use Rattle.zarrs_array_subset.specs.declared.error.IndexerError.TheVariants.{OutOfBounds, IncompatibleLength}
use Rattle.zarrs_chunk_grid_iterators.specs.Lists.{is_list_inside, single_runs, RefusesItems, RefusesTuple, RefusesList}
use Rattle.zarrs_chunk_grid_iterators.specs.Runs.{joined}

pub all_append : {A : Type 0} (P : A → Type 0) (xs ys : List A) → AllByRecursion P xs → AllByRecursion P ys →
    AllByRecursion P (xs ++ ys)
all_append P [] ys a b = b
all_append P (x ∷ xs) ys a b = (a.0, all_append P xs ys a.1 b)

pub all_items : {X A : Type 0} (list : X → List A) (fits : X → Bool) (P : A → Type 0) → ((x : X) → fits x ≡ true →
    AllByRecursion P (list x)) → (xs : List X) → list_all fits xs ≡ true → AllByRecursion P (flat_map list xs)
all_items list fits P each [] h = tt
all_items list fits P each (x ∷ xs) h =
    let parts = and_parts (fits x) (list_all fits xs) h in
    all_append P (list x) (flat_map list xs) (each x parts.0) (all_items list fits P each xs parts.1)

pub joined_append : (xs ys : List Span) → joined (xs ++ ys) ≡ joined xs ++ joined ys
joined_append xs ys = flat_map-append (λ span. range_with_len span.start span.size) xs ys

pub joined_items : {X : Type 0} (pieces : X → List Span) (places : X → List (List ℕ))
    (fits : X → Bool) (f : List ℕ → ℕ) → ((x : X) → fits x ≡ true → joined (pieces x) ≡ map f (places x)) →
    (xs : List X) → list_all fits xs ≡ true → joined (flat_map pieces xs) ≡ map f (flat_map places xs)
joined_items pieces places fits f each [] h = refl
joined_items pieces places fits f each (x ∷ xs) h =
    let parts = and_parts (fits x) (list_all fits xs) h in
    joined_append (pieces x) (flat_map pieces xs) ∙ ap₂ (λ a b. a ++ b) (each x parts.0)
    (joined_items pieces places fits f each xs parts.1) ∙ sym (map-append f (places x) (flat_map places xs))

-- why items are refused
pub items_refusal : {X : Type 0} (fits : X → Bool) (refuses : X → IndexerError → Type 0) (xs : List X)
    (e : IndexerError) → RefusesItems fits refuses xs e → (e ≡ no_memory) ⊎ (list_all fits xs ≡ false)
items_refusal fits refuses [] e h = inl h
items_refusal fits refuses (x ∷ xs) e h = go (fits x) (λ k. items_refusal fits refuses xs e k) h
  where
    go : (b : Bool) → (RefusesItems fits refuses xs e → (e ≡ no_memory) ⊎ (list_all fits xs ≡ false)) →
        MatchBool b (RefusesItems fits refuses xs e) (refuses x e) → (e ≡ no_memory) ⊎ ((b && list_all fits xs) ≡ false)
    go true rest h = rest h
    go false rest h = inr refl

pub items_memory : {X : Type 0} (fits : X → Bool) (refuses : X → IndexerError → Type 0) →
    ((x : X) → refuses x no_memory) → (xs : List X) → RefusesItems fits refuses xs no_memory
items_memory fits refuses each [] = refl
items_memory fits refuses each (x ∷ xs) = go (fits x) (items_memory fits refuses each xs)
  where
    go : (b : Bool) → RefusesItems fits refuses xs no_memory →
        MatchBool b (RefusesItems fits refuses xs no_memory) (refuses x no_memory)
    go true rest = rest
    go false rest = each x

-- an item is refused after items that fit
pub items_refused : {X : Type 0} (fits : X → Bool) (refuses : X → IndexerError → Type 0) →
    ((x : X) (e : IndexerError) → refuses x e → (e ≡ no_memory) ⊎ (fits x ≡ false)) → ((x : X) → refuses x no_memory) →
    (xs : List X) (i : ℕ) (x : X) (e : IndexerError) → list_all fits (take i xs) ≡ true → i < length xs →
    x ≡ get_or xs i x → refuses x e → RefusesItems fits refuses xs e
items_refused fits refuses why memory [] i x e all less same h = absurd (omega arith)
items_refused fits refuses why memory (y ∷ ys) zero x e all less same h =
    go (fits y) refl (subst (λ z. refuses z e) same h)
  where
    out : (b : Bool) → fits y ≡ b → (e ≡ no_memory) ⊎ (fits y ≡ false) → refuses y e →
        MatchBool b (RefusesItems fits refuses ys e) (refuses y e)
    out true k (inl o) r = subst (λ z. RefusesItems fits refuses ys z) (sym o) (items_memory fits refuses memory ys)
    out true k (inr o) r = cc
    out false k w r = r

    go : (b : Bool) → fits y ≡ b → refuses y e → MatchBool b (RefusesItems fits refuses ys e) (refuses y e)
    go b k r = out b k (why y e r) r
items_refused fits refuses why memory (y ∷ ys) (suc i) x e all less same h =
    go (fits y) refl (items_refused fits refuses why memory ys i x e
    (and_parts (fits y) (list_all fits (take i ys)) all).1 (omega arith) same h)
  where
    go : (b : Bool) → fits y ≡ b → RefusesItems fits refuses ys e →
        MatchBool b (RefusesItems fits refuses ys e) (refuses y e)
    go true k rest = rest
    go false k rest = let first : fits y ≡ true = (and_parts (fits y) (list_all fits (take i ys)) all).0 in cc

-- a list of tuples
pub tuple_refusal : (shape tuple : List ℕ) (e : IndexerError) → RefusesTuple tuple shape e →
    (e ≡ no_memory) ⊎ (contains (whole shape) tuple ≡ false)
tuple_refusal shape tuple OutOfMemory h = inl refl
tuple_refusal shape tuple (IncompatibleDimensionality e) h = inr (other_rank shape tuple h.2)
  where
    other_rank : (shape tuple : List ℕ) → (length tuple ≡ length shape → ⊥) → contains (whole shape) tuple ≡ false
    other_rank [] [] ne = absurd (ne refl)
    other_rank [] (i ∷ tuple) ne = refl
    other_rank (n ∷ shape) [] ne = refl
    other_rank (n ∷ shape) (i ∷ tuple) ne =
        go (is_in i (record { start = 0; size = n })) (other_rank shape tuple (λ e. ne (ap suc e)))
      where
        go : (b : Bool) → contains (whole shape) tuple ≡ false → (b && contains (whole shape) tuple) ≡ false
        go true h = h
        go false h = refl
tuple_refusal shape tuple (OutOfBounds indices bound) h = inr h.1
tuple_refusal shape tuple (IncompatibleLength got expected) h = absurd h

pub list_inside : (tuples : List (List ℕ)) (shape : List ℕ) → is_list_inside tuples shape ≡ true →
    AllByRecursion (λ tuple. contains (whole shape) tuple ≡ true) tuples
list_inside [] shape h = tt
list_inside (t ∷ tuples) shape h = let p = and_parts (contains (whole shape) t) (is_list_inside tuples shape) h in
    (p.0, list_inside tuples shape p.1)

pub list_joins : (tuples : List (List ℕ)) (shape : List ℕ) →
    joined (single_runs tuples shape) ≡ map (linear_index shape) tuples
list_joins [] shape = refl
list_joins (t ∷ tuples) shape = ap (λ ns. linear_index shape t ∷ ns) (list_joins tuples shape)

pub list_within : (tuples : List (List ℕ)) (shape : List ℕ) → is_list_inside tuples shape ≡ true →
    AllByRecursion (λ span. span.start + span.size ≤ count_of shape) (single_runs tuples shape)
list_within [] shape h = tt
list_within (t ∷ tuples) shape h =
    let p = and_parts (contains (whole shape) t) (is_list_inside tuples shape) h in
    let below : linear_index shape t < count_of shape =
    subst (λ c. linear_index shape t < c) (count_whole shape) (place_below (whole shape) t p.0) in
    let first : linear_index shape t + 1 ≤ count_of shape = omega arith in
    (first, list_within tuples shape p.1)

pub list_outputs : (n : ℕ) → n * 1 ≡ n
list_outputs n = omega arith

-- linear indices as `ravel_indices` tells them
pub below_whole : (shape tuple : List ℕ) → length tuple ≡ length shape →
    is_below shape tuple ≡ contains (whole shape) tuple
below_whole [] [] e = refl
below_whole [] (i ∷ tuple) e = absurd (omega arith)
below_whole (n ∷ shape) [] e = absurd (omega arith)
below_whole (n ∷ shape) (i ∷ tuple) e = ap₂ (λ a b. a && b)
    (same_test (nat_lt i n) (is_in i (record { start = 0; size = n }))
    (λ h. let l : i < n = ltb-true _ _ h in span_in i (record { start = 0; size = n }) (omega arith) (omega arith))
    (λ h. let p = and_parts _ _ h in let l : i < 0 + n = ltb-true _ _ p.1 in lt-ltb i n (omega arith)))
    (below_whole shape tuple (omega arith))

pub front_count : (shape tuple : List ℕ) → length tuple ≡ length shape → count_front shape tuple ≡ count_of shape
front_count [] [] e = refl
front_count [] (i ∷ tuple) e = absurd (omega arith)
front_count (n ∷ shape) [] e = absurd (omega arith)
front_count (n ∷ shape) (i ∷ tuple) e = ap (λ c. n * c) (front_count shape tuple (omega arith))

pub front_place : (shape tuple : List ℕ) → length tuple ≡ length shape →
    place_front shape tuple ≡ linear_index shape tuple
front_place [] [] e = refl
front_place [] (i ∷ tuple) e = absurd (omega arith)
front_place (n ∷ shape) [] e = absurd (omega arith)
front_place (n ∷ shape) (i ∷ tuple) e =
    let same : i ≡ i - 0 = omega arith in
    ap₂ (λ x y. x + y) (ap₂ (λ x y. x * y) same (front_count shape tuple (omega arith) ∙ sym (count_whole shape)))
    (front_place shape tuple (omega arith))

pub ruleset of_fronts = (below_whole, front_count, front_place)

pub list_memory : (tuples : List (List ℕ)) (shape : List ℕ) (e : IndexerError) → e ≡ no_memory →
    RefusesList tuples shape e
list_memory tuples shape e out = subst (λ z. RefusesList tuples shape z) (sym out)
    (items_memory (contains (whole shape)) (λ tuple. RefusesTuple tuple shape) (λ tuple. tt) tuples)

-- a tuple is refused after tuples that lie inside
pub list_refused : {V : Type 0} (f : V → List ℕ) (list : List V) (shape : List ℕ) (i : ℕ) (x : V) (e : IndexerError) →
    is_list_inside (map f (take i list)) shape ≡ true → i < length list → x ≡ get_or list i x →
    RefusesTuple (f x) shape e → RefusesList (map f list) shape e
list_refused f list shape i x e all less same h =
    items_refused (contains (whole shape)) (λ tuple. RefusesTuple tuple shape) (tuple_refusal shape) (λ tuple. tt)
    (map f list) i (f x) e
    (ap (λ ts. is_list_inside ts shape) (take-map f i list) ∙ all) (subst (λ n. i < n) (sym (length-map list f)) less)
    (ap f same ∙ sym (get_or-map f list i x (f x) less)) h

pub list_refusal : (tuples : List (List ℕ)) (shape : List ℕ) (e : IndexerError) → RefusesList tuples shape e →
    (e ≡ no_memory) ⊎ (is_list_inside tuples shape ≡ false)
list_refusal tuples shape e h = items_refusal (contains (whole shape)) (λ tuple. RefusesTuple tuple shape) tuples e h

pub list_no_memory : (tuples : List (List ℕ)) (shape : List ℕ) → RefusesList tuples shape no_memory
list_no_memory tuples shape =
    items_memory (contains (whole shape)) (λ tuple. RefusesTuple tuple shape) (λ tuple. tt) tuples

pub map_items : {X : Type 0} (f : List ℕ → ℕ) (places : X → List (List ℕ)) (xs : List X) →
    flat_map (λ x. map f (places x)) xs ≡ map f (flat_map places xs)
map_items f places [] = refl
map_items f places (x ∷ xs) =
    ap (λ rest. map f (places x) ++ rest) (map_items f places xs) ∙ sym (map-append f (places x) (flat_map places xs))

-- where 64 bits count all that items list, they count what each lists
pub items_listable : {X A : Type 0} (list : X → List A) (listable : X → Type 0) →
    ((x : X) → length (list x) < 2 ^ 64 → listable x) →
    (xs : List X) → length (flat_map list xs) < 2 ^ 64 → AllByRecursion listable xs
items_listable list listable each [] h = tt
items_listable list listable each (x ∷ xs) h =
    let both : length (flat_map list (x ∷ xs)) ≡ length (list x) + length (flat_map list xs) =
    length-append (list x) (flat_map list xs) in
    let first : length (list x) < 2 ^ 64 = omega arith in
    let rest : length (flat_map list xs) < 2 ^ 64 = omega arith in
    (each x first, items_listable list listable each xs rest)
