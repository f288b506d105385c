-- The iterators of lists, and those over what was gathered, give both ends of what they have left.
use Rattle.std.proofs.Common.{◌≡◌, ℕ, List, [], ◌∷◌, length, map, Option, Some, None, refl, sym, ap, ◌∙◌, subst, arith}
use Rattle.std.proofs.Common.{rules}
use Rattle.std.specs.Iterator.{YieldsFirstBy, YieldsLastBy, AlwaysYields, Count, at_most, item_count}
use Rattle.std.specs.declared.vec.IntoIter.{IntoIter}
use Rattle.std.specs.Vec.Iter.{into_iter_items, into_iter_len, into_iter_steps, into_iter_steps_back}
use Rattle.std.proofs.lemmas.List.{length-map, map-append}
use Rattle.zarrs_chunk_grid_iterators.specs.Ends.{GivesBothEnds, TakesFirst, TakesLast}
use Rattle.zarrs_chunk_grid_iterators.specs.Iterators.{tuples_left, first_left, last_left, linear_left, runs_left}
use Rattle.zarrs_chunk_grid_iterators.specs.ListIterators.{gathered_left, single_steps, single_steps_back, singles_left}
use Rattle.zarrs_chunk_grid_iterators.specs.ListIterators.{tuple_steps, tuple_steps_back}
use Rattle.zarrs_chunk_grid_iterators.specs.Places.{IsTuple, YieldsOne, YieldsOneBack}
use Rattle.zarrs_chunk_grid_iterators.specs.Runs.{span_of}
use Rattle.zarrs_chunk_grid_iterators.specs.declared.gathered.GatheredTuples.{GatheredTuples}
use Rattle.zarrs_chunk_grid_iterators.specs.declared.gathered.SingleRuns.{SingleRuns}
use Rattle.std.specs.declared.alloc.AllocError.{AllocError}
use Rattle.std.specs.Prelude.{⊤, Result}
use Rattle.smallvec.specs.SmallVec.{SmallVec}

-- an iterator that shows what its items are of
takes_first : {S A B : Type 0} (view : A → B) (left : S → List B) (s t : S) (r : Option A) →
    YieldsFirstBy view left s r t → TakesFirst (λ y x. view x ≡ y) left s r t
takes_first view left s t None h = h
takes_first view left s t (Some x) h = (view x, h, refl)

takes_last : {S A B : Type 0} (view : A → B) (left : S → List B) (s t : S) (r : Option A) →
    YieldsLastBy view left s r t → TakesLast (λ y x. view x ≡ y) left s r t
takes_last view left s t None h = h
takes_last view left s t (Some x) h = (view x, h, refl)

pub ends_by : {S A B : Type 0} (view : A → B) (left : S → List B) →
    GivesBothEnds (λ _. ⊤) (λ _. ⊤) (item_count left) (YieldsFirstBy view left) (YieldsLastBy view left)
    (λ y x. view x ≡ y) left
ends_by view left = record {
  ready = λ _. search rules;
  ready_back = λ _. search rules;
  counts = λ _. refl;
  first = takes_first view left;
  last = takes_last view left;
}

-- an iterator that names the ends of what is left
takes_one : {S A B : Type 0} (R : B → A → Type 0) (left : S → List B) (first : S → B) (s t : S) (r : Option A) →
    YieldsOne R left first s r t → TakesFirst R left s r t
takes_one R left first s t None h = h
takes_one R left first s t (Some x) h = (first s, h.0, h.1)

takes_one_back : {S A B : Type 0} (R : B → A → Type 0) (left : S → List B) (last : S → B) (s t : S) (r : Option A) →
    YieldsOneBack R left last s r t → TakesLast R left s r t
takes_one_back R left last s t None h = h
takes_one_back R left last s t (Some x) h = (last s, h.0, h.1)

pub ends_of : {S A B : Type 0} (R : B → A → Type 0) (left : S → List B) (first last : S → B) →
    GivesBothEnds (λ _. ⊤) (λ _. ⊤) (item_count left) (YieldsOne R left first) (YieldsOneBack R left last) R left
ends_of R left first last = record {
  ready = λ _. search rules;
  ready_back = λ _. search rules;
  counts = λ _. refl;
  first = takes_one R left first;
  last = takes_one_back R left last;
}

-- the tuples, linear indices and runs of a box
pub box_indices_ends : GivesBothEnds (λ _. ⊤) (λ _. ⊤) (item_count tuples_left)
    (YieldsOne IsTuple tuples_left first_left) (YieldsOneBack IsTuple tuples_left last_left) IsTuple tuples_left
box_indices_ends = ends_of IsTuple tuples_left first_left last_left

pub box_linearised_ends : GivesBothEnds (λ _. ⊤) (λ _. ⊤) (item_count linear_left) (YieldsFirstBy (λ x. x) linear_left)
    (YieldsLastBy (λ x. x) linear_left) (λ y x. x ≡ y) linear_left
box_linearised_ends = ends_by (λ x. x) linear_left

pub box_contiguous_ends : GivesBothEnds (λ _. ⊤) (λ _. ⊤) (item_count runs_left) (YieldsFirstBy span_of runs_left)
    (YieldsLastBy span_of runs_left) (λ y x. span_of x ≡ y) runs_left
box_contiguous_ends = ends_by span_of runs_left

-- std's iterator over a vector's items tells how many there are
len_is : {X Z : Type 0} (it : IntoIter X Z) → into_iter_len it ≡ length (into_iter_items it)
len_is it = it.rest.ok.0

none_left : {X Z : Type 0} (it : IntoIter X Z) → into_iter_len it ≡ 0 → into_iter_items it ≡ []
none_left it e = go (into_iter_items it) (sym (len_is it) ∙ e)
  where
    go : {X : Type 0} (xs : List X) → length xs ≡ 0 → xs ≡ []
    go [] e = refl
    go (x ∷ xs) e = absurd (omega arith)

vec_first : {X Z B : Type 0} (view : X → B) (s t : IntoIter X Z) (r : Option X) → into_iter_steps s r t →
    TakesFirst (λ y x. view x ≡ y) (λ (it : IntoIter X Z). map view (into_iter_items it)) s r t
vec_first view s t None h = (ap (map view) (none_left s h.0), ap (map view) (none_left t h.1))
vec_first view s t (Some x) h = (view x, ap (map view) h.0, refl)

vec_last : {X Z B : Type 0} (view : X → B) (s t : IntoIter X Z) (r : Option X) → into_iter_steps_back s r t →
    TakesLast (λ y x. view x ≡ y) (λ (it : IntoIter X Z). map view (into_iter_items it)) s r t
vec_last view s t None h = (ap (map view) (none_left s h.0), ap (map view) (none_left t h.1))
vec_last view s t (Some x) h = (view x, ap (map view) h ∙ map-append view (into_iter_items t) (x ∷ []), refl)

vec_counts : {X Z B : Type 0} (view : X → B) (s : IntoIter X Z) →
    at_most (into_iter_len s) ≡ item_count (λ (it : IntoIter X Z). map view (into_iter_items it)) s
vec_counts view s = ap at_most (len_is s ∙ sym (length-map (into_iter_items s) view))

-- runs that were gathered
pub gathered_runs_ends : {Z : Type 0} →
    GivesBothEnds (λ _. ⊤) (λ _. ⊤) (λ s. at_most (into_iter_len s))
    (into_iter_steps {X = ℕ × ℕ} {Z = Z}) (into_iter_steps_back {X = ℕ × ℕ} {Z = Z}) (λ y x.
    span_of x ≡ y) (λ (it : IntoIter (ℕ × ℕ) Z). map span_of (into_iter_items it))
gathered_runs_ends = record {
  ready = λ _. search rules;
  ready_back = λ _. search rules;
  counts = vec_counts span_of;
  first = vec_first span_of;
  last = vec_last span_of;
}

-- numbers that were gathered
numbers_first : {Z : Type 0} (s t : IntoIter ℕ Z) (r : Option ℕ) → into_iter_steps s r t →
    TakesFirst (λ y x. x ≡ y) (λ (it : IntoIter ℕ Z). into_iter_items it) s r t
numbers_first s t None h = (none_left s h.0, none_left t h.1)
numbers_first s t (Some x) h = (x, h.0, refl)

numbers_last : {Z : Type 0} (s t : IntoIter ℕ Z) (r : Option ℕ) → into_iter_steps_back s r t →
    TakesLast (λ y x. x ≡ y) (λ (it : IntoIter ℕ Z). into_iter_items it) s r t
numbers_last s t None h = (none_left s h.0, none_left t h.1)
numbers_last s t (Some x) h = (x, h, refl)

pub gathered_numbers_ends : {Z : Type 0} →
    GivesBothEnds (λ _. ⊤) (λ _. ⊤) (λ s. at_most (into_iter_len s)) (into_iter_steps {X = ℕ} {Z =
    Z}) (into_iter_steps_back {X = ℕ} {Z = Z}) (λ y x. x ≡ y) (λ (it : IntoIter ℕ Z). into_iter_items it)
gathered_numbers_ends = record {
  ready = λ _. search rules;
  ready_back = λ _. search rules;
  counts = λ s. ap at_most (len_is s);
  first = numbers_first;
  last = numbers_last;
}

tuples_first : (s t : GatheredTuples) (r : Option (Result (SmallVec ℕ) AllocError)) → tuple_steps s r t →
    TakesFirst IsTuple gathered_left s r t
tuples_first s t None h =
    (ap (map (λ t. t.items)) (none_left s.tuples h.0), ap (map (λ t. t.items)) (none_left t.tuples h.1))
tuples_first s t (Some x) h =
    (h.0.items, ap (map (λ t. t.items)) h.1.0, subst (λ r. IsTuple h.0.items r) (sym h.2) (refl, λ _. search rules))

tuples_last : (s t : GatheredTuples) (r : Option (Result (SmallVec ℕ) AllocError)) → tuple_steps_back s r t →
    TakesLast IsTuple gathered_left s r t
tuples_last s t None h =
    (ap (map (λ t. t.items)) (none_left s.tuples h.0), ap (map (λ t. t.items)) (none_left t.tuples h.1))
tuples_last s t (Some x) h = (
  h.0.items,
  ap (map (λ t. t.items)) h.1 ∙ map-append (λ t. t.items) (into_iter_items t.tuples) (h.0 ∷ []),
  subst (λ r. IsTuple h.0.items r) (sym h.2) (refl, λ _. search rules),
)

pub gathered_tuples_ends : GivesBothEnds (λ _. ⊤) (λ _. ⊤) (λ s. at_most (into_iter_len s.tuples)) tuple_steps
    tuple_steps_back IsTuple gathered_left
gathered_tuples_ends = record {
  ready = λ _. search rules;
  ready_back = λ _. search rules;
  counts = λ s. vec_counts (λ t. t.items) s.tuples;
  first = tuples_first;
  last = tuples_last;
}

singles_first : (s t : SingleRuns) (r : Option (ℕ × ℕ)) → single_steps s r t →
    TakesFirst (λ y x. span_of x ≡ y) singles_left s r t
singles_first s t None h = (
  ap (map (λ n. record { start = n; size = 1 })) (none_left s.indices h.0),
  ap (map (λ n. record { start = n; size = 1 })) (none_left t.indices h.1),
)
singles_first s t (Some x) h =
    (record { start = h.0; size = 1 }, ap (map (λ n. record { start = n; size = 1 })) h.1.0, ap span_of h.2)

singles_last : (s t : SingleRuns) (r : Option (ℕ × ℕ)) → single_steps_back s r t →
    TakesLast (λ y x. span_of x ≡ y) singles_left s r t
singles_last s t None h = (
  ap (map (λ n. record { start = n; size = 1 })) (none_left s.indices h.0),
  ap (map (λ n. record { start = n; size = 1 })) (none_left t.indices h.1),
)
singles_last s t (Some x) h = (
  record { start = h.0; size = 1 },
  ap (map (λ n. record { start = n; size = 1 })) h.1
      ∙ map-append (λ n. record { start = n; size = 1 }) (into_iter_items t.indices) (h.0 ∷ []),
  ap span_of h.2,
)

pub singles_ends : GivesBothEnds (λ _. ⊤) (λ _. ⊤) (λ s. at_most (into_iter_len s.indices)) single_steps
    single_steps_back (λ y x. span_of x ≡ y) singles_left
singles_ends = record {
  ready = λ _. search rules;
  ready_back = λ _. search rules;
  counts = λ s. vec_counts (λ n. record { start = n; size = 1 }) s.indices;
  first = singles_first;
  last = singles_last;
}

-- what always comes, from what is left
pub always_from : {S A B : Type 0} (can can_back : S → Type 0)
    (remaining : S → Count) (front back : S → Option A → S → Type 0) (view : A → B) (left : S → List B) →
    GivesBothEnds can can_back remaining front back (λ y x. view x ≡ y) left → (xs : List B) (s : S) → left s ≡ xs →
    AlwaysYields front view s xs
always_from can can_back remaining front back view left ends [] s e = λ x j h. let n = ends.first s j (Some x) h in
    cc (sym n.1 ∙ e)
always_from can can_back remaining front back view left ends (y ∷ ys) s e = (
  λ j h. let n = ends.first s j None h in cc (sym n.0 ∙ e),
  λ x j h. let n = ends.first s j (Some x) h in
      let both : n.0 ∷ left j ≡ y ∷ ys = sym n.1 ∙ e in
      let head : n.0 ≡ y = cc in let tail : left j ≡ ys = cc in
      (n.2 ∙ head, always_from can can_back remaining front back view left ends ys j tail),
)
