-- What a list has of several kinds, each of its items of one kind at most.
use Rattle.std.proofs.Common.{◌≡◌, ℕ, suc, ◌+◌, ◌||◌, Bool, true, false, if◌then◌else◌, cond, List, [], ◌∷◌, length}
use Rattle.std.proofs.Common.{filter, sum_by, slice_get, Some, refl, sym, ap, ap₂, ◌∙◌, arith, ⊎_elim}
use Rattle.std.specs.List.{list_any}
use Rattle.std.proofs.lemmas.Bool.{cases_Bool}
use Rattle.std.proofs.lemmas.List.Sums.{sum_by-cons}

-- how many of a list pass a test
abbrev pub number_of : {A : Type 0} → (A → Bool) → List A → ℕ
number_of test [] = 0
number_of test (x ∷ xs) = (if test x then 1 else 0) + number_of test xs

no_sum : {B : Type 0} (bs : List B) → sum_by (λ (b : B). 0) bs ≡ 0
no_sum [] = refl
no_sum (b ∷ bs) = let rest = no_sum bs in omega (arith, rest, sum_by-cons (λ (x : _). 0) b bs)

sums_apart : {B : Type 0} (f g : B → ℕ) (bs : List B) → sum_by (λ b. f b + g b) bs ≡ sum_by f bs + sum_by g bs
sums_apart f g [] = refl
sums_apart f g (b ∷ bs) = let rest = sums_apart f g bs in
    omega (arith, rest, sum_by-cons (λ x. f x + g x) b bs, sum_by-cons f b bs, sum_by-cons g b bs)

sums_same : {B : Type 0} (f g : B → ℕ) (bs : List B) → ((b : B) → f b ≡ g b) → sum_by f bs ≡ sum_by g bs
sums_same f g [] same = refl
sums_same f g (b ∷ bs) same =
    sum_by-cons f b bs ∙ (ap₂ (λ m n. m + n) (same b) (sums_same f g bs same) ∙ sym (sum_by-cons g b bs))

sum_of_tests : {B : Type 0} (test : B → Bool) (bs : List B) →
    sum_by (λ b. if test b then 1 else 0) bs ≡ number_of test bs
sum_of_tests test [] = refl
sum_of_tests test (b ∷ bs) =
    sum_by-cons (λ x. if test x then 1 else 0) b bs ∙ ap (λ n. (if test b then 1 else 0) + n) (sum_of_tests test bs)

one_longer : {A : Type 0} (t : Bool) (x : A) (rest : List A) →
    length (cond t (x ∷ rest) rest) ≡ (if t then 1 else 0) + length rest
one_longer true x rest = let same : suc (length rest) ≡ 1 + length rest = omega arith in same
one_longer false x rest = let same : length rest ≡ 0 + length rest = omega arith in same

none_passes : {B : Type 0} (test : B → Bool) (bs : List B) →
    ((k : ℕ) (b : B) → slice_get bs k ≡ Some b → test b ≡ false) → number_of test bs ≡ 0
none_passes test [] none = refl
none_passes test (b ∷ bs) none =
    ap (λ t. (if t then 1 else 0) + number_of test bs) (none 0 b refl)
    ∙ (let rest : number_of test bs ≡ 0 = none_passes test bs (λ k other e. none (suc k) other e) in
    let same : 0 + number_of test bs ≡ 0 = omega (arith, rest) in same)

-- one passes at most: it is one where any does
pub one_passes : {B : Type 0} (test : B → Bool) (bs : List B) →
    ((j k : ℕ) (a b : B) → slice_get bs j ≡ Some a → slice_get bs k ≡ Some b → test a ≡ true → test b ≡ true → j ≡ k) →
    number_of test bs ≡ (if list_any test bs then 1 else 0)
one_passes test [] one = refl
one_passes {B} test (b ∷ bs) one = go (one_passes test bs (λ j k x y first second is also. let same : suc j ≡ suc k =
    one (suc j) (suc k) x y first second is also in omega (arith, same))) (test b) refl
  where
    go : number_of test bs ≡ (if list_any test bs then 1 else 0) → (t : Bool) → test b ≡ t →
        (if test b then 1 else 0) + number_of test bs ≡ (if test b || list_any test bs then 1 else 0)
    go rest true is =
        let others : number_of test bs ≡ 0 = none_passes test bs (λ k other e. ⊎_elim
        (λ (also : test other ≡ true). let zero_is : 0 ≡ suc k = one 0 (suc k) b other refl e is also in
        absurd (omega (arith, zero_is)))
        (λ (not_it : test other ≡ false). not_it)
        (cases_Bool (test other))) in
        ap₂ (λ t n. (if t then 1 else 0) + n) is others ∙ sym (ap (λ t. if t || list_any test bs then 1 else 0) is)
    go rest false is = ap (λ t. (if t then 1 else 0) + number_of test bs) is
        ∙ ((let same : 0 + number_of test bs ≡ number_of test bs = omega arith in same)
        ∙ (rest ∙ sym (ap (λ t. if t || list_any test bs then 1 else 0) is)))

-- where each item is of one kind at most, those of each kind are together those of any
pub kinds_together : {A B : Type 0} (of_kind : B → A → Bool) (bs : List B) (xs : List A) →
    ((i : ℕ) (x : A) → slice_get xs i ≡ Some x → (j k : ℕ) (a b : B) → slice_get bs j ≡ Some a →
    slice_get bs k ≡ Some b → of_kind a x ≡ true → of_kind b x ≡ true → j ≡ k) →
    sum_by (λ b. length (filter (of_kind b) xs)) bs ≡ length (filter (λ x. list_any (λ b. of_kind b x) bs) xs)
kinds_together of_kind bs [] one = no_sum bs
kinds_together of_kind bs (x ∷ xs) one =
    sums_same (λ b. length (filter (of_kind b) (x ∷ xs))) (λ b. (if of_kind b x then 1 else 0)
    + length (filter (of_kind b) xs)) bs (λ b. one_longer (of_kind b x) x (filter (of_kind b) xs))
    ∙ (sums_apart (λ b. if of_kind b x then 1 else 0) (λ b. length (filter (of_kind b) xs)) bs
    ∙ (ap₂ (λ m n. m + n) (sum_of_tests (λ b. of_kind b x) bs ∙ one_passes (λ b. of_kind b x) bs (one 0 x refl))
    (kinds_together of_kind bs xs (λ i y e. one (suc i) y e))
    ∙ sym (one_longer (list_any (λ b. of_kind b x) bs) x (filter (λ y. list_any (λ b. of_kind b y) bs) xs))))
