-- Tests, options and results, by cases.
use Rattle.std.proofs.Common.{◌≡◌, ◌&&◌, ◌||◌, Bool, true, false, not, Option, Some, None, IsSome, is_some, option_map}
use Rattle.std.proofs.Common.{option_and_then, Result, Ok, Err, OnOk, OnErr, refl, sym, subst}

-- two tests that give each other are one
pub same_test : (a b : Bool) → (a ≡ true → b ≡ true) → (b ≡ true → a ≡ true) → a ≡ b
same_test true b f g = sym (f refl)
same_test false true f g = g refl
same_test false false f g = refl

-- four tests in another order
pub swap_tests : (a b c d : Bool) → ((a && b) && (c && d)) ≡ ((a && c) && (b && d))
swap_tests true true c d = refl
swap_tests true false true d = refl
swap_tests true false false d = refl
swap_tests false b c d = refl

-- a test that stands alone
pub alone : (b : Bool) → (b || false) ≡ true → b ≡ true
alone true e = refl
alone false e = cc

-- a test whose opposite holds
pub not_true : (b : Bool) → not b ≡ true → b ≡ false
not_true false e = refl
not_true true e = cc

-- an option that is known is there
pub some_now : {A : Type 0} (o : Option A) (x : A) → o ≡ Some x → IsSome o
some_now {A = A} o x is = subst (λ (p : Option A). IsSome p) (sym is) refl

-- and what is there is known
pub some_given : {A P : Type 0} (o : Option A) → IsSome o → ((x : A) → o ≡ Some x → P) → P
some_given None there of = cc
some_given (Some x) there of = of x refl

-- an absent option is not there
pub none_some : {A : Type 0} (o : Option A) → o ≡ None → IsSome o → ⊥
none_some None is there = cc
none_some (Some x) is there = cc

-- an option that is not there is absent
pub none_of : {A : Type 0} (o : Option A) → not (is_some o) ≡ true → o ≡ None
none_of None e = refl
none_of (Some x) e = cc

-- an option keeps its case under a map
pub is_some-option_map : {A B : Type 0} (f : A → B) (o : Option A) → is_some (option_map f o) ≡ is_some o
is_some-option_map f None = refl
is_some-option_map f (Some x) = refl

-- what two steps give, each of them gives
pub then_some : {A B : Type 0} (f : A → Option B) (o : Option A) (y : B) → option_and_then f o ≡ Some y →
    (x : A) × (o ≡ Some x) × (f x ≡ Some y)
then_some f None y e = cc
then_some f (Some x) y e = (x, refl, e)

-- what holds anyway holds of a result
pub always_ok : {T E P : Type 0} (r : Result T E) → P → OnOk r P
always_ok (Ok v) p = p
always_ok (Err e) p = tt

pub always_err : {T E P : Type 0} (r : Result T E) → P → OnErr r P
always_err (Ok v) p = tt
always_err (Err e) p = p
