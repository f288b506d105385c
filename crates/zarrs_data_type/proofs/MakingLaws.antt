-- Names and configurations of data types.
use Rattle.std.proofs.Common.{◌≡◌, ◌≢◌, ◌==◌, Bool, true, false, if◌then◌else◌, List, [], ◌∷◌, Option, Some, None}
use Rattle.std.proofs.Common.{is_some, option_map, String, refl, sym, ap, ◌∙◌, ℕ, arith}
use Rattle.std.specs.Prelude.{string_bytes}
use Rattle.std.specs.Option.{MatchOption}
use Rattle.std.specs.Borrow.{Bor}
use Rattle.std.proofs.lemmas.Bool.Decides.{nat_tests}
use Rattle.std.specs.declared.alloc.Global.{Global}
use Rattle.serde_json.specs.declared.value.Value.{Value}
use Rattle.serde_json.specs.View.{view, members_view}
use Rattle.zarrs_plugin.specs.Registry.{Names}
use Rattle.zarrs_data_type.specs.declared.data_type.kind.DataTypeKind.{DataTypeKind}
use Rattle.zarrs_plugin.specs.Making.{config}
use Rattle.zarrs_data_type.specs.Kinds.{behind_byte}
use Rattle.zarrs_data_type.specs.Making.{optional_pair, pair_type, are_named}
use Rattle.std.specs.Prelude.{Err}

behind-at : (c : ℕ) (rest : List ℕ) → behind_byte c (c ∷ rest) ≡ Some rest
behind-at c rest = go (c == c) refl (grind (arith, nat_tests))
  where
    go : (t : Bool) → (c == c) ≡ t → t ≡ true → behind_byte c (c ∷ rest) ≡ Some rest
    go t e f = rw (e, f)

-- what is left of a text without a first byte
pub behind-from : (c : ℕ) (bs : List ℕ) (r : Option (Bor (List ℕ)))
    → MatchOption r ((rest : List ℕ) → bs ≢ c ∷ rest) (λ x. bs ≡ c ∷ x.now) →
    option_map (λ s. s.now) r ≡ behind_byte c bs
behind-from c [] None h = refl
behind-from c [] (Some x) h = cc
behind-from c (b ∷ bs) None h = go (b == c) refl
  where
    go : (t : Bool) → (b == c) ≡ t → None ≡ behind_byte c (b ∷ bs)
    go true e = absurd (h bs (ap (λ n. n ∷ bs) (grind (arith, nat_tests))))
    go false e = rw e
behind-from c (b ∷ bs) (Some x) h = sym (ap (behind_byte c) h ∙ behind-at c x.now)

-- after the last item nothing is left
pub no_more : {X : Type 0} (r : Option X) (left : List (String Global × Value)) (after : Type 0) (P : X → Type 0) →
    is_some r ≡ false → MatchOption r ((left ≡ []) × after) P → left ≡ []
no_more None left after P e h = h.0
no_more (Some x) left after P e h = cc

pub two_entries : (names : Names DataTypeKind) (entries first second third : List (String Global × Value)) (k l :
    String Global) (d e : Value) (a b : List ℕ) → first ≡ entries →
    first ≡ (k, d) ∷ second → second ≡ (l, e) ∷ third → third ≡ [] → a ≡ string_bytes k → b ≡ string_bytes l →
    are_named a b ≡ true →
    optional_pair names (members_view entries) ≡ pair_type names (view d) (view e)
two_entries names entries first second third k l d e a b is one two none a_is b_is named =
    ap (λ ms. optional_pair names (members_view ms))
    (sym is ∙ (one ∙ ap (λ r. (k, d) ∷ r) (two ∙ ap (λ r. (l, e) ∷ r) none)))
    ∙ (ap (λ t. if t then pair_type names (view d) (view e) else Err config)
    (test a b (string_bytes k) (string_bytes l) a_is b_is named))
  where
    test : (a b k l : List ℕ) → a ≡ k → b ≡ l → are_named a b ≡ true → are_named k l ≡ true
    test a b k l p q h = cc
