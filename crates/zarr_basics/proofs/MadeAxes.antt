-- Axes that are made of lists of lengths.
use Rattle.std.proofs.Common.{◌≡◌, ℕ, zero, suc, ◌+◌, ◌<◌, ◌&&◌, Bool, true, false, List, [], ◌∷◌, ◌++◌, length}
use Rattle.std.proofs.Common.{map, take, drop, get_or, Vec, Global, refl, sym, ap, ap₂, ◌∙◌, arith}
use Rattle.std.proofs.lemmas.List.{take_more, drop_more}
use Rattle.std.specs.declared.num.NonZeroU64.{NonZeroU64}
use Rattle.zarr_model.specs.Prelude.{cuts, are_cut}
use Rattle.zarr_basics.specs.Lengths.{nonzeros}

pub nonzeros_more : (lengths : List NonZeroU64) (n : NonZeroU64) →
    nonzeros (lengths ++ n ∷ []) ≡ nonzeros lengths ++ n.value ∷ []
nonzeros_more [] n = refl
nonzeros_more (m ∷ lengths) n = ap (λ l. m.value ∷ l) (nonzeros_more lengths n)

pub length_items : (lists : List (Vec ℕ Global)) → length (map (λ list. list.items) lists) ≡ length lists
length_items [] = refl
length_items (l ∷ lists) = ap suc (length_items lists)

pub item_of : (lists : List (Vec ℕ Global)) (k : ℕ) (list : Vec ℕ Global) → k < length lists →
    list ≡ get_or lists k list → get_or (map (λ list. list.items) lists) k [] ≡ list.items
item_of [] k list h is = absurd (omega arith)
item_of (l ∷ lists) zero list h is = ap (λ v. v.items) (sym is)
item_of (l ∷ lists) (suc k) list h is = item_of lists k list (omega arith) is

pub other_rank : (shape : List ℕ) (lengths : List (List ℕ)) → (length lengths ≡ length shape → ⊥) →
    are_cut shape lengths ≡ false
other_rank [] [] e = absurd (e refl)
other_rank [] (l ∷ lengths) e = refl
other_rank (n ∷ shape) [] e = refl
other_rank (n ∷ shape) (l ∷ lengths) e =
    none (cuts n l) (are_cut shape lengths) (other_rank shape lengths (λ h. e (ap suc h)))
  where
    none : (a b : Bool) → b ≡ false → (a && b) ≡ false
    none true b h = h
    none false b h = refl

-- the first k dimensions are made
pub record AreMade (shape : List ℕ) (lengths : List (List ℕ)) (k : ℕ) (made : List (List ℕ)) : Type 0 where
  pub made_are : made ≡ take k lengths
  pub rest : are_cut shape lengths ≡ are_cut (drop k shape) (drop k lengths)

pub none_made : (shape : List ℕ) (lengths : List (List ℕ)) → AreMade shape lengths 0 []
none_made shape lengths = record { made_are = refl; rest = refl }

module _ (shape : List ℕ) (lengths : List (List ℕ)) (k : ℕ) (made : List (List ℕ))
    (before : AreMade shape lengths k made) (in_shape : k < length shape) (in_lengths : k < length lengths) where
  rest_is : are_cut shape lengths ≡
      (cuts (get_or shape k 0) (get_or lengths k []) && are_cut (drop (k + 1) shape) (drop (k + 1) lengths))
  rest_is = before.rest ∙ ap₂ are_cut (drop_more shape k 0 in_shape) (drop_more lengths k [] in_lengths)

  pub one_made : (own : List ℕ) → own ≡ get_or lengths k [] → cuts (get_or shape k 0) own ≡ true →
      AreMade shape lengths (k + 1) (made ++ own ∷ [])
  one_made own is cut = record {
    made_are = ap₂ (λ l n. l ++ n ∷ []) before.made_are is ∙ sym (take_more lengths k [] in_lengths);
    rest = rest_is ∙ ap (λ b. b && are_cut (drop (k + 1) shape) (drop (k + 1) lengths))
        (ap (cuts (get_or shape k 0)) (sym is) ∙ cut);
  }

  pub not_made : cuts (get_or shape k 0) (get_or lengths k []) ≡ false → are_cut shape lengths ≡ false
  not_made cut = rest_is ∙ ap (λ b. b && are_cut (drop (k + 1) shape) (drop (k + 1) lengths)) cut

pub ruleset of_making = (other_rank, none_made)
