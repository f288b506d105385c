-- Regions taken down the levels and up again.
use Rattle.std.proofs.Common.{◌≡◌, ℕ, zero, suc, ◌-◌, ◌<◌, ◌≤◌, true, List, [], ◌∷◌, ◌++◌, map, length, get_or, take}
use Rattle.std.proofs.Common.{drop, Option, Some, None, IsSome, option_and_then, refl, sym, ap, subst, ◌∙◌, arith}
use Rattle.std.proofs.Common.{append_assoc}
use Rattle.std.proofs.lemmas.List.{take-map}
use Rattle.std.proofs.lemmas.Option.{same_Some}
use Rattle.zarrs_codec_traits.specs.Prelude.{Region, count_of, ends_within, Element, Level, ArrayCodec, unserved_at}
use Rattle.zarrs_codec_traits.specs.Prelude.{ArrayBytes, list_at, at_box, select}
use Rattle.zarr_codec_chain.specs.Levels.{fill_at, Step, above, top, Serving, IsLink, AreLinked, elements_above}
use Rattle.zarr_codec_chain.specs.Regions.{Boxing, boxes_below, last_item, HoldsBox, IsListCounted}
use Rattle.zarr_model.proofs.Choices.{then_some}

pub last-append : (boxes : List Region) (box region : Region) → last_item (boxes ++ (box ∷ [])) region ≡ box
last-append [] box region = refl
last-append (first ∷ boxes) box region = last-append boxes box first

module _ {A : Type 0} (meaning : A → ArrayCodec) (unserved : Serving A) (region_below : Boxing A) (bottom : Level) where
  -- the links from an element on
  pub first-link : (steps rest : List (Step A)) (step : Step A) → steps ≡ step ∷ rest →
      AreLinked meaning unserved steps bottom →
      IsLink meaning unserved step (top rest bottom) × AreLinked meaning unserved rest bottom
  first-link steps rest step same links = subst (λ (l : List (Step A)). AreLinked meaning unserved l bottom) same links

  pub linked-drop : (n : ℕ) (steps : List (Step A)) → AreLinked meaning unserved steps bottom →
      AreLinked meaning unserved (drop n steps) bottom
  linked-drop zero steps links = links
  linked-drop (suc n) [] links = links
  linked-drop (suc n) (step ∷ steps) links = linked-drop n steps links.1

  module _ (inside_law : (c : A) (level : Level) (fill : List ℕ) (region : Region) →
      unserved_at (unserved c) level fill ≡ None → ends_within region level.shape ≡ true →
      ends_within (region_below c level.shape region) ((meaning c).level_below level).shape ≡ true) where
    -- the box below the first codec lies inside the next level
    pub inside-next : (steps rest : List (Step A)) (step : Step A) (region : Region) → steps ≡ step ∷ rest →
        AreLinked meaning unserved steps bottom →
        ends_within region (top steps bottom).shape ≡ true →
        ends_within (region_below step.codec (above step).shape region) (top rest bottom).shape ≡ true
    inside-next steps rest step region same links inside =
        let link = (first-link steps rest step same links).0 in
        subst (λ (l : Level). ends_within (region_below step.codec (above step).shape region) l.shape ≡ true) link.below
        (inside_law step.codec (above step) (fill_at step.at) region link.served
        (subst (λ (l : List (Step A)). ends_within region (top l bottom).shape ≡ true) same inside))

    -- each box lies inside its level
    pub inside-at : (n : ℕ) (steps : List (Step A)) (region : Region) → n ≤ length steps →
        AreLinked meaning unserved steps bottom → ends_within region (top steps bottom).shape ≡ true →
        ends_within (last_item (take n (boxes_below region_below steps region)) region)
        (top (drop n steps) bottom).shape ≡ true
    inside-at zero steps region within links inside = inside
    inside-at (suc n) [] region within links inside = absurd (omega arith)
    inside-at (suc n) (step ∷ steps) region within links inside =
        inside-at n steps (region_below step.codec (above step).shape region) (omega arith) links.1
        (inside-next (step ∷ steps) steps step region refl links inside)

  -- one box more
  pub boxes-next : (steps rest : List (Step A)) (step : Step A) (boxes all : List Region) (region box : Region) →
      steps ≡ step ∷ rest → box ≡ region_below step.codec (above step).shape (last_item boxes region) →
      boxes ++ boxes_below region_below steps (last_item boxes region) ≡ all →
      (boxes ++ (box ∷ [])) ++ boxes_below region_below rest (last_item (boxes ++ (box ∷ [])) region) ≡ all
  boxes-next steps rest step boxes all region box same here done =
      ap (λ (r : Region). (boxes ++ (box ∷ [])) ++ boxes_below region_below rest r) (last-append boxes box region)
      ∙ (append_assoc boxes (box ∷ []) (boxes_below region_below rest box)
      ∙ (ap (λ (r : Region). boxes ++ (r ∷ boxes_below region_below rest r)) here
      ∙ (ap (λ (l : List (Step A)). boxes ++ boxes_below region_below l (last_item boxes region)) (sym same) ∙ done)))

  -- the box below a codec, by the one above it
  pub box-at : (n : ℕ) (steps rest : List (Step A)) (step : Step A) (region : Region) → drop n steps ≡ step ∷ rest →
      last_item (take (suc n) (boxes_below region_below steps region)) region ≡
      region_below step.codec (above step).shape (last_item (take n (boxes_below region_below steps region)) region)
  box-at zero [] rest step region same = cc
  box-at zero (first ∷ steps) rest step region same = let one : first ≡ step = cc in
      ap (λ (s : Step A). region_below s.codec (above s).shape region) one
  box-at (suc n) [] rest step region same = cc
  box-at (suc n) (first ∷ steps) rest step region same =
      box-at n steps rest step (region_below first.codec (above first).shape region) same

  module _ (counted_law : (c : A) (level : Level) (fill : List ℕ) (below xs : List Element) →
      unserved_at (unserved c) level fill ≡ None → length below ≡ count_of ((meaning c).level_below level).shape →
      (meaning c).decode_list level below ≡ Some xs → length xs ≡ count_of level.shape) where
    pub elements-counted : (steps : List (Step A)) (below : Option (List Element)) (xs : List Element) →
        ((list : List Element) → below ≡ Some list → length list ≡ count_of bottom.shape) →
        AreLinked meaning unserved steps bottom → elements_above meaning steps below ≡ Some xs →
        length xs ≡ count_of (top steps bottom).shape
    elements-counted [] below xs counted links e = counted xs e
    elements-counted (step ∷ steps) below xs counted links e =
        let parts =
        then_some ((meaning step.codec).decode_list (above step)) (elements_above meaning steps below) xs e in
        counted_law step.codec (above step) (fill_at step.at) parts.0 xs links.0.served
        (elements-counted steps below parts.0 counted links.1 parts.1
        ∙ ap (λ (l : Level). count_of l.shape) (sym links.0.below)) parts.2

    -- a list with an element for each place at the bottom decodes through all levels
    module _ (decodes_law : (c : A) (level : Level) (fill : List ℕ) (below : List Element) →
        unserved_at (unserved c) level fill ≡ None → length below ≡ count_of ((meaning c).level_below level).shape →
        IsSome ((meaning c).decode_list level below)) where
      pub all-decode : (steps : List (Step A)) (list : List Element) → AreLinked meaning unserved steps bottom →
          length list ≡ count_of bottom.shape →
          IsSome (elements_above meaning steps (Some list))
      all-decode [] list links long = refl
      all-decode (step ∷ steps) list links long =
          go (elements_above meaning steps (Some list)) refl (all-decode steps list links.1 long)
        where
          go : (below : Option (List Element)) → elements_above meaning steps (Some list) ≡ below → IsSome below →
              IsSome (option_and_then ((meaning step.codec).decode_list (above step))
              (elements_above meaning steps (Some list)))
          go None is there = cc
          go (Some xs) is there = subst (λ (o : Option (List Element)).
              IsSome (option_and_then ((meaning step.codec).decode_list (above step)) o)) (sym is)
              (decodes_law step.codec (above step) (fill_at step.at) xs links.0.served
              (elements-counted steps (Some list) xs (λ other same. ap length (sym (same_Some list other same))
              ∙ long) links.1 is ∙ ap (λ (l : Level). count_of l.shape) (sym links.0.below)))

pub map_last : {A B : Type 0} (f : A → B) (items : List A) (other : A) →
    last_item (map f items) (f other) ≡ f (last_item items other)
map_last f [] other = refl
map_last f (item ∷ items) other = map_last f items item

pub last-at : {A : Type 0} (items : List A) (other d : A) → 0 < length items →
    last_item items other ≡ get_or items (length items - 1) d
last-at [] other d some = absurd (omega arith)
last-at (item ∷ []) other d some = let zero_place : length (item ∷ []) - 1 ≡ 0 = omega arith in
    ap (λ (k : ℕ). get_or (item ∷ []) k d) (sym zero_place)
last-at {A} (item ∷ next ∷ items) other d some =
    let place : suc (length (next ∷ items) - 1) ≡ length (item ∷ next ∷ items) - 1 = omega arith in
    last-at (next ∷ items) item d (omega arith) ∙ ap (λ (k : ℕ). get_or (item ∷ next ∷ items) k d) place

pub length-boxes : {A : Type 0} (region_below : Boxing A) (steps : List (Step A)) (region : Region) →
    length (boxes_below region_below steps region) ≡ length steps
length-boxes region_below [] region = refl
length-boxes region_below (step ∷ steps) region =
    ap suc (length-boxes region_below steps (region_below step.codec (above step).shape region))

-- what a codec is given, where it gives a list
pub record IsGiven {A : Type 0} (meaning : A → ArrayCodec) (step : Step A) (rest : List (Step A))
    (below : Option (List Element)) (xs list : List Element) : Type 0 where
  pub elements : elements_above meaning rest below ≡ Some list
  pub count : length list ≡ count_of ((meaning step.codec).level_below (above step)).shape
  pub decodes : (meaning step.codec).decode_list (above step) list ≡ Some xs

module _ {A : Type 0} (meaning : A → ArrayCodec) (unserved : Serving A) (region_below : Boxing A) (bottom : Level)
    (counted_law : (c : A) (level : Level) (fill : List ℕ) (below xs : List Element) →
    unserved_at (unserved c) level fill ≡ None → length below ≡ count_of ((meaning c).level_below level).shape →
    (meaning c).decode_list level below ≡ Some xs → length xs ≡ count_of level.shape) where
  pub given : (steps rest : List (Step A)) (step : Step A) (below : Option (List Element)) (xs : List Element) →
      steps ≡ step ∷ rest → AreLinked meaning unserved steps bottom → IsListCounted bottom below →
      elements_above meaning steps below ≡ Some xs → (list : List Element) × IsGiven meaning step rest below xs list
  given steps rest step below xs same links counted e =
      let linked = first-link meaning unserved region_below bottom steps rest step same links in
      let all : elements_above meaning (step ∷ rest) below ≡ Some xs =
      ap (λ (l : List (Step A)). elements_above meaning l below) (sym same) ∙ e in
      let parts =
      then_some ((meaning step.codec).decode_list (above step)) (elements_above meaning rest below) xs all in (
        parts.0,
        record {
          elements = parts.1;
          count = elements-counted meaning unserved region_below bottom counted_law rest below parts.0 counted linked.1
              parts.1 ∙ ap (λ (l : Level). count_of l.shape) (sym linked.0.below);
          decodes = parts.2;
        },
      )

  -- and the array bytes that it is given
  pub given-bytes : (steps rest : List (Step A)) (step : Step A) (below : Option (List Element)) (list : List Element)
      (box next : Region) (bytes : ArrayBytes) → steps ≡ step ∷ rest → AreLinked meaning unserved steps bottom →
      next ≡ region_below step.codec (above step).shape box → HoldsBox meaning rest bottom below next bytes →
      elements_above meaning rest below ≡ Some list →
      list_at (at_box (region_below step.codec (above step).shape box) ((meaning step.codec).level_below (above step)))
      bytes ≡ Some (select ((meaning step.codec).level_below (above step)).shape
      (region_below step.codec (above step).shape box) list)
  given-bytes steps rest step below list box next bytes same links here holds e =
      let linked = first-link meaning unserved region_below bottom steps rest step same links in
      let next_box = region_below step.codec (above step).shape box in
      subst (λ (l : Level). list_at (at_box next_box l) bytes ≡ Some (select l.shape next_box list))
      (sym linked.0.below)
      (subst (λ (r : Region). list_at (at_box r (top rest bottom)) bytes ≡ Some (select (top rest bottom).shape r list))
      here (holds list e))

pub last-of : {A B : Type 0} (f : A → B) (items : List A) (all : List B) (n : ℕ) (other last : A) →
    last ≡ last_item (take n items) other → map f items ≡ all → f last ≡ last_item (take n all) (f other)
last-of {A} {B} f items all n other last here same =
    ap f here ∙ (sym (map_last f (take n items) other)
    ∙ ap (λ (l : List B). last_item l (f other)) (sym (take-map f n items) ∙ ap (take n) same))

-- the bottom's box lies inside its level
pub inside-bottom :
    {A : Type 0} (meaning : A → ArrayCodec) (unserved : Serving A) (region_below : Boxing A) (bottom : Level) →
    ((c : A) (level : Level) (fill : List ℕ) (region : Region) → unserved_at (unserved c) level fill ≡ None →
    ends_within region level.shape ≡ true →
    ends_within (region_below c level.shape region) ((meaning c).level_below level).shape ≡ true) →
    (steps : List (Step A)) (region : Region) → AreLinked meaning unserved steps bottom →
    ends_within region (top steps bottom).shape ≡ true →
    ends_within (last_item (boxes_below region_below steps region) region) bottom.shape ≡ true
inside-bottom meaning unserved region_below bottom law [] region links inside = inside
inside-bottom meaning unserved region_below bottom law (step ∷ steps) region links inside =
    inside-bottom meaning unserved region_below bottom law steps (region_below step.codec (above step).shape region)
    links.1
    (inside-next meaning unserved region_below bottom law (step ∷ steps) steps step region refl links inside)

-- the array bytes that a codec is given are valid at the box below
pub valid-below : {A : Type 0} (meaning : A → ArrayCodec) (unserved : Serving A) (region_below : Boxing A)
    (bottom : Level) (step : Step A) (rest : List (Step A)) (box next : Region) (bytes : ArrayBytes) →
    IsLink meaning unserved step (top rest bottom) → next ≡ region_below step.codec (above step).shape box →
    IsSome (list_at (at_box next (top rest bottom)) bytes) →
    IsSome (list_at (at_box (region_below step.codec (above step).shape box)
    ((meaning step.codec).level_below (above step))) bytes)
valid-below meaning unserved region_below bottom step rest box next bytes link here valid =
    subst (λ (l : Level). IsSome (list_at (at_box (region_below step.codec (above step).shape box) l) bytes))
    (sym link.below)
    (subst (λ (r : Region). IsSome (list_at (at_box r (top rest bottom)) bytes)) here valid)
