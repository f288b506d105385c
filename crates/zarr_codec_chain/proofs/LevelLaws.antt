-- What levels give over what lies below them.
use Rattle.std.proofs.Common.{◌≡◌, true, false, ℕ, zero, suc, List, [], ◌∷◌, drop, take, ◌++◌, Option, Some, None}
use Rattle.std.proofs.Common.{IsSome, option_and_then, refl, sym, ap, ◌∙◌, ◌⊎◌, ◌≤◌, arith, is_some, subst}
use Rattle.zarrs_codec_traits.specs.Prelude.{Element, kind_of, Level, ArrayCodec, decode_bytes, decode_levels}
use Rattle.zarrs_codec_traits.specs.Prelude.{decode_chain, ArrayBytes, unserved_at, list_at, Gives, IsFit, count_of}
use Rattle.zarrs_codec_traits.specs.Prelude.{fine, told_by, validity}
use Rattle.zarrs_codec_traits.proofs.LevelLaws.{valid_memory}
use Rattle.zarr_model.proofs.BytesLaws.{refusal-meaning}
use Rattle.zarrs_codec_array_bytes.proofs.CheckLaws.{sized_fine}
use Rattle.zarrs_codec_error.specs.declared.error.CodecError.{CodecError}
use Rattle.zarrs_codec_error.specs.declared.error.CodecError.TheVariants as codec
use Rattle.zarr_codec_chain.specs.Levels.{fill_at, Step, above, top, Serving, AreFit, AreLinked, array_codecs}
use Rattle.zarr_codec_chain.specs.Levels.{elements_above}

-- and others are not
pub none_invalid : (level : Level) (raw : ArrayBytes) → list_at level raw ≡ None →
    validity (kind_of level.data_type) (count_of level.shape) raw ≡ fine → ⊥
none_invalid level raw none valid =
    let kind = kind_of level.data_type in
    let some : is_some (list_at level raw) ≡ true =
    (refusal-meaning kind (count_of level.shape) raw).0 (sized_fine _ _ _ valid) in
    let no : is_some (list_at level raw) ≡ false = ap is_some none in
    cc

pub memory_alone : (level : Level) (raw : ArrayBytes) (list : List Element) (e : CodecError) →
    list_at level raw ≡ Some list →
    (e ≡ codec.OutOfMemory) ⊎ (told_by e ≡ validity (kind_of level.data_type) (count_of level.shape) raw) →
    e ≡ codec.OutOfMemory
memory_alone level raw list e means answer = valid_memory level raw e (ap is_some means) answer

-- each of the levels from one on
pub fit-drop : {A : Type 0} (n : ℕ) (steps rest : List (Step A)) (step : Step A) → AreFit steps →
    drop n steps ≡ step ∷ rest → IsFit (above step).shape (above step).data_type
fit-drop {A} zero steps rest step fit here = (subst (λ (l : List (Step A)). AreFit l) here fit).0
fit-drop (suc n) [] rest step fit here = cc
fit-drop (suc n) (first ∷ steps) rest step fit here = fit-drop n steps rest step fit.1 here

module _ {A : Type 0} (meaning : A → ArrayCodec) (unserved : Serving A) (bottom : Level) where
  pub linked-drop : (n : ℕ) (steps : List (Step A)) → AreLinked meaning unserved steps bottom →
      AreLinked meaning unserved (drop n steps) bottom
  linked-drop zero steps links = links
  linked-drop (suc n) [] links = links
  linked-drop (suc n) (first ∷ steps) links = linked-drop n steps links.1

  -- a walk that is at its first level
  pub at-start : (n : ℕ) (steps rest : List (Step A)) (step : Step A) → n ≡ 0 → drop n steps ≡ step ∷ rest →
      AreLinked meaning unserved steps bottom →
      (unserved_at (unserved step.codec) (above step) (fill_at step.at) ≡ None) × (top steps bottom ≡ above step)
  at-start n steps rest step start here links =
      let all : steps ≡ step ∷ rest = ap (λ (k : ℕ). drop k steps) (sym start) ∙ here in
      let linked = subst (λ (l : List (Step A)). AreLinked meaning unserved l bottom) all links in
      (linked.0.served, ap (λ (l : List (Step A)). top l bottom) all)

  pub nothing-above : (steps : List (Step A)) → elements_above meaning steps None ≡ None
  nothing-above [] = refl
  nothing-above (step ∷ steps) =
      ap (option_and_then ((meaning step.codec).decode_list (above step))) (nothing-above steps)

  -- what stands at a level of the walk up
  pub some-list : (o wanted : Option (List Element)) → Gives o wanted →
      (list : List Element) × (o ≡ Some list) × (wanted ≡ Some list)
  some-list None wanted given = let none = given.there in cc
  some-list (Some list) wanted given = (list, refl, sym given.same)

  -- the walk over levels is the model's
  pub levels-decode : (steps : List (Step A)) (to_elements : Level → List ℕ → Option (List Element)) (value : List ℕ) →
      AreLinked meaning unserved steps bottom →
      elements_above meaning steps (to_elements bottom value) ≡
      decode_levels (array_codecs meaning steps) to_elements (top steps bottom) value
  levels-decode [] to_elements value links = refl
  levels-decode (step ∷ steps) to_elements value links =
      ap (option_and_then ((meaning step.codec).decode_list (above step)))
      (levels-decode steps to_elements value links.1
      ∙ ap (λ (l : Level). decode_levels (array_codecs meaning steps) to_elements l value) (sym links.0.below))

  pub nothing-decodes : (steps : List (Step A)) (to_elements : Level → List ℕ → Option (List Element))
      (value : List ℕ) → AreLinked meaning unserved steps bottom → to_elements bottom value ≡ None →
      decode_levels (array_codecs meaning steps) to_elements (top steps bottom) value ≡ None
  nothing-decodes steps to_elements value links none =
      sym (levels-decode steps to_elements value links) ∙ (ap (elements_above meaning steps) none ∙ nothing-above steps)

  -- the array bytes of one level more
  pub step-up : (n left : ℕ) (steps : List (Step A)) (step : Step A) (list : List Element) (before now : ArrayBytes) →
      drop n steps ≡ step ∷ drop left steps → AreLinked meaning unserved steps bottom →
      Gives (list_at (top (drop left steps) bottom) before) (elements_above meaning (drop left steps) (Some list)) →
      (unserved_at (unserved step.codec) (above step) (fill_at step.at) ≡ None → (mid : List Element) →
      list_at ((meaning step.codec).level_below (above step)) before ≡ Some mid →
      Gives (list_at (above step) now) ((meaning step.codec).decode_list (above step) mid)) →
      Gives (list_at (top (drop n steps) bottom) now) (elements_above meaning (drop n steps) (Some list))
  step-up n left steps step list before now here links given decoded =
      let link =
      (subst (λ (l : List (Step A)). AreLinked meaning unserved l bottom) here (linked-drop n steps links)).0 in
      let (mid, is, done) = some-list (list_at (top (drop left steps) bottom) before)
      (elements_above meaning (drop left steps) (Some list)) given in
      let made = decoded link.served mid (ap (λ (l : Level). list_at l before) link.below ∙ is) in
      subst (λ (l : List (Step A)). Gives (list_at (top l bottom) now) (elements_above meaning l (Some list)))
      (sym here)
      (record {
        same = made.same ∙ sym (ap (option_and_then ((meaning step.codec).decode_list (above step))) done);
        there = made.there;
      })

  -- a level that wants memory
  pub step-memory : (n left : ℕ) (steps : List (Step A)) (step : Step A) (list : List Element) (before :
      ArrayBytes) (memory : Type 0) → drop n steps ≡ step ∷ drop left steps → AreLinked meaning unserved steps bottom →
      Gives (list_at (top (drop left steps) bottom) before) (elements_above meaning (drop left steps) (Some list)) →
      (unserved_at (unserved step.codec) (above step) (fill_at step.at) ≡ None → (mid : List Element) →
      list_at ((meaning step.codec).level_below (above step)) before ≡ Some mid → memory) → memory
  step-memory n left steps step list before memory here links given failed =
      let link =
      (subst (λ (l : List (Step A)). AreLinked meaning unserved l bottom) here (linked-drop n steps links)).0 in
      let (mid, is, done) = some-list (list_at (top (drop left steps) bottom) before)
      (elements_above meaning (drop left steps) (Some list)) given in
      failed link.served mid (ap (λ (l : Level). list_at l before) link.below ∙ is)

  -- a value that the bytes-to-bytes codecs and the array-to-bytes codec decode
  pub chain-value : (steps : List (Step A)) (to_elements : Level → List ℕ → Option (List Element))
      (codecs : List (List ℕ → Option (List ℕ))) (value bytes : List ℕ) (list : List Element) →
      AreLinked meaning unserved steps bottom →
      decode_bytes codecs value ≡ Some bytes → to_elements bottom bytes ≡ Some list →
      decode_chain
      (record { array_codecs = array_codecs meaning steps; to_elements = to_elements; byte_codecs = codecs })
      (top steps bottom) value ≡ elements_above meaning steps (Some list)
  chain-value steps to_elements codecs value bytes list links first next =
      ap (option_and_then (decode_levels (array_codecs meaning steps) to_elements (top steps bottom))) first
      ∙ (sym (levels-decode steps to_elements bytes links) ∙ ap (elements_above meaning steps) next)

  pub chain-none : (steps : List (Step A)) (to_elements : Level → List ℕ → Option (List Element))
      (codecs : List (List ℕ → Option (List ℕ))) (value bytes : List ℕ) → AreLinked meaning unserved steps bottom →
      decode_bytes codecs value ≡ Some bytes → to_elements bottom bytes ≡ None →
      decode_chain
      (record { array_codecs = array_codecs meaning steps; to_elements = to_elements; byte_codecs = codecs })
      (top steps bottom) value ≡ None
  chain-none steps to_elements codecs value bytes links first next =
      ap (option_and_then (decode_levels (array_codecs meaning steps) to_elements (top steps bottom))) first
      ∙ nothing-decodes steps to_elements bytes links next

  -- elements above some levels, and then above one more
  above-more : (steps : List (Step A)) (step : Step A) (below : Option (List Element)) →
      elements_above meaning (steps ++ (step ∷ [])) below ≡
      elements_above meaning steps (option_and_then ((meaning step.codec).decode_list (above step)) below)
  above-more [] step below = refl
  above-more (first ∷ steps) step below =
      ap (option_and_then ((meaning first.codec).decode_list (above first))) (above-more steps step below)

  pub some-below : (steps : List (Step A)) (below : Option (List Element)) (list : List Element) →
      elements_above meaning steps below ≡ Some list → IsSome below
  some-below steps None list e = let none : Some list ≡ None = sym e ∙ nothing-above steps in cc
  some-below steps (Some below) list e = refl

  -- one level more on the way down
  pub step-down : (n next : ℕ) (steps : List (Step A)) (step : Step A) (list : List Element) (before now : ArrayBytes) →
      drop n steps ≡ step ∷ drop next steps → take next steps ≡ take n steps ++ (step ∷ []) →
      AreLinked meaning unserved steps bottom →
      elements_above meaning (take n steps) (list_at (top (drop n steps) bottom) before) ≡ Some list →
      (unserved_at (unserved step.codec) (above step) (fill_at step.at) ≡ None → IsSome (list_at (above step) before) →
      option_and_then ((meaning step.codec).decode_list (above step))
      (list_at ((meaning step.codec).level_below (above step)) now) ≡ list_at (above step) before) →
      elements_above meaning (take next steps) (list_at (top (drop next steps) bottom) now) ≡ Some list
  step-down n next steps step list before now here more links given encoded =
      let link =
      (subst (λ (l : List (Step A)). AreLinked meaning unserved l bottom) here (linked-drop n steps links)).0 in
      let first : top (drop n steps) bottom ≡ above step = ap (λ (l : List (Step A)). top l bottom) here in
      let start : elements_above meaning (take n steps) (list_at (above step) before) ≡ Some list =
      ap (λ (l : Level). elements_above meaning (take n steps) (list_at l before)) (sym first) ∙ given in
      let there = some-below (take n steps) (list_at (above step) before) list start in
      ap (λ (l : List (Step A)). elements_above meaning l (list_at (top (drop next steps) bottom) now)) more
      ∙ (above-more (take n steps) step (list_at (top (drop next steps) bottom) now)
      ∙ (ap (λ (l : Level). elements_above meaning (take n steps)
      (option_and_then ((meaning step.codec).decode_list (above step)) (list_at l now))) (sym link.below)
      ∙ (ap (elements_above meaning (take n steps)) (encoded link.served there) ∙ start)))

  pub down-there : (n : ℕ) (steps : List (Step A)) (step : Step A) (rest : List (Step A)) (list : List Element)
      (before : ArrayBytes) → drop n steps ≡ step ∷ rest → AreLinked meaning unserved steps bottom →
      elements_above meaning (take n steps) (list_at (top (drop n steps) bottom) before) ≡ Some list →
      (unserved_at (unserved step.codec) (above step) (fill_at step.at) ≡ None) × IsSome (list_at (above step) before)
  down-there n steps step rest list before here links given =
      let link =
      (subst (λ (l : List (Step A)). AreLinked meaning unserved l bottom) here (linked-drop n steps links)).0 in (
        link.served,
        some-below (take n steps) (list_at (above step) before) list (ap (λ (l : List (Step A)).
            elements_above meaning (take n steps) (list_at (top l bottom) before)) (sym here) ∙ given),
      )

  pub chain-back : (steps : List (Step A)) (to_elements : Level → List ℕ → Option (List Element))
      (codecs : List (List ℕ → Option (List ℕ))) (value bytes : List ℕ) (o : Option (List Element))
      (list : List Element) → AreLinked meaning unserved steps bottom →
      decode_bytes codecs value ≡ Some bytes → to_elements bottom bytes ≡ o →
      elements_above meaning steps o ≡ Some list →
      decode_chain
      (record { array_codecs = array_codecs meaning steps; to_elements = to_elements; byte_codecs = codecs })
      (top steps bottom) value ≡ Some list
  chain-back steps to_elements codecs value bytes o list links first next above_is =
      ap (option_and_then (decode_levels (array_codecs meaning steps) to_elements (top steps bottom))) first
      ∙ (sym (levels-decode steps to_elements bytes links) ∙ (ap (elements_above meaning steps) next ∙ above_is))

-- no level below has more elements
pub fewer_below : {A : Type 0} (meaning : A → ArrayCodec) (unserved : Serving A)
    → ((codec : A) (level : Level) (fill : List ℕ) → unserved_at (unserved codec) level fill ≡ None →
    count_of ((meaning codec).level_below level).shape ≤ count_of level.shape)
    → (steps : List (Step A)) (bottom : Level) → AreLinked meaning unserved steps bottom →
    count_of bottom.shape ≤ count_of (top steps bottom).shape
fewer_below meaning unserved keeps [] bottom linked = omega arith
fewer_below meaning unserved keeps (step ∷ steps) bottom linked =
    let rest : count_of bottom.shape ≤ count_of (top steps bottom).shape =
    fewer_below meaning unserved keeps steps bottom linked.1 in
    let here : count_of (top steps bottom).shape ≤ count_of (above step).shape =
    subst (λ (level : Level). count_of level.shape ≤ count_of (above step).shape) linked.0.below
    (keeps step.codec (above step) (fill_at step.at) linked.0.served) in
    omega (arith, rest, here)
