-- Levels that are put below others, and why one is not.
use Rattle.std.proofs.Common.{◌≡◌, ℕ, List, [], ◌∷◌, ◌++◌, Option, None, refl, sym, ap, ap₂, ◌∙◌}
use Rattle.std.proofs.Common.{subst, subst₂}
use Rattle.zarrs_codec_traits.specs.Prelude.{Level, ArrayCodec, Unserved, unserved_at, IsFit}
use Rattle.zarrs_codec_error.specs.declared.error.CodecError.TheVariants as codec
use Rattle.zarr_codec_chain.specs.declared.representation.ChunkRepresentation.{ChunkRepresentation}
use Rattle.zarr_codec_chain.specs.Levels.{level_at, fill_at, first_of, first_fill_of, Step, above, top, Serving, AreFit}
use Rattle.zarr_codec_chain.specs.Levels.{IsLink, AreLinked}
use Rattle.zarr_codec_chain.specs.Building.{Filling, IsReady, first_reason, levels_unserved}

-- levels that are equal
pub ready_as : (level next : Level) (fill below : List ℕ) → level ≡ next → fill ≡ below → IsReady next below →
    IsReady level fill
ready_as level next fill below same under ready = subst₂ (λ l f. IsReady l f) (sym same) (sym under) ready

-- a level more at the end
pub first_more : (levels : List ChunkRepresentation) (at : ChunkRepresentation) (next : Level) →
    first_of (levels ++ (at ∷ [])) next ≡ first_of levels (level_at at)
first_more [] at next = refl
first_more (first ∷ levels) at next = refl

pub fill_more : (levels : List ChunkRepresentation) (at : ChunkRepresentation) (next : List ℕ) →
    first_fill_of (levels ++ (at ∷ [])) next ≡ first_fill_of levels (fill_at at)
fill_more [] at next = refl
fill_more (first ∷ levels) at next = refl

pub top_more : {A : Type 0} (steps : List (Step A)) (last : Step A) (next : Level) →
    top (steps ++ (last ∷ [])) next ≡ top steps (above last)
top_more [] last next = refl
top_more (first ∷ steps) last next = refl

pub fit_more : {A : Type 0} (steps : List (Step A)) (last : Step A) → AreFit steps →
    IsFit (above last).shape (above last).data_type → AreFit (steps ++ (last ∷ []))
fit_more [] last fit here = (here, tt)
fit_more (first ∷ steps) last fit here = (fit.0, fit_more steps last fit.1 here)

module _ {A : Type 0} (meaning : A → ArrayCodec) (unserved : Serving A) where
  pub linked_more : (steps : List (Step A)) (last : Step A) (next : Level) → AreLinked meaning unserved steps
      (above last) → IsLink meaning unserved last next → AreLinked meaning unserved (steps ++ (last ∷ [])) next
  linked_more [] last next links link = (link, tt)
  linked_more (first ∷ steps) last next links link = (
    subst (λ (l : Level). IsLink meaning unserved first l) (sym (top_more steps last next)) links.0,
    linked_more steps last next links.1 link,
  )

  -- the codec that is served next passes the question on
  pub reason_next : (fill_below : Filling A) (last : Level → List ℕ → Option Unserved) (codec : A) (codecs : List A)
      (level next : Level) (fill next_fill : List ℕ) → unserved_at (unserved codec) level fill ≡ None →
      next ≡ (meaning codec).level_below level → next_fill ≡ fill_below codec level.data_type fill →
      levels_unserved meaning unserved fill_below last (codec ∷ codecs) level fill ≡
      levels_unserved meaning unserved fill_below last codecs next next_fill
  reason_next fill_below last codec codecs level next fill next_fill served below under =
      ap (λ reason. first_reason reason (levels_unserved meaning unserved fill_below last codecs
      ((meaning codec).level_below level) (fill_below codec level.data_type fill))) served
      ∙ ap₂ (λ l f. levels_unserved meaning unserved fill_below last codecs l f) (sym below) (sym under)
