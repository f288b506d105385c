-- A read that meets no damage.
use Rattle.std.proofs.Common.{◌≡◌, true, false, [], ◌∷◌, slice_get, Some, None, refl, sym, ap, ◌∙◌, ⊎_elim}
use Rattle.std.proofs.lemmas.Bool.{cases_Bool}
use Rattle.std.proofs.lemmas.Option.{slice_get_within, get_or_from_slice_get}
use Rattle.zarr_model.specs.Prelude.{Region, Element, Array, IsChunk, Options, Content, IsSound, WhollyMeans}
use Rattle.zarr_model.specs.Prelude.{chunk_content, read, Description, layout, refusal, command_chunks, chunks_under}
use Rattle.zarr_model.specs.Prelude.{undamaged, MeetsNoDamage, is_damaged, HasMet}
use Rattle.zarr_model.proofs.FailureLaws.{meeting_is}
use Rattle.zarr_model.proofs.WithoutLaws.{without-is}
use Rattle.zarr_model.proofs.Choices.{none_of}
use Rattle.zarr_model.proofs.MendedLaws.{content-same}

pub met-has : (description : Description) (options : Options) → IsSound (layout description options) →
    (region : Region) (store : Content) (array : Array Element) → refusal description (read region) ≡ None →
    MeetsNoDamage description options (read region ∷ []) store →
    WhollyMeans (layout description options) (undamaged (layout description options) store) array →
    HasMet description options region store array
met-has description options sound region store array accepted unmet meant place chunk e = ⊎_elim
    (λ (hurt : is_damaged (layout description options) store chunk ≡ true).
    absurd (unmet.no_key (description.key chunk) (
      0,
      read region,
      refl,
      refl,
      chunk,
      (
        place,
        slice_get_within (command_chunks description (read region)) place chunk listed,
        get_or_from_slice_get
            (command_chunks description (read region)) place chunk chunk listed,
      ),
      refl,
      refl,
      none_of (chunk_content (layout description options) store chunk) hurt,
    )))
    (λ (good : is_damaged (layout description options) store chunk ≡ false).
    sym (content-same (layout description options) store (undamaged (layout description options) store) chunk
    ((without-is (layout description options) (is_damaged (layout description options) store) sound store).kept chunk
    is_chunk good))
    ∙ meant.each_chunk chunk is_chunk)
    (cases_Bool (is_damaged (layout description options) store chunk))
  where
    listed : slice_get (command_chunks description (read region)) place ≡ Some chunk
    listed = ap (λ why. slice_get (chunks_under description why (read region)) place) accepted ∙ e

    is_chunk : IsChunk description.grid chunk
    is_chunk = (meeting_is description.grid region place chunk e).0
