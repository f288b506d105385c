-- Boxes of one array, written one after the other.
use Rattle.std.proofs.Common.{◌≡◌, ℕ, ◌<◌, Bool, true, false, if◌then◌else◌, List, get_or, refl, sym, ap, ◌∙◌, subst}
use Rattle.std.proofs.lemmas.Bool.{cond-true, cond-false}
use Rattle.zarr_model.specs.Prelude.{count, contains, place, tuple_at, whole}
use Rattle.zarr_model.proofs.RegionLaws.{count_whole}
use Rattle.zarrs_codec_array_bytes_parts.specs.Laws.{StandSideBySide}

pub side_by_side : StandSideBySide
side_by_side shape first second given other old mid new apart one two k d h =
    two.each k d inside ∙ go (contains first tuple) refl
  where
    tuple : List ℕ
    tuple = tuple_at (whole shape) k

    inside : k < count (whole shape)
    inside = subst (λ n. k < n) (sym (count_whole shape)) h

    go : (b : Bool) → contains first (tuple_at (whole shape) k) ≡ b →
        (if contains second (tuple_at (whole shape) k) then get_or other (place second (tuple_at (whole shape) k)) d
        else get_or mid k d)
        ≡ (if b then get_or given (place first (tuple_at (whole shape) k)) d
        else if contains second (tuple_at (whole shape) k) then get_or other (place second (tuple_at (whole shape) k)) d
        else get_or old k d)
    go true is =
        cond-false (contains second (tuple_at (whole shape) k)) _ _ (apart (tuple_at (whole shape) k) is)
        ∙ (one.each k d inside ∙ cond-true (contains first (tuple_at (whole shape) k)) _ _ is)
    go false is =
        ap (λ x. if contains second (tuple_at (whole shape) k) then get_or other
        (place second (tuple_at (whole shape) k)) d else x)
        (one.each k d inside ∙ cond-false (contains first (tuple_at (whole shape) k)) _ _ is)
