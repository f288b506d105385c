-- Boxes that are copied run by run.
use Rattle.std.proofs.Common.{◌≡◌, ℕ, ◌*◌, ◌^◌, ◌<◌, List, length, map, true, None, Result, Ok, Err, IfOk, arith, ap}
use Rattle.std.proofs.Common.{sym, subst, ◌∙◌}
use Rattle.std.specs.List.{AllByRecursion}
use Rattle.zarr_model.specs.Region.{Region, count, count_of, whole, contains, place, tuples}
use Rattle.zarr_model.specs.ArrayBytes.{ArrayBytes}
use Rattle.zarr_model.proofs.RegionLaws.{length-tuples, count_whole}
use Rattle.zarrs_codec_slices.specs.Picking.{gathered}
use Rattle.zarrs_codec_array_bytes.specs.Selection.{linear}
use Rattle.zarrs_codec_array_bytes.specs.Refusals.{lengths_refusal}

pub one_byte : (n : ℕ) → n < 2 ^ 64 → n * 1 < 2 ^ 64
one_byte n h = omega (arith, h)

-- a whole shape as the outer box
pub in_outer : (shape : List ℕ) (outer box : Region) (places : List (List ℕ)) → outer ≡ whole shape →
    places ≡ tuples box →
    AllByRecursion (λ tuple. contains (whole shape) tuple ≡ true) places →
    AllByRecursion (λ tuple. contains outer tuple ≡ true) (tuples box)
in_outer shape outer box places is listed all =
    subst (λ l. AllByRecursion (λ tuple. contains outer tuple ≡ true) l) listed
    (subst (λ r. AllByRecursion (λ tuple. contains r tuple ≡ true) places) (sym is) all)

pub outer_count : (shape : List ℕ) (outer : Region) → outer ≡ whole shape → count outer ≡ count_of shape
outer_count shape outer is = ap count is ∙ count_whole shape

pub outer_lengths : (shape : List ℕ) (outer : Region) (size : ℕ) (value : ArrayBytes) → outer ≡ whole shape →
    lengths_refusal size (count_of shape) value ≡ None → lengths_refusal size (count outer) value ≡ None
outer_lengths shape outer size value is e = ap (λ n. lengths_refusal size n value) (outer_count shape outer is) ∙ e

pub rows_selected : (shape : List ℕ) (outer box : Region) (places : List (List ℕ))
    (size : ℕ) (old new value : ArrayBytes) → outer ≡ whole shape → places ≡ tuples box →
    value ≡ gathered size (count outer) (map (place outer) (tuples box)) old new →
    value ≡ gathered size (count_of shape) (linear shape places) old new
rows_selected shape outer box places size old new value is listed e =
    e ∙ (ap (λ n. gathered size n (map (place outer) (tuples box)) old new) (outer_count shape outer is)
    ∙ (ap (λ r. gathered size (count_of shape) (map (place r) (tuples box)) old new) is
    ∙ ap (λ l. gathered size (count_of shape) (map (place (whole shape)) l) old new) (sym listed)))

-- as many places as the box has elements
pub place_count : (box : Region) (places : List (List ℕ)) → places ≡ tuples box → length places ≡ count box
place_count box places listed = ap length listed ∙ length-tuples box

-- the same of what a call answers
pub answer_selected : {T E : Type 0} (raw : T → ArrayBytes) (shape : List ℕ) (outer box : Region) (places :
    List (List ℕ)) (size : ℕ) (old new : ArrayBytes) (r : Result T E) → outer ≡ whole shape → places ≡ tuples box →
    IfOk r (λ v. raw v ≡ gathered size (count outer) (map (place outer) (tuples box)) old new) →
    IfOk r (λ v. raw v ≡ gathered size (count_of shape) (linear shape places) old new)
answer_selected raw shape outer box places size old new (Ok v) is listed e =
    rows_selected shape outer box places size old new (raw v) is listed e
answer_selected raw shape outer box places size old new (Err e') is listed e = tt
