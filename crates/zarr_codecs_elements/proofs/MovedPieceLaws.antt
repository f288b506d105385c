-- Runs of elements, moved as pieces of bytes.
use Rattle.std.proofs.Common.{◌≡◌, ℕ, ◌+◌, ◌-◌, ◌*◌, ◌<◌, true, List, length, map, flat_map, arith, ap, sym, ◌∙◌, subst}
use Rattle.std.proofs.Common.{refl}
use Rattle.zarr_model.specs.Region.{count_of}
use Rattle.zarrs_codec_slices.specs.Picking.{AllBelow, piece_of, picked_piece}
use Rattle.zarr_codecs_elements.specs.Order.{is_order, dot}
use Rattle.zarr_codecs_elements.specs.Moved.{moved_places, moved_steps, strided, in_runs}
use Rattle.zarr_codecs_elements.proofs.LoopLaws.{greatest_below}
use Rattle.zarr_codecs_elements.proofs.PlaceLaws.{moved-strided}
use Rattle.zarr_codecs_elements.proofs.RunLaws.{runs_are_pieces, picked_below, runs_below}
use Rattle.zarr_codecs_elements.proofs.SplitLaws.{runs_low}

-- the bytes of runs at the places of a moved shape are those of their elements
pub runs_moved : (size number run : ℕ) (value order shape steps : List ℕ) → is_order order ≡ true →
    length shape ≡ length order → number ≡ count_of shape → steps ≡ moved_steps order shape →
    flat_map (piece_of (run * size) value) (strided shape steps 0) ≡
    flat_map (picked_piece size (number * run) value value) (in_runs run (moved_places order shape))
runs_moved size number run value order shape steps e rank is are =
    let places : List ℕ = moved_places order shape in
    let low : AllBelow number places = runs_low order shape places number e rank is refl in
    ap (flat_map (piece_of (run * size) value)) (ap (λ s. strided shape s 0) are ∙ moved-strided order shape e rank)
    ∙ (runs_are_pieces size run value places
    ∙ sym (picked_below size (number * run) value (in_runs run places) (runs_below number run places low)))

pub mask_moved : (number run : ℕ) (value order shape steps : List ℕ) → is_order order ≡ true →
    length shape ≡ length order → number ≡ count_of shape → steps ≡ moved_steps order shape →
    flat_map (piece_of run value) (strided shape steps 0) ≡
    flat_map (picked_piece 1 (number * run) value value) (in_runs run (moved_places order shape))
mask_moved number run value order shape steps e rank is are =
    ap (λ n. flat_map (piece_of n value) (strided shape steps 0)) (let same : run ≡ run * 1 = omega arith in same)
    ∙ runs_moved 1 number run value order shape steps e rank is are

-- the greatest place is one of them
pub steps_within : (number : ℕ) (order shape steps : List ℕ) → is_order order ≡ true → length shape ≡ length order →
    0 < count_of shape → number ≡ count_of shape → steps ≡ moved_steps order shape →
    0 + dot (map (λ n. n - 1) shape) steps < number
steps_within number order shape steps e rank some is are =
    subst (λ n. 0 + dot (map (λ n. n - 1) shape) steps < n) (sym is) (greatest_below order shape steps e rank some are)
