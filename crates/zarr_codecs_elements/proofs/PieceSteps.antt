-- What loops over pieces keep.
use Rattle.std.proofs.Common.{◌≡◌, ℕ, ◌+◌, ◌-◌, ◌*◌, ◌<◌, List, [], ◌∷◌, ◌++◌, length, get_or, take, drop, flat_map}
use Rattle.std.proofs.Common.{Result, Ok, Err, IfOk, arith, ap, ap₂, sym, ◌∙◌}
use Rattle.std.specs.List.{range_with_len}
use Rattle.std.proofs.lemmas.List.{append-nil, drop_more}
use Rattle.zarrs_codec_slices.specs.Picking.{piece_of}
use Rattle.zarr_codecs_elements.specs.Moved.{strided}
use Rattle.zarr_codecs_elements.proofs.LoopLaws.{next_part, split_first}
use Rattle.zarr_codecs_elements.proofs.RunLaws.{flat_map-flat_map, flat_map_same}

-- a piece of one byte
byte_piece : (value : List ℕ) (i : ℕ) → i < length value → piece_of 1 value i ≡ get_or value i 0 ∷ []
byte_piece value i low =
    ap (λ n. take 1 (drop n value)) (let e : i * 1 ≡ i = omega arith in e) ∙ ap (take 1) (drop_more value i 0 low)

pub one_byte : (value out new all : List ℕ) (len step from i : ℕ) → i < len → from + i * step < length value →
    new ≡ out ++ get_or value (from + i * step) 0 ∷ [] →
    out ++ flat_map (λ j. piece_of 1 value (from + j * step)) (range_with_len i (len - i)) ≡ all →
    new ++ flat_map (λ j. piece_of 1 value (from + j * step)) (range_with_len (i + 1) (len - (i + 1))) ≡ all
one_byte value out new all len step from i h low is e =
    next_part (λ j. piece_of 1 value (from + j * step)) out new all i len h
    (is ∙ ap (λ l. out ++ l) (sym (byte_piece value (from + i * step) low))) e

-- the last dimension of a shape, and one before it
last_pieces : (f : ℕ → List ℕ) (len step from : ℕ) (rest steps : List ℕ) → length rest ≡ 0 →
    flat_map (λ i. f (from + i * step)) (range_with_len 0 len) ≡ flat_map f (strided (len ∷ rest) (step ∷ steps) from)
last_pieces f len step from [] steps e =
    flat_map_same (λ i. f (from + i * step)) (λ i. f (from + i * step) ++ []) (range_with_len 0 len)
    (λ i. sym (append-nil (f (from + i * step))))
    ∙ sym (flat_map-flat_map f (λ i. (from + i * step) ∷ []) (range_with_len 0 len))
last_pieces f len step from (n ∷ rest) steps e = absurd (omega (arith, e))

pub run_pieces : {T E : Type 0} (seen : T → List ℕ) (f : ℕ → List ℕ) (r : Result T E) (shape steps old : List ℕ)
    (from : ℕ) → 0 < length shape → 0 < length steps → length (take (length shape - 1) (drop 1 shape)) ≡ 0 →
    IfOk r (λ v. seen v ≡ old ++ flat_map (λ i. f (from + i * get_or steps 0 0))
    (range_with_len 0 (get_or shape 0 0))) → IfOk r (λ v. seen v ≡ old ++ flat_map f (strided shape steps from))
run_pieces seen f (Err e) shape steps old from some has none is = tt
run_pieces seen f (Ok v) shape steps old from some has none is =
    is ∙ ap (λ l. old ++ l) (last_pieces f (get_or shape 0 0) (get_or steps 0 0) from
    (take (length shape - 1) (drop 1 shape)) (take (length steps - 1) (drop 1 steps)) none
    ∙ sym (ap₂ (λ a b. flat_map f (strided a b from)) (split_first shape some) (split_first steps has)))

pub part_pieces : (f : ℕ → List ℕ) (shape steps old new : List ℕ) (from : ℕ) → 0 < length shape → 0 < length steps →
    new ≡ old ++ flat_map (λ i. flat_map f (strided (take (length shape - 1) (drop 1 shape))
    (take (length steps - 1) (drop 1 steps)) (from + i * get_or steps 0 0))) (range_with_len 0 (get_or shape 0 0)) →
    new ≡ old ++ flat_map f (strided shape steps from)
part_pieces f shape steps old new from some has is =
    is ∙ ap (λ l. old ++ l)
    (sym (flat_map-flat_map f (λ i. strided (take (length shape - 1) (drop 1 shape))
    (take (length steps - 1) (drop 1 steps)) (from + i * get_or steps 0 0)) (range_with_len 0 (get_or shape 0 0)))
    ∙ sym (ap₂ (λ a b. flat_map f (strided a b from)) (split_first shape some) (split_first steps has)))
