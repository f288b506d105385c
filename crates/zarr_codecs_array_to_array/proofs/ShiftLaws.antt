-- Array bytes that an offset was put on or taken off.
use Rattle.std.proofs.Common.{◌≡◌, ℕ, zero, suc, ◌*◌, ◌^◌, ◌<◌, ◌≤◌, ◌==◌, ℤ, true, List, length}
use Rattle.std.proofs.Common.{drop, map, Option, Some, None, option_and_then, Result, Ok, Err, IfOk, refl, sym}
use Rattle.std.proofs.Common.{ap, ◌∙◌, subst, arith}
use Rattle.std.specs.List.{AllByRecursion}
use Rattle.std.proofs.lemmas.Bool.{cond-true}
use Rattle.std.proofs.Math.Nat.{mul-le-mul_right}
use Rattle.zarrs_codec_traits.specs.Prelude.{Region, Element, of_bytes, Kind, fixed, ArrayBytes, fixed_bytes}
use Rattle.zarrs_codec_traits.specs.Prelude.{variable_bytes, optional_bytes, meaning, pieces, is_fixed, fine, validity}
use Rattle.zarrs_codec_traits.specs.Prelude.{AreBytes, select}
use Rattle.zarr_model.specs.Codec.{element_less, opposite}
use Rattle.zarr_model.specs.Command.{bytes_refusal, unexpected_chunk_decoded_size}
use Rattle.zarr_model.proofs.ListLaws.{bytes-drop, bytes-take}
use Rattle.zarr_model.proofs.RefusalLaws.{not_refused}
use Rattle.zarrs_codec_array_bytes.proofs.CheckLaws.{sized_fine, fixed_kind}
use Rattle.zarr_codecs_elements.specs.Numbers.{TakesOff, raised, each_piece}
use Rattle.zarr_codecs_elements.proofs.OffsetLaws.{raised-means}
use Rattle.zarr_codecs_elements.proofs.LevelLaws.{list_back, select-less}
use Rattle.zarr_codecs_array_to_array.specs.Shifted.{raised_raw, AreProper, list_less, AreMeant}

refused : (kind : Kind) (n number : ℕ) (raw : ArrayBytes) → kind ≡ fixed n → validity kind number raw ≡ fine →
    bytes_refusal (fixed n) number raw ≡ None
refused kind n number raw is valid = ap (λ (k : Kind). bytes_refusal k number raw) (sym is) ∙ sized_fine _ _ _ valid

pub valid_fixed : (kind : Kind) (n number : ℕ) (raw : ArrayBytes) → kind ≡ fixed n → validity kind number raw ≡ fine →
    is_fixed raw ≡ true
valid_fixed kind n number raw is valid = fixed_kind n number raw (refused kind n number raw is valid)

-- valid bytes of one size are as many as their elements have
valid_long : (n number : ℕ) (value : List ℕ) → bytes_refusal (fixed n) number (fixed_bytes value) ≡ None →
    (length value == number * n) ≡ true
valid_long n number value valid = not_refused (length value == number * n) unexpected_chunk_decoded_size valid

means_pieces : (n number : ℕ) (value : List ℕ) → (length value == number * n) ≡ true →
    meaning (fixed n) number (fixed_bytes value) ≡ Some (map of_bytes (pieces number n value))
means_pieces n number value long = cond-true (length value == number * n) _ _ long

-- numbers with so much added mean the elements less the offset
means : (z : ℤ) (amount n number : ℕ) (raw new : ArrayBytes) → 0 < n → bytes_refusal (fixed n) number raw ≡ None →
    TakesOff (256 ^ n) z amount → new ≡ raised_raw amount n raw →
    meaning (fixed n) number new ≡ list_less z (meaning (fixed n) number raw)
means z amount n number (fixed_bytes value) new some valid takes is =
    let e = means_pieces n number value (valid_long n number value valid) in
    ap (meaning (fixed n) number) is
    ∙ (raised-means z amount number n value (each_piece (raised amount) n value) (map of_bytes (pieces number n value))
    some takes refl e
    ∙ sym (ap (list_less z) e))
means z amount n number (variable_bytes value offsets) new some valid takes is = cc
means z amount n number (optional_bytes under mask) new some valid takes is = cc

pub shifted_means : (z : ℤ) (amount n number modulus : ℕ) (kind : Kind) (raw new : ArrayBytes) → kind ≡ fixed n →
    0 < n → validity kind number raw ≡ fine → modulus ≡ 256 ^ n → TakesOff modulus z amount →
    new ≡ raised_raw amount n raw →
    meaning kind number new ≡ list_less z (meaning kind number raw)
shifted_means z amount n number modulus kind raw new kind_is some valid modulus_is takes is =
    subst (λ (k : Kind). meaning k number new ≡ list_less z (meaning k number raw)) (sym kind_is)
    (means z amount n number raw new some (refused kind n number raw kind_is valid)
    (subst (λ (m : ℕ). TakesOff m z amount) modulus_is takes) is)

all-pieces : (k n : ℕ) (value : List ℕ) → AllByRecursion (λ b. b < 256) value →
    AllByRecursion AreBytes (map of_bytes (pieces k n value))
all-pieces zero n value all = tt
all-pieces (suc k) n value all = (bytes-take n value all, all-pieces k n (drop n value) (bytes-drop n value all))

meant : (n number : ℕ) (raw : ArrayBytes) → bytes_refusal (fixed n) number raw ≡ None → AreProper raw →
    AreMeant (meaning (fixed n) number raw)
meant n number (fixed_bytes value) valid proper =
    subst (λ (o : Option (List Element)). AreMeant o)
    (sym (means_pieces n number value (valid_long n number value valid))) (all-pieces number n value proper)
meant n number (variable_bytes value offsets) valid proper = cc
meant n number (optional_bytes under mask) valid proper = cc

pub shifted_meant : (kind : Kind) (n number : ℕ) (raw : ArrayBytes) → kind ≡ fixed n → validity kind number raw ≡ fine →
    AreProper raw → AreMeant (meaning kind number raw)
shifted_meant kind n number raw is valid proper =
    subst (λ (k : Kind). AreMeant (meaning k number raw)) (sym is)
    (meant n number raw (refused kind n number raw is valid) proper)

-- what is put on is taken off again
pub encoded_back : (z : ℤ) (given made : Option (List Element)) → made ≡ list_less (opposite z) given → AreMeant given →
    option_and_then (λ list. Some (map (element_less z) list)) made ≡ given
encoded_back z (Some list) made is proper =
    ap (option_and_then (λ list. Some (map (element_less z) list))) is ∙ ap Some (list_back z list proper)
encoded_back z None made is proper = absurd proper

pub decoded_part :
    (z : ℤ) (shape : List ℕ) (box : Region) (given made : Option (List Element)) (list xs : List Element) →
    made ≡ list_less z given → Some (map (element_less z) list) ≡ Some xs → given ≡ Some (select shape box list) →
    made ≡ Some (select shape box xs)
decoded_part z shape box given made list xs is whole same =
    let xs_is : map (element_less z) list ≡ xs = cc in
    is ∙ (ap (list_less z) same ∙ ap Some (select-less z shape box list ∙ ap (select shape box) xs_is))

-- the same of what a call answered
pub encoded_ok : {T E : Type 0} (z : ℤ) (r : Result T E) (seen : T → Option (List Element)) (given :
    Option (List Element)) → IfOk r (λ v. seen v ≡ list_less (opposite z) given) → IfOk r (λ _. AreMeant given) →
    IfOk r (λ v. option_and_then (λ list. Some (map (element_less z) list)) (seen v) ≡ given)
encoded_ok z (Ok v) seen given is meant = encoded_back z given (seen v) is meant
encoded_ok z (Err e) seen given is meant = tt

pub part_ok : {T E : Type 0} (z : ℤ) (shape : List ℕ) (box : Region) (r : Result T E) (seen : T → Option (List Element))
    (given : Option (List Element)) (list xs : List Element) → IfOk r (λ v. seen v ≡ list_less z given) →
    Some (map (element_less z) list) ≡ Some xs → given ≡ Some (select shape box list) →
    IfOk r (λ v. seen v ≡ Some (select shape box xs))
part_ok z shape box (Ok v) seen given list xs is whole same =
    decoded_part z shape box given (seen v) list xs is whole same
part_ok z shape box (Err e) seen given list xs is whole same = tt

-- a part of elements whose bytes fit
pub part_bytes : (result part whole size : ℕ) → result ≡ part → part ≤ whole → whole * size < 2 ^ 64 →
    result * size < 2 ^ 64
part_bytes result part whole size is within fits =
    let less : part * size ≤ whole * size = mul-le-mul_right size within in
    subst (λ (n : ℕ). n * size < 2 ^ 64) (sym is) (omega (arith, less, fits))
