-- Array bytes whose elements are moved.
use Rattle.std.proofs.Common.{◌≡◌, ℕ, ◌-◌, ◌*◌, true, false, List, [], length, drop, Option, Some, IsSome, option_map}
use Rattle.std.proofs.Common.{refl, sym, ap, ◌∙◌, subst, arith}
use Rattle.std.proofs.lemmas.List.{append-nil, nil_from_length}
use Rattle.std.specs.List.{range_with_len}
use Rattle.zarrs_codec_traits.specs.Prelude.{count_of, ArrayBytes, meaning, has_long_element, AllBelow, gathered}
use Rattle.zarrs_codec_traits.specs.Prelude.{picked, size_in, fine, validity, Gives}
use Rattle.zarr_model.specs.Element.{Element, null, Kind, fixed_size}
use Rattle.zarrs_codec_slices.proofs.GatherLaws.{extract_means}
use Rattle.zarrs_codec_array_bytes.proofs.CheckLaws.{still_short, below_twice}
use Rattle.zarr_codecs_elements.specs.Order.{is_order}
use Rattle.zarr_codecs_elements.specs.Moved.{moved_places}
use Rattle.zarr_codecs_elements.proofs.CountLaws.{count_of-permuted}
use Rattle.zarr_codecs_elements.proofs.MoveLaws.{length-moved, moved_below}
use Rattle.zarr_codecs_elements.specs.Moving.{moved_list}
use Rattle.zarrs_codec_array_bytes.proofs.ExtractLaws.{valid_list, valid_long}
use Rattle.zarr_model.proofs.BytesLaws.{length-meaning}
use Rattle.zarrs_codec_slices.proofs.ReplaceLaws.{picked-range}
use Rattle.zarr_codecs_elements.proofs.SplitLaws.{parts_of}

pub no_places : (order shape : List ℕ) (number : ℕ) → number ≡ count_of shape → number ≡ 0 →
    [] ≡ moved_places order shape
no_places order shape number is none =
    sym (nil_from_length (moved_places order shape) (length-moved order shape ∙ (sym is ∙ none)))

-- the places that are picked are those of the elements that are there
pub places_below : (order shape places : List ℕ) (number : ℕ) → is_order order ≡ true → length shape ≡ length order →
    number ≡ count_of shape → places ≡ moved_places order shape → AllBelow number places
places_below order shape places number e long is are =
    subst (λ l. AllBelow number l) (sym are) (subst (λ n. AllBelow n (moved_places order shape))
    (count_of-permuted order shape e long ∙ sym is) (moved_below order shape e long))

-- what is picked means the moved list
pub moved_means : (kind : Kind) (order shape places : List ℕ) (raw new : ArrayBytes) → is_order order ≡ true →
    length shape ≡ length order → places ≡ moved_places order shape →
    validity kind (count_of shape) raw ≡ fine →
    new ≡ gathered (size_in (fixed_size kind)) (count_of shape) places raw raw →
    Gives (meaning kind (count_of shape) new) (option_map (moved_list order shape) (meaning kind (count_of shape) raw))
moved_means kind order shape places raw new e long are valid is =
    let means = valid_list kind (count_of shape) raw valid in
    let given : meaning kind (count_of shape) new ≡ Some (moved_list order shape means.0) =
    ap (λ n. meaning kind n new) (sym (ap length are ∙ length-moved order shape))
    ∙ (ap (meaning kind (length places)) is
    ∙ (extract_means kind (count_of shape) places raw means.0
    (places_below order shape places (count_of shape) e long refl are) means.1
    ∙ ap (λ l. Some (picked null l means.0)) are)) in
    record {
      same = given ∙ sym (ap (option_map (moved_list order shape)) means.1);
      there = subst (λ (o : Option (List Element)). IsSome o) (sym given) refl;
    }

pub moved_short : (kind : Kind) (order shape places : List ℕ) (raw new : ArrayBytes) → is_order order ≡ true →
    length shape ≡ length order → places ≡ moved_places order shape →
    validity kind (count_of shape) raw ≡ fine → new ≡ gathered (size_in (fixed_size kind)) (count_of shape) places raw
    raw → has_long_element raw ≡ false → has_long_element new ≡ false
moved_short kind order shape places raw new e long are valid is short =
    let full = valid_long kind (count_of shape) raw valid in
    ap has_long_element is
    ∙ still_short (size_in (fixed_size kind)) (count_of shape) (count_of shape) places raw raw full full short short
    (below_twice (count_of shape) places (places_below order shape places (count_of shape) e long refl are))

-- an order that leaves each dimension in place moves nothing
nothing_moved : (order shape : List ℕ) → is_order order ≡ true → length shape ≡ length order →
    drop 0 order ≡ range_with_len 0 (length order - 0) → moved_places order shape ≡ range_with_len 0 (count_of shape)
nothing_moved order shape e long stays =
    sym (parts_of order shape 0 e long (omega arith) stays).places
    ∙ (append-nil (range_with_len (0 * count_of shape) (count_of shape))
    ∙ ap (λ n. range_with_len n (count_of shape)) (let none : 0 * count_of shape ≡ 0 = omega arith in none))

pub stays_means : (kind : Kind) (order shape : List ℕ) (raw : ArrayBytes) → is_order order ≡ true → length shape ≡
    length order → drop 0 order ≡ range_with_len 0 (length order - 0) → validity kind (count_of shape) raw ≡ fine →
    Gives (meaning kind (count_of shape) raw) (option_map (moved_list order shape) (meaning kind (count_of shape) raw))
stays_means kind order shape raw e long stays valid =
    let means = valid_list kind (count_of shape) raw valid in
    let full : length means.0 ≡ count_of shape = length-meaning kind (count_of shape) raw means.0 means.1 in
    let same : moved_list order shape means.0 ≡ means.0 =
    ap (λ l. picked null l means.0) (nothing_moved order shape e long stays ∙ ap (range_with_len 0) (sym full))
    ∙ (ap (picked null (range_with_len 0 (length means.0))) (sym (append-nil means.0))
    ∙ picked-range null [] means.0 [] 0 refl) in
    record {
      same = means.1 ∙ (ap Some (sym same) ∙ sym (ap (option_map (moved_list order shape)) means.1));
      there = subst (λ (o : Option (List Element)). IsSome o) (sym means.1) refl;
    }
