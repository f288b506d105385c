-- Elements of a list that is turned round.
use Rattle.std.proofs.Common.{◌≡◌, ℕ, ◌-◌, ◌<◌, List, length, get_or, true, false, Option, Some, None, IsSome}
use Rattle.std.proofs.Common.{option_map, Result, Ok, Err, IfOk, refl, sym, ap, ◌∙◌, subst, arith}
use Rattle.std.specs.Prelude.{reverse}
use Rattle.std.proofs.lemmas.List.{length-map, get_or-map, get_or-reverse, length-reverse}
use Rattle.std.proofs.lemmas.Simd.{map-map}
use Rattle.zarrs_codec_traits.specs.Prelude.{Region, count, count_of, sizes, whole, tuples, place, linear_index}
use Rattle.zarrs_codec_traits.specs.Prelude.{ends_within, ArrayBytes, meaning, has_long_element, AllBelow, gathered}
use Rattle.zarrs_codec_traits.specs.Prelude.{picked, size_in, linear, fine, validity, Answers, Gives, select}
use Rattle.zarr_model.specs.Element.{Element, null, Kind, fixed_size}
use Rattle.zarr_model.proofs.RegionLaws.{length-tuples, sizes_whole}
use Rattle.zarr_model.proofs.BytesLaws.{length-meaning}
use Rattle.zarrs_chunk_grid_iterators.proofs.BoxFacts.{box_inside}
use Rattle.zarrs_codec_slices.proofs.LeafLaws.{map_below}
use Rattle.zarrs_codec_slices.proofs.GatherLaws.{extract_means}
use Rattle.zarrs_codec_slices.proofs.RowLaws.{indices_below}
use Rattle.zarrs_codec_error.specs.declared.error.CodecError.{CodecError}
use Rattle.zarrs_codec_array_bytes.proofs.CheckLaws.{still_short, below_twice}
use Rattle.zarrs_codec_array_bytes.proofs.ExtractLaws.{valid_list, valid_long}
use Rattle.zarrs_codec_traits.proofs.SelectLaws.{listed}
use Rattle.zarrs_codec_examples.specs.Turned.{mirrored, turned_part}

-- places below a limit are so from the other end too
mirrored_below : (n : ℕ) (places : List ℕ) → AllBelow n places → AllBelow n (mirrored n places)
mirrored_below n places all = λ k h.
    let here : k < length places = subst (λ m. k < m) (length-map places (λ place. n - 1 - place)) h in
    let low : get_or places k 0 < n = all k here in
    subst (λ m. m < n) (sym (get_or-map (λ place. n - 1 - place) places k 0 0 here)) (omega (arith, low))

-- and the elements there are those of the list turned round
picked-mirrored : (n : ℕ) (places : List ℕ) (xs : List Element) → length xs ≡ n → AllBelow n places →
    picked null (mirrored n places) xs ≡ picked null places (reverse xs)
picked-mirrored n places xs long all =
    map-map (λ (k : ℕ). get_or xs k null) (λ (place : ℕ). n - 1 - place) places
    ∙ map_below (λ (k : ℕ). get_or xs (n - 1 - k) null) (λ (k : ℕ). get_or (reverse xs) k null) n places
    (λ k h.
    sym (get_or-reverse xs k null (subst (λ m. k < m) (sym long) h) ∙ ap (λ m. get_or xs (m - 1 - k) null) long)) all

-- a region of a shape, whose list is turned round
linear_below : (shape : List ℕ) (box : Region) → ends_within box shape ≡ true →
    AllBelow (count_of shape) (linear shape (tuples box))
linear_below shape box inside = indices_below shape (tuples box) (box_inside box shape inside)

pub places_below : (shape : List ℕ) (box : Region) (places : List ℕ) → ends_within box shape ≡ true →
    places ≡ mirrored (count_of shape) (linear shape (tuples box)) → AllBelow (count_of shape) places
places_below shape box places inside is = subst (AllBelow (count_of shape)) (sym is)
    (mirrored_below (count_of shape) (linear shape (tuples box)) (linear_below shape box inside))

pub region_turned : (kind : Kind) (shape : List ℕ) (box : Region) (places : List ℕ) (raw new : ArrayBytes) →
    ends_within box shape ≡ true → places ≡ mirrored (count_of shape) (linear shape (tuples box)) →
    validity kind (count_of shape) raw ≡ fine →
    new ≡ gathered (size_in (fixed_size kind)) (count_of shape) places raw raw →
    Gives (meaning kind (count box) new) (turned_part shape box (meaning kind (count_of shape) raw))
region_turned kind shape box places raw new inside are valid is =
    let means = valid_list kind (count_of shape) raw valid in
    let xs = means.0 in
    let long : length places ≡ count box = ap length are ∙ (length-map (linear shape (tuples box))
    (λ place. count_of shape - 1 - place) ∙ (length-map (tuples box) (linear_index shape) ∙ length-tuples box)) in
    let chosen : picked null places xs ≡ select shape box (reverse xs) =
    ap (λ l. picked null l xs) are
    ∙ (picked-mirrored (count_of shape) (linear shape (tuples box)) xs
    (length-meaning kind (count_of shape) raw xs means.1) (linear_below shape box inside)
    ∙ map-map (λ (k : ℕ). get_or (reverse xs) k null) (linear_index shape) (tuples box)) in
    let given : meaning kind (count box) new ≡ Some (select shape box (reverse xs)) =
    ap (λ n. meaning kind n new) (sym long)
    ∙ (ap (meaning kind (length places)) is
    ∙ (extract_means kind (count_of shape) places raw xs (places_below shape box places inside are) means.1
    ∙ ap Some chosen)) in
    record {
      same = given ∙ sym (ap (turned_part shape box) means.1);
      there = subst (λ (o : Option (List Element)). IsSome o) (sym given) refl;
    }

pub region_short : (kind : Kind) (shape : List ℕ) (box : Region) (places : List ℕ) (raw new : ArrayBytes) →
    ends_within box shape ≡ true → places ≡ mirrored (count_of shape) (linear shape (tuples box)) →
    validity kind (count_of shape) raw ≡ fine → new ≡ gathered (size_in (fixed_size kind)) (count_of shape) places raw
    raw → has_long_element raw ≡ false → has_long_element new ≡ false
region_short kind shape box places raw new inside are valid is short =
    let long = valid_long kind (count_of shape) raw valid in
    ap has_long_element is
    ∙ still_short (size_in (fixed_size kind)) (count_of shape) (count_of shape) places raw raw long long short short
    (below_twice (count_of shape) places (places_below shape box places inside are))

-- all of a shape
pub select-whole : (shape : List ℕ) (xs : List Element) → length xs ≡ count_of shape →
    select shape (whole shape) xs ≡ xs
select-whole shape xs long =
    listed (whole shape) (λ tuple. get_or xs (place (whole shape) tuple) null) xs null
    (long ∙ sym (ap count_of (sizes_whole shape))) (λ tuple here. refl)

whole_part : (kind : Kind) (shape : List ℕ) (raw : ArrayBytes) → turned_part shape (whole shape)
    (meaning kind (count_of shape) raw) ≡ option_map reverse (meaning kind (count_of shape) raw)
whole_part kind shape raw = go (meaning kind (count_of shape) raw) refl
  where
    go : (o : Option (List Element)) → meaning kind (count_of shape) raw ≡ o →
        turned_part shape (whole shape) o ≡ option_map reverse o
    go None is = refl
    go (Some xs) is =
        ap Some (select-whole shape (reverse xs) (length-reverse xs ∙ length-meaning kind (count_of shape) raw xs is))

pub all_turned : {T E : Type 0} (seen : T → ArrayBytes) (kind : Kind) (shape : List ℕ)
    (box : Region) (raw : ArrayBytes) (r : Result T E) → box ≡ whole shape →
    IfOk r
    (λ v. Gives (meaning kind (count box) (seen v)) (turned_part shape box (meaning kind (count_of shape) raw))) →
    IfOk r
    (λ v. Gives (meaning kind (count_of shape) (seen v)) (option_map reverse (meaning kind (count_of shape) raw)))
all_turned seen kind shape box raw (Err e) all gives = tt
all_turned seen kind shape box raw (Ok v) all gives =
    let number : count box ≡ count_of shape = ap count all ∙ ap count_of (sizes_whole shape) in
    record {
      same = ap (λ n. meaning kind n (seen v)) (sym number) ∙ (gives.same ∙ (ap (λ (b : Region).
          turned_part shape b (meaning kind (count_of shape) raw)) all ∙ whole_part kind shape raw));
      there = subst (λ n. IsSome (meaning kind n (seen v))) number gives.there;
    }

-- a part of what is decoded
pub part_gives : {T E : Type 0} (kind : Kind) (shape : List ℕ) (box : Region) (raw : ArrayBytes) (r : Result T E)
    (seen : T → Option (List Element)) (list xs : List Element) →
    IfOk r (λ v. Gives (seen v) (turned_part shape box (meaning kind (count_of shape) raw))) →
    length list ≡ count_of shape → Some (reverse list) ≡ Some xs →
    meaning kind (count_of (sizes (whole shape))) raw ≡ Some (select shape (whole shape) list) →
    IfOk r (λ v. seen v ≡ Some (select shape box xs))
part_gives kind shape box raw (Err e) seen list xs gives long turned is = tt
part_gives kind shape box raw (Ok v) seen list xs gives long turned is =
    let given : meaning kind (count_of shape) raw ≡ Some list =
    ap (λ s. meaning kind (count_of s) raw) (sym (sizes_whole shape)) ∙ (is ∙ ap Some (select-whole shape list long)) in
    gives.same ∙ (ap (turned_part shape box) given ∙ ap (option_map (select shape box)) turned)

pub whole_answers : {T : Type 0} (kind : Kind) (shape : List ℕ) (raw : ArrayBytes) (r : Result T CodecError) →
    Answers (validity kind (count_of shape) raw) r → Answers (validity kind (count_of (sizes (whole shape))) raw) r
whole_answers kind shape raw r answers =
    subst (λ s. Answers (validity kind (count_of s) raw) r) (sym (sizes_whole shape)) answers
