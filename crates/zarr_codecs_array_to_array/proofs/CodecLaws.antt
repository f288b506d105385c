-- What the calls of the codec give, by the codec's meaning.
use Rattle.std.proofs.Common.{◌≡◌, ℕ, true, List, length, Option, Some, None, option_map, option_and_then, Result, Ok}
use Rattle.std.proofs.Common.{Err, IfOk, refl, sym, ap, ◌∙◌, subst}
use Rattle.zarrs_codec_traits.specs.Prelude.{Region, count_of, Element, Kind, ArrayBytes, meaning, AllBelow, Gives}
use Rattle.zarrs_codec_traits.specs.Prelude.{select}
use Rattle.zarr_model.specs.Codec.{Level, permuted, transpose_codec}
use Rattle.zarr_codecs_elements.specs.Order.{is_order, inverse}
use Rattle.zarr_codecs_elements.proofs.OrderLaws.{inverse_order, length-inverse}
use Rattle.zarr_codecs_elements.proofs.LoopLaws.{all_below}
use Rattle.zarr_codecs_elements.specs.Moving.{moved_list}
use Rattle.zarr_codecs_elements.proofs.MovedLevelLaws.{decodes_moved}

pub decode_list_gives : {T E : Type 0} (seen : T → Option (List Element)) (order given : List ℕ)
    (level : Level) (list : List Element) (r : Result T E) → given ≡ order →
    IfOk r (λ v. Gives (seen v) (Some (moved_list given level.shape list))) →
    IfOk r (λ v. Gives (seen v) ((transpose_codec order).decode_list level list))
decode_list_gives seen order given level list (Err e) is gives = tt
decode_list_gives seen order given level list (Ok v) is gives = record {
  same = gives.same
      ∙ (ap (λ (o : List ℕ). Some (moved_list o level.shape list)) is ∙ sym (decodes_moved order level list));
  there = gives.there;
}

then_moved : (order : List ℕ) (level : Level) (o : Option (List Element)) →
    option_and_then ((transpose_codec order).decode_list level) o ≡ option_map (moved_list order level.shape) o
then_moved order level None = refl
then_moved order level (Some list) = decodes_moved order level list

pub encode_list_gives : {T E : Type 0} (seen : T → ArrayBytes) (kind : Kind) (order given : List ℕ)
    (level : Level) (wanted : Option (List Element)) (r : Result T E) → given ≡ order →
    IfOk r (λ v. option_map (moved_list given level.shape)
    (meaning kind (count_of (permuted given level.shape)) (seen v)) ≡ wanted) →
    IfOk r (λ v. option_and_then ((transpose_codec order).decode_list level)
    (meaning kind (count_of (permuted order level.shape)) (seen v)) ≡ wanted)
encode_list_gives seen kind order given level wanted (Err e) is gives = tt
encode_list_gives seen kind order given level wanted (Ok v) is gives =
    then_moved order level (meaning kind (count_of (permuted order level.shape)) (seen v))
    ∙ subst (λ (o : List ℕ).
    option_map (moved_list o level.shape) (meaning kind (count_of (permuted o level.shape)) (seen v)) ≡ wanted) is gives

pub region_list_gives : {T E : Type 0} (seen : T → Option (List Element)) (order given : List ℕ)
    (level : Level) (box : Region) (list xs : List Element) (r : Result T E) → given ≡ order →
    (transpose_codec order).decode_list level list ≡ Some xs → IfOk r (λ v. seen v ≡ Some (select level.shape box
    (moved_list given level.shape list))) → IfOk r (λ v. seen v ≡ Some (select level.shape box xs))
region_list_gives seen order given level box list xs (Err e) is turned gives = tt
region_list_gives seen order given level box list xs (Ok v) is turned gives =
    gives ∙ (ap (λ (o : List ℕ). Some (select level.shape box (moved_list o level.shape list))) is
    ∙ ap (option_map (select level.shape box)) (sym (decodes_moved order level list) ∙ turned))

-- the numbers of an order's inverse
pub inverse_below : (order given back : List ℕ) (number : ℕ) → is_order order ≡ true → given ≡ order →
    number ≡ length given → back ≡ inverse given → AllBelow number back
inverse_below order given back number e is many are =
    subst (AllBelow number) (sym (are ∙ ap inverse is))
    (all_below (inverse order) number (inverse_order order e) (many ∙ (ap length is ∙ sym (length-inverse order))))
