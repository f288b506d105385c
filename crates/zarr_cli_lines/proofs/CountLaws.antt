-- How many elements array bytes are, and when they are valid.
use Rattle.std.proofs.Common.{◌≡◌, ℕ, zero, suc, ◌+◌, ◌-◌, ◌*◌, ◌<◌, Bool, true, false, ◌==◌, List, [], ◌∷◌, ◌++◌}
use Rattle.std.proofs.Common.{length, take, get_or, Option, Some, None, IsSome, is_some, unwrap_or, Result}
use Rattle.std.proofs.Common.{Ok, Err, is_ok, refl, sym, ap, ◌∙◌, arith, add-one, eqb-true, append_assoc}
use Rattle.std.proofs.Common.{append-nil, subst, ◌/◌}
use Rattle.std.proofs.Math.Nat.{mul-div_cancel}
use Rattle.std.proofs.lemmas.Bool.{and_parts}
use Rattle.std.proofs.Math.Seq.{take-length}
use Rattle.zarr_model.specs.Element.{Element, null, Kind, fixed, variable, optional}
use Rattle.zarr_model.specs.ArrayBytes.{ArrayBytes, fixed_bytes, variable_bytes, optional_bytes, meaning, are_offsets}
use Rattle.zarr_model.specs.ArrayBytes.{is_mask}
use Rattle.zarr_model.specs.Command.{bytes_refusal}
use Rattle.zarr_model.proofs.BytesLaws.{length-meaning, mask_length, refusal-meaning}
use Rattle.zarr_model.proofs.RefusalLaws.{not_refused}
use Rattle.zarrs_codec_array_bytes.specs.Refusals.{told, validity}
use Rattle.zarrs_codec_array_bytes.proofs.CheckLaws.{first_none, sized_fine}
use Rattle.zarr_cli_lines.specs.ElementText.{element_text, elements_text}
use Rattle.zarr_cli_lines.specs.Place.{list_of_kind, text_at, count_in}
use Rattle.zarrs_codec_error.specs.declared.error.CodecError.{CodecError}
use Rattle.zarrs_codec_array_bytes.specs.Refusals.{sized_answer}
use Rattle.zarrs_codec_array_bytes.specs.Levels.{inner_length}
use Rattle.zarrs_codec_array_bytes.proofs.ToldLaws.{says_some}
use Rattle.zarrs_codec_slices.specs.Picking.{size_in}
use Rattle.zarr_model.specs.Element.{fixed_size}

-- an answer says whether the bytes mean elements
pub answered : {T : Type 0} (kind : Kind) (n : ℕ) (value : ArrayBytes) (r : Result T CodecError) →
    told r ≡ validity kind n value → is_ok r ≡ is_some (meaning kind n value)
answered kind n value (Ok v) e =
    sym ((refusal-meaning kind n value).0
    (sized_fine (inner_length value) (n * size_in (fixed_size kind)) (bytes_refusal kind n value) (sym e)))
answered kind n value (Err error) e = none (is_some (meaning kind n value)) refl
  where
    none : (b : Bool) → is_some (meaning kind n value) ≡ b → false ≡ b
    none false is = refl
    none true is = absurd (says_some error (e
        ∙ ap (sized_answer (inner_length value) (n * size_in (fixed_size kind))) ((refusal-meaning kind n value).1 is)))

-- bytes of another kind mean nothing
some_none : {A : Type 0} (a : A) → None ≡ Some a → ⊥
some_none a e = cc

-- elements of one size that are valid have all of the data
long_as : (kind : Kind) (n : ℕ) (value : ArrayBytes) → bytes_refusal kind n value ≡ None →
    0 < size_in (fixed_size kind) → inner_length value ≡ n * size_in (fixed_size kind)
long_as (fixed k) n (fixed_bytes value) valid some = eqb-true (length value) (n * k)
    (not_refused (length value == n * k) _ valid)
long_as (fixed k) n (variable_bytes value offsets) valid some = cc
long_as (fixed k) n (optional_bytes under mask) valid some = cc
long_as variable n value valid some = absurd (omega (arith, some))
long_as (optional kind) n (fixed_bytes value) valid some = cc
long_as (optional kind) n (variable_bytes value offsets) valid some = cc
long_as (optional kind) n (optional_bytes under mask) valid some = long_as kind n under (first_none _ _ valid).1 some

-- more elements than the data have bytes for are not valid
pub too_many : (kind : Kind) (n size : ℕ) (value : ArrayBytes) → size ≡ size_in (fixed_size kind) → 0 < size →
    inner_length value / size < n → false ≡ is_some (meaning kind n value)
too_many kind n size value is some more = go (is_some (meaning kind n value)) refl
  where
    go : (b : Bool) → is_some (meaning kind n value) ≡ b → false ≡ b
    go false means = refl
    go true means =
        let long : inner_length value ≡ n * size = long_as kind n value ((refusal-meaning kind n value).1 means)
        (subst (λ m. 0 < m) is some) ∙ ap (λ m. n * m) (sym is) in
        let whole : inner_length value / size ≡ n = ap (λ l. l / size) long ∙ mul-div_cancel n some in
        absurd (omega (arith, more, whole))

-- elements that are not all of one size are as many as their offsets or their mask say
pub counted : (kind : Kind) (n : ℕ) (value : ArrayBytes) (list : List Element) → ((m : ℕ) → kind ≡ fixed m → ⊥) →
    meaning kind n value ≡ Some list → n ≡ count_in value
counted (fixed m) n value list other e = absurd (other m refl)
counted variable n (fixed_bytes value) list other e = absurd (some_none list e)
counted variable n (variable_bytes value offsets) list other e = go (are_offsets n (length value) offsets) refl e
  where
    long : (o : List ℕ) → are_offsets n (length value) o ≡ true → n ≡ length o - 1
    long [] is = cc
    long (first ∷ rest) is = let parts = and_parts (length rest == n) _ is in
        let same : length rest ≡ n = eqb-true (length rest) n parts.0 in omega (arith, same)

    go : (b : Bool) → are_offsets n (length value) offsets ≡ b →
        meaning variable n (variable_bytes value offsets) ≡ Some list → n ≡ length offsets - 1
    go true is means = long offsets is
    go false is means = cc
counted variable n (optional_bytes under mask) list other e = absurd (some_none list e)
counted (optional kind) n (fixed_bytes value) list other e = absurd (some_none list e)
counted (optional kind) n (variable_bytes value offsets) list other e = absurd (some_none list e)
counted (optional kind) n (optional_bytes under mask) list other e = go (is_mask n mask) refl e
  where
    go : (b : Bool) → is_mask n mask ≡ b → meaning (optional kind) n (optional_bytes under mask) ≡ Some list →
        n ≡ length mask
    go true is means = sym (mask_length n mask is)
    go false is means = cc

-- the texts of the elements up to a place, and of the one there
texts_more : (list : List Element) (i : ℕ) → i < length list →
    elements_text (take (suc i) list) ≡ elements_text (take i list) ++ 32 ∷ element_text (get_or list i null)
texts_more [] i inside = absurd (omega (arith, inside))
texts_more (x ∷ list) zero inside = append-nil (32 ∷ element_text x)
texts_more (x ∷ list) (suc i) inside =
    ap (λ rest. (32 ∷ element_text x) ++ rest) (texts_more list i (omega (arith, inside)))
    ∙ sym (append_assoc (32 ∷ element_text x) (elements_text (take i list)) (32 ∷ element_text (get_or list i null)))

-- the element at a place is one of the list, which has so many
pub listed_length : (kind : Kind) (n : ℕ) (value : ArrayBytes) → IsSome (meaning kind n value) →
    length (list_of_kind kind n value) ≡ n
listed_length kind n value there = go (meaning kind n value) refl there
  where
    go : (o : Option (List Element)) → meaning kind n value ≡ o → IsSome o → length (unwrap_or o []) ≡ n
    go None is there = cc
    go (Some list) is there = length-meaning kind n value list is

pub one_more : (kind : Kind) (n i : ℕ) (value : ArrayBytes) (start before spaced now : List ℕ) → i < n →
    IsSome (meaning kind n value) →
    before ≡ start ++ elements_text (take i (list_of_kind kind n value)) → spaced ≡ before ++ 32 ∷ [] →
    now ≡ spaced ++ text_at kind n value i →
    now ≡ start ++ elements_text (take (i + 1) (list_of_kind kind n value))
one_more kind n i value start before spaced now inside there so_far space put =
    let text = text_at kind n value i in let listed = list_of_kind kind n value in
    let below : i < length listed = omega (arith, inside, listed_length kind n value there) in
    put ∙ (ap (λ t. t ++ text) (space ∙ ap (λ b. b ++ 32 ∷ []) so_far)
    ∙ (append_assoc (start ++ elements_text (take i listed)) (32 ∷ []) text
    ∙ (append_assoc start (elements_text (take i listed)) (32 ∷ text)
    ∙ ap (λ t.
    start ++ t) (sym (texts_more listed i below) ∙ ap (λ m. elements_text (take m listed)) (sym (add-one i))))))

pub all_taken : (kind : Kind) (n i : ℕ) (value : ArrayBytes) (start now : List ℕ) → n ≡ i →
    IsSome (meaning kind n value) →
    now ≡ start ++ elements_text (take i (list_of_kind kind n value)) →
    now ≡ start ++ elements_text (list_of_kind kind n value)
all_taken kind n i value start now last there so_far =
    let listed = list_of_kind kind n value in
    let whole : i ≡ length listed = sym last ∙ sym (listed_length kind n value there) in
    so_far ∙ ap (λ l. start ++ elements_text l) (ap (λ m. take m listed) whole ∙ take-length listed)

-- what was written is the text of the list that the bytes mean
pub listed_text : (kind : Kind) (n : ℕ) (value : ArrayBytes) (list : List Element) (start now : List ℕ) →
    n ≡ length list → meaning kind (length list) value ≡ Some list →
    now ≡ start ++ elements_text (list_of_kind kind n value) → now ≡ start ++ elements_text list
listed_text kind n value list start now same means put =
    put ∙ ap (λ l. start ++ elements_text l)
    (ap (λ m. unwrap_or (meaning kind m value) []) same ∙ ap (λ o. unwrap_or o []) means)

-- bytes that are not valid mean nothing
pub none_valid : (kind : Kind) (n : ℕ) (value : ArrayBytes) (list : List Element) → n ≡ length list →
    meaning kind (length list) value ≡ Some list → false ≡ is_some (meaning kind n value) → ⊥
none_valid kind n value list same means none = let some : is_some (meaning kind n value) ≡ true =
    ap (λ m. is_some (meaning kind m value)) same ∙ ap is_some means in cc
