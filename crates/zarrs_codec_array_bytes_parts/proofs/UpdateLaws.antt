-- Updates of array bytes: kinds, lengths, picks, and what the updated bytes mean.
use Rattle.std.proofs.Common.{◌≡◌, ◌⊎◌, ⊎_elim, ℕ, ◌+◌, ◌*◌, ◌<◌, List, length, map, get_or, false, true, Bool, Option, Some, None}
use Rattle.std.proofs.Common.{Result, Ok, Err, IfOk, sym, ap, ap₂, ◌∙◌, subst, refl}
use Rattle.std.specs.List.{range_with_len}
use Rattle.std.proofs.lemmas.List.{length-map}
use Rattle.zarr_model.specs.Region.{Region, count, count_of, linear_index, whole, place, tuples}
use Rattle.zarr_model.specs.Element.{Element, Kind, fixed, variable, optional, fixed_size}
use Rattle.zarr_model.specs.ArrayBytes.{ArrayBytes, fixed_bytes, variable_bytes, optional_bytes, meaning}
use Rattle.zarr_model.specs.Command.{Refusal, has_long_element}
use Rattle.zarrs_codec_error.specs.declared.error.CodecError.{CodecError}
use Rattle.zarrs_codec_error.specs.declared.error.CodecError.TheVariants as codec
use Rattle.zarrs_codec_slices.specs.Picking.{AllBelow, gathered, replaced, size_in}
use Rattle.zarrs_codec_slices.specs.PickedRuns.{run_numbers, AreRunsOf}
use Rattle.zarrs_codec_slices.proofs.GatherLaws.{update_means}
use Rattle.zarrs_codec_slices.proofs.MaskLaws.{masked_parts}
use Rattle.zarrs_codec_slices.proofs.ReplaceLaws.{picks_below}
use Rattle.zarrs_codec_array_bytes.specs.Levels.{inner_length}
use Rattle.zarrs_codec_array_bytes.specs.Selection.{linear}
use Rattle.zarrs_codec_array_bytes.specs.Refusals.{BytesAnswer, fine, refused, wrong_length, unfit, other_fill}
use Rattle.zarrs_codec_array_bytes.specs.Refusals.{no_memory, odd, told_by, refusal_answer, first_answer, then_answer}
use Rattle.zarrs_codec_array_bytes.specs.Refusals.{Answers, lengths_refusal, lengths_answer, sized_answer}
use Rattle.zarrs_codec_array_bytes.proofs.CheckLaws.{still_short, sized_fine}
use Rattle.zarrs_codec_array_bytes.proofs.ExtractLaws.{lengths_kept}
use Rattle.zarrs_codec_array_bytes.proofs.MeaningLaws.{is_fine}
use Rattle.zarrs_codec_array_bytes.proofs.RowLaws.{outer_count}
use Rattle.zarrs_codec_array_bytes.proofs.ToldLaws.{says_some, first_fine}
use Rattle.zarrs_codec_array_bytes_parts.specs.Pairs.{pair_refusal, are_alike, both_answer, update_answer}
use Rattle.zarrs_codec_array_bytes_parts.specs.Picks.{update_picks}

pub pair_alike : (size : Option ℕ) (old new : ArrayBytes) → pair_refusal size old new ≡ None → are_alike old new ≡ true
pair_alike size (fixed_bytes old) (fixed_bytes new) e = refl
pair_alike size (fixed_bytes old) (variable_bytes new to) e = cc
pair_alike size (fixed_bytes old) (optional_bytes new over) e = cc
pair_alike size (variable_bytes old from) (fixed_bytes new) e = cc
pair_alike size (variable_bytes old from) (variable_bytes new to) e = refl
pair_alike size (variable_bytes old from) (optional_bytes new over) e = cc
pair_alike size (optional_bytes old mask) (fixed_bytes new) e = cc
pair_alike size (optional_bytes old mask) (variable_bytes new to) e = cc
pair_alike size (optional_bytes old mask) (optional_bytes new over) e = pair_alike size old new e

-- an update of elements by others of their kind is refused for want of memory alone
pair_kept : (kind : Kind) (n m : ℕ) (old new : ArrayBytes) (xs ys : List Element) → meaning kind n old ≡ Some xs →
    meaning kind m new ≡ Some ys → pair_refusal (fixed_size kind) old new ≡ None
pair_kept (fixed size) n m (fixed_bytes a) (fixed_bytes b) xs ys e f = refl
pair_kept (fixed size) n m (fixed_bytes a) (variable_bytes b to) xs ys e f = cc
pair_kept (fixed size) n m (fixed_bytes a) (optional_bytes b over) xs ys e f = cc
pair_kept (fixed size) n m (variable_bytes a from) new xs ys e f = cc
pair_kept (fixed size) n m (optional_bytes a mask) new xs ys e f = cc
pair_kept variable n m (fixed_bytes a) new xs ys e f = cc
pair_kept variable n m (variable_bytes a from) (fixed_bytes b) xs ys e f = cc
pair_kept variable n m (variable_bytes a from) (variable_bytes b to) xs ys e f = refl
pair_kept variable n m (variable_bytes a from) (optional_bytes b over) xs ys e f = cc
pair_kept variable n m (optional_bytes a mask) new xs ys e f = cc
pair_kept (optional kind) n m (fixed_bytes a) new xs ys e f = cc
pair_kept (optional kind) n m (variable_bytes a from) new xs ys e f = cc
pair_kept (optional kind) n m (optional_bytes a mask) (fixed_bytes b) xs ys e f = cc
pair_kept (optional kind) n m (optional_bytes a mask) (variable_bytes b to) xs ys e f = cc
pair_kept (optional kind) n m (optional_bytes a mask) (optional_bytes b over) xs ys e f =
    let old = masked_parts kind n mask a xs e in
    let new = masked_parts kind m over b ys f in
    pair_kept kind n m a b old.list new.list old.inner new.inner

pub update_memory : (kind : Kind) (size : Option ℕ)
    (fits : Bool) (n m : ℕ) (old new : ArrayBytes) (xs ys : List Element) (e : CodecError) → size ≡ fixed_size kind →
    fits ≡ true → meaning kind n old ≡ Some xs → meaning kind m new ≡ Some ys →
    (e ≡ codec.OutOfMemory) ⊎ (told_by e ≡ update_answer size fits n old m new) → e ≡ codec.OutOfMemory
update_memory kind size fits n m old new xs ys e sized inside was is answer =
    let width = size_in (fixed_size kind) in
    let lengths : both_answer width n old m new ≡ fine =
    ap₂ (λ (a b : Option Refusal). then_answer (sized_answer (inner_length old) (n * width) a)
    (sized_answer (inner_length new) (m * width) b)) (lengths_kept kind n old xs was) (lengths_kept kind m new ys is) in
    let all : update_answer (fixed_size kind) fits n old m new ≡ fine = ap₂ (λ (a : Option Refusal) (f : Bool).
    first_answer a f (both_answer width n old m new)) (pair_kept kind n m old new xs ys was is) inside ∙ lengths in
    ⊎_elim (λ (memory : e ≡ codec.OutOfMemory). memory)
    (λ (tells : told_by e ≡ update_answer size fits n old m new).
    absurd (says_some e (tells ∙ (ap (λ (s : Option ℕ). update_answer s fits n old m new) sized ∙ all)))) answer

-- the picks of an update are below both counts
pub picks_in : (number : ℕ) (indices picks : List ℕ) → picks ≡ replaced indices (range_with_len number (length indices))
    (range_with_len 0 number) → AllBelow (number + length indices) picks
picks_in number indices picks is = λ k h. subst (λ l. (k : ℕ) → k < length l → get_or l k 0 < number + length indices)
    (sym is) (picks_below number (length indices) indices refl) k h

-- the same of the runs of an indexer's places
pub picks_within : (number given : ℕ) (shape : List ℕ) (places : List (List ℕ)) (runs picks : List (ℕ × ℕ)) →
    run_numbers runs ≡ linear shape places → given ≡ length places →
    AreRunsOf number (length (run_numbers runs)) picks → AreRunsOf number given picks
picks_within number given shape places runs picks is given_is all =
    subst (λ m. AreRunsOf number m picks) (ap length is ∙ (length-map places (linear_index shape) ∙ sym given_is)) all

-- an error is what is told first
pub then_first : (e : CodecError) (first next : BytesAnswer) → told_by e ≡ first → told_by e ≡ then_answer first next
then_first e fine next h = absurd (says_some e h)
then_first e (refused why) next h = h
then_first e (wrong_length len expected) next h = h
then_first e unfit next h = h
then_first e other_fill next h = h
then_first e no_memory next h = h
then_first e odd next h = h

pub refused_first : (e : CodecError) (refusal : Option Refusal) (fits : Bool) (next : BytesAnswer) →
    told_by e ≡ refusal_answer refusal → told_by e ≡ first_answer refusal fits next
refused_first e None fits next h = absurd (says_some e h)
refused_first e (Some why) fits next h = h

both_fine : (first next : BytesAnswer) → then_answer first next ≡ fine → (first ≡ fine) × (next ≡ fine)
both_fine first next e = let is : first ≡ fine = first_fine first next e in
    (is, sym (ap (λ t. then_answer t next) is) ∙ e)

pub rows_replaced : (shape : List ℕ) (outer box : Region) (places : List (List ℕ))
    (size : ℕ) (old new value : ArrayBytes) → outer ≡ whole shape → places ≡ tuples box →
    value ≡ gathered size (count outer) (update_picks (count outer) (map (place outer) (tuples box))) old new →
    value ≡ gathered size (count_of shape) (update_picks (count_of shape) (linear shape places)) old new
rows_replaced shape outer box places size old new value is listed e =
    e
    ∙ (ap (λ n. gathered size n (update_picks n (map (place outer) (tuples box))) old new) (outer_count shape outer is)
    ∙ (ap (λ r. gathered size (count_of shape) (update_picks (count_of shape) (map (place r) (tuples box))) old new) is
    ∙ ap (λ l. gathered size (count_of shape) (update_picks (count_of shape) (map (place (whole shape)) l)) old new)
    (sym listed)))

pub answer_replaced : {T E : Type 0} (raw : T → ArrayBytes) (shape : List ℕ) (outer box : Region) (places :
    List (List ℕ)) (size : ℕ) (old new : ArrayBytes) (r : Result T E) → outer ≡ whole shape → places ≡ tuples box →
    IfOk r
    (λ v. raw v ≡ gathered size (count outer) (update_picks (count outer) (map (place outer) (tuples box))) old new) →
    IfOk r (λ v. raw v ≡ gathered size (count_of shape) (update_picks (count_of shape) (linear shape places)) old new)
answer_replaced raw shape outer box places size old new (Ok v) is listed e =
    rows_replaced shape outer box places size old new (raw v) is listed e
answer_replaced raw shape outer box places size old new (Err e') is listed e = tt

pub updated : {T : Type 0} (raw : T → ArrayBytes) (size : Option ℕ) (shape : List ℕ) (places : List (List ℕ))
    (old new : ArrayBytes) (r : Result T CodecError) →
    IfOk r (λ v.
    raw v ≡ gathered (size_in size) (count_of shape) (update_picks (count_of shape) (linear shape places)) old new) →
    (kind : Kind) (xs ys : List Element) → fixed_size kind ≡ size → meaning kind (count_of shape) old ≡ Some xs →
    meaning kind (length places) new ≡ Some ys →
    IfOk r (λ v. meaning kind (count_of shape) (raw v) ≡ Some (replaced (linear shape places) ys xs))
updated raw size shape places old new (Ok v) is kind xs ys same e f =
    ap (meaning kind (count_of shape)) (is ∙ ap (λ s.
    gathered (size_in s) (count_of shape) (update_picks (count_of shape) (linear shape places)) old new) (sym same))
    ∙ update_means kind (count_of shape) (linear shape places) old new xs ys e
    (ap (λ k. meaning kind k new) (length-map places (linear_index shape)) ∙ f)
updated raw size shape places old new (Err e') is kind xs ys same e f = tt

pub updated_short : {T : Type 0} (raw : T → ArrayBytes) (size : Option ℕ) (shape : List ℕ) (places : List (List ℕ))
    (fits : Bool) (old new : ArrayBytes) (r : Result T CodecError) →
    Answers (update_answer size fits (count_of shape) old (length places) new) r →
    IfOk r (λ v.
    raw v ≡ gathered (size_in size) (count_of shape) (update_picks (count_of shape) (linear shape places)) old new) →
    has_long_element old ≡ false → has_long_element new ≡ false → IfOk r (λ v. has_long_element (raw v) ≡ false)
updated_short raw size shape places fits old new (Ok v) answers is a b =
    let lengths = both_fine (lengths_answer (size_in size) (count_of shape) old)
    (lengths_answer (size_in size) (length places) new) (is_fine _ _ _ answers).lengths in
    let old_long : lengths_refusal (size_in size) (count_of shape) old ≡ None = sized_fine _ _ _ lengths.0 in
    let new_long : lengths_refusal (size_in size) (length places) new ≡ None = sized_fine _ _ _ lengths.1 in
    let given : length (linear shape places) ≡ length places = length-map places (linear_index shape) in
    ap has_long_element is
    ∙ still_short (size_in size) (count_of shape) (length (linear shape places))
    (update_picks (count_of shape) (linear shape places)) old new
    old_long (ap (λ n. lengths_refusal (size_in size) n new) given ∙ new_long) a b
    (picks_in (count_of shape) (linear shape places) _ refl)
updated_short raw size shape places fits old new (Err e') answers is a b = tt
