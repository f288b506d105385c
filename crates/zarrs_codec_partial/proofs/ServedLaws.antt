-- What is said of a level that is not served.
use Rattle.std.proofs.Common.{◌≡◌, ℕ, ◌*◌, Bool, true, List, Option, Some, None, IsSome, option_and_then, Result}
use Rattle.std.proofs.Common.{Ok, Err, IfOk, refl, sym, ap, ap₂, subst, inr}
use Rattle.zarrs_codec_traits.specs.Prelude.{inner_length, RefusesBy}
use Rattle.zarrs_codec.specs.Prelude.{Element, Kind, fill_element, fixed_size, kind_of, ArrayBytes, meaning}
use Rattle.zarrs_codec.specs.Prelude.{Level, ArrayCodec, Options, bytes_refusal, size_in, Unserved, list_at, Refused}
use Rattle.zarrs_codec.specs.Prelude.{RefusesFor, given_answer}
use Rattle.zarr_model.proofs.BytesLaws.{refusal-meaning}
use Rattle.zarr_model.proofs.Choices.{some_given}
use Rattle.zarrs_codec_error.specs.declared.error.CodecError.{CodecError}
use Rattle.zarrs_codec_error.specs.declared.error.CodecError.TheVariants as codec
use Rattle.zarrs_codec_array_bytes.specs.Refusals.{BytesAnswer, fine, other_fill, told_by, sized_answer}
use Rattle.zarrs_codec_array_bytes.specs.Refusals.{then_answer, first_answer, validity}
use Rattle.zarrs_codec.proofs.NamedLaws.{refused_memory}
use Rattle.zarrs_codec_partial.specs.Above.{HandsOn, first_unserved}

-- the first reason is told: the fill value's, or the codec's
pub named_fill :
    (T : Type 0) (own : Option Unserved) (below : Option Refused) (element : Option Element) (e : CodecError) →
    element ≡ None → told_by e ≡ other_fill → RefusesFor {T = T} (first_unserved own below element) (Err e)
named_fill T own below None e is told = inr told
named_fill T own below (Some x) e is told = cc

pub named_own : (T U : Type 0) (own : Option Unserved) (below : Option Refused) (element : Option Element)
    (e : CodecError) → IsSome element → RefusesBy {T = U} own (Err e) → (own ≡ None → e ≡ codec.OutOfMemory)
    → RefusesFor {T = T} (first_unserved own below element) (Err e)
named_own T U own below None e there refuses memory = cc
named_own T U None below (Some x) e there refuses memory = refused_memory T below e (memory refl)
named_own T U (Some why) below (Some x) e there refuses memory = refuses

-- the reason is that of what is below, where the codec serves a level whose fill value denotes an element
pub named_above : {T : Type 0} (own : Option Unserved) (below : Option Refused) (element : Option Element) (r : Result T
    CodecError) → own ≡ None → IsSome element → RefusesFor below r → RefusesFor (first_unserved own below element) r
named_above own below None r is there refuses = cc
named_above (Some why) below (Some x) r is there refuses = cc
named_above None below (Some x) r is there refuses = refuses

-- what is handed on of elements is valid
given_below : (decode : List Element → Option (List Element)) (o given : Option (List Element)) (list : List Element) →
    given ≡ o → option_and_then decode o ≡ Some list → IsSome given
given_below decode None given list same is = cc
given_below decode (Some ys) given list same is = subst (λ (o : Option (List Element)). IsSome o) (sym same) refl

pub hands_valid : (codec : ArrayCodec) (level : Level) (fill fill_below : List ℕ) (under : Options) (bytes encoded :
    ArrayBytes) (given : Option (List Element)) → IsSome (fill_element (kind_of level.data_type) fill)
    → HandsOn codec level fill fill_below under bytes encoded → given ≡ list_at (codec.level_below level) encoded →
    IsSome (list_at level bytes) → IsSome given
hands_valid codec level fill fill_below under bytes encoded given filled hands same there =
    some_given (list_at level bytes) there (λ list means. given_below (codec.decode_list level)
    (list_at (codec.level_below level) encoded) given list same (hands.decodes list filled means))

-- elements and an indexer that are in order
pub given_fine : (kind : Kind) (fits : Bool) (number : ℕ) (raw : ArrayBytes) → fits ≡ true →
    IsSome (meaning kind number raw) → given_answer kind fits number raw ≡ fine
given_fine kind fits number raw inside there =
    let none : bytes_refusal kind number raw ≡ None = (refusal-meaning kind number raw).1 there in
    let valid : validity kind number raw ≡ fine =
    ap (sized_answer (inner_length raw) (number * size_in (fixed_size kind))) none in
    ap₂ (λ (v : BytesAnswer) (f : Bool). then_answer v (first_answer None f fine)) valid inside

-- both halves of a test that was passed
pub both_served : {T : Type 0} (P Q : Type 0) (r : Result T CodecError) → IfOk r (λ v. P) → IfOk r (λ v. Q) →
    IfOk r (λ v. P × Q)
both_served P Q (Ok v) p q = (p, q)
both_served P Q (Err e) p q = tt
