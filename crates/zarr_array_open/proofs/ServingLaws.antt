-- What a chain that serves a data type and a rank says of its codecs.
use Rattle.std.proofs.Common.{◌≡◌, ◌⊎◌, inl, inr, ℕ, ◌+◌, ◌<◌, true, List, [], ◌∷◌, length, map, drop, get_or, Option}
use Rattle.std.proofs.Common.{Some, None, Result, Ok, Err, refl, sym, ap, ◌∙◌, subst}
use Rattle.std.proofs.lemmas.Bool.{and_parts}
use Rattle.std.proofs.lemmas.List.{at_drop_more}
use Rattle.std.specs.Bool.{⊤}
use Rattle.zarr_model.specs.Prelude.{DataType, null, Level}
use Rattle.zarrs_data_type.specs.DataType.{type_of}
use Rattle.zarrs_data_type.specs.declared.data_type.DataType as types
use Rattle.zarrs_codec_error.specs.declared.error.CodecError.{CodecError}
use Rattle.zarrs_codec_error.specs.declared.error.CodecError.TheVariants as errors
use Rattle.zarrs_codec_traits.specs.Errors.{Unserved, RefusesBy, unserved_error, unsupported, endianness_missing}
use Rattle.zarr_codecs.specs.Plain.{unserved_by}
use Rattle.zarr_codecs.specs.Views.{plain_of}
use Rattle.zarr_codecs.specs.declared.codecs.BasicArrayToBytes.{BasicArrayToBytes}
use Rattle.zarr_basics.specs.kinds.array_to_array.ArrayToArray.{ArrayToArray, array_codec_of, array_unserved_by}
use Rattle.zarr_basics.specs.kinds.array_to_array.ArrayToArray.{array_has_rank, type_below_by}
use Rattle.zarr_basics.specs.kinds.array_to_array.Laws.{type_kept, plain_array_serves, type_of_below, rank_below}
use Rattle.zarr_basics.specs.kinds.array_to_array.Views.{array_form}
use Rattle.zarr_basics.specs.kinds.array_to_array.declared.array_to_array.BasicArrayToArray.{BasicArrayToArray}
use Rattle.zarr_codec_chain.specs.Building.{chain_unserved, IsReason, FailsToBuild}
use Rattle.zarr_array_open.specs.Document.{ChainForm}
use Rattle.zarr_array_open.specs.Chain.{all_ranked, BasicChain, chain_form}
use Rattle.zarr_array_open.specs.Codecs.{array_meaning, array_unserved, array_fill_below, list_unserved}
use Rattle.zarr_array_open.specs.OpenError.{open_refusal_of, unserved_as}
use Rattle.zarr_array_open.specs.Parts.{StopsBy}
use Rattle.zarr_array_open.proofs.OpeningLaws.{fails_after}
use Rattle.zarr_array_open.specs.Opening.{OpenRefusal, ◌>>=◌, is_opened, type_below, bottom_type, unless_unserved}
use Rattle.zarr_array_open.specs.Opening.{expect_bytes, expect_chain, is_served}

step_passed : {A B : Type 0} (o : Result A OpenRefusal) (y : B) (f : A → Result B OpenRefusal) → (o >>= f) ≡ Ok y →
    (x : A) × (o ≡ Ok x) × (f x ≡ Ok y)
step_passed (Ok x) y f e = (x, refl, e)
step_passed (Err why) y f e = absurd cc

-- the type below a codec, unless there is a reason against it
abbrev below_unless : Option Unserved → DataType → Result DataType OpenRefusal
below_unless why below = unless_unserved why >>= λ _. Ok below

below_passed : {B : Type 0} (why : Option Unserved) (below : DataType) (y : B) (f : DataType → Result B OpenRefusal) →
    (below_unless why below >>= f) ≡ Ok y → (why ≡ None) × (f below ≡ Ok y)
below_passed None below y f e = (refl, e)
below_passed (Some why) below y f e = absurd cc

abbrev type_is : DataType → Result DataType OpenRefusal
type_is type = Ok type

same_type : (a b : DataType) → type_is a ≡ type_is b → b ≡ a
same_type a b e = cc

pub bottom_kept : (codecs : List ArrayToArray) (type bottom : DataType) → bottom_type codecs type ≡ Ok bottom →
    bottom ≡ type
bottom_kept [] type bottom e = same_type type bottom e
bottom_kept (codec ∷ codecs) type bottom e =
    bottom_kept codecs (type_below_by codec type) bottom (below_passed (array_unserved_by codec None (Some type))
    (type_below_by codec type) bottom (bottom_type codecs) e).1 ∙ type_kept codec type

pub record IsServed (chain : ChainForm) (type : DataType) : Type 0 where
  pub arrays : bottom_type chain.array_codecs type ≡ Ok type
  pub bytes : unserved_by chain.to_bytes type ≡ None

none_unserved : (why : Option Unserved) → unless_unserved why ≡ Ok tt → why ≡ None
none_unserved None e = refl
none_unserved (Some why) e = absurd cc

pub chain_serves : (chain : ChainForm) (type : DataType) → expect_chain chain type ≡ Ok tt → IsServed chain type
chain_serves chain type e =
    let down = step_passed (bottom_type chain.array_codecs type) tt (expect_bytes chain.to_bytes) e in
    let kept : down.0 ≡ type = bottom_kept chain.array_codecs type down.0 down.1 in
    record {
      arrays = down.1 ∙ ap Ok kept;
      bytes = ap (unserved_by chain.to_bytes) (sym kept) ∙ none_unserved (unserved_by chain.to_bytes down.0) down.2;
    }

-- by the test that an opened array keeps
pub opened_is : (o : Result ⊤ OpenRefusal) → is_opened o ≡ true → o ≡ Ok tt
opened_is (Ok x) e = refl
opened_is (Err why) e = absurd cc

pub is_served-serves : (chain : ChainForm) (type : DataType) → is_served chain type ≡ true → IsServed chain type
is_served-serves chain type e = chain_serves chain type (opened_is (expect_chain chain type) e)

-- an answer for want of memory
no_memory : (e : CodecError) (answer : Result DataType OpenRefusal) → e ≡ errors.OutOfMemory →
    StopsBy (open_refusal_of (unserved_as e)) answer
no_memory e answer is = subst (λ e. StopsBy (open_refusal_of (unserved_as e)) answer) (sym is) tt

-- so no codec of a chain refuses its level, where each has the rank, which each level keeps
pub none_refuses :
    (codecs : List BasicArrayToArray) (codec : BasicArrayToBytes) (level : Level) (fill : List ℕ) (bottom : DataType)
    → bottom_type (map array_form codecs) level.data_type ≡ Ok bottom →
    all_ranked (length level.shape) (map array_form codecs) ≡ true → unserved_by (plain_of codec) bottom ≡ None
    → chain_unserved array_meaning array_unserved array_fill_below list_unserved codecs codec level fill ≡ None
none_refuses [] codec level fill bottom arrays ranked serves =
    ap (unserved_by (plain_of codec)) (sym (same_type level.data_type bottom arrays)) ∙ serves
none_refuses (first ∷ codecs) codec level fill bottom arrays ranked serves =
    let below : Level = (array_meaning first).level_below level in
    let served = below_passed (array_unserved_by (array_form first) None (Some level.data_type))
    (type_below_by (array_form first) level.data_type) bottom (bottom_type (map array_form codecs)) arrays in
    let ranks = and_parts (array_has_rank (length level.shape) (array_form first))
    (all_ranked (length level.shape) (map array_form codecs)) ranked in
    rw (plain_array_serves (array_form first) level.shape level.data_type served.0 ranks.0)
    (none_refuses codecs codec below (array_fill_below first level.data_type fill) bottom
    (ap (bottom_type (map array_form codecs)) (type_of_below (array_form first) level) ∙ served.1)
    (ap (λ rank. all_ranked rank (map array_form codecs)) (rank_below (array_form first) level ranks.0) ∙ ranks.1)
    serves)

-- the type below a codec, and why there is none
pub below_made : (codec : ArrayToArray) (type : DataType) (t : types.DataType) →
    RefusesBy {T = types.DataType} (array_unserved_by codec None (Some type)) (Ok t)
    → (array_unserved_by codec None (Some type) ≡ None → (level : Level) → level.data_type ≡ type →
    type_of t ≡ ((array_codec_of codec).level_below level).data_type)
    → type_below codec type ≡ Ok (type_of t)
below_made codec type t refused value = go (array_unserved_by codec None (Some type)) refl refused
  where
    level : Level
    level = record { shape = []; data_type = type; fill = null }

    go : (why : Option Unserved) → array_unserved_by codec None (Some type) ≡ why →
        RefusesBy {T = types.DataType} why (Ok t) → type_below codec type ≡ Ok (type_of t)
    go (Some why) is refused = absurd refused
    go None is refused = ap (λ w. below_unless w (type_below_by codec type)) is
        ∙ ap type_is (sym (value is level refl ∙ type_of_below codec level))

unserved_below : (why : Unserved) (below : DataType) (e : CodecError) → (e ≡ errors.OutOfMemory) ⊎
    (e ≡ unserved_error why) → StopsBy (open_refusal_of (unserved_as e)) (below_unless (Some why) below)
unserved_below why below e (inl is) = no_memory e (below_unless (Some why) below) is
unserved_below (unsupported name) below e (inr is) =
    subst (λ e. StopsBy (open_refusal_of (unserved_as e)) (below_unless (Some (unsupported name)) below)) (sym is) refl
unserved_below endianness_missing below e (inr is) =
    subst (λ e. StopsBy (open_refusal_of (unserved_as e)) (below_unless (Some endianness_missing) below)) (sym is) refl

pub below_refused : (codec : ArrayToArray) (type : DataType) (e : CodecError) →
    RefusesBy {T = types.DataType} (array_unserved_by codec None (Some type)) (Err e)
    → (array_unserved_by codec None (Some type) ≡ None → e ≡ errors.OutOfMemory) →
    StopsBy (open_refusal_of (unserved_as e)) (type_below codec type)
below_refused codec type e refused memory = go (array_unserved_by codec None (Some type)) refl refused
  where
    go : (why : Option Unserved) → array_unserved_by codec None (Some type) ≡ why →
        RefusesBy {T = types.DataType} why (Err e) → StopsBy (open_refusal_of (unserved_as e)) (type_below codec type)
    go None is refused = no_memory e (type_below codec type) (memory is)
    go (Some why) is refused =
        subst (λ w. StopsBy (open_refusal_of (unserved_as e)) (below_unless w (type_below_by codec type))) (sym is)
        (unserved_below why (type_below_by codec type) e refused)

-- one more codec of a walk down, and one that refuses
abbrev pub rest_below : List BasicArrayToArray → ℕ → DataType → Result DataType OpenRefusal
rest_below codecs at type = bottom_type (map array_form (drop at codecs)) type

from_here : (codecs : List BasicArrayToArray) (at : ℕ) (codec : BasicArrayToArray) (type : DataType) →
    at < length codecs → codec ≡ get_or codecs at codec
    → rest_below codecs at type ≡
    (type_below (array_form codec) type >>= bottom_type (map array_form (drop (at + 1) codecs)))
from_here codecs at codec type less item =
    at_drop_more (λ cs. bottom_type (map array_form cs) type) codecs at codec less
    ∙ ap (λ c. bottom_type (map array_form (c ∷ drop (at + 1) codecs)) type) (sym item)

pub bottom_more : (codecs : List BasicArrayToArray) (at : ℕ) (codec : BasicArrayToArray) (type below : DataType) (all :
    Result DataType OpenRefusal) → at < length codecs → codec ≡ get_or codecs at codec
    → rest_below codecs at type ≡ all → type_below (array_form codec) type ≡ Ok below →
    rest_below codecs (at + 1) below ≡ all
bottom_more codecs at codec type below all less item so_far is =
    sym (ap (λ r. r >>= bottom_type (map array_form (drop (at + 1) codecs))) is)
    ∙ sym (from_here codecs at codec type less item) ∙ so_far

pub bottom_fails : (codecs : List BasicArrayToArray) (at : ℕ) (codec : BasicArrayToArray) (type : DataType) (all :
    Result DataType OpenRefusal) (why : Option OpenRefusal) → at < length codecs → codec ≡ get_or codecs at codec
    → rest_below codecs at type ≡ all → StopsBy why (type_below (array_form codec) type) → StopsBy why all
bottom_fails codecs at codec type all why less item so_far fails =
    subst (StopsBy why) (sym (from_here codecs at codec type less item) ∙ so_far)
    (fails_after why (type_below (array_form codec) type) (bottom_type (map array_form (drop (at + 1) codecs))) fails)

-- a chain that serves its levels is not built for want of memory alone
only_memory : (reason : Option Unserved) (e : CodecError) → FailsToBuild reason e → reason ≡ None →
    e ≡ errors.OutOfMemory
only_memory reason e (inl memory) none = memory
only_memory reason e (inr why) none = absurd (subst (λ r. IsReason r e) none why)

pub not_built : (form : ChainForm) (chain : BasicChain) (level : Level) (fill : List ℕ) (e : CodecError)
    → is_served form level.data_type ≡ true → all_ranked (length level.shape) form.array_codecs ≡ true →
    chain_form chain ≡ form
    → FailsToBuild (chain_unserved array_meaning array_unserved array_fill_below list_unserved chain.array_codecs.items
    chain.to_bytes level fill) e → e ≡ errors.OutOfMemory
not_built form chain level fill e served ranked same fails =
    let serves = is_served-serves form level.data_type served in
    only_memory _ e fails
    (none_refuses chain.array_codecs.items chain.to_bytes level fill level.data_type
    (ap (λ (f : ChainForm). bottom_type f.array_codecs level.data_type) same ∙ serves.arrays)
    (ap (λ (f : ChainForm). all_ranked (length level.shape) f.array_codecs) same ∙ ranked)
    (ap (λ (f : ChainForm). unserved_by f.to_bytes level.data_type) same ∙ serves.bytes))
