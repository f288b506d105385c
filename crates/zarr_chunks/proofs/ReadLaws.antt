-- The box of a list at the bottom, and results.
use Rattle.std.proofs.Common.{◌≡◌, List, [], length, Option, Some, IsSome, Result, Ok, Err, IfOk, MatchResult}
use Rattle.std.proofs.Common.{refl, sym, ap, ◌∙◌, subst}
use Rattle.std.proofs.lemmas.Option.{same_Some}
use Rattle.zarr_codec_chain.specs.Prelude.{Element, ArrayBytes, Region, raw_of, Level, ArrayCodec, list_at, at_box}
use Rattle.zarr_codec_chain.specs.Prelude.{select, steps_of, first_of, elements_above}
use Rattle.zarrs_codec_error.specs.declared.error.CodecError.{CodecError}
use Rattle.zarrs_codec_array_bytes.specs.declared.array_bytes.ArrayBytes as code
use Rattle.zarr_codec_chain.specs.declared.representation.ChunkRepresentation.{ChunkRepresentation}
use Rattle.zarr_codec_chain.proofs.StepLaws.{top_is}
use Rattle.zarr_codec_chain.specs.Regions.{HoldsBox}

-- a fact that stands without a result
pub ok_all : {T E : Type 0} (P : Type 0) (r : Result T E) → P → IfOk r (λ v. P)
ok_all P (Ok v) fact = fact
ok_all P (Err e) fact = tt

-- the box of a list at the bottom
pub box_of_list :
    {A : Type 0} (array : A → ArrayCodec) (bottom : Level) (xs : List Element) (box : Region) (raw : ArrayBytes) →
    list_at (at_box box bottom) raw ≡ Some (select bottom.shape box xs) → HoldsBox array [] bottom (Some xs) box raw
box_of_list array bottom xs box raw part ys same =
    part ∙ ap (λ list. Some (select bottom.shape box list)) (same_Some xs ys same)

-- and what it decodes to
pub held_of : {A : Type 0} (array : A → ArrayCodec) (codecs : List A) (levels : List ChunkRepresentation)
    (count : length codecs ≡ length levels) (bottom : Level) (xs list : List Element)
    (box : Region) (r : Result code.ArrayBytes CodecError) →
    elements_above array (steps_of codecs levels) (Some xs) ≡ Some list →
    IfOk r (λ v. HoldsBox array (steps_of codecs levels) bottom (Some xs) box (raw_of v)) →
    IfOk r (λ v.
    list_at (at_box box (first_of levels bottom)) (raw_of v) ≡ Some (select (first_of levels bottom).shape box list))
held_of array codecs levels count bottom xs list box (Ok v) is holds =
    subst (λ (level : Level). list_at (at_box box level) (raw_of v) ≡ Some (select level.shape box list))
    (top_is codecs levels bottom count) (holds list is)
held_of array codecs levels count bottom xs list box (Err e) is holds = tt

-- a step that only want of memory ends
pub ok_half : {T E : Type 0} (P : T → Type 0) (Q : E → Type 0) (r : Result T E) → MatchResult r P Q → IfOk r P
ok_half P Q (Ok v) is = is
ok_half P Q (Err e) is = tt

pub ok_there : {T E X : Type 0} (f : T → Option X) (x : X) (Q : E → Type 0) (r : Result T E) →
    MatchResult r (λ v. f v ≡ Some x) Q → IfOk r (λ v. IsSome (f v))
ok_there f x Q (Ok v) is = subst IsSome (sym is) refl
ok_there f x Q (Err e) is = tt
