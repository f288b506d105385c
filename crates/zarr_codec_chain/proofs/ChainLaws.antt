-- What a chain gives, from what its codecs give.
use Rattle.std.proofs.Common.{◌≡◌, ℕ, List, [], length, Option, Some, None, IsSome, Result, Ok, Err, IfOk, IfErr}
use Rattle.std.proofs.Common.{IsErrAnd, MatchResult, option_and_then, refl, sym, ap, ap₂, ◌∙◌, subst, subst₂, ◌⊎◌}
use Rattle.std.proofs.Common.{⊎_elim, inl, inr}
use Rattle.zarrs_codec_traits.specs.Prelude.{Element, kind_of, count_of, ArrayBytes, Level, ArrayCodec, Options}
use Rattle.zarrs_codec_traits.specs.Prelude.{decode_bytes, decode_chain, raw_of, IsDecodeError, list_at, Gives}
use Rattle.zarr_model.proofs.Choices.{then_some}
use Rattle.zarrs_codec_array_bytes.specs.declared.array_bytes.ArrayBytes as code
use Rattle.zarrs_codec_array_bytes.specs.Refusals.{BytesAnswer, fine, refused, wrong_length, unfit, other_fill}
use Rattle.zarrs_codec_array_bytes.specs.Refusals.{no_memory, odd, told_by, then_answer, validity}
use Rattle.zarrs_codec_array_bytes.proofs.ToldLaws.{says_some}
use Rattle.zarrs_codec_error.specs.declared.error.CodecError.{CodecError}
use Rattle.zarrs_codec_error.specs.declared.error.CodecError.TheVariants as codec
use Rattle.zarrs_codec_traits.proofs.LevelLaws.{valid_some}
use Rattle.zarr_codec_chain.specs.declared.chain.CodecChain.{CodecChain}
use Rattle.zarr_codec_chain.specs.declared.levels.ChunkLevels.{ChunkLevels}
use Rattle.zarr_codec_chain.specs.Levels.{Step, Serving, AreLinked, array_codecs, elements_above, top, SaysInvalid}
use Rattle.zarr_codec_chain.proofs.StepLaws.{codecs_are, top_is}
use Rattle.zarr_codec_chain.specs.Values.{byte_codecs, bytes_says, said_at}
use Rattle.zarr_codec_chain.specs.Chain.{Listing, Opening, bottom_level, steps, decoded, chain_says}
use Rattle.zarr_codec_chain.specs.Encoding.{StandFor, AnswersBelow}
use Rattle.zarr_codec_chain.proofs.LevelLaws.{chain-value, chain-none, chain-back, none_invalid}

-- what an answer or an error says, weakened
pub ok_of : {T E : Type 0} (P R : T → Type 0) (Q : E → Type 0) (result : Result T E) → ((v : T) → P v → R v) →
    MatchResult result P Q → IfOk result R
ok_of P R Q (Ok v) weaker p = weaker v p
ok_of P R Q (Err e) weaker q = tt

pub err_of : {T E : Type 0} (P : T → Type 0) (Q R : E → Type 0) (result : Result T E) → ((e : E) → Q e → R e) →
    MatchResult result P Q → IfErr result R
err_of P Q R (Ok v) weaker p = tt
err_of P Q R (Err e) weaker q = weaker e q

-- the error that a call ends by
pub err_is : {T E : Type 0} (result : Result T E) (e : E) → IsErrAnd result (λ y. y ≡ e) → result ≡ Err e
err_is (Ok v) e is = absurd is
err_is (Err y) e is = ap Err is

pub err_memory : {T : Type 0} (P : T → Type 0) (result : Result T CodecError) (e : CodecError) → result ≡ Err e →
    e ≡ codec.OutOfMemory →
    MatchResult result P (λ e. e ≡ codec.OutOfMemory)
err_memory P result e is memory =
    subst (λ (x : Result _ CodecError). MatchResult x P (λ e. e ≡ codec.OutOfMemory)) (sym is) memory

-- what is there
pub some_of : {X : Type 0} (o : Option X) → IsSome o → (x : X) × (o ≡ Some x)
some_of None there = cc
some_of (Some x) there = (x, refl)

-- elements that are taken are refused for want of memory alone
pub memory_taken : (level : Level) (raw : ArrayBytes) (beyond : BytesAnswer) (e : CodecError) →
    IsSome (list_at level raw) → beyond ≡ fine →
    (e ≡ codec.OutOfMemory) ⊎ (told_by e ≡
    then_answer (validity (kind_of level.data_type) (count_of level.shape) raw) beyond) → e ≡ codec.OutOfMemory
memory_taken level raw beyond e there taken answer =
    ⊎_elim (λ (memory : e ≡ codec.OutOfMemory). memory)
    (λ (told : told_by e ≡ then_answer (validity (kind_of level.data_type) (count_of level.shape) raw) beyond).
    absurd (says_some e (told ∙ (ap (λ (t : BytesAnswer). then_answer t beyond) (valid_some level raw there) ∙ taken))))
    answer

-- and what is refused of those that are valid is what is refused of them besides
pub refused_beyond : (level : Level) (raw : ArrayBytes) (beyond : BytesAnswer) (e : CodecError) →
    IsSome (list_at level raw) →
    (e ≡ codec.OutOfMemory) ⊎ (told_by e ≡ then_answer (validity (kind_of level.data_type) (count_of level.shape) raw)
    beyond) → (e ≡ codec.OutOfMemory) ⊎ (told_by e ≡ beyond)
refused_beyond level raw beyond e there answer =
    ⊎_elim (λ (memory : e ≡ codec.OutOfMemory). inl memory)
    (λ (told : told_by e ≡ then_answer (validity (kind_of level.data_type) (count_of level.shape) raw) beyond).
    inr (told ∙ ap (λ (t : BytesAnswer). then_answer t beyond) (valid_some level raw there))) answer

pub taken_beyond : (level : Level) (raw : ArrayBytes) (beyond : BytesAnswer) → IsSome (list_at level raw) →
    then_answer (validity (kind_of level.data_type) (count_of level.shape) raw) beyond ≡ fine → beyond ≡ fine
taken_beyond level raw beyond there answer =
    sym (ap (λ (t : BytesAnswer). then_answer t beyond) (valid_some level raw there)) ∙ answer

-- so the call answers as the array-to-bytes codec does
module _ {A : Type 0} (meaning : A → ArrayCodec) (beyond : ArrayBytes → BytesAnswer) (steps : List (Step A))
    (bottom : Level) (list : List Element)
    (bytes below : ArrayBytes) (stands : StandFor meaning steps bottom list bytes below) where
  pub answers_error : (e : CodecError) → (e ≡ codec.OutOfMemory) ⊎ (told_by e ≡ beyond below) →
      (e ≡ codec.OutOfMemory) ⊎
      ((below : ArrayBytes) × StandFor meaning steps bottom list bytes below × (told_by e ≡ beyond below))
  answers_error e cause = ⊎_elim (λ (memory : e ≡ codec.OutOfMemory). inl memory)
      (λ (told : told_by e ≡ beyond below). inr (below, stands, told)) cause

  pub answers_last : {T : Type 0} (P : T → Type 0) (result : Result T CodecError) → beyond below ≡ fine →
      MatchResult result P (λ e. e ≡ codec.OutOfMemory) → AnswersBelow meaning beyond steps bottom list bytes result
  answers_last P (Ok v) taken last = (below, stands, taken)
  answers_last P (Err e) taken last = inl last

-- elements that are not valid are refused as such, whatever else is refused
then_first : (first next : BytesAnswer) → (first ≡ fine → ⊥) → then_answer first next ≡ first
then_first fine next some = absurd (some refl)
then_first (refused why) next some = refl
then_first (wrong_length len expected) next some = refl
then_first unfit next some = refl
then_first other_fill next some = refl
then_first no_memory next some = refl
then_first odd next some = refl

pub invalid_first : (level : Level) (raw : ArrayBytes) (beyond : BytesAnswer) → list_at level raw ≡ None →
    then_answer (validity (kind_of level.data_type) (count_of level.shape) raw) beyond ≡
    validity (kind_of level.data_type) (count_of level.shape) raw
invalid_first level raw beyond none = then_first _ beyond (none_invalid level raw none)

-- at the bottom, where there is no level above it
pub invalid_below : {A : Type 0} (steps : List (Step A)) (bottom : Level) (below raw : ArrayBytes) (beyond :
    BytesAnswer) (e : CodecError) → list_at (top steps bottom) raw ≡ None →
    (steps ≡ []) × (below ≡ raw) →
    (e ≡ codec.OutOfMemory) ⊎ (told_by e ≡ then_answer (validity (kind_of bottom.data_type) (count_of bottom.shape)
    below) beyond) → SaysInvalid (top steps bottom) raw e
invalid_below {A} steps bottom below raw beyond e none same answer =
    let here : top steps bottom ≡ bottom = ap (λ (l : List (Step A)). top l bottom) same.0 in
    let none_below : list_at bottom below ≡ None =
    subst₂ (λ level raw. list_at level raw ≡ None) here (sym same.1) none in
    subst₂ (λ level raw. SaysInvalid level raw e) (sym here) same.1
    (⊎_elim (λ (memory : e ≡ codec.OutOfMemory). inl memory)
    (λ (told : told_by e ≡ then_answer (validity (kind_of bottom.data_type) (count_of bottom.shape) below) beyond).
    inr (told ∙ invalid_first bottom below beyond none_below)) answer)

pub taken_below : {A : Type 0} (steps : List (Step A))
    (bottom : Level) (below raw : ArrayBytes) (beyond : BytesAnswer) → list_at (top steps bottom) raw ≡ None →
    (steps ≡ []) × (below ≡ raw) →
    then_answer (validity (kind_of bottom.data_type) (count_of bottom.shape) below) beyond ≡ fine → ⊥
taken_below {A} steps bottom below raw beyond none same taken =
    let here : top steps bottom ≡ bottom = ap (λ (l : List (Step A)). top l bottom) same.0 in
    let none_below : list_at bottom below ≡ None =
    subst₂ (λ level raw. list_at level raw ≡ None) here (sym same.1) none in
    none_invalid bottom below none_below (sym (invalid_first bottom below beyond none_below) ∙ taken)

module _ {A B C : Type 0} (array : A → ArrayCodec) (unserved : Serving A) (to_list : Listing B)
    (list_says : B → Options → Level → List ℕ → CodecError → Type 0) (opens : Opening C)
    (says : C → Options → List ℕ → CodecError → Type 0) (chain : CodecChain A B C)
    (levels : ChunkLevels) (count : length chain.array_codecs.items ≡ length levels.above.items) (under : Options) where
  -- what it decodes to, over its codecs with their levels
  pub decoded_as : (value : List ℕ) → decoded array to_list opens chain levels under value ≡
      decode_chain (record {
        array_codecs = array_codecs array (steps chain levels);
        to_elements = to_list chain.to_bytes under;
        byte_codecs = byte_codecs opens under chain.byte_codecs.items;
      })
      (top (steps chain levels) (bottom_level levels)) value
  decoded_as value =
      ap₂ (λ codecs level. decode_chain (record {
        array_codecs = codecs;
        to_elements = to_list chain.to_bytes under;
        byte_codecs = byte_codecs opens under chain.byte_codecs.items;
      }) level value)
      (sym (codecs_are array chain.array_codecs.items levels.above.items count))
      (sym (top_is chain.array_codecs.items levels.above.items (bottom_level levels) count))

  -- a value that the array-to-bytes codec gives nothing for
  pub below_fails : (value bytes : List ℕ) (e : CodecError) →
      AreLinked array unserved (steps chain levels) (bottom_level levels) →
      decode_bytes (byte_codecs opens under chain.byte_codecs.items) value ≡ Some bytes →
      IsDecodeError (to_list chain.to_bytes under (bottom_level levels) bytes)
      (list_says chain.to_bytes under (bottom_level levels) bytes) e →
      IsDecodeError (decoded array to_list opens chain levels under value)
      (chain_says list_says opens says chain levels under value) e
  below_fails value bytes e links first cause =
      let bottom = bottom_level levels in
      ⊎_elim (λ (memory : e ≡ codec.OutOfMemory). inl memory)
      (λ (nothing : (to_list chain.to_bytes under bottom bytes ≡ None) × list_says chain.to_bytes under bottom bytes e).
      inr (
        decoded_as value ∙ chain-none array unserved bottom (steps chain levels) (to_list chain.to_bytes under)
            (byte_codecs opens under chain.byte_codecs.items) value bytes links first nothing.0,
        subst (λ (o : Option (List ℕ)). said_at o (bytes_says opens says under chain.byte_codecs.items value)
            (list_says chain.to_bytes under bottom) e) (sym first) nothing.1,
      )) cause

  -- and one that it gives a list for
  pub decoded-is : (value : List ℕ) (list : List Element) →
      AreLinked array unserved (steps chain levels) (bottom_level levels) →
      option_and_then (to_list chain.to_bytes under (bottom_level levels))
      (decode_bytes (byte_codecs opens under chain.byte_codecs.items) value) ≡ Some list →
      decoded array to_list opens chain levels under value ≡ elements_above array (steps chain levels) (Some list)
  decoded-is value list links next =
      let (bytes, first, then) = then_some (to_list chain.to_bytes under (bottom_level levels))
      (decode_bytes (byte_codecs opens under chain.byte_codecs.items) value) list next in
      decoded_as value ∙ chain-value array unserved (bottom_level levels) (steps chain levels)
      (to_list chain.to_bytes under) (byte_codecs opens under chain.byte_codecs.items) value bytes list links first then

  pub decoded-above : (value : List ℕ) (list : List Element) (given : Option (List Element)) →
      AreLinked array unserved (steps chain levels) (bottom_level levels) →
      option_and_then (to_list chain.to_bytes under (bottom_level levels))
      (decode_bytes (byte_codecs opens under chain.byte_codecs.items) value) ≡ Some list →
      Gives given (elements_above array (steps chain levels) (Some list)) →
      Gives given (decoded array to_list opens chain levels under value)
  decoded-above value list given links next gives =
      record { same = gives.same ∙ sym (decoded-is value list links next); there = gives.there }

  -- what the array-to-bytes codec answers of what the others give
  module _ (value bytes : List ℕ) (r : Result code.ArrayBytes CodecError) where
    pub gives_through : decode_bytes (byte_codecs opens under chain.byte_codecs.items) value ≡ Some bytes →
        MatchResult r (λ v.
        Gives (list_at (bottom_level levels) (raw_of v)) (to_list chain.to_bytes under (bottom_level levels) bytes))
        (IsDecodeError (to_list chain.to_bytes under (bottom_level levels) bytes)
        (list_says chain.to_bytes under (bottom_level levels) bytes)) →
        IfOk r (λ v. Gives (list_at (bottom_level levels) (raw_of v))
        (option_and_then (to_list chain.to_bytes under (bottom_level levels))
        (decode_bytes (byte_codecs opens under chain.byte_codecs.items) value)))
    gives_through first answers = ok_of _ _ _ r
        (λ v given. subst (λ o. Gives (list_at (bottom_level levels) (raw_of v))
        (option_and_then (to_list chain.to_bytes under (bottom_level levels)) o)) (sym first) given) answers

    pub fails_through : AreLinked array unserved (steps chain levels) (bottom_level levels) →
        decode_bytes (byte_codecs opens under chain.byte_codecs.items) value ≡ Some bytes →
        MatchResult r (λ v.
        Gives (list_at (bottom_level levels) (raw_of v)) (to_list chain.to_bytes under (bottom_level levels) bytes))
        (IsDecodeError (to_list chain.to_bytes under (bottom_level levels) bytes)
        (list_says chain.to_bytes under (bottom_level levels) bytes)) →
        IfErr r (IsDecodeError (decoded array to_list opens chain levels under value)
        (chain_says list_says opens says chain levels under value))
    fails_through links first answers = err_of _ _ _ r (λ e cause. below_fails value bytes e links first cause) answers

  -- what was encoded
  pub list_back : (value bytes : List ℕ) (below : Option (List Element)) (list : List Element) →
      AreLinked array unserved (steps chain levels) (bottom_level levels) →
      decode_bytes (byte_codecs opens under chain.byte_codecs.items) value ≡ Some bytes →
      to_list chain.to_bytes under (bottom_level levels) bytes ≡ below →
      elements_above array (steps chain levels) below ≡ Some list →
      decoded array to_list opens chain levels under value ≡ Some list
  list_back value bytes below list links first next up =
      decoded_as value ∙ chain-back array unserved (bottom_level levels) (steps chain levels) (to_list chain.to_bytes
      under) (byte_codecs opens under chain.byte_codecs.items) value bytes below list links first next up
