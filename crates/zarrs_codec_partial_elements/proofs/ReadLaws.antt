-- What reading elements owes, step by step.
use Rattle.std.proofs.Common.{◌≡◌, ◌⊎◌, ◌∙◌, ℕ, Bool, true, false, List, [], ◌∷◌, length, Option, Some, None, IsSome}
use Rattle.std.proofs.Common.{Result, Ok, Err, IfOk, IfErr, OnOk, MatchResult, refl, sym, ap, subst, inl, inr}
use Rattle.zarrs_codec.specs.Prelude.{Region, Level, Options, has_long_element}
use Rattle.zarrs_codec.specs.Prelude.{slices_of, first_invalid, raw_of, list_at, Gives}
use Rattle.zarrs_codec.specs.Prelude.{Held, Seen, IsSoundSeen, ReadsRanges, GivesParts, IsReadError, IsPartError, fills}
use Rattle.zarrs_codec.specs.Prelude.{IsListError}
use Rattle.zarr_model.specs.Element.{Element, DataType, fill_element, kind_of}
use Rattle.zarr_model.proofs.Choices.{always_ok, always_err}
use Rattle.zarrs_storage.specs.declared.byte_range.ByteRange.{ByteRange}
use Rattle.zarrs_codec_error.specs.declared.error.CodecError.{CodecError}
use Rattle.zarrs_codec_error.specs.declared.error.CodecError.TheVariants as codec
use Rattle.zarrs_codec_array_bytes.specs.declared.array_bytes.ArrayBytes as code
use Rattle.zarrs_codec_array_bytes.specs.Refusals.{BytesAnswer, fine, told_by, other_fill}
use Rattle.zarrs_codec_traits.specs.Errors.{Unserved, unserved_at, IsNoFault, RefusesBy, RefusesAs, IsDecodeError}
use Rattle.zarrs_codec_traits.specs.Calls.{DecodesParts}
use Rattle.zarrs_codec_traits.specs.Parts.{ArePartsOf, request_answer, part_lengths_answer}
use Rattle.zarrs_codec_traits.proofs.FaultLaws.{memory_no_fault, told_no_fault, decoded_no_fault}
use Rattle.zarrs_codec_traits.proofs.FaultLaws.{served_no_fault}
use Rattle.zarrs_codec_traits.proofs.IntervalLaws.{unread}
use Rattle.zarrs_codec.specs.ListWrites.{IsUnfilled}
use Rattle.zarrs_codec.proofs.FaultLaws.{no_fault, no_faults, read_fault, part_fault}
use Rattle.zarrs_codec_partial_elements.specs.declared.level.BottomLevel.{BottomLevel}
use Rattle.zarrs_codec_partial_elements.specs.Level.{level_of_bottom, bottom_fill, list_of, found, held_in, IsOtherFill}
use Rattle.zarrs_codec_partial_elements.specs.Level.{undecoded, parts_say, ranges_say, own_says, IsServedBottom}
use Rattle.zarrs_codec_partial_elements.specs.Level.{bottom_list_in, says_in, seen_by}
use Rattle.zarrs_codec.specs.Selects.{Choice, every, boxed}
use Rattle.zarrs_codec_partial_elements.specs.Boxes.{Denotes, GivesElements}
use Rattle.zarrs_codec_partial_elements.specs.Reading.{FillsElements, ReadsElements, ReadsOld}
use Rattle.zarrs_codec_partial_elements.proofs.HeldLaws.{weaker_err, all_of_value, box_of_value, value_fails_by}
use Rattle.zarrs_codec_partial_elements.proofs.HeldLaws.{value_fails_if, read_fails, parts_fail, list_absent}
use Rattle.zarrs_codec_partial_elements.proofs.HeldLaws.{box_of_parts, parts_told, given_fails}
use Rattle.zarrs_codec_partial_elements.proofs.HeldLaws.{value_decodes, absent_decodes}

-- whatever comes after a read
read_still : {T U E F : Type 0} (asked : Option (List ByteRange)) (old new : Seen) (v : T) (result : Result U F) →
    ReadsRanges {E = E} asked old new (Ok v) → ReadsRanges asked old new result
read_still asked old new v result reads =
    record {
      keeps = reads.keeps;
      asks = always_ok result reads.asks;
      asks_err = always_err result (inr reads.asks);
      taken = always_ok result reads.taken;
      taken_err = always_err result (inr reads.taken);
    }

not_read_still : {T U E : Type 0} (asked : Option (List ByteRange)) (old new : Seen) (e : E) →
    ReadsRanges {T = T} asked old new (Err e) → ReadsRanges {T = U} asked old new (Err e)
not_read_still asked old new e reads =
    record { keeps = reads.keeps; asks = tt; asks_err = reads.asks_err; taken = tt; taken_err = reads.taken_err }

-- a fill that is not made
fill_error : (level : Level) (fill : List ℕ) (there : Bool) (list : Option (List Element)) (tells : CodecError → Type 0)
    (before now : ℕ) (e : CodecError) → there ≡ false → (IsOtherFill level fill e → tells e)
    → (e ≡ codec.OutOfMemory) ⊎ IsOtherFill level fill e → IsListError there list tells before now e
fill_error level fill there list tells before now e gone why (inl memory) = inl (inl memory)
fill_error level fill there list tells before now e gone why (inr other) = inr (inr gone, why other)

fill_own : (level : Level) (fill : List ℕ) (e : CodecError) → (e ≡ codec.OutOfMemory) ⊎ IsOtherFill level fill e →
    IsNoFault e
fill_own level fill e (inl memory) = memory_no_fault e memory
fill_own level fill e (inr other) = told_no_fault e other_fill refl other.1

pub told_first : {T : Type 0} (A B : CodecError → Type 0) (r : Result T CodecError) → IfErr r A →
    IfErr r (λ e. A e ⊎ B e)
told_first A B (Ok v) told = tt
told_first A B (Err e) told = inl told

-- no elements are given
none_given : (choice : Choice) (level : Level) (fill : List ℕ) (list : Option (List Element)) (e : CodecError) →
    GivesElements choice level fill list (Err e)
none_given choice level fill list e = record { value = λ xs is. tt; valid = tt; short = λ few. tt }

-- a list where a call was Ok
on_ok_of : {T : Type 0} (P : Type 0) (r : Result T CodecError) → IfOk r (λ _. P) → OnOk r P
on_ok_of P (Ok v) holds = holds
on_ok_of P (Err e) holds = tt

here_gone : true ≡ false → ⊥
here_gone e = cc

list_some : (list other : Option (List Element)) → list ≡ other → {T : Type 0} (r : Result T CodecError) →
    OnOk r (IsSome other) → OnOk r (IsSome list)
list_some list other same (Ok v) some = subst (λ (o : Option (List Element)). IsSome o) (sym same) some
list_some list other same (Err e) some = tt

told_each : (decode : List ℕ → Option (List Element)) (says : List ℕ → CodecError → Type 0) (ranges : List ByteRange)
    (given : List (List ℕ)) (r : Result code.ArrayBytes CodecError) → RefusesAs (part_lengths_answer ranges given) r
    → ((value : List ℕ) → given ≡ slices_of ranges value → part_lengths_answer ranges given ≡ fine →
    IfErr r (IsDecodeError (decode value) (says value)))
    → IfErr r
    (λ e. (e ≡ codec.OutOfMemory) ⊎ parts_say (undecoded decode says) ranges given (part_lengths_answer ranges given) e)
told_each decode says ranges given (Ok v) lengths cause = tt
told_each decode says ranges given (Err e) lengths cause = parts_told decode says ranges given e lengths cause

-- a read under other names, and of one that failed
module _ {B X : Type 0} {unserved : B → Option (List ℕ) → Option DataType → Option (List ℕ) → Option Unserved}
    {meaning : B → Options → Level → List ℕ → Option (List Element)}
    {says : B → Options → Level → List ℕ → CodecError → Type 0} {seen : X → Seen}
    {Tells : X → Options → Option (List ByteRange) → CodecError → Type 0} {Same : X → X → Type 0}
    {bottom : BottomLevel B} {under : Options} {old new : X} where
  -- by ranges that are equal
  pub asked_so : {choice : Level → Choice} {asked other : Option (List ByteRange)}
      {in_order : Bool} {result : Result code.ArrayBytes CodecError} → asked ≡ other →
      ReadsElements unserved meaning says seen Tells Same bottom choice asked in_order under old new result
      → ReadsElements unserved meaning says seen Tells Same bottom choice other in_order under old new result
  asked_so {choice = choice} {in_order = in_order} {result = result} same read = subst (λ (a : Option (List ByteRange)).
      ReadsElements unserved meaning says seen Tells Same bottom choice a in_order under old new result) same read

-- what follows a read of what is below
module _ {B X : Type 0} {unserved : B → Option (List ℕ) → Option DataType → Option (List ℕ) → Option Unserved}
    {meaning : B → Options → Level → List ℕ → Option (List Element)}
    {says : B → Options → Level → List ℕ → CodecError → Type 0} {seen : X → Seen}
    {Tells : X → Options → Option (List ByteRange) → CodecError → Type 0} {Same : X → X → Type 0}
    {bottom : BottomLevel B} {in_order : Bool} {under : Options} {old new : X} where
  after_read : {choice : Level → Choice} {asked : Option (List ByteRange)} {T : Type 0} {v : T} {result : Result
      code.ArrayBytes CodecError} → ReadsRanges {E = CodecError} asked (seen old) (seen new) (Ok v) → Same old new
      → ((options : Options) (ranges : Option (List ByteRange)) (e : CodecError) → Tells new options ranges e →
      Tells old options ranges e) → IfErr result IsNoFault
      → (IsServedBottom unserved bottom → GivesElements (choice (level_of_bottom bottom)) (level_of_bottom bottom)
      (bottom_fill bottom) (bottom_list_in meaning bottom (seen old) under) result)
      → (IsServedBottom unserved bottom →
      IfErr result (IsListError (seen old).there (bottom_list_in meaning bottom (seen old) under)
      (says_in meaning says bottom (Tells old) (seen old) under asked) (seen old).shown.faults (seen new).shown.faults))
      → (IsServedBottom unserved bottom → asked ≡ None → ((seen old).there ≡ true) ⊎ Denotes (level_of_bottom bottom)
      (bottom_fill bottom) → OnOk result (IsSome (bottom_list_in meaning bottom (seen old) under)))
      → ReadsElements unserved meaning says seen Tells Same bottom choice asked in_order under old new result
  after_read {asked = asked} {v = v} {result = result} reads same tells own gives failed decodes = record {
    gives = gives;
    failed = λ served ok. failed served;
    decodes = decodes;
    fault = no_faults _ _ result own;
    reads = read_still asked (seen old) (seen new) v result reads;
    same = same;
    tells = tells;
  }

  -- a value was decoded
  pub value_read : {T : Type 0} {v : T} {result : Result code.ArrayBytes CodecError} (value : List ℕ) → (seen old).held
      under ≡ Some (Some value) → ReadsRanges {E = CodecError} None (seen old) (seen new) (Ok v) → Same old new
      → ((options : Options) (ranges : Option (List ByteRange)) (e : CodecError) → Tells new options ranges e →
      Tells old options ranges e) → ((c : B) (options : Options) (level : Level) (bytes : List ℕ) (e : CodecError) →
      says c options level bytes e → IsNoFault e)
      → RefusesBy (unserved_at (unserved bottom.codec) (level_of_bottom bottom) (bottom_fill bottom)) result
      → (IsServedBottom unserved bottom → MatchResult result (λ v.
      Gives (list_at (level_of_bottom bottom) (raw_of v)) (meaning bottom.codec under (level_of_bottom bottom) value))
      (IsDecodeError (meaning bottom.codec under (level_of_bottom bottom) value)
      (says bottom.codec under (level_of_bottom bottom) value)))
      → IfOk result (λ v. has_long_element (raw_of v) ≡ false) →
      ReadsElements unserved meaning says seen Tells Same bottom every None in_order under old new result
  value_read {result = result} value is reads same tells law refuses decoded short =
      let level = level_of_bottom bottom in
      let fill = bottom_fill bottom in
      let decode = meaning bottom.codec under level in
      let told = says bottom.codec under level in
      after_read reads same tells (served_no_fault _ result refuses (λ served. decoded_no_fault _ (decode value)
      (told value) result (λ e why. law bottom.codec under level value e why) (decoded served)))
      (λ served. all_of_value level fill decode (fills level fill) (held_in (seen old) under) value _ result
      (ap (found (seen old).there) is) (decoded served) short)
      (λ served. value_fails_by level fill decode told (Tells old under) (seen old) under None _ _ value _ result is
      (decoded served))
      (λ served whole case. value_decodes decode (fills level fill) (seen old).there ((seen old).held under)
      (λ v. list_at level (raw_of v)) (IsDecodeError (decode value) (told value)) result value is (decoded served))

  -- the fill was made for an absent value
  filled_read : {choice : Level → Choice} {asked : Option (List ByteRange)} {T : Type 0}
      {v : T} {result : Result code.ArrayBytes CodecError} → IsSoundSeen (seen old) → (seen old).there ≡ false
      → ((e : CodecError) → IsOtherFill (level_of_bottom bottom) (bottom_fill bottom) e →
      own_says (level_of_bottom bottom) (bottom_fill bottom) (says bottom.codec under (level_of_bottom bottom))
      (ranges_say (level_of_bottom bottom) (bottom_fill bottom) (undecoded (meaning bottom.codec under
      (level_of_bottom bottom)) (says bottom.codec under (level_of_bottom bottom))) (seen old).there
      ((seen old).part under) asked) ((seen old).held under) e)
      → ReadsRanges {E = CodecError} asked (seen old) (seen new) (Ok v) → Same old new → ((options : Options) (ranges :
      Option (List ByteRange)) (e : CodecError) → Tells new options ranges e → Tells old options ranges e)
      → FillsElements choice (level_of_bottom bottom) (bottom_fill bottom) result
      → ReadsElements unserved meaning says seen Tells Same bottom choice asked in_order under old new result
  filled_read {choice = choice} {asked = asked} {result = result} sound gone why reads same tells filled =
      let level = level_of_bottom bottom in
      let fill = bottom_fill bottom in
      let list = bottom_list_in meaning bottom (seen old) under in
      let is = list_absent level fill (meaning bottom.codec under level) (fills level fill) ((seen old).held under)
      (seen old).there (sound.all_there under) gone in
      after_read reads same tells (weaker_err _ _ result (λ e t. fill_own level fill e t) filled.failed)
      (λ served.
      subst (λ (l : Option (List Element)). GivesElements (choice level) level fill l result) (sym is) filled.gives)
      (λ served. weaker_err _ _ result (λ e t.
      fill_error level fill (seen old).there list (says_in meaning says bottom (Tells old) (seen old) under asked)
      (seen old).shown.faults (seen new).shown.faults e gone (λ f. inr (why e f)) t) filled.failed)
      (λ served whole case. always_ok result (absent_decodes level fill list (seen old).there is gone case))

  pub absent_read : {choice : Level → Choice} {T : Type 0} {v : T} {result : Result code.ArrayBytes CodecError} →
      IsSoundSeen (seen old) → (seen old).held under ≡ Some None →
      ReadsRanges {E = CodecError} None (seen old) (seen new) (Ok v) → Same old new
      → ((options : Options) (ranges : Option (List ByteRange)) (e : CodecError) → Tells new options ranges e →
      Tells old options ranges e)
      → FillsElements choice (level_of_bottom bottom) (bottom_fill bottom) result
      → ReadsElements unserved meaning says seen Tells Same bottom choice None in_order under old new result
  absent_read sound is reads same tells filled =
      let level = level_of_bottom bottom in
      let fill = bottom_fill bottom in
      filled_read sound (sym (sound.all_there under None is))
      (λ e f. subst (λ (h : Held). own_says level fill (says bottom.codec under level)
      (ranges_say level fill (undecoded (meaning bottom.codec under level) (says bottom.codec under level))
      (seen old).there ((seen old).part under) None) h e) (sym is) f) reads same tells filled

  pub absent_parts_read : {choice : Level → Choice} {ranges : List ByteRange} {T : Type 0}
      {v : T} {result : Result code.ArrayBytes CodecError} → IsSoundSeen (seen old) →
      GivesParts (seen old).there ((seen old).part under) ranges None
      → ReadsRanges {E = CodecError} (Some ranges) (seen old) (seen new) (Ok v) → Same old new → ((options : Options)
      (ranges : Option (List ByteRange)) (e : CodecError) → Tells new options ranges e → Tells old options ranges e)
      → FillsElements choice (level_of_bottom bottom) (bottom_fill bottom) result
      → ReadsElements unserved meaning says seen Tells Same bottom choice (Some ranges) in_order under old new result
  absent_parts_read {ranges = ranges} sound given reads same tells filled =
      filled_read sound given.0 (λ e f. why ((seen old).held under) refl e f) reads same tells filled
    where
      why : (h : Held) → (seen old).held under ≡ h → (e : CodecError) →
          IsOtherFill (level_of_bottom bottom) (bottom_fill bottom) e →
          own_says (level_of_bottom bottom) (bottom_fill bottom) (says bottom.codec under (level_of_bottom bottom))
          (ranges_say (level_of_bottom bottom) (bottom_fill bottom) (undecoded (meaning bottom.codec under
          (level_of_bottom bottom)) (says bottom.codec under (level_of_bottom bottom))) (seen old).there
          ((seen old).part under) (Some ranges)) h e
      why None is e f = (None, (given, f))
      why (Some None) is e f = f
      why (Some (Some value)) is e f = absurd (here_gone (sound.all_there under (Some value) is ∙ given.0))

  -- a box was decoded out of the whole value
  pub box_value_read : (box : Region) {T : Type 0} {v : T} {result : Result code.ArrayBytes CodecError} (value : List ℕ)
      (request : Option (List ByteRange)) (parts : List (List ℕ)) → request ≡ None → parts ≡ value ∷ [] →
      (seen old).held under ≡ Some (Some value)
      → ReadsRanges {E = CodecError} None (seen old) (seen new) (Ok v) → Same old new → ((options : Options) (ranges :
      Option (List ByteRange)) (e : CodecError) → Tells new options ranges e → Tells old options ranges e)
      → (IsServedBottom unserved bottom → DecodesParts request
      (meaning bottom.codec under (level_of_bottom bottom)) (says bottom.codec under (level_of_bottom bottom))
      (level_of_bottom bottom) box parts result) → IfOk result (λ v. has_long_element (raw_of v) ≡ false) →
      IfErr result IsNoFault →
      ReadsElements unserved meaning says seen Tells Same bottom (boxed box) None in_order under old new result
  box_value_read box {result = result} value request parts none only is reads same tells decoded short own =
      let level = level_of_bottom bottom in
      let fill = bottom_fill bottom in
      let decode = meaning bottom.codec under level in
      let told = says bottom.codec under level in
      let are = subst (λ (r : Option (List ByteRange)). ArePartsOf r value parts) (sym none) only in
      let fits = ap (λ (r : Option (List ByteRange)). request_answer r parts) none in
      after_read reads same tells own
      (λ served. box_of_value level fill decode (fills level fill) (held_in (seen old) under) box value result (ap
      (found (seen old).there) is) (λ xs e. (decoded served).value value xs are e) (decoded served).valid short)
      (λ served. value_fails_if level fill decode told (Tells old under) (seen old) under None _ _ value result is
      ((decoded served).cause value are fits))
      (λ served whole case. list_some (bottom_list_in meaning bottom (seen old) under) (decode value)
      (ap (λ (h : Held). list_of decode (fills level fill) (found (seen old).there h)) is) result
      (on_ok_of (IsSome (decode value)) result ((decoded served).decodes value none only)))

  -- a box was decoded out of parts
  pub box_parts_read : (box : Region) {ranges : List ByteRange} {T : Type 0}
      {v : T} {result : Result code.ArrayBytes CodecError} (request : Option (List ByteRange)) (parts : List (List ℕ)) →
      request ≡ Some ranges → IsSoundSeen (seen old)
      → GivesParts (seen old).there ((seen old).part under) ranges (Some parts) →
      ReadsRanges {E = CodecError} (Some ranges) (seen old) (seen new) (Ok v) → Same old new
      → ((options : Options) (ranges : Option (List ByteRange)) (e : CodecError) → Tells new options ranges e →
      Tells old options ranges e)
      → (IsServedBottom unserved bottom → DecodesParts request
      (meaning bottom.codec under (level_of_bottom bottom)) (says bottom.codec under (level_of_bottom bottom))
      (level_of_bottom bottom) box parts result) → IfOk result (λ v. has_long_element (raw_of v) ≡ false) →
      IfErr result IsNoFault →
      ReadsElements unserved meaning says seen Tells Same bottom (boxed box) (Some ranges) in_order under old new result
  box_parts_read box {ranges = ranges} {result = result} request parts some sound given reads same tells decoded short
      own =
      let level = level_of_bottom bottom in
      let fill = bottom_fill bottom in
      let decode = meaning bottom.codec under level in
      let told = says bottom.codec under level in
      let are = (λ (value : List ℕ) (is : parts ≡ slices_of ranges value).
      subst (λ (r : Option (List ByteRange)). ArePartsOf r value parts) (sym some) is) in
      let answer : request_answer request parts ≡ part_lengths_answer ranges parts =
      ap (λ (r : Option (List ByteRange)). request_answer r parts) some in
      let cause = (λ (served : IsServedBottom unserved bottom) (value : List ℕ) (is : parts ≡ slices_of ranges value)
      (fits : part_lengths_answer ranges parts ≡ fine). (decoded served).cause value (are value is) (answer ∙ fits)) in
      after_read reads same tells own
      (λ served. box_of_parts level fill decode (fills level fill) ((seen old).held under) (seen old).there
      (sound.all_there under) ((seen old).part under) ranges parts (λ value is range. sound.whole under value range is)
      given.1 given.0 box result
      (λ value xs is e. (decoded served).value value xs (are value is) e) (decoded served).valid short)
      (λ served.
      given_fails level fill decode told (Tells old under) (seen old) under sound ranges _ _ parts result given
      (told_each decode told ranges parts result
      (subst (λ (t : BytesAnswer). RefusesAs t result) answer (decoded served).lengths) (cause served)) (cause served))
      (λ served whole case. absurd (some_none whole))
    where
      some_none : Some ranges ≡ None → ⊥
      some_none e = cc

  -- what is below was not read
  pub not_read : {choice : Level → Choice} {T : Type 0} {e : CodecError} → ReadsRanges {T = T} None (seen old)
      (seen new) (Err e) → Same old new → ((options : Options) (ranges : Option (List ByteRange)) (e : CodecError) →
      Tells new options ranges e → Tells old options ranges e)
      → ((h : X) (options : Options) (ranges : Option (List ByteRange)) (e : CodecError) → Tells h options ranges e →
      IsNoFault e) →
      IsReadError ((seen old).held under) (Tells old under None) (seen old).shown.faults (seen new).shown.faults e
      → ReadsElements unserved meaning says seen Tells Same bottom choice None in_order under old new (Err e)
  not_read {choice = choice} {e = e} reads same tells law cause =
      let level = level_of_bottom bottom in
      let fill = bottom_fill bottom in
      record {
        gives = λ served. none_given (choice level) level fill _ e;
        failed = λ served ok. read_fails level fill (meaning bottom.codec under level) (says bottom.codec under level)
            (Tells old under) (seen old) under None _ _ refl e cause;
        decodes = λ served whole case. tt;
        fault = read_fault _ _ _ _ e (λ e told. law old under None e told) cause;
        reads = not_read_still None (seen old) (seen new) e reads;
        same = same;
        tells = tells;
      }

  pub parts_not_read : {choice : Level → Choice} {ranges : List ByteRange} {T : Type 0} {e : CodecError} →
      IsSoundSeen (seen old)
      → (IsServedBottom unserved bottom → (value : List ℕ) → ¬ (first_invalid (length value) ranges ≡ None) →
      meaning bottom.codec under (level_of_bottom bottom) value ≡ None)
      → ReadsRanges {T = T} (Some ranges) (seen old) (seen new) (Err e) → Same old new → ((options : Options) (ranges :
      Option (List ByteRange)) (e : CodecError) → Tells new options ranges e → Tells old options ranges e)
      → ((h : X) (options : Options) (ranges : Option (List ByteRange)) (e : CodecError) → Tells h options ranges e →
      IsNoFault e) → IsPartError ((seen old).part under) ranges (Tells old under (Some ranges)) (seen old).shown.faults
      (seen new).shown.faults e
      → ReadsElements unserved meaning says seen Tells Same bottom choice (Some ranges) in_order under old new (Err e)
  parts_not_read {choice = choice} {ranges = ranges} {e = e} sound asks reads same tells law cause =
      let level = level_of_bottom bottom in
      let fill = bottom_fill bottom in
      record {
        gives = λ served. none_given (choice level) level fill _ e;
        failed = λ served ok. parts_fail level fill (meaning bottom.codec under level) (says bottom.codec under level)
            (Tells old under) (seen old) under (Some ranges) _ _ ranges e refl
            (λ value is range. sound.whole under value range is) (sound.all_there under)
            (asks served) cause;
        decodes = λ served whole case. tt;
        fault = part_fault _ _ _ _ _ e (λ e told. law old under (Some ranges) e told) cause;
        reads = not_read_still (Some ranges) (seen old) (seen new) e reads;
        same = same;
        tells = tells;
      }

-- nothing was read
module _ {B X : Type 0} {unserved : B → Option (List ℕ) → Option DataType → Option (List ℕ) → Option Unserved}
    {meaning : B → Options → Level → List ℕ → Option (List Element)}
    {says : B → Options → Level → List ℕ → CodecError → Type 0} {seen : X → Seen}
    {Tells : X → Options → Option (List ByteRange) → CodecError → Type 0} {Same : X → X → Type 0}
    {bottom : BottomLevel B} {choice : Level → Choice} {asked : Option (List ByteRange)}
    {in_order : Bool} {under : Options} {old : X} {e : CodecError} where
  pub unread_so : Same old old → IsNoFault e →
      (IsServedBottom unserved bottom → in_order ≡ true → e ≡ codec.OutOfMemory) →
      ReadsElements unserved meaning says seen Tells Same bottom choice asked in_order under old old (Err e)
  unread_so same own memory = record {
    gives = λ served. none_given (choice (level_of_bottom bottom)) (level_of_bottom bottom) (bottom_fill bottom) _ e;
    failed = λ served ok. inl (inl (memory served ok));
    decodes = λ served whole case. tt;
    fault = no_fault _ _ e own;
    reads = unread asked (seen old) e;
    same = same;
    tells = λ options ranges e told. told;
  }

-- all elements, which there are of an absent value only where the fill value denotes one
module _ {B X : Type 0} {unserved : B → Option (List ℕ) → Option DataType → Option (List ℕ) → Option Unserved}
    {meaning : B → Options → Level → List ℕ → Option (List Element)}
    {says : B → Options → Level → List ℕ → CodecError → Type 0}
    {request : B → List ℕ → DataType → Region → Option (List ByteRange)}
    {seen : X → Seen} {Tells : X → Options → Option (List ByteRange) → CodecError → Type 0} {Same : X → X → Type 0}
    {bottom : BottomLevel B} {under : Options} {old new : X} where
  pub old_so : {result : Result code.ArrayBytes CodecError} →
      ReadsElements unserved meaning says seen Tells Same bottom every None true under old new result →
      ((seen old).there ≡ true) ⊎ Denotes (level_of_bottom bottom) (bottom_fill bottom)
      → ReadsOld unserved meaning says seen Tells Same request bottom under old new result
  old_so {result = result} read case = record {
    gives = read.gives;
    failed = λ served. told_first _ _ result (read.failed served refl);
    decodes = λ served. read.decodes served refl case;
    fault = read.fault;
    reads = read.reads;
    same = read.same;
  }

  pub old_not : {e : CodecError} → ReadsElements unserved meaning says seen Tells Same bottom every None true under old
      new (Err e) → ReadsOld unserved meaning says seen Tells Same request bottom under old new (Err e)
  old_not read = record {
    gives = read.gives;
    failed = λ served. inl (read.failed served refl);
    decodes = λ served. tt;
    fault = read.fault;
    reads = read.reads;
    same = read.same;
  }

  pub old_unfilled : {T : Type 0} {v : T} {e : CodecError} → IsSoundSeen (seen old) →
      (seen old).held under ≡ Some None →
      fill_element (kind_of (level_of_bottom bottom).data_type) (bottom_fill bottom) ≡ None → told_by e ≡ other_fill
      → ReadsRanges {E = CodecError} None (seen old) (seen new) (Ok v) → Same old new →
      ReadsOld unserved meaning says seen Tells Same request bottom under old new (Err e)
  old_unfilled {v = v} {e = e} sound is undenoted told reads same = record {
    gives = λ served. none_given (every (level_of_bottom bottom)) (level_of_bottom bottom) (bottom_fill bottom) _ e;
    failed = λ served. inr (let none : IsUnfilled (seen_by unserved meaning request bottom (seen old)) e =
        record { absent = sym (sound.all_there under None is); undenoted = undenoted; told = told } in none);
    decodes = λ served. tt;
    fault = no_fault _ _ e (told_no_fault e other_fill refl told);
    reads = read_still None (seen old) (seen new) v (Err e) reads;
    same = same;
  }
