-- Intervals of what a handle holds.
use Rattle.std.proofs.Common.{◌≡◌, ◌⊎◌, ℕ, ◌+◌, ◌-◌, ◌≤◌, Bool, true, false, nat_le, is_some, if◌then◌else◌}
use Rattle.std.proofs.Common.{List, [], ◌∷◌, take, drop, map, Option, Some, None, IsSome, Result, Ok, Err, refl, sym}
use Rattle.std.proofs.Common.{ap, ap₂, ◌∙◌, subst, arith, inl, inr, ⊎_elim}
use Rattle.std.proofs.lemmas.Bool.{leb-true, le-leb}
use Rattle.zarrs_storage.specs.declared.byte_range.ByteRangeFault.{ByteRangeFault}
use Rattle.zarrs_storage.specs.declared.byte_range.ByteRangeFault.TheVariants as fault
use Rattle.zarrs_storage.specs.declared.byte_range.ByteRange.{ByteRange}
use Rattle.zarrs_storage.specs.declared.byte_range.ByteRange.TheVariants.{FromStart}
use Rattle.zarrs_storage.specs.declared.byte_range.InvalidByteRangeError.{InvalidByteRangeError}
use Rattle.zarrs_storage.specs.ByteRange.{is_valid, start_in, end_in, first_invalid, shifted, IsFirstInvalid}
use Rattle.zarrs_storage.proofs.RangeLemmas.{lies}
use Rattle.zarr_model.specs.Shown.{Shown}
use Rattle.zarrs_codec_traits.specs.Held.{Held, HasPart, value_part, Seen, IsSoundSeen}
use Rattle.zarrs_codec_error.specs.declared.error.CodecError.{CodecError}
use Rattle.zarrs_codec_error.specs.CodecError.{codec_of_range}
use Rattle.zarrs_codec_error.specs.declared.error.CodecError.TheVariants as codec
use Rattle.zarrs_codec_traits.specs.Reads.{Keeps, ReadsRanges, GivesParts, AreParts, AreAbsent, RefusesSome}
use Rattle.zarrs_codec_traits.specs.Reads.{IsRangeErrorOf, IsHandleError, IsReadError, IsPartError, RefusesFirst}
use Rattle.zarrs_codec_traits.specs.Interval.{all_of, asked_within, interval_part, interval, error_or}
use Rattle.zarrs_codec_traits.specs.Interval.{interval_early, range_or, interval_tells}

-- the fault of ranges as the error of a handle
pub shift_told : (ranges : List ByteRange) (len : ℕ) (fault : ByteRangeFault) (e : CodecError) →
    IsFirstInvalid (first_invalid len ranges) len fault → e ≡ codec_of_range fault →
    (e ≡ codec.OutOfMemory) ⊎ IsRangeErrorOf ranges len e
shift_told ranges len (fault.Invalid error) e first is = inr (subst (IsRangeErrorOf ranges len) (sym is) first)
shift_told ranges len fault.OutOfMemory e first is = inl is

module _ (offset len : ℕ) (below : Seen) (sound : IsSoundSeen below) where
  whole_by : (under : _) (value : List ℕ) (range : ByteRange) → below.part under (all_of offset len) ≡
      Some (Some value) → interval_part (below.part under) offset len range ≡ value_part (Some value) range
  whole_by under value range is =
      let got = sound.within under offset len value is in
      go got (is_valid range len) refl ∙ ap (λ (n : ℕ). if is_valid range n then Some
      (Some (take (end_in range n - start_in range n) (drop (start_in range n) value))) else None) (sym got.long)
    where
      go : HasPart (below.part under) offset len value → (b : Bool) → is_valid range len ≡ b
          → (if is_valid range len then below.part under (shifted offset len range) else None) ≡ (if is_valid range len
          then Some (Some (take (end_in range len - start_in range len) (drop (start_in range len) value))) else None)
      go got true is =
          let l = lies range len is in
          let rises : start_in range len ≤ end_in range len = l.rises in
          let within : end_in range len ≤ len = l.within in
          ap (λ (b : Bool). if b then below.part under (shifted offset len range) else None) is
          ∙ (got.inner (start_in range len) (end_in range len - start_in range len) (omega arith)
          ∙ sym (ap (λ (b : Bool). if b then Some
          (Some (take (end_in range len - start_in range len) (drop (start_in range len) value))) else None) is))
      go got false is =
          ap (λ (b : Bool). if b then below.part under (shifted offset len range) else None) is
          ∙ sym (ap (λ (b : Bool). if b then Some
          (Some (take (end_in range len - start_in range len) (drop (start_in range len) value))) else None) is)

  -- where a range from an offset lies
  moved : (under : _) (from n : ℕ) → from + n ≤ len → interval_part (below.part under) offset len
      (FromStart from (Some n)) ≡ below.part under (FromStart (offset + from) (Some n))
  moved under from n within =
      let size : from + n - from ≡ n = omega arith in
      ap (λ (b : Bool). if b then below.part under (FromStart (offset + from) (Some (from + n - from))) else None)
      (le-leb _ _ within)
      ∙ ap (λ (m : ℕ). below.part under (FromStart (offset + from) (Some m))) size

  within_by : (under : _) (start n : ℕ) (bytes : List ℕ) → interval_part (below.part under) offset len (FromStart start
      (Some n)) ≡ Some (Some bytes) → HasPart (interval_part (below.part under) offset len) start n bytes
  within_by under start n bytes is = go (nat_le (start + n) len) refl
    where
      go : (b : Bool) → nat_le (start + n) len ≡ b → HasPart (interval_part (below.part under) offset len) start n bytes
      go true valid =
          let inside : start + n ≤ len = leb-true _ _ valid in
          let got = sound.within under (offset + start) n bytes (sym (moved under start n inside) ∙ is) in
          record {
            long = got.long;
            inner = λ from m h.
                let fits : start + from + m ≤ len = omega arith in
                let place : offset + (start + from) ≡ offset + start + from = omega arith in
                moved under (start + from) m fits
                ∙ (ap (λ (o : ℕ). below.part under (FromStart o (Some m))) place ∙ got.inner from m h);
          }
      go false valid =
          let none : interval_part (below.part under) offset len (FromStart start (Some n)) ≡ None = ap (λ (b : Bool).
          if b then below.part under (FromStart (offset + start) (Some (start + n - start))) else None) valid in
          cc

  pub interval_sound : IsSoundSeen (interval offset len below)
  interval_sound = record {
    whole = whole_by;
    within = within_by;
    all_there = λ under value is. sound.part_there under (all_of offset len) value is;
    part_there = λ under range value is. go under range value (is_valid range len) is;
  }
    where
      go : (under : _) (range : ByteRange) (value : Option (List ℕ)) (b : Bool) →
          (if b then below.part under (shifted offset len range) else None) ≡ Some value → is_some value ≡ below.there
      go under range value true is = sound.part_there under (shifted offset len range) value is
      go under range value false is = cc

pub interval_keeps : (offset len : ℕ) (old new : Seen) → Keeps old new →
    Keeps (interval offset len old) (interval offset len new)
interval_keeps offset len old new keeps = record {
  there = keeps.there;
  held = λ under. keeps.part under (all_of offset len);
  part = λ under range.
      ap (λ (o : Held). if is_valid range len then o else None) (keeps.part under (shifted offset len range));
  content = keeps.content;
  key = keeps.key;
  place = keeps.place;
  cost = keeps.cost;
  taking = λ asked. keeps.taking (Some (asked_within offset len asked));
  size = keeps.size;
  later = keeps.later;
}

module _ (part : ByteRange → Held) (offset len : ℕ) where
  here : (range : ByteRange) (held : Held) → is_valid range len ≡ true → part (shifted offset len range) ≡ held →
      interval_part part offset len range ≡ held
  here range held valid is = ap (λ (b : Bool). if b then part (shifted offset len range) else None) valid ∙ is

  -- the first of ranges that are all valid, and the others
  split : (range : ByteRange) (ranges : List ByteRange) → first_invalid len (range ∷ ranges) ≡ None →
      (is_valid range len ≡ true) × (first_invalid len ranges ≡ None)
  split range ranges e = go (is_valid range len) refl e
    where
      go : (b : Bool) → is_valid range len ≡ b → (if b then first_invalid len ranges else Some range) ≡ None →
          (is_valid range len ≡ true) × (first_invalid len ranges ≡ None)
      go true is e = (is, e)
      go false is e = cc

  parts_by : (ranges : List ByteRange) (parts : List (List ℕ)) → first_invalid len ranges ≡ None →
      AreParts part (map (shifted offset len) ranges) parts → AreParts (interval_part part offset len) ranges parts
  parts_by [] parts valid are = are
  parts_by (range ∷ ranges) [] valid are = are
  parts_by (range ∷ ranges) (bytes ∷ parts) valid are = let s = split range ranges valid in
      (here range (Some (Some bytes)) s.0 are.0, parts_by ranges parts s.1 are.1)

  absent_by : (ranges : List ByteRange) → first_invalid len ranges ≡ None →
      AreAbsent part (map (shifted offset len) ranges) → AreAbsent (interval_part part offset len) ranges
  absent_by [] valid are = tt
  absent_by (range ∷ ranges) valid are = let s = split range ranges valid in
      (here range (Some None) s.0 are.0, absent_by ranges s.1 are.1)

  refused_by : (ranges : List ByteRange) → first_invalid len ranges ≡ None →
      RefusesSome part (map (shifted offset len) ranges) → RefusesSome (interval_part part offset len) ranges
  refused_by [] valid refuses = λ range. go range (is_valid range len)
    where
      go : (range : ByteRange) (b : Bool) → (if b then part (shifted offset len range) else None) ≡ None
      go range true = refuses (shifted offset len range)
      go range false = refl
  refused_by (range ∷ ranges) valid refuses = let s = split range ranges valid in
      ⊎_elim (λ (is : part (shifted offset len range) ≡ None). inl (here range None s.0 is))
      (λ (more : RefusesSome part (map (shifted offset len) ranges)). inr (refused_by ranges s.1 more)) refuses

  invalid_by : (ranges : List ByteRange) → IsSome (first_invalid len ranges) →
      RefusesSome (interval_part part offset len) ranges
  invalid_by [] some = cc
  invalid_by (range ∷ ranges) some = go (is_valid range len) refl (invalid_by ranges) some
    where
      go : (b : Bool) → is_valid range len ≡ b →
          (IsSome (first_invalid len ranges) → RefusesSome (interval_part part offset len) ranges) → IsSome (if b then
          first_invalid len ranges else Some range) → RefusesSome (interval_part part offset len) (range ∷ ranges)
      go true is rest some = inr (rest some)
      go false is rest some = inl (ap (λ (b : Bool). if b then part (shifted offset len range) else None) is)

-- an error of ranges tells that one is not valid, and names that
told_some : (ranges : List ByteRange) (len : ℕ) (e : CodecError) → IsRangeErrorOf ranges len e →
    IsSome (first_invalid len ranges)
told_some ranges len (codec.InvalidByteRangeError error) told =
    subst (λ (o : Option ByteRange). IsSome o) (sym told.0) refl
told_some ranges len e told = absurd told

told_error : (range : ByteRange) (ranges : List ByteRange) (len : ℕ) (e : CodecError) → first_invalid len ranges ≡
    Some range → IsRangeErrorOf ranges len e → e ≡ codec.InvalidByteRangeError (record { range = range; size = len })
told_error range ranges len (codec.InvalidByteRangeError error) is told = let same : error.range ≡ range = cc in
    ap₂ (λ (r : ByteRange) (n : ℕ). codec.InvalidByteRangeError (record { range = r; size = n })) same told.1
told_error range ranges len e is told = absurd told

-- the answers of an interval, by those of the handle
pub interval_given : (there : Bool) (part : ByteRange → Held) (offset len : ℕ) (ranges asked : List ByteRange)
    (parts : Option (List (List ℕ))) → first_invalid len ranges ≡ None → asked ≡ map (shifted offset len) ranges
    → GivesParts there part asked parts → GivesParts there (interval_part part offset len) ranges parts
interval_given there part offset len ranges asked None valid same given =
    (given.0, absent_by part offset len ranges valid (subst (λ (a : List ByteRange). AreAbsent part a) same given.1))
interval_given there part offset len ranges asked (Some parts) valid same given = (
  given.0,
  parts_by part offset len ranges parts valid (subst (λ (a : List ByteRange). AreParts part a parts) same given.1),
)

module _ (part : ByteRange → Held) (offset len : ℕ) (tells : Option (List ByteRange) → CodecError → Type 0)
    (before now : ℕ) (e : CodecError) where
  pub interval_told : (ranges asked : List ByteRange) → first_invalid len ranges ≡ None →
      asked ≡ map (shifted offset len) ranges
      → IsPartError part asked (tells (Some asked)) before now e →
      IsPartError (interval_part part offset len) ranges (interval_tells offset len tells (Some ranges)) before now e
  interval_told ranges asked valid same told =
      go (subst (λ (a : List ByteRange). IsPartError part a (tells (Some a)) before now e) same told)
    where
      go : IsPartError part (map (shifted offset len) ranges) (tells (Some (map (shifted offset len) ranges))) before
          now e → IsPartError (interval_part part offset len) ranges (interval_tells offset len tells (Some ranges))
          before now e
      go (inl handle) = inl handle
      go (inr refuses) = inr (
        refused_by part offset len ranges valid refuses.0,
        subst (λ (o : Option ByteRange). range_or o (IsRangeErrorOf ranges len)
            (tells (Some (map (shifted offset len) ranges))) e) (sym valid) refuses.1,
      )

  pub interval_refused : (ranges : List ByteRange) → (e ≡ codec.OutOfMemory) ⊎ IsRangeErrorOf ranges len e
      → IsPartError (interval_part part offset len) ranges (interval_tells offset len tells (Some ranges)) before now e
  interval_refused ranges (inl memory) = inl (inl memory)
  interval_refused ranges (inr told) = inr (invalid_by part offset len ranges some, go (first_invalid len ranges) some)
    where
      some : IsSome (first_invalid len ranges)
      some = told_some ranges len e told

      go : (o : Option ByteRange) → IsSome o →
          range_or o (IsRangeErrorOf ranges len) (tells (Some (map (shifted offset len) ranges))) e
      go (Some range) some = told
      go None some = cc

-- what the handle tells after a call it told before
pub told_below : (offset len : ℕ) (old new : Option (List ByteRange) → CodecError → Type 0)
    (asked : Option (List ByteRange)) (e : CodecError) → ((there : Option (List ByteRange)) → new there e → old there e)
    → interval_tells offset len new asked e → interval_tells offset len old asked e
told_below offset len old new None e back told = back _ told
told_below offset len old new (Some ranges) e back told = go (first_invalid len ranges) told
  where
    go : (o : Option ByteRange) → range_or o (IsRangeErrorOf ranges len) (new (Some (map (shifted offset len) ranges)))
        e → range_or o (IsRangeErrorOf ranges len) (old (Some (map (shifted offset len) ranges))) e
    go (Some range) told = told
    go None told = back _ told

pub one_told : (part : ByteRange → Held) (range : ByteRange) (tells : CodecError → Type 0) (before now : ℕ) (e :
    CodecError) → IsPartError part (range ∷ []) tells before now e → IsReadError (part range) tells before now e
one_told part range tells before now e told =
    ⊎_elim (λ (h : IsHandleError before now e). inl h)
    (λ (r : RefusesSome part (range ∷ []) × tells e). inr
    (⊎_elim (λ (is : part range ≡ None). is) (λ (none : (other : ByteRange) → part other ≡ None). none range) r.0, r.1))
    told

pub interval_reads : {T E : Type 0} (offset len : ℕ) (asked : Option (List ByteRange)) (below : List ByteRange)
    (old new : Seen) (result : Result T E) → below ≡ asked_within offset len asked
    → ReadsRanges (Some below) old new result →
    ReadsRanges asked (interval offset len old) (interval offset len new) result
interval_reads offset len asked below old new result same reads =
    let there : ReadsRanges (Some (asked_within offset len asked)) old new result =
    subst (λ (a : List ByteRange). ReadsRanges (Some a) old new result) same reads in
    record {
      keeps = interval_keeps offset len old new there.keeps;
      asks = there.asks;
      asks_err = there.asks_err;
      taken = there.taken;
      taken_err = there.taken_err;
    }

-- nothing was read
pub keeps_same : (seen : Seen) → Keeps seen seen
keeps_same seen = record {
  there = refl;
  held = λ under. refl;
  part = λ under range. refl;
  content = λ key. refl;
  key = refl;
  place = refl;
  cost = refl;
  taking = λ asked. refl;
  size = refl;
  later = omega arith;
}

pub unread : {T E : Type 0} (asked : Option (List ByteRange)) (seen : Seen) (e : E) →
    ReadsRanges {T = T} asked seen seen (Err e)
unread asked seen e =
    record { keeps = keeps_same seen; asks = tt; asks_err = inl refl; taken = tt; taken_err = inl refl }

-- refusals before anything is read
pub first_ok : (T U : Type 0) (early : Option InvalidByteRangeError) (old new : Shown) (v : T) (result :
    Result U CodecError) → RefusesFirst {T = T} early old new (Ok v) → RefusesFirst {T = U} early old new result
first_ok T U None old new v result first = tt
first_ok T U (Some error) old new v result first = absurd first.0

pub first_err : (T U : Type 0) (early : Option InvalidByteRangeError) (old new : Shown) (e : CodecError) →
    RefusesFirst {T = T} early old new (Err e) → RefusesFirst {T = U} early old new (Err e)
first_err T U None old new e first = tt
first_err T U (Some error) old new e first = first

first_memory : (T : Type 0) (early : Option InvalidByteRangeError) (shown : Shown) (e : CodecError) →
    e ≡ codec.OutOfMemory → RefusesFirst {T = T} early shown shown (Err e)
first_memory T None shown e memory = tt
first_memory T (Some error) shown e memory = (inl memory, (refl, (refl, refl)))

pub first_refused : (T : Type 0) (offset len : ℕ) (below : Option (List ByteRange) → Option InvalidByteRangeError)
    (ranges : List ByteRange) (shown : Shown) (e : CodecError) → (e ≡ codec.OutOfMemory) ⊎ IsRangeErrorOf ranges len e
    → RefusesFirst {T = T} (interval_early offset len below (Some ranges)) shown shown (Err e)
first_refused T offset len below ranges shown e (inl memory) = first_memory T _ shown e memory
first_refused T offset len below ranges shown e (inr told) = go (first_invalid len ranges) refl
  where
    go : (o : Option ByteRange) → first_invalid len ranges ≡ o →
        RefusesFirst {T = T} (error_or o len (below (Some (map (shifted offset len) ranges)))) shown shown (Err e)
    go (Some range) is = (inr (told_error range ranges len e is told), (refl, (refl, refl)))
    go None is = let some : IsSome (first_invalid len ranges) = told_some ranges len e told in cc

pub first_passed : {T : Type 0} (offset len : ℕ) (below : Option (List ByteRange) → Option InvalidByteRangeError)
    (ranges asked : List ByteRange) (old new : Shown) (result : Result T CodecError) → first_invalid len ranges ≡ None →
    asked ≡ map (shifted offset len) ranges
    → RefusesFirst (below (Some asked)) old new result →
    RefusesFirst (interval_early offset len below (Some ranges)) old new result
first_passed offset len below ranges asked old new result valid same first =
    subst (λ (b : Option InvalidByteRangeError). RefusesFirst b old new result)
    (ap (λ (a : List ByteRange). below (Some a)) same
    ∙ sym (ap (λ (o : Option ByteRange). error_or o len (below (Some (map (shifted offset len) ranges)))) valid)) first
