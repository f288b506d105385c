-- A move of an array over two stores, by what moving it and listing its keys came to, and key lines before it.
use Rattle.std.proofs.Common.{◌≡◌, ◌⊎◌, ℕ, ◌-◌, ◌^◌, ◌≤◌, List, [], length, Vec, Option, None, Result, Ok, Err, inl}
use Rattle.std.proofs.Common.{inr, refl, sym, ap, ◌∙◌, subst, arith}
use Rattle.std.proofs.Math.Path.{fun_ext}
use Rattle.std.specs.declared.alloc.Global.{Global}
use Rattle.zarr_model.specs.Prelude.{Options, Content, Description, Shown, Rose, counted, with_keys, layout, IsHonest}
use Rattle.zarr_model.specs.Prelude.{Means, SameOtherKeys, SetsSome, IsUntouched}
use Rattle.zarr_model.proofs.KeyLineLaws.{key-lines}
use Rattle.zarrs_storage.specs.Store.{SameContent}
use Rattle.zarr_cli_runs.specs.array.parts.Document.{ArrayDocument, describe}
use Rattle.zarr_cli_runs.specs.Keys.{IsDumpFault}
use Rattle.zarr_cli_runs.specs.declared.status.Status.{Status}
use Rattle.zarr_cli_runs.specs.declared.status.Status.TheVariants.{Done, BadWords, BadInput, Document, Chunk, Store}
use Rattle.zarr_cli_runs.specs.declared.status.Status.TheVariants.{Read, Write, TooLong, OutOfMemory}
use Rattle.zarr_cli.specs.Run.{SetsPart}
use Rattle.zarr_rechunk.specs.declared.error.RechunkError.{RechunkError}
use Rattle.zarr_rechunk.specs.declared.error.RechunkErrorKind.{RechunkErrorKind}
use Rattle.zarr_rechunk.specs.declared.error.RechunkErrorKind.TheVariants as kind
use Rattle.zarr_rechunk.specs.declared.status.RechunkRefusal.{RechunkRefusal}
use Rattle.zarr_rechunk.specs.declared.status.RechunkRefusal.TheVariants.{ShapeMismatch, DataTypeMismatch, BandTooLarge}
use Rattle.zarr_rechunk.specs.declared.status.RechunkStatus.{RechunkStatus}
use Rattle.zarr_rechunk.specs.declared.status.RechunkStatus.TheVariants.{Cli, Refused}
use Rattle.zarr_rechunk.specs.Bands.{bands}
use Rattle.zarr_rechunk.specs.Moved.{chunks_of_each, MeetsNone}
use Rattle.zarr_rechunk.specs.Band.{LeavesBand}
use Rattle.zarr_rechunk.specs.Fails.{MayMove, IsUnbegun, IsDamagedIn, FailsAtBand, FailsToMove}
use Rattle.zarr_rechunk.specs.Input.{Move}
use Rattle.zarr_rechunk.specs.Program.{move_options, move_bands, IsHonestSource, IsHonestTarget, kind_of_refusal}
use Rattle.zarr_rechunk.specs.Program.{IsRefusedMove, IsUnmoved, IsMoved, HasDamage}
use Rattle.zarr_rechunk.specs.Said.{Both, both, move_of, AreUntouched, IsMoveFault, RanMove, status_of}

-- an array that may be moved is not refused, and one that is refused is so by one reason
pub may_not : (source target : Description) → MayMove source target → (why : RechunkRefusal) →
    IsUnbegun source target (kind_of_refusal why) → ⊥
may_not source target may ShapeMismatch bad_move = bad_move may.alike.shape
may_not source target may DataTypeMismatch bad_move = bad_move.1 may.alike.data_type
may_not source target may BandTooLarge bad_move = let small = may.none_large in let large = bad_move.1 in cc

abbrev IsAnswered : RechunkErrorKind → RechunkRefusal → Type 0
IsAnswered of_error why = (status_of of_error ≡ Refused why) ⊎ (status_of of_error ≡ Cli OutOfMemory)

one_reason : (source target : Description) (of_error : RechunkErrorKind) (why : RechunkRefusal) →
    IsUnbegun source target of_error → IsUnbegun source target (kind_of_refusal why) → IsAnswered of_error why
one_reason source target kind.ShapeMismatch ShapeMismatch is bad_move = inl refl
one_reason source target kind.ShapeMismatch DataTypeMismatch is bad_move = absurd (is bad_move.0)
one_reason source target kind.ShapeMismatch BandTooLarge is bad_move = absurd (is bad_move.0.shape)
one_reason source target kind.DataTypeMismatch ShapeMismatch is bad_move = absurd (bad_move is.0)
one_reason source target kind.DataTypeMismatch DataTypeMismatch is bad_move = inl refl
one_reason source target kind.DataTypeMismatch BandTooLarge is bad_move = absurd (is.1 bad_move.0.data_type)
one_reason source target kind.BandTooLarge ShapeMismatch is bad_move = absurd (bad_move is.0.shape)
one_reason source target kind.BandTooLarge DataTypeMismatch is bad_move = absurd (bad_move.1 is.0.data_type)
one_reason source target kind.BandTooLarge BandTooLarge is bad_move = inl refl
one_reason source target kind.OutOfMemory why is bad_move = inr refl
one_reason source target (kind.SourceChunk key error) why is bad_move = absurd is
one_reason source target kind.SourceStore why is bad_move = absurd is
one_reason source target (kind.TargetChunk key error) why is bad_move = absurd is
one_reason source target kind.TargetStore why is bad_move = absurd is

-- stores that are as before show so
pub untouched_by : {before now : Shown} → now ≡ before → IsUntouched before now
untouched_by is = record {
  content = λ key. ap (λ (s : Shown). s.content key) is;
  asks = ap (λ (s : Shown). s.asks) is;
  taken = ap (λ (s : Shown). s.taken) is;
  puts = ap (λ (s : Shown). s.puts) is;
}

-- a move whose key lines are set
module _ (source target : ArrayDocument) (before now : Both) (same : SameContent before.from now.from)
    (left : LeavesBand (describe target) move_options before.to now.to) where
  abbrev bare : Move
  bare = move_of source target []

  unbegun_fault : (of_error : RechunkErrorKind) → IsUnbegun (describe source) (describe target) of_error →
      IsUnmoved bare before.from now.from before.to now.to → IsMoveFault bare before now (status_of of_error)
  unbegun_fault kind.ShapeMismatch is none = (is, none)
  unbegun_fault kind.DataTypeMismatch is none = (is, none)
  unbegun_fault kind.BandTooLarge is none = (is, none)
  unbegun_fault kind.OutOfMemory is none = tt
  unbegun_fault (kind.SourceChunk key error) is none = absurd is
  unbegun_fault kind.SourceStore is none = absurd is
  unbegun_fault (kind.TargetChunk key error) is none = absurd is
  unbegun_fault kind.TargetStore is none = absurd is

  -- nothing was touched
  unmoved : before.from.puts ≤ 2 ^ 64 - 1 → AreUntouched before now →
      IsUnmoved bare before.from now.from before.to now.to
  unmoved small none = record {
    from = record {
      content = none.0.content;
      asks = none.0.asks;
      taken = none.0.taken;
      puts = (let puts = none.0.puts in omega (arith, small, puts));
    };
    to = none.1;
  }

  band_fault : (at : Option ℕ) (of_error : RechunkErrorKind) → MayMove (describe source) (describe target) →
      FailsAtBand source target move_options (bands (describe target).shape (describe target).grid) before.from now.from
      before.to now.to at of_error → IsMoveFault bare before now (status_of of_error)
  band_fault at (kind.SourceChunk key error) may fails = (
    may,
    fun_ext same,
    record { number = fails.number; band = fails.band; here = fails.here; damaged = inl fails.cause.0 },
  )
  band_fault at kind.SourceStore may fails = inl fails.cause
  band_fault at (kind.TargetChunk key error) may fails = (
    may,
    fun_ext same,
    record { number = fails.number; band = fails.band; here = fails.here; damaged = inr fails.cause.0 },
  )
  band_fault at kind.TargetStore may fails = inr fails.cause
  band_fault at kind.OutOfMemory may fails = tt
  band_fault at kind.ShapeMismatch may fails = absurd fails.cause
  band_fault at kind.DataTypeMismatch may fails = absurd fails.cause
  band_fault at kind.BandTooLarge may fails = absurd fails.cause

  move_fault : (error : RechunkError) →
      FailsToMove source target move_options before.from now.from before.to now.to error →
      before.from.puts ≤ 2 ^ 64 - 1 → (error.at ≡ None → AreUntouched before now) →
      IsMoveFault bare before now (status_of error.kind)
  move_fault error (inl (none, is)) small unbegun = unbegun_fault error.kind is (unmoved small (unbegun none))
  move_fault error (inr (may, fails)) small unbegun = band_fault error.at error.kind may fails

  answered : (error : RechunkError) → FailsToMove source target move_options before.from now.from before.to now.to
      error → (why : RechunkRefusal) → IsRefusedMove bare why → IsAnswered error.kind why
  answered error (inl (none, is)) why bad_move =
      one_reason (describe source) (describe target) error.kind why is bad_move
  answered error (inr (may, fails)) why bad_move = absurd (may_not (describe source) (describe target) may why bad_move)

  nothing_set : (n : ℕ) × SetsSome [] n before.from.content now.from.content
  nothing_set = (
    0,
    subst (λ (c : Content). SetsSome [] 0 before.from.content c) (sym (fun_ext same))
        ((key-lines []).start before.from.content),
  )

  -- it failed
  pub not_moved : (error : RechunkError) →
      FailsToMove source target move_options before.from now.from before.to now.to error →
      (MayMove (describe source) (describe target) → IsHonest (layout (describe source) move_options)
      before.from.content → IsHonest (layout (describe target) move_options) before.to.content →
      ¬ Rose before.from.faults now.from.faults → ¬ Rose before.to.faults now.to.faults →
      error.kind ≡ kind.OutOfMemory) →
      before.from.puts ≤ 2 ^ 64 - 1 → (error.at ≡ None → AreUntouched before now) →
      RanMove {Z = Global} bare before now (Err (status_of error.kind))
  not_moved error fails complete small unbegun = record {
    moved = tt;
    fault = move_fault error fails small unbegun;
    refused = λ why bad_move calm. answered error fails why bad_move;
    complete = λ may from to calm_from calm_to. ap status_of (complete may from to calm_from calm_to);
    set = nothing_set;
    others = left.others;
    honest = left.honest;
  }

  -- the same by the options that it was called with
  pub not_moved_by : (options : Options) → options ≡ move_options → (error : RechunkError) →
      FailsToMove source target options before.from now.from before.to now.to error →
      (MayMove (describe source) (describe target) → IsHonest (layout (describe source) options) before.from.content →
      IsHonest (layout (describe target) options) before.to.content →
      ¬ Rose before.from.faults now.from.faults → ¬ Rose before.to.faults now.to.faults →
      error.kind ≡ kind.OutOfMemory) →
      before.from.puts ≤ 2 ^ 64 - 1 → (error.at ≡ None → AreUntouched before now) → (status : RechunkStatus) →
      status ≡ status_of error.kind → RanMove {Z = Global} bare before now (Err status)
  not_moved_by options is error fails complete small unbegun status told =
      subst (λ (s : RechunkStatus). RanMove {Z = Global} bare before now (Err s)) (sym told)
      (not_moved error
      (subst (λ (o : Options). FailsToMove source target o before.from now.from before.to now.to error) is fails)
      (λ may from to calm_from calm_to.
      complete may (subst (λ (o : Options). IsHonest (layout (describe source) o) before.from.content) (sym is) from)
      (subst (λ (o : Options). IsHonest (layout (describe target) o) before.to.content) (sym is) to) calm_from calm_to)
      small unbegun)

  -- it was moved, and then its keys were listed
  module _ (last : Shown) (may : MayMove (describe source) (describe target))
      (content : last.content ≡ now.to.content) where
    abbrev listed : Both
    listed = both now.from last

    others_last : SameOtherKeys (layout (describe target) move_options) before.to.content last.content
    others_last = subst (λ (c : Content). SameOtherKeys (layout (describe target) move_options) before.to.content c)
        (sym content) left.others

    honest_last : IsHonestTarget bare before.to.content → IsHonestTarget bare last.content
    honest_last honest =
        subst (λ (c : Content). IsHonest (layout (describe target) move_options) c) (sym content) (left.honest honest)

    pub moved_and_listed : (text : Vec ℕ Global) → IsMoved bare before.from now.from before.to last text.items →
        RanMove bare before listed (Ok text)
    moved_and_listed text moved = record {
      moved = moved;
      fault = tt;
      refused = λ why bad_move calm. tt;
      complete = λ m f t c d. tt;
      set = nothing_set;
      others = others_last;
      honest = honest_last;
    }

    list_fault : (status : Status) → IsDumpFault now.to last status → IsMoveFault bare before listed (Cli status)
    list_fault Store fault = inr (let first = left.later in omega (arith, first, fault))
    list_fault OutOfMemory fault = tt
    list_fault Done fault = fault
    list_fault BadWords fault = fault
    list_fault (BadInput line) fault = fault
    list_fault (Document error) fault = fault
    list_fault (Chunk key) fault = absurd fault
    list_fault Read fault = fault
    list_fault Write fault = fault
    list_fault TooLong fault = fault

    list_memory : (status : Status) → IsDumpFault now.to last status → ¬ Rose before.to.faults last.faults →
        status ≡ OutOfMemory
    list_memory Store fault calm = absurd (calm (let first = left.later in omega (arith, first, fault)))
    list_memory OutOfMemory fault calm = refl
    list_memory Done fault calm = absurd fault
    list_memory BadWords fault calm = absurd fault
    list_memory (BadInput line) fault calm = absurd fault
    list_memory (Document error) fault calm = absurd fault
    list_memory (Chunk key) fault calm = absurd fault
    list_memory Read fault calm = absurd fault
    list_memory Write fault calm = absurd fault
    list_memory TooLong fault calm = absurd fault

    pub not_listed : (status : Status) → IsDumpFault now.to last status →
        RanMove {Z = Global} bare before listed (Err (Cli status))
    not_listed status fault = record {
      moved = tt;
      fault = list_fault status fault;
      refused = λ why bad_move calm. absurd (may_not (describe source) (describe target) may why bad_move);
      complete = λ m f t c calm. ap Cli (list_memory status fault calm);
      set = nothing_set;
      others = others_last;
      honest = honest_last;
    }

-- key lines before it
module _ (source target : ArrayDocument) (entries : List (List ℕ × List ℕ)) (before : Both) where
  abbrev whole : Move
  whole = move_of source target entries

  module _ (mid : Shown) (now : Both) (set : mid.content ≡ with_keys entries before.from.content)
      (asks : mid.asks ≡ before.from.asks) (taken : mid.taken ≡ before.from.taken) (puts : mid.puts ≡
      counted before.from.puts (length entries))
      (early : before.from.faults ≤ mid.faults) where
    abbrev then_from : Both
    then_from = both mid before.to

    rose_on : Rose mid.faults now.from.faults → Rose before.from.faults now.from.faults
    rose_on rose = omega (arith, rose, early)

    behind_unmoved : IsUnmoved (move_of source target []) mid now.from before.to now.to →
        IsUnmoved whole before.from now.from before.to now.to
    behind_unmoved none = record {
      from = record {
        content = λ key. none.from.content key ∙ ap (λ (c : Content). c key) set;
        asks = none.from.asks ∙ asks;
        taken = none.from.taken ∙ taken;
        puts = (let last = none.from.puts in omega (arith, last, puts));
      };
      to = none.to;
    }

    behind_damage : (key : List ℕ) → HasDamage (move_of source target []) mid.content before.to.content key →
        HasDamage whole before.from.content before.to.content key
    behind_damage key has = record {
      number = has.number;
      band = has.band;
      here = has.here;
      damaged = subst (λ (c : Content). IsDamagedIn (describe source) move_options has.band c key ⊎
          IsDamagedIn (describe target) move_options has.band before.to.content key) set has.damaged;
    }

    behind_fault : (status : RechunkStatus) → IsMoveFault (move_of source target []) then_from now status →
        IsMoveFault whole before now status
    behind_fault (Refused why) fault = (fault.0, behind_unmoved fault.1)
    behind_fault (Cli (Chunk key)) fault = (fault.0, fault.1 ∙ set, behind_damage key fault.2)
    behind_fault (Cli Store) (inl rose) = inl (rose_on rose)
    behind_fault (Cli Store) (inr rose) = inr rose
    behind_fault (Cli OutOfMemory) fault = tt
    behind_fault (Cli Done) fault = fault
    behind_fault (Cli BadWords) fault = fault
    behind_fault (Cli (BadInput line)) fault = fault
    behind_fault (Cli (Document error)) fault = fault
    behind_fault (Cli Read) fault = fault
    behind_fault (Cli Write) fault = fault
    behind_fault (Cli TooLong) fault = fault

    sets_all : now.from.content ≡ mid.content → (n : ℕ) × SetsSome entries n before.from.content now.from.content
    sets_all same = (
      length entries,
      (key-lines entries).done before.from.content now.from.content (λ key. ap (λ (c : Content). c key) (same ∙ set)),
    )

    honest_from : IsHonestSource whole before.from.content → IsHonestSource (move_of source target []) mid.content
    honest_from honest = subst (λ (c : Content). IsHonest (layout (describe source) move_options) c) (sym set) honest

    pub behind_ok : (text : Vec ℕ Global) → now.from.content ≡ mid.content →
        RanMove (move_of source target []) then_from now (Ok text) → RanMove whole before now (Ok text)
    behind_ok text same ran =
        let m = ran.moved in
        record {
          moved = record {
            may = m.may;
            undamaged = subst (λ (c : Content). MeetsNone (describe source) (describe target) move_options
                (move_bands whole) c before.to.content) set m.undamaged;
            means = λ array means honest. m.means array
                (subst (λ (c : Content). Means (layout (describe source) move_options) c array) (sym set) means) honest;
            set = same ∙ set;
            keys = m.keys;
            asked_from = m.asked_from
                ∙ ap (λ (n : ℕ). counted n (chunks_of_each (describe source).grid (move_bands whole))) asks;
            put_from = (let last = m.put_from in omega (arith, last, puts));
            asked_to = m.asked_to;
            put_to = m.put_to;
          };
          fault = tt;
          refused = λ why bad_move calm. tt;
          complete = λ may from to c d. tt;
          set = sets_all same;
          others = ran.others;
          honest = ran.honest;
        }

    pub behind_err : (status : RechunkStatus) → now.from.content ≡ mid.content → RanMove {Z = Global} (move_of source
        target []) then_from now (Err status) → RanMove {Z = Global} whole before now (Err status)
    behind_err status same ran = record {
      moved = tt;
      fault = behind_fault status ran.fault;
      refused = λ why bad_move calm. ran.refused why bad_move (λ rose. calm (rose_on rose));
      complete = λ may from to calm_from calm_to.
          ran.complete may (honest_from from) to (λ rose. calm_from (rose_on rose)) calm_to;
      set = sets_all same;
      others = ran.others;
      honest = ran.honest;
    }

    pub behind_keys : (result : Result (Vec ℕ Global) RechunkStatus) → SameContent mid now.from →
        RanMove (move_of source target []) then_from now result → RanMove whole before now result
    behind_keys (Ok text) same ran = behind_ok text (fun_ext same) ran
    behind_keys (Err status) same ran = behind_err status (fun_ext same) ran

  -- one of them failed
  module _ (now : Shown) (some : SetsPart entries before.from.content now.content) where
    abbrev ended : Both
    ended = both now before.to

    others_self : SameOtherKeys (layout (describe target) move_options) before.to.content before.to.content
    others_self key free = refl

    pub keys_failed : Rose before.from.faults now.faults → RanMove {Z = Global} whole before ended (Err (Cli Store))
    keys_failed rose = record {
      moved = tt;
      fault = inl rose;
      refused = λ why bad_move calm. absurd (calm rose);
      complete = λ may from to calm d. absurd (calm rose);
      set = some;
      others = others_self;
      honest = λ honest. honest;
    }

    pub keys_starved : RanMove {Z = Global} whole before ended (Err (Cli OutOfMemory))
    keys_starved = record {
      moved = tt;
      fault = tt;
      refused = λ why bad_move calm. inr refl;
      complete = λ may from to c d. refl;
      set = some;
      others = others_self;
      honest = λ honest. honest;
    }
