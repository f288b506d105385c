-- Reads over the slices of a store's values, and key lines and references before them.
use Rattle.std.proofs.Common.{◌≡◌, ℕ, ◌-◌, ◌^◌, ◌≤◌, List, [], length, Vec, Option, Some, None}
use Rattle.std.proofs.Common.{Result, Ok, Err, inl, inr, refl, sym, ap, ◌∙◌, subst, arith, le_trans}
use Rattle.std.proofs.Common.{Bool}
use Rattle.std.proofs.Math.Path.{fun_ext}
use Rattle.std.specs.declared.alloc.Global.{Global}
use Rattle.zarrs_codec_traits.proofs.EditLaws.{rose_later}
use Rattle.zarr_model.specs.Prelude.{Options, Content, Command, Description, Shown, Rose, counted, with_keys, SetsSome}
use Rattle.zarr_model.proofs.KeyLineLaws.{key-lines}
use Rattle.zarrs_storage.specs.Store.{SameContent}
use Rattle.zarr_cli_runs.specs.Commands.{IsRunFault}
use Rattle.zarr_cli_runs.specs.declared.status.Status.{Status}
use Rattle.zarr_cli_runs.specs.declared.status.Status.TheVariants.{Done, BadWords, BadInput, Document, Chunk, Store}
use Rattle.zarr_cli_runs.specs.declared.status.Status.TheVariants.{Read, Write, TooLong, OutOfMemory}
use Rattle.zarr_cli.specs.Lines.{IsKeyOf, with_entries}
use Rattle.zarr_cli.specs.Run.{RunCosts, SetsPart}
use Rattle.zarr_cli_runs.specs.Job.{job, Did}
use Rattle.zarr_cli_runs.proofs.JobLaws.{no_key}
use Rattle.zarr_cli.specs.Steps.{RepliesTo}
use Rattle.zarr_refs.specs.declared.reference.Reference.{Reference as Ref}
use Rattle.zarr_refs.specs.declared.reference.RefError.{RefError}
use Rattle.zarr_refs.specs.declared.reference.RefError.TheVariants as RefError
use Rattle.zarr_refs.specs.References.{first_repeated, unfit, IsRefusedRefs}
use Rattle.zarr_refs.specs.Slices.{sliced}
use Rattle.zarr_refs.specs.Over.{Over, over_shown}
use Rattle.zarr_refs.specs.Kept.{KeepsOver}
use Rattle.zarr_refs.specs.declared.lines.RefLines.{RefLines}
use Rattle.zarr_refs.specs.declared.status.RefStatus.{RefStatus}
use Rattle.zarr_refs.specs.declared.status.RefStatus.TheVariants.{Cli, Reference, ReadOnly}
use Rattle.zarr_refs.specs.Input.{RefRun}
use Rattle.zarr_refs.specs.Run.{repeated_or, reference_fault, base_of, AreFitRefs, SeesNone, SeesDamage, IsAllSet}
use Rattle.zarr_refs.specs.Run.{PrintsReads}
use Rattle.zarr_refs.specs.Reads.{IsReadsFault, ReadsBack, run_of, IsRefsFault, RanRefs}

-- a store of slices has no faults but those of its base
rose_below : (old new : Over) → old.base.faults ≤ 2 ^ 64 - 1 → old.own_faults ≡ 0 → new.own_faults ≡ old.own_faults →
    Rose (over_shown old).faults (over_shown new).faults → Rose old.base.faults new.base.faults
rose_below old new small none same rose = omega (arith, small, none, same, rose)

reads_fault : (once : Bool) (description : Description) (options : Options) (reads : List Command) (old new : Over) →
    old.base.faults ≤ 2 ^ 64 - 1 → old.own_faults ≡ 0 → new.own_faults ≡ old.own_faults → (status : Status) →
    IsRunFault once description options reads (with_entries [] (over_shown old)) (over_shown new) status →
    IsReadsFault description options reads (over_shown old).content (Rose old.base.faults new.base.faults) status
reads_fault once description options reads old new small none same (Chunk key) fault = fault.0
reads_fault once description options reads old new small none same Store fault =
    rose_below old new small none same fault
reads_fault once description options reads old new small none same OutOfMemory fault = tt
reads_fault once description options reads old new small none same Done fault = fault
reads_fault once description options reads old new small none same BadWords fault = fault
reads_fault once description options reads old new small none same (BadInput line) fault = fault
reads_fault once description options reads old new small none same (Document error) fault = fault
reads_fault once description options reads old new small none same Read fault = fault
reads_fault once description options reads old new small none same Write fault = fault
reads_fault once description options reads old new small none same TooLong fault = fault

-- what commands did over a store of slices, by what its base shows
module _ (costs : RunCosts) (description : Description) (options : Options) (reads : List Command)
    (old new : Over) (small : old.base.faults ≤ 2 ^ 64 - 1) (none : old.own_faults ≡ 0) (kept : KeepsOver old new) where
  over_base : {Z : Type 0} (result : Result (Vec ℕ Z) Status) →
      Did (job costs.once description options [] reads) (Unit {0}) (over_shown old) (over_shown new) result
      (λ text. RepliesTo costs description options reads (over_shown old) (over_shown new) text.items) →
      ReadsBack description options reads (over_shown old).content (Rose old.base.faults new.base.faults) result
  over_base (Ok text) did = record {
    replied = did.done.replied;
    undamaged = did.done.undamaged;
    fault = tt;
    complete = λ sees calm. tt;
  }
  over_base (Err status) did = record {
    replied = tt;
    undamaged = tt;
    fault = reads_fault costs.once description options reads old new small none kept.same_faults status did.fault;
    complete = λ sees calm. did.complete sees (λ rose. calm (rose_below old new small none kept.same_faults rose));
  }

  -- the same, where the content and the faults of the base are known by other names
  pub reads_back : {Z : Type 0} (content : Content) (before now : ℕ) (result : Result (Vec ℕ Z) Status) →
      (over_shown old).content ≡ content → old.base.faults ≡ before → new.base.faults ≡ now →
      Did (job costs.once description options [] reads) (Unit {0}) (over_shown old) (over_shown new) result
      (λ text. RepliesTo costs description options reads (over_shown old) (over_shown new) text.items) →
      ReadsBack description options reads content (Rose before now) result
  reads_back content before now result same is now_is did =
      subst (λ (b : ℕ). ReadsBack description options reads content (Rose b now) result) is
      (subst (λ (n : ℕ). ReadsBack description options reads content (Rose old.base.faults n) result) now_is
      (subst (λ (c : Content). ReadsBack description options reads c (Rose old.base.faults new.base.faults) result) same
      (over_base result did)))

-- references that make no store
apart_fault : (references : List Ref) (content : Content) (why : RefError) → first_repeated references ≡ None →
    unfit content references ≡ Some why → reference_fault references content ≡ Some why
apart_fault references content why none is = ap (λ o. repeated_or o (unfit content references)) none ∙ is

fit_references : (references : List Ref) (content : Content) → first_repeated references ≡ None →
    unfit content references ≡ None → reference_fault references content ≡ None
fit_references references content none fits = ap (λ o. repeated_or o (unfit content references)) none ∙ fits

-- the error that they are refused by is the one that is told
abbrev Told : Option RefError → RefError → RefError → Type 0
Told found error why = found ≡ Some error → found ≡ Some why → error ≡ why

one_fault : (found : Option RefError) (error why : RefError) → Told found error why
one_fault found error why is other = let both : Some error ≡ Some why = sym is ∙ other in cc

-- the references of lines over a store whose key lines are set
module _ (description : Description) (options : Options) (lines : RefLines) (before : Shown) where
  abbrev bare : RefRun
  bare = run_of description options [] lines

  nothing_set : (now : Shown) → SameContent before now → (n : ℕ) × SetsSome bare.entries n before.content now.content
  nothing_set now same = (
    0,
    subst (λ (c : Content). SetsSome [] 0 before.content c) (sym (fun_ext same))
        ((key-lines []).start before.content),
  )

  -- they are refused
  pub not_referred : (now : Shown) (error : RefError) → SameContent before now → before.puts ≤ 2 ^ 64 - 1 →
      now.puts ≡ before.puts → before.faults ≤ now.faults → IsRefusedRefs lines.references.items before now error →
      ¬ (error ≡ RefError.Store) → ¬ (error ≡ RefError.OutOfMemory) →
      RanRefs {Z = Global} bare before now (Err (Reference error))
  not_referred now error same small puts later refused not_store not_memory =
      let is : reference_fault lines.references.items before.content ≡ Some error =
      told error refused not_store not_memory in
      record {
        prints = tt;
        fault = (is, not_store, not_memory, record { content = fun_ext same; puts = omega (arith, small, puts) });
        refused = λ why found calm.
            inl (ap Reference (one_fault (reference_fault lines.references.items before.content) error why is found));
        complete = λ fit sees calm. absurd (let both : None ≡ Some error = sym fit ∙ is in cc);
        set = nothing_set now same;
        all_set = tt;
        elsewhere = λ key free. same key;
        later = later;
      }
    where
      told : (error : RefError) → IsRefusedRefs lines.references.items before now error → ¬ (error ≡ RefError.Store) →
          ¬ (error ≡ RefError.OutOfMemory) → reference_fault lines.references.items before.content ≡ Some error
      told (RefError.RepeatedKey key) h s m = ap (λ o. repeated_or o (unfit before.content lines.references.items)) h.0
      told (RefError.MissingBase key) h s m =
          apart_fault lines.references.items before.content (RefError.MissingBase key) h.0 h.1
      told (RefError.SliceOutOfBounds key) h s m =
          apart_fault lines.references.items before.content (RefError.SliceOutOfBounds key) h.0 h.1
      told RefError.Store h s m = absurd (s refl)
      told RefError.OutOfMemory h s m = absurd (m refl)

  -- the store failed, or memory ran out
  pub store_failed : (now : Shown) → SameContent before now → before.faults ≤ now.faults →
      Rose before.faults now.faults → RanRefs {Z = Global} bare before now (Err (Cli Store))
  store_failed now same later rose = record {
    prints = tt;
    fault = rose;
    refused = λ why found calm. absurd (calm rose);
    complete = λ fit sees calm. absurd (calm rose);
    set = nothing_set now same;
    all_set = tt;
    elsewhere = λ key free. same key;
    later = later;
  }

  pub starved : (now : Shown) → SameContent before now → before.faults ≤ now.faults →
      RanRefs {Z = Global} bare before now (Err (Cli OutOfMemory))
  starved now same later = record {
    prints = tt;
    fault = tt;
    refused = λ why found calm. inr refl;
    complete = λ fit sees calm. refl;
    set = nothing_set now same;
    all_set = tt;
    elsewhere = λ key free. same key;
    later = later;
  }

  -- they make a store, and its reads are run
  module _ (mid now : Shown) (apart : first_repeated lines.references.items ≡ None) (fits : unfit before.content
      lines.references.items ≡ None) (first : SameContent before mid) (second : SameContent mid now)
      (small : before.puts ≤ 2 ^ 64 - 1) (puts : mid.puts ≡ before.puts) (more : now.puts ≡
      mid.puts) (early : before.faults ≤ mid.faults) (later : mid.faults ≤ now.faults) where
    same_all : SameContent before now
    same_all key = second key ∙ first key

    fit : AreFitRefs bare before.content
    fit = fit_references lines.references.items before.content apart fits

    bare_set : IsAllSet bare before now
    bare_set = record { content = fun_ext same_all; puts = omega (arith, small, puts, more) }

    its_fault : (status : Status) → IsReadsFault description options bare.reads (sliced lines.references.items
        before.content) (Rose mid.faults now.faults) status → IsRefsFault bare before now (Cli status)
    its_fault (Chunk key) fault = (fit, bare_set, fault)
    its_fault Store fault = rose_later before.faults mid.faults now.faults early fault
    its_fault OutOfMemory fault = tt
    its_fault Done fault = fault
    its_fault BadWords fault = fault
    its_fault (BadInput line) fault = fault
    its_fault (Document error) fault = fault
    its_fault Read fault = fault
    its_fault Write fault = fault
    its_fault TooLong fault = fault

    pub read_ok : (content : Content) (text : Vec ℕ Global) →
        ((key : List ℕ) → content key ≡ sliced lines.references.items before.content key) →
        ReadsBack description options bare.reads content (Rose mid.faults now.faults) (Ok text) →
        RanRefs bare before now (Ok text)
    read_ok content text is ran =
        let back : ReadsBack description options bare.reads (sliced lines.references.items before.content)
        (Rose mid.faults now.faults) (Ok text) =
        subst (λ (c : Content). ReadsBack description options bare.reads c (Rose mid.faults now.faults) (Ok text))
        (fun_ext is) ran in
        record {
          prints = record { fit = fit; undamaged = back.undamaged; replied = back.replied };
          fault = tt;
          refused = λ why found calm. tt;
          complete = λ fit sees calm. tt;
          set = nothing_set now same_all;
          all_set = bare_set;
          elsewhere = λ key free. same_all key;
          later = le_trans early later;
        }

    pub read_err : (content : Content) (status : Status) →
        ((key : List ℕ) → content key ≡ sliced lines.references.items before.content key) →
        ReadsBack {Z = Global} description options bare.reads content (Rose mid.faults now.faults) (Err status) →
        RanRefs {Z = Global} bare before now (Err (Cli status))
    read_err content status is ran =
        let back : ReadsBack {Z = Global} description options bare.reads (sliced lines.references.items before.content)
        (Rose mid.faults now.faults) (Err status) =
        subst (λ (c : Content). ReadsBack {Z = Global} description options bare.reads c (Rose mid.faults now.faults)
        (Err status)) (fun_ext is) ran in
        record {
          prints = tt;
          fault = its_fault status back.fault;
          refused = λ why found calm. absurd (let both : None ≡ Some why = sym fit ∙ found in cc);
          complete = λ fit sees calm. ap Cli
              (back.complete sees (λ rose. calm (rose_later before.faults mid.faults now.faults early rose)));
          set = nothing_set now same_all;
          all_set = tt;
          elsewhere = λ key free. same_all key;
          later = le_trans early later;
        }

-- key lines before them
module _ (description : Description) (options : Options) (entries : List (List ℕ × List ℕ))
    (lines : RefLines) (before : Shown) where
  abbrev whole : RefRun
  whole = run_of description options entries lines

  module _ (mid now : Shown) (set : mid.content ≡ with_keys entries before.content)
      (puts : mid.puts ≡ counted before.puts (length entries)) (early : before.faults ≤ mid.faults)
      (elsewhere : (key : List ℕ) → ¬ IsKeyOf entries key → mid.content key ≡ before.content key) where
    same_base : (P : Content → Type 0) → P mid.content → P (base_of whole before.content)
    same_base P p = subst P set p

    behind_set : IsAllSet (run_of description options [] lines) mid now → IsAllSet whole before now
    behind_set all = record { content = all.content ∙ set; puts = (let last = all.puts in omega (arith, last, puts)) }

    behind_fault : (status : RefStatus) → IsRefsFault (run_of description options [] lines) mid now status →
        IsRefsFault whole before now status
    behind_fault (Reference error) fault = (
      same_base (λ c. reference_fault lines.references.items c ≡ Some error)
          fault.0,
      fault.1,
      fault.2,
      behind_set fault.3,
    )
    behind_fault (Cli (Chunk key)) fault = (
      same_base (λ c. reference_fault lines.references.items c ≡ None) fault.0,
      behind_set fault.1,
      subst (λ (c : Content). SeesDamage (run_of description options [] lines) c key) set fault.2,
    )
    behind_fault (Cli Store) fault = omega (arith, fault, early)
    behind_fault (Cli OutOfMemory) fault = tt
    behind_fault (Cli Done) fault = fault
    behind_fault (Cli BadWords) fault = fault
    behind_fault (Cli (BadInput line)) fault = fault
    behind_fault (Cli (Document error)) fault = fault
    behind_fault (Cli Read) fault = fault
    behind_fault (Cli Write) fault = fault
    behind_fault (Cli TooLong) fault = fault
    behind_fault (ReadOnly line) fault = fault

    kept_all : {Z : Type 0} (result : Result (Vec ℕ Z) RefStatus) → RanRefs (run_of description options [] lines) mid
        now result → (key : List ℕ) → now.content key ≡ mid.content key
    kept_all result ran key = ran.elsewhere key (no_key key)

    sets_all : {Z : Type 0} (result : Result (Vec ℕ Z) RefStatus) → RanRefs (run_of description options [] lines) mid
        now result → (n : ℕ) × SetsSome entries n before.content now.content
    sets_all result ran = (
      length entries,
      (key-lines entries).done before.content now.content
          (λ key. kept_all result ran key ∙ ap (λ (c : Content). c key) set),
    )

    pub behind_ok : (text : Vec ℕ Global) → RanRefs (run_of description options [] lines) mid now (Ok text) →
        RanRefs whole before now (Ok text)
    behind_ok text ran = record {
      prints = (let back = subst (λ (c : Content). PrintsReads (run_of description options [] lines) c text.items) set
          ran.prints in record { fit = back.fit; undamaged = back.undamaged; replied = back.replied });
      fault = tt;
      refused = λ why found calm. tt;
      complete = λ fit sees calm. tt;
      set = sets_all (Ok text) ran;
      all_set = behind_set ran.all_set;
      elsewhere = λ key free. kept_all (Ok text) ran key ∙ elsewhere key free;
      later = le_trans early ran.later;
    }

    pub behind_err : (status : RefStatus) → RanRefs {Z = Global} (run_of description options [] lines) mid now
        (Err status) → RanRefs {Z = Global} whole before now (Err status)
    behind_err status ran = record {
      prints = tt;
      fault = behind_fault status ran.fault;
      refused = λ why found calm. ran.refused why (subst (λ (c : Content).
          reference_fault lines.references.items c ≡ Some why) (sym set) found)
          (λ rose. calm (rose_later before.faults mid.faults now.faults early rose));
      complete = λ fit sees calm.
          ran.complete (subst (λ (c : Content). reference_fault lines.references.items c ≡ None) (sym set) fit)
          (subst (λ (c : Content). SeesNone (run_of description options [] lines) c) (sym set) sees)
          (λ rose. calm (rose_later before.faults mid.faults now.faults early rose));
      set = sets_all (Err status) ran;
      all_set = tt;
      elsewhere = λ key free. kept_all (Err status) ran key ∙ elsewhere key free;
      later = le_trans early ran.later;
    }

    pub behind_keys : (result : Result (Vec ℕ Global) RefStatus) →
        RanRefs (run_of description options [] lines) mid now result → RanRefs whole before now result
    behind_keys (Ok text) ran = behind_ok text ran
    behind_keys (Err status) ran = behind_err status ran

  -- one of them failed
  module _ (now : Shown) (some : SetsPart entries before.content now.content) (later : before.faults
      ≤ now.faults) (elsewhere : (key : List ℕ) → ¬ IsKeyOf entries key → now.content key ≡ before.content key) where
    pub keys_failed : Rose before.faults now.faults → RanRefs {Z = Global} whole before now (Err (Cli Store))
    keys_failed rose = record {
      prints = tt;
      fault = rose;
      refused = λ why found calm. absurd (calm rose);
      complete = λ fit sees calm. absurd (calm rose);
      set = some;
      all_set = tt;
      elsewhere = elsewhere;
      later = later;
    }

    pub keys_starved : RanRefs {Z = Global} whole before now (Err (Cli OutOfMemory))
    keys_starved = record {
      prints = tt;
      fault = tt;
      refused = λ why found calm. inr refl;
      complete = λ fit sees calm. refl;
      set = some;
      all_set = tt;
      elsewhere = elsewhere;
      later = later;
    }
