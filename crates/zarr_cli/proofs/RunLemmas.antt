-- Commands that ran, their text, a dump behind them, and key lines before them.
use Rattle.std.proofs.Common.{◌≡◌, ℕ, ◌≤◌, false, List, [], ◌++◌, length, Vec, Result, Ok, Err, IfOk, IfErr, OnOk}
use Rattle.std.proofs.Common.{OnErr, refl, sym, ap, ◌∙◌, subst, arith, le_trans}
use Rattle.std.specs.declared.alloc.Global.{Global}
use Rattle.zarr_model.specs.Prelude.{Command, Description, kind, replies, counted, all_puts, LeavesArray, SeesNoDamage}
use Rattle.zarr_model.specs.Prelude.{IsUntouched, Rose, Shown, Options, with_keys}
use Rattle.zarr_cli_runs.specs.array.Stored.{StoresForAll}
use Rattle.zarr_cli_runs.specs.array.boxes.declared.command.Reply.{Reply}
use Rattle.zarrs_storage.specs.Store.{IsFault, IsPlain}
use Rattle.zarrs_storage.specs.declared.store.StorageError.{StorageError}
use Rattle.zarrs_storage.specs.declared.store.StorageError.TheVariants.{Failed}
use Rattle.zarrs_storage.specs.declared.store.StorageError.TheVariants as Storage
use Rattle.zarr_cli_runs.specs.Keys.{Dumps, IsDumpFault, storage_status}
use Rattle.zarr_cli_runs.specs.Between.{LeavesBetween}
use Rattle.zarr_cli_runs.specs.Status.{ending_of}
use Rattle.zarr_cli_runs.specs.Commands.{RepliedBy, LeavesUndamaged}
use Rattle.zarr_cli_runs.specs.Job.{Job, job, Did}
use Rattle.zarr_cli_runs.proofs.BetweenLaws.{between_keys, between_set, between_ran}
use Rattle.zarr_cli_runs.proofs.JobLaws.{did_behind, earlier_fault, no_key, untouched_earlier}
use Rattle.zarr_cli_runs.specs.declared.status.Status.{Status}
use Rattle.zarr_cli_runs.specs.declared.status.Status.TheVariants.{Store, OutOfMemory}
use Rattle.zarr_cli_runs.specs.lines.Parts.{IsTextOfReplies}
use Rattle.zarr_cli.specs.Words.{Settings}
use Rattle.zarr_cli.specs.Lines.{IsKeyOf, with_entries}
use Rattle.zarr_cli.specs.Run.{RunCosts, Counts, counts_of, Prints, SetsPart}
use Rattle.zarr_cli.specs.Array.{Replied}
use Rattle.zarr_cli.specs.Steps.{RepliesTo, PrintsAll}

-- what is known is known of an error
pub on_err : {T E : Type 0} (P : Type 0) (result : Result T E) → P → OnErr result P
on_err P (Ok value) p = tt
on_err P (Err error) p = p

-- replies of an array whose commands cost what they are paid for
module _ (costs : RunCosts) (description : Description) (options : Options) (commands : List Command)
    (before now : Shown) (Paid : Type 0) (pays : Paid → now.puts ≡ counted before.puts (all_puts description commands) →
    costs.ran options commands before.content (counts_of before) (counts_of now)) where
  its_replies : {Z : Type 0} (result : Result (Vec Reply Z) Status) →
      IfOk result (λ held. RepliedBy description options commands before now held.items) → OnOk result Paid →
      IfOk result (λ held. Replied costs description options commands before now held.items)
  its_replies (Ok held) ran paid = record {
    matched = ran.matched;
    mended = ran.mended;
    left = ran.left;
    stored = ran.stored;
    undamaged = ran.undamaged;
    refusals = ran.refusals;
    cost = pays paid ran.puts;
  }
  its_replies (Err status) ran paid = tt

  pub array_did : {Z : Type 0} (result : Result (Vec Reply Z) Status) → OnOk result Paid →
      Did (job costs.once description options [] commands) (Unit {0}) before now result
      (λ held. RepliedBy description options commands before now held.items) →
      Did (job costs.once description options [] commands) (Unit {0}) before now result
      (λ held. Replied costs description options commands before now held.items)
  array_did result paid did = record {
    done = its_replies result did.done paid;
    fault = did.fault;
    between = did.between;
    complete = did.complete;
    unchanged = did.unchanged;
    refused = did.refused;
    unasked = did.unasked;
    later = did.later;
  }

-- replies of an array, and their text
module _ (costs : RunCosts) (description : Description) (options : Options) (commands : List Command)
    (before now : Shown) where
  abbrev what : Job
  what = job costs.once description options [] commands

  pub text_did : (held : Vec Reply Global) (text : Vec ℕ Global) →
      Did what (Unit {0}) before now (Ok held) (λ h. Replied costs description options commands before now h.items) →
      IsTextOfReplies (kind description) held.items text.items →
      Did what (Unit {0}) before now (Ok text) (λ t. RepliesTo costs description options commands before now t.items)
  text_did held text did is = record {
    done = record {
      replied = λ meant means. is (replies description commands meant) (did.done.matched meant means);
      mended = did.done.mended;
      left = did.done.left;
      stored = did.done.stored;
      undamaged = did.done.undamaged;
      cost = did.done.cost;
    };
    fault = tt;
    between = tt;
    complete = λ sees calm. tt;
    unchanged = did.unchanged;
    refused = did.refused;
    unasked = did.unasked;
    later = did.later;
  }

  -- memory ran out for it
  pub text_starved : (held : Vec Reply Global) →
      Did what (Unit {0}) before now (Ok held) (λ h. Replied costs description options commands before now h.items) →
      Did {T = Vec ℕ Global} what (Unit {0}) before now (Err OutOfMemory)
      (λ t. RepliesTo costs description options commands before now t.items)
  text_starved held did = record {
    done = tt;
    fault = tt;
    between = between_ran costs.once description options [] commands before now (ending_of OutOfMemory) did.done.left
        did.done.mended;
    complete = λ sees calm. refl;
    unchanged = did.unchanged;
    refused = λ all still. tt;
    unasked = did.unasked;
    later = did.later;
  }

-- a dump behind commands that ran
module _ (costs : RunCosts) (description : Description) (settings : Settings) (commands : List Command)
    (before mid now : Shown) (text : Vec ℕ Global)
    (did : Did (job costs.once description settings.options [] commands) (Unit {0}) before mid (Ok text)
    (λ t. RepliesTo costs description settings.options commands before mid t.items))
    (same : now.content ≡ mid.content) (still : settings.dump ≡ false → IsUntouched mid now)
    (later : mid.faults ≤ now.faults) where
  prints : (new_text : Vec ℕ Global) → Dumps settings.dump mid now text.items new_text.items →
      PrintsAll costs description settings commands before now new_text.items
  prints new_text dumps = record {
    prints = record {
      replied = λ array means. (
        dumps.text.0,
        dumps.text.1,
        dumps.text.2 ∙ ap (λ front. front ++ dumps.text.0) (did.done.replied array means),
      );
      mended = subst (λ content. LeavesUndamaged description settings.options commands before.content content)
          (sym same) did.done.mended;
      left = subst (λ content. LeavesArray description settings.options commands before.content content) (sym same)
          did.done.left;
      stored = subst (λ content. StoresForAll description settings.options commands before.content content) (sym same)
          did.done.stored;
      undamaged = did.done.undamaged;
      dumped = (text.items, dumps.text.0, dumps.text.1, dumps.text.2);
    };
    cost = record {
      mid = counts_of mid;
      commanded = did.done.cost;
      more = dumps.asks.0;
      dumped = dumps.asks.1;
      asks = (let last = dumps.asks.2 in omega (arith, last));
      taken = λ quiet. (still quiet).taken;
      puts = dumps.puts;
    };
  }

  behind : (result : Result (Vec ℕ Global) Status) →
      IfOk result (λ t. PrintsAll costs description settings commands before now t.items) →
      IfErr result (IsDumpFault mid now) →
      Did (job costs.once description settings.options [] commands) (settings.dump ≡ false) before now result
      (λ t. PrintsAll costs description settings commands before now t.items)
  behind result = did_behind costs.once description settings.options commands (settings.dump ≡ false) before mid now
      text (λ t. RepliesTo costs description settings.options commands before mid t.items) did same still later result
      (λ t. PrintsAll costs description settings commands before now t.items) did.done.left did.done.mended

  pub all_did : (new_text : Vec ℕ Global) → Dumps settings.dump mid now text.items new_text.items →
      Did (job costs.once description settings.options [] commands) (settings.dump ≡ false) before now (Ok new_text)
      (λ t. PrintsAll costs description settings commands before now t.items)
  all_did new_text dumps = behind (Ok new_text) (prints new_text dumps) tt

  -- or it failed
  pub dump_failed : (status : Status) → IsDumpFault mid now status →
      Did {T = Vec ℕ Global} (job costs.once description settings.options [] commands) (settings.dump ≡ false) before
      now (Err status) (λ t. PrintsAll costs description settings commands before now t.items)
  dump_failed status = behind (Err status) tt

-- key lines that were set before them
module _ (costs : RunCosts) (description : Description) (settings : Settings) (entries : List (List ℕ × List ℕ))
    (commands : List Command) (before mid : Shown)
    (set : mid.content ≡ with_keys entries before.content) (asks : mid.asks ≡ before.asks) (taken : mid.taken ≡
    before.taken) (puts : mid.puts ≡ counted before.puts (length entries)) (later : before.faults ≤ mid.faults) where
  abbrev set_store : Shown
  set_store = with_entries entries before

  same_counts : counts_of mid ≡ counts_of set_store
  same_counts = ap (λ (n : ℕ). counts_with n mid.taken mid.puts) asks ∙ (ap (λ (n : ℕ).
      counts_with before.asks n mid.puts) taken ∙ ap (λ (n : ℕ). counts_with before.asks before.taken n) puts)
    where
      counts_with : ℕ → ℕ → ℕ → Counts
      counts_with a t p = record { asks = a; taken = t; puts = p }

  prints_then : (now : Shown) (result : Result (Vec ℕ Global) Status) →
      IfOk result (λ t. PrintsAll costs description settings commands mid now t.items) →
      IfOk result (λ t. PrintsAll costs description settings commands set_store now t.items)
  prints_then now (Ok text) ran = record {
    prints = subst (λ content. Prints description settings commands content now.content text.items) set ran.prints;
    cost = record {
      mid = ran.cost.mid;
      commanded = subst (λ counts. costs.ran settings.options commands set_store.content counts ran.cost.mid)
          same_counts (subst (λ content. costs.ran settings.options commands content (counts_of mid) ran.cost.mid) set
          ran.cost.commanded);
      more = ran.cost.more;
      dumped = ran.cost.dumped;
      asks = ran.cost.asks;
      taken = ran.cost.taken;
      puts = ran.cost.puts;
    };
  }
  prints_then now (Err status) ran = tt

  left_then : (now : Shown) (result : Result (Vec ℕ Global) Status) → IfErr result
      (λ status. LeavesBetween costs.once description settings.options [] commands mid now (ending_of status)) →
      IfErr result
      (λ status. LeavesBetween costs.once description settings.options entries commands before now (ending_of status))
  left_then now (Ok text) left = tt
  left_then now (Err status) left = between_keys costs.once description settings.options entries commands before mid now
      (ending_of status) set asks puts later left

  pub behind_did : (now : Shown) (result : Result (Vec ℕ Global) Status) →
      ((key : List ℕ) → ¬ IsKeyOf entries key → mid.content key ≡ before.content key) →
      Did (job costs.once description settings.options [] commands) (settings.dump ≡ false) mid now result
      (λ t. PrintsAll costs description settings commands mid now t.items) →
      Did (job costs.once description settings.options entries commands) (settings.dump ≡ false) before now result
      (λ t. PrintsAll costs description settings commands set_store now t.items)
  behind_did now result elsewhere did = record {
    done = prints_then now result did.done;
    fault = earlier_fault costs.once description settings.options commands set_store (with_entries [] mid) now set asks
        (omega (arith, puts)) later result did.fault;
    between = left_then now result did.between;
    complete = λ sees calm. did.complete (subst (SeesNoDamage description settings.options commands) (sym set) sees)
        (λ rose. calm (omega (arith, rose, later)));
    unchanged = λ key free none. did.unchanged key (no_key key) none ∙ elsewhere key free;
    refused = λ all quiet. untouched_earlier set_store (with_entries [] mid) now set asks taken (omega (arith, puts))
        result (did.refused all quiet);
    unasked = λ all quiet. (let first = did.unasked all quiet in (first.0 ∙ asks, first.1 ∙ taken));
    later = le_trans later did.later;
  }

-- or one of them failed
module _ (costs : RunCosts) (description : Description) (settings : Settings) (entries : List (List ℕ × List ℕ))
    (commands : List Command) (before now : Shown)
    (some : SetsPart entries before.content now.content)
    (asks : now.asks ≡ before.asks) (taken : now.taken ≡ before.taken) (later : before.faults ≤ now.faults)
    (elsewhere : (key : List ℕ) → ¬ IsKeyOf entries key → now.content key ≡ before.content key) where
  keys_failed : Rose before.faults now.faults →
      Did {T = Vec ℕ Global} (job costs.once description settings.options entries commands)
      (settings.dump ≡ false) before now (Err Store)
      (λ t. PrintsAll costs description settings commands (with_entries entries before) now t.items)
  keys_failed rose = record {
    done = tt;
    fault = rose;
    between =
        between_set costs.once description settings.options entries commands before now (ending_of Store) some.0 some.1;
    complete = λ sees calm. absurd (calm rose);
    unchanged = λ key free none. elsewhere key free;
    refused = λ all quiet. tt;
    unasked = λ all quiet. (asks, taken);
    later = later;
  }

  keys_starved :
      Did {T = Vec ℕ Global} (job costs.once description settings.options entries commands)
      (settings.dump ≡ false) before now (Err OutOfMemory)
      (λ t. PrintsAll costs description settings commands (with_entries entries before) now t.items)
  keys_starved = record {
    done = tt;
    fault = tt;
    between = between_set costs.once description settings.options entries commands before now (ending_of OutOfMemory)
        some.0 some.1;
    complete = λ sees calm. refl;
    unchanged = λ key free none. elsewhere key free;
    refused = λ all quiet. tt;
    unasked = λ all quiet. (asks, taken);
    later = later;
  }

  pub keys_ended : (error : StorageError) → IsPlain error → (IsFault error → Rose before.faults now.faults) →
      Did {T = Vec ℕ Global} (job costs.once description settings.options entries commands)
      (settings.dump ≡ false) before now (Err (storage_status error))
      (λ t. PrintsAll costs description settings commands (with_entries entries before) now t.items)
  keys_ended Failed plain fails = keys_failed (fails tt)
  keys_ended (Storage.InvalidByteRange error) plain fails = absurd plain
  keys_ended Storage.OutOfMemory plain fails = keys_starved
