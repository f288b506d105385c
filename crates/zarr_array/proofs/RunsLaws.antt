-- Commands that run one after another.
use Rattle.std.proofs.Common.{◌≡◌, ℕ, zero, suc, ◌+◌, ◌-◌, ◌<◌, ◌≤◌, ◌&&◌, true, List, [], ◌∷◌, ◌++◌, length, take}
use Rattle.std.proofs.Common.{drop, map, get_or, slice_get, Option, Some, Ok, Err, IsSome}
use Rattle.std.proofs.Common.{add-one, is_some, refl, sym, ap, ap₂, ◌∙◌, subst, arith, le_trans}
use Rattle.std.specs.List.{list_all}
use Rattle.std.proofs.lemmas.Bool.{and_parts}
use Rattle.std.proofs.lemmas.List.{take-append-drop, map-append, take_all, length-map}
use Rattle.std.proofs.lemmas.List.Sums.{sum_by-append}
use Rattle.zarr_model.specs.Prelude.{CoversShape, Element, Array, Options, Content, WhollyMeans, IsHonest, IsSound}
use Rattle.zarr_model.specs.Prelude.{stored_array, Command, Description, layout, refusal, Answer, array_after}
use Rattle.zarr_model.specs.Prelude.{puts_chunks, puts_of, LeavesKeys, ServesArray, ServesWhole, AreRefused}
use Rattle.zarr_model.specs.Prelude.{IsUntouched, refusal_in, Shown, RanOver}
use Rattle.zarr_model.proofs.StoreLaws.{stored_array-meant, Means-from_whole}
use Rattle.zarr_model.proofs.SessionLaws.{serves_from_whole, ServesWhole-append, LeavesKeys-append}
use Rattle.zarr_model.proofs.SessionLaws.{LeavesKeys-more}
use Rattle.zarr_model.proofs.StepLaws.{KeepsDamage-append, place-lifts, calls-lift, undecoded-lifts, take_one}
use Rattle.zarr_model.proofs.StepLaws.{stopped-lifts, starved-lifts}
use Rattle.zarr_model.proofs.NeededLaws.{one_more_erased}
use Rattle.zarr_model.proofs.SeenLaws.{SeesNoDamage-append}
use Rattle.zarr_model.proofs.JoinLaws.{RanOver-append, answers-meant}
use Rattle.zarr_model.proofs.LiftLaws.{left-lifts}
use Rattle.zarr_array_boxes.specs.Command.{is_read, AreReads}
use Rattle.zarr_array.specs.Session.{HasSessionCause, FailsAt, is_store}
use Rattle.zarr_array.proofs.HasRun.{HasRun}
use Rattle.zarr_array.proofs.StoredLaws.{stores-append, stays-append, stays-changed, stands-append}
use Rattle.zarr_array.specs.Stored.{DamageStands}
use Rattle.zarr_array.specs.declared.command_error.SessionErrorKind.{SessionErrorKind}
use Rattle.zarr_array.specs.declared.command_error.SessionErrorKind.TheVariants.{NotOpened, ChunkDecode, Store}
use Rattle.zarr_array.specs.declared.command_error.SessionErrorKind.TheVariants.{OutOfMemory}
use Rattle.zarr_array.proofs.SessionSteps.{only_memory, refused_at, noticed-lifts, only_memory_unmet}
use Rattle.zarr_array.proofs.DecodedLaws.{decoded-lifts}
use Rattle.zarr_array.specs.Runs.{RunsOn}

pub untouched_then : (before mid now : Shown) → IsUntouched before mid → IsUntouched mid now → IsUntouched before now
untouched_then before mid now first second = record {
  content = λ key. second.content key ∙ first.content key;
  asks = second.asks ∙ first.asks;
  taken = second.taken ∙ first.taken;
  puts = second.puts ∙ first.puts;
}

refused_parts : (array : Description) (commands : List Command) (command : Command) →
    AreRefused array (commands ++ command ∷ []) →
    AreRefused array commands × AreRefused array (command ∷ [])
refused_parts array [] command all = (refl, all)
refused_parts array (first ∷ commands) command all =
    let parts = and_parts (is_some (refusal array first))
    (list_all (λ c. is_some (refusal array c)) (commands ++ command ∷ [])) all in
    let rest = refused_parts array commands command parts.1 in
    (ap₂ (λ a b. a && b) parts.0 rest.0, rest.1)

refused_front : (array : Description) (commands : List Command) (i : ℕ) → AreRefused array commands →
    AreRefused array (take i commands)
refused_front array commands zero all = refl
refused_front array [] (suc i) all = refl
refused_front array (first ∷ commands) (suc i) all =
    let parts = and_parts (is_some (refusal array first)) (list_all (λ c. is_some (refusal array c)) commands) all in
    ap₂ (λ a b. a && b) parts.0 (refused_front array commands i parts.1)

pub take_next : {A : Type 0} (xs : List A) (i : ℕ) (x : A) → slice_get xs i ≡ Some x →
    take (i + 1) xs ≡ take i xs ++ x ∷ []
take_next xs i x e = ap (λ n. take n xs) (add-one i) ∙ take_one xs i x e

pub take_whole : {A B : Type 0} (f : A → B) (xs : List A) (i : ℕ) → length xs ≤ i → take i (map f xs) ≡ map f xs
take_whole f xs i h = take_all i (map f xs) (subst (λ n. n ≤ i) (sym (length-map xs f)) h)

pub command_here : {A B : Type 0} (f : A → B) (xs : List A) (i : ℕ) (x : A) → i < length xs → x ≡ get_or xs i x →
    slice_get (map f xs) i ≡ Some (f x)
command_here f [] i x within is = absurd (omega arith)
command_here f (y ∷ ys) zero x within is = ap (λ z. Some (f z)) (sym is)
command_here f (y ∷ ys) (suc i) x within is = command_here f ys i x (omega arith) is

-- a command of a list of reads is one
pub read_here : (commands : List Command) (i : ℕ) (command : Command) → slice_get commands i ≡ Some command →
    AreReads commands → AreReads (command ∷ [])
read_here [] zero command e all = cc
read_here [] (suc i) command e all = cc
read_here (first ∷ commands) zero command e all =
    let parts = and_parts (is_read first) (list_all is_read commands) all in
    let same : first ≡ command = cc in
    subst (λ c. AreReads (c ∷ [])) same (ap (λ b. b && true) parts.0)
read_here (first ∷ commands) (suc i) command e all =
    read_here commands i command e (and_parts (is_read first) (list_all is_read commands) all).1

pub wholly_honest : (array : Description) (options : Options) (store : Content) (meant : Array Element) →
    WhollyMeans (layout array options) store meant → IsHonest (layout array options) store
wholly_honest array options store meant means chunk is_chunk = subst IsSome (sym (means.each_chunk chunk is_chunk)) refl

-- the array that an honest store means serves for all
module _ (array : Description) (options : Options) (covers : CoversShape array.shape array.grid)
    (sound : IsSound (layout array options)) where
  pub whole_of : (commands : List Command) (old new : Content) (answers : List Answer) →
      ServesArray array options commands old new answers → ServesWhole array options commands old new answers
  whole_of commands old new answers serves = record {
    answers_match =
        λ meant means. serves.answers_match meant (Means-from_whole (layout array options) covers old meant means);
    whole_chunks = serves.left.whole_chunks;
    presence = serves.left.presence;
    keys = serves.left.keys;
  }

  still_honest : (commands : List Command) (old new : Content) (answers : List Answer) → IsHonest (layout array options)
      old → ServesArray array options commands old new answers → IsHonest (layout array options) new
  still_honest commands old new answers honest serves =
      let means = Means-from_whole (layout array options) covers old (stored_array (layout array options) old)
      (stored_array-meant (layout array options) covers sound old honest) in
      (serves.left.array_left (stored_array (layout array options) old) means).honest

  -- commands that ran leave the array that is left
  whole_after : (commands : List Command) (before now : Shown) (answers : List Answer) →
      RunsOn array options commands before now (Ok answers) →
      (meant : Array Element) → WhollyMeans (layout array options) before.content meant →
      WhollyMeans (layout array options) now.content (array_after array commands meant)
  whole_after commands before now answers ran meant means =
      (ran.serves (wholly_honest array options before.content meant means)).left.whole_chunks meant means

  -- one more command
  pub one_more_ran :
      (commands : List Command) (command : Command) (before mid now : Shown) (answers : List Answer) (answer : Answer) →
      RunsOn array options commands before mid (Ok answers) →
      RunsOn array options (command ∷ []) mid now (Ok (answer ∷ [])) →
      RunsOn array options (commands ++ command ∷ []) before now (Ok (answers ++ answer ∷ []))
  one_more_ran commands command before mid now answers answer first second = record {
    serves = λ honest.
        let serves = first.serves honest in
        let then = second.serves (still_honest commands before.content mid.content answers honest serves) in
        serves_from_whole array options (commands ++ command ∷ []) before.content now.content
        (answers ++ answer ∷ []) covers sound honest
        (ServesWhole-append array options commands (command ∷ []) before.content mid.content now.content answers
        (answer ∷ [])
        (whole_of commands before.content mid.content answers serves)
        (whole_of (command ∷ []) mid.content now.content (answer ∷ []) then));
    complete = λ honest calm. tt;
    refusals = map-append refusal_in answers (answer ∷ []) ∙
        (ap₂ (λ a b. a ++ b) first.refusals second.refusals ∙ sym (map-append (refusal array) commands (command ∷ [])));
    refused = λ all. let parts = refused_parts array commands command all in
        untouched_then before mid now (first.refused parts.0) (second.refused parts.1);
    puts = omega (arith, first.puts, second.puts, sum_by-append (puts_of array) commands (command ∷ []));
    unmet = λ unmet calm. tt;
    mended = joined;
    answers = answers-meant array options covers sound (commands ++ command ∷ []) before.content now.content
        (answers ++ answer ∷ []) joined;
    undamaged = SeesNoDamage-append array options covers commands (command ∷ []) before.content mid.content first.damage
        first.undamaged second.undamaged;
    erased = one_more_erased array options commands command before mid now first.erased second.erased;
    damage = KeepsDamage-append array options commands (command ∷ []) before.content mid.content now.content
        first.damage second.damage;
    stored = stores-append array options commands (command ∷ []) before.content mid.content now.content second.keys
        first.stored second.stored
        (whole_after commands before mid answers first) (whole_after (command ∷ []) mid now (answer ∷ []) second);
    keys = LeavesKeys-append array options commands (command ∷ []) before.content mid.content now.content first.keys
        second.keys;
    later = le_trans first.later second.later;
    failed = tt;
  }
    where
      joined : RanOver array options (commands ++ command ∷ []) before.content now.content (answers ++ answer ∷ [])
      joined = RanOver-append array options commands (command ∷ []) covers before.content mid.content now.content
          answers (answer ∷ []) first.mended second.mended

  -- a command that failed after those before it
  pub stops_at : (commands : List Command) (i : ℕ) (command : Command) (before mid now : Shown) (answers : List Answer)
      (k : ℕ) (kind : SessionErrorKind) →
      slice_get commands i ≡ Some command → RunsOn array options (take i commands) before mid (Ok answers) →
      RunsOn array options (command ∷ []) mid now (Err (record { at = Some (0, k); kind = kind })) →
      RunsOn array options commands before now (Err (record { at = Some (i, k); kind = kind }))
  stops_at commands i command before mid now answers k kind here so_far single = record {
    serves = tt;
    complete = λ honest calm. only_memory array options covers commands before now (Some (i, k)) kind
        (by_kind kind single.failed.cause) honest calm;
    refusals = tt;
    refused = λ all. untouched_then before mid now (so_far.refused (refused_front array commands i all))
        (single.refused (refused_at array commands i command here all));
    puts = tt;
    unmet = λ unmet calm. only_memory_unmet array options commands before now (Some (i, k)) kind
        (by_kind kind single.failed.cause) unmet calm;
    mended = tt;
    answers = tt;
    undamaged = tt;
    erased = tt;
    damage = tt;
    stored = tt;
    keys =
        subst (λ all. LeavesKeys array options all before.content now.content) (take-append-drop (i + 1) commands)
        (LeavesKeys-more array options (take (i + 1) commands) (drop (i + 1) commands) before.content now.content left);
    later = le_trans so_far.later single.later;
    failed = record {
      place = place-lifts array options commands i command here k single.failed.place;
      puts = calls-lift array options commands i command here puts_chunks before.puts mid.puts now.puts k so_far.puts
          single.failed.puts;
      keys = left;
      stored = stays-append array before.content mid.content now.content
          (stays-changed array options (take i commands) before.content mid.content so_far.keys so_far.stored)
          single.failed.stored;
      damage = subst (λ front. DamageStands array options front before.content now.content)
          (sym (ap (λ n. take n commands) one ∙ take_one commands i command here))
          (stands-append array options (take i commands) (command ∷ []) before.content mid.content now.content
          so_far.damage.stands single.failed.damage);
      left = left-lifts array options commands i k command (is_store kind) here before.content mid.content now.content
          answers so_far.mended single.failed.left;
      decoded = decoded-lifts array options commands i command here covers before.content mid.content k so_far.damage
          so_far.undamaged single.failed.decoded;
      cause = by_kind kind single.failed.cause;
    };
  }
    where
      one : i + 1 ≡ suc i
      one = omega arith

      left : LeavesKeys array options (take (i + 1) commands) before.content now.content
      left = subst (λ front. LeavesKeys array options front before.content now.content)
          (sym (ap (λ n. take n commands) one ∙ take_one commands i command here))
          (LeavesKeys-append array options (take i commands) (command ∷ []) before.content mid.content now.content
          so_far.keys single.keys)

      meant_after : (meant : Array Element) → WhollyMeans (layout array options) before.content meant →
          WhollyMeans (layout array options) mid.content (array_after array (take i commands) meant)
      meant_after = whole_after (take i commands) before mid answers so_far

      by_kind : (kind : SessionErrorKind) → HasSessionCause array options (command ∷ []) mid now (Some (0, k)) kind →
          HasSessionCause array options commands before now (Some (i, k)) kind
      by_kind (NotOpened error) cause = cause
      by_kind (ChunkDecode key error) cause = (
        undecoded-lifts array options commands i command here covers before.content mid.content now.content key k
            so_far.damage cause.0,
        noticed-lifts array options commands i command here covers before.content mid.content now.content key k
            so_far.damage cause.0 cause.1,
      )
      by_kind Store cause =
          stopped-lifts array options commands i command here before mid now k so_far.later meant_after cause
      by_kind OutOfMemory cause =
          starved-lifts array options commands i command here before.content mid.content now.content k meant_after cause

  -- commands that ran to their end
  pub ran_gives : (commands : List Command) (before now : Shown) (answers : List Answer) →
      HasRun array options commands before now answers →
      RunsOn array options commands before now (Ok answers)
  ran_gives commands before now answers ran = record {
    serves = λ honest.
        serves_from_whole array options commands before.content now.content answers covers sound honest ran.serves;
    complete = λ honest calm. tt;
    refusals = ran.refusals;
    refused = ran.refused;
    puts = ran.puts;
    unmet = λ unmet calm. tt;
    mended = ran.over;
    answers = answers-meant array options covers sound commands before.content now.content answers ran.over;
    undamaged = ran.undamaged;
    erased = ran.erased;
    damage = ran.damage;
    stored = ran.stored;
    keys = ran.serves.keys;
    later = ran.later;
    failed = tt;
  }

  -- commands that ended with an error
  pub failed_gives : (commands : List Command) (before now : Shown) (at : Option (ℕ × ℕ)) (kind : SessionErrorKind) →
      FailsAt array options commands before now at kind →
      (AreRefused array commands → IsUntouched before now) →
      LeavesKeys array options commands before.content now.content → before.faults ≤ now.faults →
      RunsOn array options commands before now (Err (record { at = at; kind = kind }))
  failed_gives commands before now at kind fails refused keys later = record {
    serves = tt;
    complete = λ honest calm. only_memory array options covers commands before now at kind fails.cause honest calm;
    refusals = tt;
    refused = refused;
    unmet = λ unmet calm. only_memory_unmet array options commands before now at kind fails.cause unmet calm;
    mended = tt;
    answers = tt;
    puts = tt;
    undamaged = tt;
    erased = tt;
    damage = tt;
    stored = tt;
    keys = keys;
    later = later;
    failed = fails;
  }
