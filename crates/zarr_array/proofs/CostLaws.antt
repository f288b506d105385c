-- What commands cost that run one after another.
use Rattle.std.proofs.Common.{◌≡◌, ℕ, ◌+◌, ◌-◌, ◌^◌, ◌<◌, ◌≤◌, ◌&&◌, ◌||◌, Bool, true, false, List, [], ◌∷◌, ◌++◌}
use Rattle.std.proofs.Common.{length, take, slice_get, Option, Some, None, is_some, Ok, Err, refl, sym, ap, ap₂, ◌∙◌}
use Rattle.std.proofs.Common.{◌⊎◌, subst, arith, inl, inr, ⊎_elim, if◌then◌else◌}
use Rattle.std.specs.List.{sum_by, list_all}
use Rattle.std.proofs.Math.Path.{fun_ext}
use Rattle.std.proofs.lemmas.Bool.{and_parts}
use Rattle.std.proofs.lemmas.List.{take_all}
use Rattle.std.proofs.lemmas.List.Sums.{sum_by-append}
use Rattle.zarr_model.specs.Prelude.{Region, ArrayBytes, CoversShape, chunks_meeting, Options, IsSound, layout}
use Rattle.zarr_model.specs.Prelude.{Shown, Command, read, write, erase, Refusal, Description, refusal, Answer}
use Rattle.zarr_model.specs.Prelude.{chunks_under, command_chunks, asks_store, asks_of, counted}
use Rattle.zarr_model.proofs.NeededLaws.{read_needs, write_needs}
use Rattle.zarr_model.proofs.StepLaws.{calls-lift}
use Rattle.zarrs_storage.specs.Store.{SameContent}
use Rattle.zarr_array.specs.Access.{Cost, Costs, by_chunk, by_part}
use Rattle.zarr_array.specs.Pays.{Pays, cost_of, costs_of, PaysRead, PaysChanges, PaysPart, CountsFirst}
use Rattle.zarr_array.specs.declared.command_error.SessionErrorKind.{SessionErrorKind}
use Rattle.zarr_array.specs.declared.command_error.SessionErrorKind.TheVariants.{OutOfMemory}
use Rattle.zarr_array_boxes.specs.Command.{is_read, AreReads}
use Rattle.zarr_array.specs.Costs.{read_cost, only_reads, OnlyReads, CostsOn}
use Rattle.zarr_array.specs.Ended.{Ended}
use Rattle.zarr_array.specs.Runs.{RunsOn}
use Rattle.zarr_array.proofs.TakenLaws.{one_takes, erase_takes, more_takes}

abbrev pub fails_at : ℕ → ℕ → SessionErrorKind → Ended
fails_at m k kind = Err (record { at = Some (m, k); kind = kind })

-- the calls up to a place of one command
calls_at : (description : Description) (command : Command) (chunks : List (List ℕ)) (k before now : ℕ) →
    asks_store command ≡ true → command_chunks description command ≡ chunks → CountsFirst k (length chunks) before now →
    (now ≡ counted before (0 + (if asks_store command then k else 0)))
    ⊎ ((k < length (command_chunks description command)) ×
    (now ≡ counted before (0 + (if asks_store command then k + 1 else 0))))
calls_at description command chunks k before now asks listed counts =
    rw asks (⊎_elim
    (λ (done : now ≡ counted before k). inl (omega (arith, done)))
    (λ (next : (k < length chunks) × (now ≡ counted before (k + 1))).
    inr (subst (λ cs. k < length cs) (sym listed) next.0, omega (arith, next.1)))
    counts)

-- what is so of each of some commands and of one more
pub each_parts : (test : Command → Bool) (commands : List Command) (command : Command) → list_all test
    (commands ++ command ∷ []) ≡ true → (list_all test commands ≡ true) × (list_all test (command ∷ []) ≡ true)
each_parts test [] command all = (refl, all)
each_parts test (first ∷ commands) command all =
    let parts = and_parts (test first) (list_all test (commands ++ command ∷ [])) all in
    let rest = each_parts test commands command parts.1 in
    (ap₂ (λ a b. a && b) parts.0 rest.0, rest.1)

-- an accepted command that does not read is none of those that only read
pub reads_not : (description : Description) (command : Command) → refusal description command ≡ None →
    is_read command ≡ false → OnlyReads description (command ∷ []) → ⊥
reads_not description command accepted other reads =
    let none : ((is_read command || is_some (refusal description command)) && true) ≡ false =
    ap₂ (λ a (r : Option Refusal). (a || is_some r) && true) other accepted in
    let both : true ≡ false = sym reads ∙ none in cc

-- one that only reads changes nothing
pub only_same : (description : Description) (options : Options) (command : Command) (before now : Shown) (ended :
    Ended) → (AreReads (command ∷ []) → SameContent before now) →
    RunsOn description options (command ∷ []) before now ended → OnlyReads description (command ∷ []) →
    SameContent before now
only_same description options command before now ended same runs reads = go (is_read command) same reads
  where
    go : (b : Bool) → ((b && true) ≡ true → SameContent before now) →
        ((b || is_some (refusal description command)) && true) ≡ true → SameContent before now
    go true same reads = same refl
    go false same reads = (runs.refused reads).content

module _ (description : Description) (options : Options) where
  -- what is read costs what its chunks cost
  pub read_costs : (costs : Costs) (region : Region) (before now : Shown) (answers : List Answer) →
      refusal description (read region) ≡ None →
      PaysRead costs description options region (chunks_meeting description.grid region) before now →
      CostsOn costs description options (read region ∷ []) before now (Ok answers)
  read_costs (by_chunk alone) region before now answers accepted paid =
      let listed : command_chunks description (read region) ≡ chunks_meeting description.grid region =
      ap (λ w. chunks_under description w (read region)) accepted in
      record {
        asks = omega (arith, paid.asks, ap length listed);
        stopped = tt;
        taken = λ told. one_takes description options (read region) None before now accepted
            (paid.taken told ∙ ap (counted before.taken) (sym (read_needs description region before.content)));
      }
  read_costs (by_part cost) region before now answers accepted paid =
      let listed : command_chunks description (read region) ≡ chunks_meeting description.grid region =
      ap (λ w. chunks_under description w (read region)) accepted in
      let each : List ℕ → Cost = cost_of cost description options region before.content in
      λ reads. record {
        asks = omega (arith, paid.asks, ap (λ cs. (costs_of each cs).asks) listed);
        taken = omega (arith, paid.taken, ap (λ cs. (costs_of each cs).taken) listed);
      }

  pub read_stops : (costs : Costs) (region : Region) (k : ℕ) (before now : Shown) (kind : SessionErrorKind) →
      refusal description (read region) ≡ None →
      PaysPart costs k (length (chunks_meeting description.grid region)) before now →
      CostsOn costs description options (read region ∷ []) before now (fails_at 0 k kind)
  read_stops (by_chunk alone) region k before now kind accepted paid = record {
    asks = tt;
    stopped = (
      read region,
      refl,
      calls_at description (read region) (chunks_meeting description.grid region) k
          before.asks now.asks refl (ap (λ w. chunks_under description w (read region)) accepted) paid,
    );
    taken = λ told. tt;
  }
  read_stops (by_part cost) region k before now kind accepted paid = λ reads. tt

  pub write_costs : (costs : Costs) (region : Region) (bytes : ArrayBytes) (before now : Shown) (answers :
      List Answer) → refusal description (write region bytes) ≡ None →
      PaysChanges costs description (chunks_meeting description.grid region) (length (chunks_meeting description.grid
      region)) before now → CostsOn costs description options (write region bytes ∷ []) before now (Ok answers)
  write_costs (by_chunk alone) region bytes before now answers accepted paid =
      let listed : command_chunks description (write region bytes) ≡ chunks_meeting description.grid region =
      ap (λ w. chunks_under description w (write region bytes)) accepted in
      record {
        asks = omega (arith, paid.asks, ap length listed);
        stopped = tt;
        taken = λ told. one_takes description options (write region bytes) None before now accepted
            (paid.taken told ∙ ap (counted before.taken) (ap (sum_by _)
            (take_all (length (chunks_meeting description.grid region)) (chunks_meeting description.grid region)
            (omega arith)) ∙ sym (write_needs description region bytes before.content)));
      }
  write_costs (by_part cost) region bytes before now answers accepted paid =
      λ reads. absurd (reads_not description (write region bytes) accepted refl reads)

  pub write_stops : (costs : Costs) (region : Region) (bytes : ArrayBytes) (k : ℕ) (before now : Shown) (kind :
      SessionErrorKind) → refusal description (write region bytes) ≡ None →
      PaysPart costs k (length (chunks_meeting description.grid region)) before now →
      CostsOn costs description options (write region bytes ∷ []) before now (fails_at 0 k kind)
  write_stops (by_chunk alone) region bytes k before now kind accepted paid = record {
    asks = tt;
    stopped = (
      write region bytes,
      refl,
      calls_at description (write region bytes) (chunks_meeting description.grid
          region) k before.asks now.asks refl (ap (λ w. chunks_under description w (write region bytes)) accepted) paid,
    );
    taken = λ told. tt;
  }
  write_stops (by_part cost) region bytes k before now kind accepted paid = λ reads. tt

  -- an erase reads nothing
  pub erase_costs : (costs : Costs) (chunk : List ℕ) (before now : Shown) (answers : List Answer) →
      refusal description (erase chunk) ≡ None → now.asks ≡ before.asks → now.taken ≡ before.taken →
      before.asks ≤ 2 ^ 64 - 1 → before.taken ≤ 2 ^ 64 - 1 →
      CostsOn costs description options (erase chunk ∷ []) before now (Ok answers)
  erase_costs (by_chunk alone) chunk before now answers accepted unasked untaken fits room = record {
    asks = omega (arith, unasked, fits);
    stopped = tt;
    taken = λ told. erase_takes description options chunk before now accepted untaken room;
  }
  erase_costs (by_part cost) chunk before now answers accepted unasked untaken fits room =
      λ reads. absurd (reads_not description (erase chunk) accepted refl reads)

  pub erase_stops : (costs : Costs) (chunk : List ℕ) (before now : Shown) (kind : SessionErrorKind) →
      now.asks ≡ before.asks → before.asks ≤ 2 ^ 64 - 1 →
      CostsOn costs description options (erase chunk ∷ []) before now (fails_at 0 0 kind)
  erase_stops (by_chunk alone) chunk before now kind unasked fits = record {
    asks = tt;
    stopped = (erase chunk, refl, inl (omega (arith, unasked, fits)));
    taken = λ told. tt;
  }
  erase_stops (by_part cost) chunk before now kind unasked fits = λ reads. tt

  -- memory ran out before the first chunk of a command
  pub starved_costs : (costs : Costs) (command : Command) (store : Shown) → store.asks ≤ 2 ^ 64 - 1 →
      CostsOn costs description options (command ∷ []) store store (fails_at 0 0 OutOfMemory)
  starved_costs (by_chunk alone) command store fits = record {
    asks = tt;
    stopped = (command, refl, inl (none (asks_store command)));
    taken = λ told. tt;
  }
    where
      none : (b : Bool) → store.asks ≡ counted store.asks (0 + (if b then 0 else 0))
      none true = omega (arith, fits)
      none false = omega (arith, fits)
  starved_costs (by_part cost) command store fits = λ reads. tt

  pub unbegun_costs : (costs : Costs) (commands : List Command) (store : Shown) →
      CostsOn costs description options commands store store (Err (record { at = None; kind = OutOfMemory }))
  unbegun_costs (by_chunk alone) commands store = record { asks = tt; stopped = refl; taken = λ told. tt }
  unbegun_costs (by_part cost) commands store = λ reads. tt

  -- one more command
  pub more_costs : (costs : Costs) → CoversShape description.shape description.grid →
      IsSound (layout description options) →
      (commands : List Command) (command : Command) (before mid now : Shown) (answers : List Answer) (answer : Answer) →
      RunsOn description options commands before mid (Ok answers) →
      (OnlyReads description commands → SameContent before mid) →
      CostsOn costs description options commands before mid (Ok answers) →
      CostsOn costs description options (command ∷ []) mid now (Ok (answer ∷ [])) →
      CostsOn costs description options (commands ++ command ∷ []) before now (Ok (answers ++ answer ∷ []))
  more_costs (by_chunk alone) covers sound commands command before mid now answers answer ran same first second =
      record {
        asks = omega (arith, first.asks, second.asks, sum_by-append (asks_of description) commands (command ∷ []));
        stopped = tt;
        taken = λ told. more_takes description options covers sound commands command before mid now answers ran
            (first.taken told) (second.taken told);
      }
  more_costs (by_part cost) covers sound commands command before mid now answers answer ran same first second = λ reads.
      let parts = each_parts (only_reads description) commands command reads in
      let each : Command → Cost = read_cost cost description options before.content in
      let later : Pays (costs_of each (command ∷ [])) mid now =
      subst (λ s. Pays (costs_of (read_cost cost description options s) (command ∷ [])) mid now)
      (fun_ext (same parts.0)) (second parts.1) in
      let here : Pays (costs_of each commands) before mid = first parts.0 in
      record {
        asks = omega (arith, here.asks, later.asks, sum_by-append (λ c. (each c).asks) commands (command ∷ []));
        taken = omega (arith, here.taken, later.taken, sum_by-append (λ c. (each c).taken) commands (command ∷ []));
      }

  -- a command that failed after those before it
  pub stops_costs : (costs : Costs) (commands : List Command) (i : ℕ) (command : Command) (before mid now :
      Shown) (answers : List Answer) (k : ℕ) (kind : SessionErrorKind) → slice_get commands i ≡ Some command →
      CostsOn costs description options (take i commands) before mid (Ok answers) →
      CostsOn costs description options (command ∷ []) mid now (fails_at 0 k kind) →
      CostsOn costs description options commands before now (fails_at i k kind)
  stops_costs (by_chunk alone) commands i command before mid now answers k kind here first second = record {
    asks = tt;
    stopped = calls-lift description options commands i command here asks_store before.asks mid.asks now.asks k
        first.asks second.stopped;
    taken = λ told. tt;
  }
  stops_costs (by_part cost) commands i command before mid now answers k kind here first second = λ reads. tt
