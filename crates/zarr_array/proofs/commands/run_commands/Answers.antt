use Rattle.std.proofs.Common.{◌≡◌, ◌+◌, [], ◌∷◌, ◌++◌, map, take, Ok, arith, ap, ◌∙◌, sym, subst, subst₂, vec_len}
use Rattle.std.proofs.Common.{le_trans, if◌then◌else◌, is_ok}
use Rattle.std.proofs.lemmas.List.{map-append}
use Rattle.zarr_array_boxes.specs.Command.{command_of, answer_of}
use Rattle.zarrs_codec_traits.specs.Views.{options_of}
use Rattle.zarr_array.specs.Costs.{only_reads, OnlyReads, CostsOn}
use Rattle.zarr_array.specs.Access.{described}
use Rattle.zarr_array.specs.Runs.{RunsOn}
use Rattle.zarr_array.proofs.RunsLaws.{command_here, read_here, one_more_ran, stops_at, take_next, take_whole}
use Rattle.zarr_array.proofs.SessionSteps.{told_at}
use Rattle.zarr_array.proofs.CostLaws.{each_parts, only_same, more_costs, stops_costs, unbegun_costs}
use Rattle.zarr_array.proofs.commands.run_commands.Goals as goal

pub loop-number-preserved : goal.loop-number-preserved
loop-number-preserved g c = record {
  so_far =
      let array = described (g.C.ChunkAccess.seen c.args.array.now) in
      let options = options_of c.args.options.now in
      let commands = map command_of c.args.commands.now in
      let here = command_here command_of c.args.commands.now c.loop-number.number c.index-commands-number.result
      c.loop-number-test.true c.index-commands-number.is in
      let answered : map answer_of c.push.new.self.items ≡
      map answer_of c.loop-number.replies.items ++ answer_of c.in-Ok-run_command.reply ∷ [] =
      ap (map answer_of) (c.push.ensures.items ∙ ap (λ r. if is_ok r then c.loop-number.replies.items
      ++ c.in-Ok-run_command.reply ∷ [] else c.loop-number.replies.items) c.unwrap.ensures)
      ∙ map-append answer_of c.loop-number.replies.items (c.in-Ok-run_command.reply ∷ []) in
      subst₂ (λ commands answers. RunsOn array options commands (g.S.Store.shown c.args.store.now)
      (g.S.Store.shown c.run_command.new.store) (Ok answers))
      (sym (take_next commands c.loop-number.number (command_of c.index-commands-number.result) here)) (sym answered)
      (one_more_ran array options (g.met.C.ChunkAccess.served c.args.array.now).covers
      ((g.met.C.ChunkAccess.served c.args.array.now).sound options) _ _ _ (g.S.Store.shown c.loop-number.store) _ _ _
      c.loop-number.invariant.so_far c.in-Ok-run_command.ensures.runs);
  costs =
      let array = g.C.ChunkAccess.seen c.args.array.now in
      let served = g.met.C.ChunkAccess.served c.args.array.now in
      let options = options_of c.args.options.now in
      let commands = map command_of c.args.commands.now in
      let here = command_here command_of c.args.commands.now c.loop-number.number c.index-commands-number.result
      c.loop-number-test.true c.index-commands-number.is in
      let answered : map answer_of c.push.new.self.items ≡
      map answer_of c.loop-number.replies.items ++ answer_of c.in-Ok-run_command.reply ∷ [] =
      ap (map answer_of) (c.push.ensures.items ∙ ap (λ r. if is_ok r then c.loop-number.replies.items
      ++ c.in-Ok-run_command.reply ∷ [] else c.loop-number.replies.items) c.unwrap.ensures)
      ∙ map-append answer_of c.loop-number.replies.items (c.in-Ok-run_command.reply ∷ []) in
      subst₂ (λ commands answers. CostsOn array.costs (described array) options commands
      (g.S.Store.shown c.args.store.now) (g.S.Store.shown c.run_command.new.store) (Ok answers))
      (sym (take_next commands c.loop-number.number (command_of c.index-commands-number.result) here)) (sym answered)
      (more_costs (described array) options array.costs served.covers (served.sound options) _ _
      (g.S.Store.shown c.args.store.now) (g.S.Store.shown c.loop-number.store) (g.S.Store.shown c.run_command.new.store)
      _ _
      c.loop-number.invariant.so_far c.loop-number.invariant.same c.loop-number.invariant.costs
      c.in-Ok-run_command.ensures.costs);
  same =
      let commands = map command_of c.args.commands.now in
      let here = command_here command_of c.args.commands.now c.loop-number.number c.index-commands-number.result
      c.loop-number-test.true c.index-commands-number.is in
      let array = described (g.C.ChunkAccess.seen c.args.array.now) in
      λ reads key.
      let parts =
      each_parts (only_reads array) (take c.loop-number.number commands) (command_of c.index-commands-number.result)
      (subst (OnlyReads array)
      (take_next commands c.loop-number.number (command_of c.index-commands-number.result) here) reads) in
      only_same array (options_of c.args.options.now) (command_of c.index-commands-number.result)
      (g.S.Store.shown c.loop-number.store) (g.S.Store.shown c.run_command.new.store) _
      c.run_command.ensures.same c.in-Ok-run_command.ensures.runs parts.1 key
      ∙ c.loop-number.invariant.same parts.0 key;
  kept =
      let here = command_here command_of c.args.commands.now c.loop-number.number c.index-commands-number.result
      c.loop-number-test.true c.index-commands-number.is in
      λ reads. g.met.S.Store.kept_twice c.args.store.now c.loop-number.store c.run_command.new.store
      (c.loop-number.invariant.kept reads)
      (c.run_command.ensures.kept (read_here (map command_of c.args.commands.now) c.loop-number.number
      (command_of c.index-commands-number.result) here reads));
  long = c.push.ensures.len ∙ (ap (λ r. if is_ok r then vec_len c.loop-number.replies + 1 else vec_len
      c.loop-number.replies) c.unwrap.ensures ∙ ap (λ n. n + 1) c.loop-number.invariant.long);
  room = le_trans c.loop-number.invariant.room c.push.ensures.capacity;
  hand = c.run_command.ensures.hand;
}

pub returns-clause-runs : goal.returns-clause-runs
returns-clause-runs g c = subst (λ commands. RunsOn (described (g.C.ChunkAccess.seen c.args.array.now))
    (options_of c.args.options.now) commands (g.S.Store.shown c.args.store.now) (g.S.Store.shown c.loop-number.store)
    (Ok (map answer_of c.loop-number.replies.items)))
    (take_whole command_of c.args.commands.now c.loop-number.number (omega arith)) c.loop-number.invariant.so_far

pub returns-in-Err-run_command-clause-runs : goal.returns-in-Err-run_command-clause-runs
returns-in-Err-run_command-clause-runs g c =
    let options = options_of c.args.options.now in
    let here = command_here command_of c.args.commands.now c.loop-number.number c.index-commands-number.result
    c.loop-number-test.true c.index-commands-number.is in
    stops_at (described (g.C.ChunkAccess.seen c.args.array.now)) options
    (g.met.C.ChunkAccess.served c.args.array.now).covers ((g.met.C.ChunkAccess.served c.args.array.now).sound options)
    (map command_of c.args.commands.now) c.loop-number.number (command_of c.index-commands-number.result) _
    (g.S.Store.shown c.loop-number.store) _ _
    c.in-Err-run_command.error.chunks_done c.in-Err-run_command.error.kind here c.loop-number.invariant.so_far
    c.in-Err-run_command.ensures.runs

pub returns-in-Err-run_command-clause-kept : goal.returns-in-Err-run_command-clause-kept
returns-in-Err-run_command-clause-kept g c =
    let here = command_here command_of c.args.commands.now c.loop-number.number c.index-commands-number.result
    c.loop-number-test.true c.index-commands-number.is in
    λ reads. g.met.S.Store.kept_twice c.args.store.now c.loop-number.store c.run_command.new.store
    (c.loop-number.invariant.kept reads)
    (c.run_command.ensures.kept (read_here (map command_of c.args.commands.now) c.loop-number.number
    (command_of c.index-commands-number.result) here reads))

pub returns-in-Err-run_command-clause-told : goal.returns-in-Err-run_command-clause-told
returns-in-Err-run_command-clause-told g c =
    let here = command_here command_of c.args.commands.now c.loop-number.number c.index-commands-number.result
    c.loop-number-test.true c.index-commands-number.is in
    told_at (described (g.C.ChunkAccess.seen c.args.array.now)) (g.C.ChunkAccess.seen c.args.array.now).says
    (options_of c.args.options.now) (g.S.Store.shown c.run_command.new.store) c.in-Err-run_command.error.kind
    (map command_of c.args.commands.now) c.loop-number.number c.in-Err-run_command.error.chunks_done
    (command_of c.index-commands-number.result) here c.in-Err-run_command.ensures.told

pub returns-clause-costs : goal.returns-clause-costs
returns-clause-costs g c =
    let array = g.C.ChunkAccess.seen c.args.array.now in
    subst (λ commands. CostsOn array.costs (described array) (options_of c.args.options.now) commands (g.S.Store.shown
    c.args.store.now) (g.S.Store.shown c.loop-number.store) (Ok (map answer_of c.loop-number.replies.items)))
    (take_whole command_of c.args.commands.now c.loop-number.number (omega arith)) c.loop-number.invariant.costs

pub returns-in-Err-run_command-clause-costs : goal.returns-in-Err-run_command-clause-costs
returns-in-Err-run_command-clause-costs g c =
    let array = g.C.ChunkAccess.seen c.args.array.now in
    let here = command_here command_of c.args.commands.now c.loop-number.number c.index-commands-number.result
    c.loop-number-test.true c.index-commands-number.is in
    stops_costs (described array) (options_of c.args.options.now) array.costs (map command_of c.args.commands.now)
    c.loop-number.number (command_of c.index-commands-number.result)
    (g.S.Store.shown c.args.store.now) (g.S.Store.shown c.loop-number.store) (g.S.Store.shown c.run_command.new.store) _
    c.in-Err-run_command.error.chunks_done c.in-Err-run_command.error.kind here c.loop-number.invariant.costs
    c.in-Err-run_command.ensures.costs

pub returns-in-Err-clause-costs : goal.returns-in-Err-clause-costs
returns-in-Err-clause-costs g c =
    let array = g.C.ChunkAccess.seen c.args.array.now in
    rw c.before_commands.ensures (unbegun_costs (described array) (options_of c.args.options.now) array.costs
    (map command_of c.args.commands.now) (g.S.Store.shown c.args.store.now))
