use Rattle.std.proofs.Common.{◌≡◌, ℕ, true, List, [], map, Ok, Err, ap, ◌∙◌, subst}
use Rattle.std.proofs.lemmas.Result.{err_from_is_err_and}
use Rattle.std.specs.List.{AllZip}
use Rattle.zarrs_codec_traits.specs.Prelude.{fixed, Matches, kind_of, all_asks, counted, options_of}
use Rattle.zarr_model.specs.Command as Model
use Rattle.zarr_array.specs.OpenArray.{described_array}
use Rattle.zarr_cli_runs.specs.array.parts.Document.{describe}
use Rattle.zarr_cli_runs.specs.array.parts.Parts.{documented_parts}
use Rattle.zarr_array.specs.boxes.Command.{command_of, answer_of}
use Rattle.zarr_cli_runs.specs.Summary.{summary_text}
use Rattle.zarr_cli_runs.specs.Tally.{summary_held}
use Rattle.zarr_cli_runs.specs.Commands.{RepliedBy}
use Rattle.zarr_cli_runs.specs.Job.{job, Did}
use Rattle.zarr_cli_runs.specs.Made.{SumsAll}
use Rattle.zarr_cli_runs.specs.declared.status.Status.TheVariants.{OutOfMemory}
use Rattle.zarr_cli_runs.proofs.JobLaws.{did_behind, still_early}
use Rattle.zarr_cli_runs.proofs.MadeLemmas.{summed_up}
use Rattle.zarr_cli_runs.proofs.made.summary_of_commands.Goals as goal

pub summary_of-requires-clause-kind : goal.summary_of-requires-clause-kind
summary_of-requires-clause-kind g c = ap kind_of c.data_type.ensures.data_type ∙ c.requires.sized

pub returns-in-Ok-count_keys : goal.returns-in-Ok-count_keys
returns-in-Ok-count_keys g c =
    let n : ℕ = 2 in
    let options = options_of c.args.options.now in
    let commands = map command_of c.args.commands.now in
    let before = g.S.Store.shown c.args.store.now in
    let mid = g.S.Store.shown c.replies_of.new.store in
    let now = g.S.Store.shown c.count_keys.new.store in
    let array = described_array c.args.array.now in
    let held = c.in-Ok.replies in
    let did = subst (λ parts. Did (job true (describe (documented_parts parts)) options [] commands) (Unit {0}) before
    mid (Ok held) (λ h. RepliedBy (describe (documented_parts parts)) options commands before mid h.items))
    c.parts.ensures c.in-Ok.ensures.did in
    let asks = subst (λ parts. mid.asks ≡ counted before.asks (all_asks (describe (documented_parts parts)) commands))
    c.parts.ensures c.in-Ok.ensures.costs.asks in
    let count = c.in-Ok-count_keys.keys in
    let text = c.in_ok-summary_of-in-Ok-count_keys.field-0 in
    did_behind true array options commands ⊥ before mid now held
    (λ h. RepliedBy array options commands before mid h.items) did c.count_keys.ensures.reads.same
    (λ never. absurd never)
    c.count_keys.ensures.reads.later (Ok text) (λ t. SumsAll array options commands before now t.items) did.done.left
    did.done.mended
    (summed_up array n count options commands before mid now held.items text.items c.requires.sized did.done asks
    c.in-Ok-count_keys.ensures.keys c.count_keys.ensures.reads.same c.in-Ok-count_keys.ensures.asks
    c.count_keys.ensures.reads.puts
    (subst (λ held. (answers : List Model.Reply) → AllZip (Matches (fixed n)) (map answer_of held) answers →
    text.items ≡ summary_text answers count) c.deref.ensures.value c.in_ok-summary_of-in-Ok-count_keys.ensures.replies)
    (subst (λ held. (lines : List ℕ) × (text.items ≡ summary_held n held count lines)) c.deref.ensures.value
    c.in_ok-summary_of-in-Ok-count_keys.ensures.held)) tt

pub returns-in_err-summary_of-in-Ok-count_keys : goal.returns-in_err-summary_of-in-Ok-count_keys
returns-in_err-summary_of-in-Ok-count_keys g c =
    let options = options_of c.args.options.now in
    let commands = map command_of c.args.commands.now in
    let before = g.S.Store.shown c.args.store.now in
    let mid = g.S.Store.shown c.replies_of.new.store in
    let now = g.S.Store.shown c.count_keys.new.store in
    let array = described_array c.args.array.now in
    let held = c.in-Ok.replies in
    let did = subst (λ parts. Did (job true (describe (documented_parts parts)) options [] commands) (Unit {0}) before
    mid (Ok held) (λ h. RepliedBy (describe (documented_parts parts)) options commands before mid h.items))
    c.parts.ensures c.in-Ok.ensures.did in
    let p = err_from_is_err_and c.from_residual.result c.from_residual.ensures.1 in
    rw (p.1, p.2) (did_behind true array options commands ⊥ before mid now held
    (λ h. RepliedBy array options commands before mid h.items) did c.count_keys.ensures.reads.same
    (λ never. absurd never)
    c.count_keys.ensures.reads.later (Err OutOfMemory) (λ t. SumsAll array options commands before now t.items)
    did.done.left
    did.done.mended tt tt)

pub returns-in-Ok : goal.returns-in-Ok
returns-in-Ok g c =
    let options = options_of c.args.options.now in
    let commands = map command_of c.args.commands.now in
    let before = g.S.Store.shown c.args.store.now in
    let mid = g.S.Store.shown c.replies_of.new.store in
    let now = g.S.Store.shown c.count_keys.new.store in
    let array = described_array c.args.array.now in
    let held = c.in-Ok.replies in
    let did = subst (λ parts. Did (job true (describe (documented_parts parts)) options [] commands) (Unit {0}) before
    mid (Ok held) (λ h. RepliedBy (describe (documented_parts parts)) options commands before mid h.items))
    c.parts.ensures c.in-Ok.ensures.did in
    did_behind true array options commands ⊥ before mid now held
    (λ h. RepliedBy array options commands before mid h.items) did c.count_keys.ensures.reads.same
    (λ never. absurd never)
    c.count_keys.ensures.reads.later (Err c.in-Err-count_keys.status)
    (λ t. SumsAll array options commands before now t.items) did.done.left
    did.done.mended tt c.in-Err-count_keys.ensures.reads.fault

pub returns : goal.returns
returns g c =
    let options = options_of c.args.options.now in
    let commands = map command_of c.args.commands.now in
    let before = g.S.Store.shown c.args.store.now in
    let mid = g.S.Store.shown c.replies_of.new.store in
    subst (λ parts. Did (job true (describe (documented_parts parts)) options [] commands) ⊥ before mid
    (Err c.in-Err.status) (λ t. SumsAll (describe (documented_parts parts)) options commands before mid t.items))
    c.parts.ensures
    (still_early (job true (describe (documented_parts c.parts.result.now)) options [] commands) ⊥ before mid
    (λ h. RepliedBy (describe (documented_parts c.parts.result.now)) options commands before mid h.items)
    (λ t. SumsAll (describe (documented_parts c.parts.result.now)) options commands before mid t.items)
    c.in-Err.status c.in-Err.ensures.did)
