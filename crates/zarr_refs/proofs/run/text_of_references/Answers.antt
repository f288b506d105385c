use Rattle.std.proofs.Common.{rules, ◌≡◌, ◌∙◌, ◌-◌, Ok, Err, map, sym, ap, subst}
use Rattle.std.specs.declared.alloc.Global.{Global}
use Rattle.zarrs_codec_traits.specs.Prelude.{Rose, options_of}
use Rattle.zarr_array.specs.OpenArray.{described_array}
use Rattle.zarr_array.specs.boxes.Command.{command_of}
use Rattle.zarr_refs.specs.declared.reference.RefError.TheVariants as RefError
use Rattle.zarr_refs.specs.References.{first_repeated, unfit, IsRefusedRefs}
use Rattle.zarr_refs.specs.Slices.{slice_at, slice_held, sliced}
use Rattle.zarr_refs.specs.Reads.{ReadsBack}
use Rattle.zarr_refs.proofs.ReadsLaws.{not_referred, store_failed, starved, read_ok, read_err}
use Rattle.zarr_refs.proofs.run.text_of_references.Goals as goal

pub returns-in-Err-Store : goal.returns-in-Err-Store
returns-in-Err-Store g c =
    let before = g.S.Store.shown c.args.store.now in
    let now = g.S.Store.shown c.slices_in.new.base in
    store_failed (described_array c.args.array.now) (options_of c.args.options.now) c.args.lines.now before now
    c.slices_in.ensures.same c.slices_in.ensures.later
    (subst (IsRefusedRefs c.deref.result.now before now) c.in-Err-Store.field-0-is c.in-Err-Store.ensures.refused).1

pub returns-in-Err-OutOfMemory : goal.returns-in-Err-OutOfMemory
returns-in-Err-OutOfMemory g c =
    starved (described_array c.args.array.now) (options_of c.args.options.now) c.args.lines.now (g.S.Store.shown
    c.args.store.now) (g.S.Store.shown c.slices_in.new.base) c.slices_in.ensures.same c.slices_in.ensures.later

pub returns-in-Ok-text_of_reads : goal.returns-in-Ok-text_of_reads
returns-in-Ok-text_of_reads g c =
    let before = g.S.Store.shown c.args.store.now in
    let mid = g.S.Store.shown c.slices_in.new.base in
    let now = g.S.Store.shown c.text_of_reads.new.store in
    read_ok (described_array c.args.array.now) (options_of c.args.options.now) c.args.lines.now before mid now
    (ap first_repeated (sym c.deref.ensures.value)
    ∙ c.in-Ok.ensures.made.0) (ap (unfit before.content) (sym c.deref.ensures.value) ∙ c.in-Ok.ensures.made.1)
    c.slices_in.ensures.same c.text_of_reads.ensures.same (g.met.S.Store.counts_fit c.args.store.now).3
    c.slices_in.ensures.puts c.text_of_reads.ensures.puts c.slices_in.ensures.later c.text_of_reads.ensures.later
    (λ key. slice_held mid.content (slice_at c.in-Ok.slices key)) c.in-Ok-text_of_reads.text
    (λ key. c.in-Ok.ensures.sliced key ∙ ap (λ references. sliced references before.content key) c.deref.ensures.value)
    (subst (λ reads. ReadsBack (described_array c.args.array.now) (options_of c.args.options.now) (map command_of reads)
    (λ key. slice_held mid.content (slice_at c.in-Ok.slices key)) (Rose mid.faults now.faults)
    (Ok c.in-Ok-text_of_reads.text)) c.deref-2.ensures.value
    c.in-Ok-text_of_reads.ensures.back)

pub returns-in-Err-text_of_reads : goal.returns-in-Err-text_of_reads
returns-in-Err-text_of_reads g c =
    let before = g.S.Store.shown c.args.store.now in
    let mid = g.S.Store.shown c.slices_in.new.base in
    let now = g.S.Store.shown c.text_of_reads.new.store in
    read_err (described_array c.args.array.now) (options_of c.args.options.now) c.args.lines.now before mid now
    (ap first_repeated (sym c.deref.ensures.value)
    ∙ c.in-Ok.ensures.made.0) (ap (unfit before.content) (sym c.deref.ensures.value) ∙ c.in-Ok.ensures.made.1)
    c.slices_in.ensures.same c.text_of_reads.ensures.same (g.met.S.Store.counts_fit c.args.store.now).3
    c.slices_in.ensures.puts c.text_of_reads.ensures.puts c.slices_in.ensures.later c.text_of_reads.ensures.later
    (λ key. slice_held mid.content (slice_at c.in-Ok.slices key)) c.in-Err-text_of_reads.status
    (λ key. c.in-Ok.ensures.sliced key ∙ ap (λ references. sliced references before.content key) c.deref.ensures.value)
    (subst (λ reads. ReadsBack {Z = Global} (described_array c.args.array.now) (options_of c.args.options.now)
    (map command_of reads) (λ key. slice_held mid.content (slice_at c.in-Ok.slices key)) (Rose mid.faults now.faults)
    (Err c.in-Err-text_of_reads.status)) c.deref-2.ensures.value
    c.in-Err-text_of_reads.ensures.back)

pub returns-in-Err : goal.returns-in-Err
returns-in-Err g c =
    let before = g.S.Store.shown c.args.store.now in
    let now = g.S.Store.shown c.slices_in.new.base in
    let not_store : ¬ (c.in-Err.error ≡ RefError.Store) = search rules in
    let not_memory : ¬ (c.in-Err.error ≡ RefError.OutOfMemory) = search rules in
    not_referred (described_array c.args.array.now) (options_of c.args.options.now) c.args.lines.now before now
    c.in-Err.error c.slices_in.ensures.same (g.met.S.Store.counts_fit c.args.store.now).3
    c.slices_in.ensures.puts c.slices_in.ensures.later (subst (λ references. IsRefusedRefs references before now
    c.in-Err.error) c.deref.ensures.value c.in-Err.ensures.refused) not_store not_memory
