use Rattle.std.proofs.Common.{◌∙◌}
use Rattle.zarrs_codec_traits.specs.Prelude.{region, options_of}
use Rattle.zarr_array_boxes.specs.BoxElements.{list_held}
use Rattle.zarr_array.proofs.MetLaws.{num_met}
use Rattle.zarr_array.proofs.ReadSteps.{starved_read}
use Rattle.zarr_array.proofs.region_chunks.RegionChunks.read_all.Goals as goal

pub returns-in-Ok-clause-read : goal.returns-in-Ok-clause-read
returns-in-Ok-clause-read g c =
    let met = c.args.self.now in
    let array = g.C.ChunkAccess.seen met.array.now in
    rw c.out_of_memory.ensures (starved_read array (options_of c.args.options.now) (region met.subset.now)
    (list_held c.read_chunks.new.elements) (g.S.Store.shown c.args.store.now) (g.S.Store.shown c.read_chunks.new.store)
    c.num_chunks.result (c.num_chunks.ensures ∙ num_met array met c.requires.met) c.in-Ok.ensures.read)
