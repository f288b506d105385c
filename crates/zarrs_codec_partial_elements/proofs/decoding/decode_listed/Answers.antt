use Rattle.std.proofs.Common.{◌∙◌, ap, refl, None}
use Rattle.zarrs_codec.specs.Prelude.{Level}
use Rattle.zarrs_codec_partial_elements.proofs.StepLaws.{listed_step, listed_not}
use Rattle.zarrs_codec_partial_elements.proofs.decoding.decode_listed.Goals as goal

pub extract_array_subset-requires-clause-count : goal.extract_array_subset-requires-clause-count
extract_array_subset-requires-clause-count g c =
    rw c.requires.shape (g.met.L.LevelReads.fits c.args.level.now).count

pub extract_array_subset-requires-clause-bytes : goal.extract_array_subset-requires-clause-bytes
extract_array_subset-requires-clause-bytes g c =
    let keeps = (c.in-Ok.ensures.reads.selects None refl).reads.keeps in
    let same = c.element_type.ensures ∙ ap (λ (l : Level). l.data_type) keeps.level in
    rw (c.requires.shape, same) (g.met.L.LevelReads.fits c.args.level.now).bytes

pub returns-in-Ok-clause-reads : goal.returns-in-Ok-clause-reads
returns-in-Ok-clause-reads g c =
    let keeps = (c.in-Ok.ensures.reads.selects None refl).reads.keeps in
    let same = c.element_type.ensures ∙ ap (λ (l : Level). l.data_type) keeps.level in
    let taken = c.extract_array_subset.ensures in
    listed_step (g.I.Indexer.places c.args.indexer.now) _ c.in-Ok.ensures.reads
    (rw c.requires.shape at c.requires.fit) (rw (c.requires.shape, same) at taken.selected)
    (rw (c.requires.shape, same) at taken.answer) taken.short

pub returns-in-Err-clause-reads : goal.returns-in-Err-clause-reads
returns-in-Err-clause-reads g c = listed_not (g.I.Indexer.places c.args.indexer.now) c.in-Err.ensures.reads
