use Rattle.std.proofs.Common.{◌∙◌, length, ap, sym, refl, inl, None}
use Rattle.zarrs_codec.specs.Prelude.{Level, count_of, kind_of, raw_of, linear, options_of}
use Rattle.zarr_model.proofs.Choices.{always_err}
use Rattle.zarr_model.specs.DataTypeSize.{size_seen}
use Rattle.zarrs_codec.proofs.FaultLaws.{no_faults}
use Rattle.zarrs_codec.proofs.NamedLaws.{refused_never}
use Rattle.zarrs_codec.proofs.UpdateLaws.{reads_if_still, reads_if_not, unread_or}
use Rattle.zarrs_codec_array_bytes_parts.proofs.UpdateLaws.{update_memory}
use Rattle.zarrs_codec_partial_elements.proofs.WriteLaws.{update_no_fault, updated_gives, updated_fails, err_memory}
use Rattle.zarrs_codec_partial_elements.proofs.WriteLaws.{answers_err}
use Rattle.zarrs_codec_partial_elements.proofs.encoding.updated_elements.Goals as goal

pub update_owned_array_bytes-requires-clause-count : goal.update_owned_array_bytes-requires-clause-count
update_owned_array_bytes-requires-clause-count g c =
    rw c.requires.shape (g.met.L.LevelReads.fits c.args.level.now).count

pub update_owned_array_bytes-requires-clause-bytes : goal.update_owned_array_bytes-requires-clause-bytes
update_owned_array_bytes-requires-clause-bytes g c =
    let same =
    c.element_type.ensures ∙ ap (λ (l : Level). l.data_type) c.in-Ok.ensures.reads.reads.keeps.level in
    rw (c.requires.shape, c.type_size-size.ensures, same) (g.met.L.LevelReads.fits c.args.level.now).bytes

pub returns-in-Ok-clause-makes : goal.returns-in-Ok-clause-makes
returns-in-Ok-clause-makes g c =
    let old = g.L.LevelReads.seen c.args.level.now in
    let new = g.L.LevelReads.seen c.old_elements.new.self in
    let level = old.level in
    let under = options_of c.args.options.now in
    let list = old.list under in
    let kind = kind_of level.data_type in
    let places = g.I.Indexer.places c.args.indexer.now in
    let put = rw c.requires.shape at c.update_owned_array_bytes.ensures.updated in
    let answer = rw c.requires.shape at c.update_owned_array_bytes.ensures.answer in
    let fit = rw c.requires.shape at c.requires.fit in
    let read = c.in-Ok.ensures.reads in
    let same = c.element_type.ensures ∙ ap (λ (l : Level). l.data_type) read.reads.keeps.level in
    let sized = rw same at c.type_size-size.ensures in
    let raw = raw_of c.in-Ok.whole in
    let result = c.update_owned_array_bytes.result in
    record {
      made = record {
        gives = λ given served means. updated_gives level (linear level.shape places) given list raw result
            (read.decodes served) (λ xs is. read.value xs served is) (λ xs is. put kind xs given (sym sized) is means);
        failed = λ given served means. updated_fails list level raw _ result (read.valid served)
            (λ xs is. err_memory result _ (answers_err _ result answer)
            (λ e told. update_memory kind (size_seen c.type_size-size.result) _ _ _ raw (raw_of c.args.bytes.now) xs
            given e sized fit is means told)) (inl (inl refl));
        short = λ served few short. c.update_owned_array_bytes.ensures.short (read.short served few) short;
        fault = no_faults _ _ result (update_no_fault (size_seen c.type_size-size.result)
            (g.I.Indexer.fits c.args.indexer.now c.args.numbers.now) (count_of c.args.numbers.now) (length places) raw
            (raw_of c.args.bytes.now) result c.update_owned_array_bytes.ensures.answer);
      };
      reads = reads_if_still None old new c.in-Ok.whole result read.reads;
      named = always_err result (refused_never old.unserved c.in-Ok.whole result read.named);
      served = λ read_all. refused_never old.unserved c.in-Ok.whole result read.named;
      valid = λ all there. cc;
    }

pub returns-in-Err-clause-makes : goal.returns-in-Err-clause-makes
returns-in-Err-clause-makes g c =
    let old = g.L.LevelReads.seen c.args.level.now in
    let new = g.L.LevelReads.seen c.old_elements.new.self in
    let under = options_of c.args.options.now in
    let read = c.in-Err.ensures.reads in
    record {
      made = record {
        gives = λ given served means. tt;
        failed = λ given served means. unread_or old (old.list under)
            (g.L.LevelReads.tells c.args.level.now under None) _ _ c.in-Err.error (read.failed served);
        short = λ served few short. tt;
        fault = read.fault;
      };
      reads = reads_if_not None old new c.in-Err.error read.reads;
      named = read.named;
      served = λ read_all. read.named;
      valid = λ all there. tt;
    }
