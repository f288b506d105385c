use Rattle.std.proofs.Common.{rules, subst, IfErr}
use Rattle.std.proofs.lemmas.Result.{err_from_is_err_and}
use Rattle.zarrs_codec_traits.specs.Prelude.{fill_bytes, raw_of, unserved_at, IsNoFault, level_of, parts_of}
use Rattle.zarrs_codec_traits.specs.Prelude.{options_of, list_at, Gives, region as box_of}
use Rattle.zarrs_codec_traits.proofs.FaultLaws.{served_no_fault, decoded_no_fault}
use Rattle.zarrs_codec_traits.proofs.TakenLaws.{whole_taken, whole_refused}
use Rattle.zarr_shard_codec.specs.Serving.{shard_unserved}
use Rattle.zarr_shard_codec.specs.ShardCodec.{shard_meaning}
use Rattle.zarr_shard_codec.specs.NoFault.{shard_no_fault}
use Rattle.zarr_shard_codec.specs.Whole.{shard_says}
use Rattle.zarr_shard_codec.proofs.traits.ShardCodecArrayToBytesCodecTraits.decode_parts.Goals as goal

pub returns-clause-at : goal.returns-clause-at
returns-clause-at c =
    let own = c.args.self.now in
    let under = options_of c.args.options.now in
    let level = level_of c.args.shape.now c.args.data_type.now c.args.fill_value.now in
    record {
      unserved = search rules;
      served = λ served. whole_taken (shard_meaning own under level) (shard_says own under) level
          (box_of c.args.region.now) c.only_part-value.result.items (parts_of c.args.parts) _ c.extracted.result
          c.only_part-value.ensures (c.in_ok-whole.ensures.value served) c.extracted.ensures.value;
    }

pub returns-in_err-whole-clause-at : goal.returns-in_err-whole-clause-at
returns-in_err-whole-clause-at c =
    let own = c.args.self.now in
    let under = options_of c.args.options.now in
    let level = level_of c.args.shape.now c.args.data_type.now c.args.fill_value.now in
    let p = err_from_is_err_and c.from_residual.result c.from_residual.ensures.1 in
    record {
      unserved = search rules;
      served = λ served. rw (p.1, p.2) (whole_refused (shard_meaning own under level) (shard_says own under) level
          (box_of c.args.region.now) c.only_part-value.result.items (parts_of c.args.parts) c.in_err-whole.field-0.0
          c.only_part-value.ensures (c.in_err-whole.ensures.value served));
    }

pub returns-in_err-whole-clause-no_fault : goal.returns-in_err-whole-clause-no_fault
returns-in_err-whole-clause-no_fault c =
    let own = c.args.self.now in
    let under = options_of c.args.options.now in
    let level = level_of c.args.shape.now c.args.data_type.now c.args.fill_value.now in
    let value = c.only_part-value.result.items in
    let all : IfErr c.decode.result IsNoFault =
    served_no_fault (unserved_at (shard_unserved own) level (fill_bytes c.args.fill_value.now)) c.decode.result
    c.decode.ensures.unserved
    (λ served. decoded_no_fault (λ v. Gives (list_at level (raw_of v)) (shard_meaning own under level value))
    (shard_meaning own under level value) (shard_says own under value) c.decode.result
    (λ e told. shard_no_fault own under value e told) (c.decode.ensures.value served)) in
    let told : IsNoFault c.in_err-whole.field-0.0 = subst (λ r. IfErr r IsNoFault) c.in_err-whole.was all in
    search rules
