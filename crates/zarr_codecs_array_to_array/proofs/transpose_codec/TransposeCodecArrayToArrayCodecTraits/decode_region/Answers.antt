use Rattle.std.proofs.Common.{rules, ◌≡◌, ℕ, List, Some, sym, subst}
use Rattle.zarrs_codec_traits.specs.Prelude.{count, count_of, sizes, meaning, permuted, permuted_box, region as box_of}
use Rattle.zarrs_codec_traits.specs.Prelude.{raw_of, kind_seen, level_of, select}
use Rattle.zarr_codecs_array_to_array.specs.OrderOf.{order_of}
use Rattle.zarr_codecs_array_to_array.proofs.CodecLaws.{region_list_gives}
use Rattle.zarr_codecs_array_to_array.proofs.transpose_codec.TransposeCodecArrayToArrayCodecTraits.decode_region.Goals as goal

pub returns-clause-at : goal.returns-clause-at
returns-clause-at c =
    let level = level_of c.args.shape.now c.args.data_type.now c.args._fill_value.now in
    let box = box_of c.args.region.now in
    let kind = kind_seen c.args.data_type.now in
    record {
      unserved = search rules;
      served = λ served. record {
        exact = search rules;
        value = λ list xs long turned given. region_list_gives (λ v. meaning kind (count box) (raw_of v))
            (order_of c.args.self.now) c.deref-2.result.now level box list xs c.region_decoded.result
            c.deref-2.ensures.value turned (c.region_decoded.ensures.value list (subst (λ (o : List ℕ).
            meaning kind (count_of (sizes (permuted_box o box))) (raw_of c.args.bytes) ≡
            Some (select (permuted o level.shape) (permuted_box o box) list)) (sym c.deref-2.ensures.value) given));
        valid = search rules;
      };
    }
