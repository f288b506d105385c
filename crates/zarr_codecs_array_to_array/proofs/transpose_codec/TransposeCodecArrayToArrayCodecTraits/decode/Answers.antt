use Rattle.std.proofs.Common.{rules, ◌≡◌, ℕ, List, Some, sym, subst}
use Rattle.zarrs_codec_traits.specs.Prelude.{count_of, meaning, permuted, raw_of, kind_seen, level_of, list_at}
use Rattle.zarr_codecs_array_to_array.specs.OrderOf.{order_of}
use Rattle.zarr_codecs_array_to_array.proofs.CodecLaws.{decode_list_gives}
use Rattle.zarr_codecs_array_to_array.proofs.transpose_codec.TransposeCodecArrayToArrayCodecTraits.decode.Goals as goal

pub returns-clause-at : goal.returns-clause-at
returns-clause-at c =
    let level = level_of c.args.shape.now c.args.data_type.now c.args._fill_value.now in
    record {
      unserved = search rules;
      served = λ served. record {
        exact = search rules;
        value = λ list is. decode_list_gives (λ v. list_at level (raw_of v)) (order_of c.args.self.now)
            c.deref-2.result.now level list c.decoded.result c.deref-2.ensures.value
            (c.decoded.ensures.value list (subst (λ (o : List ℕ). meaning (kind_seen c.args.data_type.now)
            (count_of (permuted o level.shape)) (raw_of c.args.bytes) ≡ Some list) (sym c.deref-2.ensures.value) is));
      };
    }
