use Rattle.std.proofs.Common.{rules}
use Rattle.zarrs_codec_traits.specs.Prelude.{count_of, meaning, raw_of, kind_seen, lengths}
use Rattle.zarr_codecs_array_to_array.specs.OffsetOf.{offset_of}
use Rattle.zarr_codecs_array_to_array.proofs.ShiftLaws.{encoded_ok}
use Rattle.zarr_codecs_array_to_array.proofs.offset_codec.OffsetCodecArrayToArrayCodecTraits.encode.Goals as goal

pub returns-clause-at : goal.returns-clause-at
returns-clause-at c =
    let number = count_of (lengths c.args.shape.now) in
    let kind = kind_seen c.args.data_type.now in
    record {
      unserved = search rules;
      served = λ served. record {
        exact = search rules;
        value = encoded_ok (offset_of c.args.self.now) c.shifted.result (λ v. meaning kind number (raw_of v))
            (meaning kind number (raw_of c.args.bytes))
            (rw c.num_elements.ensures at c.shifted.ensures.value)
            (rw c.num_elements.ensures at c.shifted.ensures.meant);
      };
    }
