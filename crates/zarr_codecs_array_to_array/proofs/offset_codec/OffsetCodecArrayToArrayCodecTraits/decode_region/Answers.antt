use Rattle.std.proofs.Common.{rules, arith}
use Rattle.zarrs_codec_traits.specs.Prelude.{count, count_of, meaning, region as box_of, raw_of, lengths}
use Rattle.zarr_model.proofs.RegionLaws.{count_within}
use Rattle.zarrs_codec_array_bytes.specs.Steps.{kind_seen, bytes_seen}
use Rattle.zarr_codecs_array_to_array.specs.OffsetOf.{offset_of}
use Rattle.zarr_codecs_array_to_array.proofs.ShiftLaws.{part_ok, part_bytes}
use Rattle.zarr_codecs_array_to_array.proofs.offset_codec.OffsetCodecArrayToArrayCodecTraits.decode_region.Goals as goal

pub num_elements-requires : goal.num_elements-requires
num_elements-requires c = omega (
  arith,
  count_within (box_of c.args.region.now) (lengths c.args._shape.now) c.requires.inside,
  c.requires.fits.count,
)

pub shifted-requires-clause-count : goal.shifted-requires-clause-count
shifted-requires-clause-count c =
    omega (
      arith,
      c.num_elements.ensures,
      count_within (box_of c.args.region.now) (lengths c.args._shape.now) c.requires.inside,
      c.requires.fits.count,
    )

pub shifted-requires-clause-bytes : goal.shifted-requires-clause-bytes
shifted-requires-clause-bytes c =
    part_bytes c.num_elements.result (count (box_of c.args.region.now)) (count_of (lengths c.args._shape.now))
    (bytes_seen c.args.data_type.now)
    c.num_elements.ensures (count_within (box_of c.args.region.now) (lengths c.args._shape.now) c.requires.inside)
    c.requires.fits.bytes

pub returns-clause-at : goal.returns-clause-at
returns-clause-at c =
    let box = box_of c.args.region.now in
    let kind = kind_seen c.args.data_type.now in
    record {
      unserved = search rules;
      served = λ served. record {
        exact = search rules;
        value = λ list xs long whole chosen. part_ok (offset_of c.args.self.now) (lengths c.args._shape.now) box
            c.shifted.result (λ v. meaning kind (count box) (raw_of v)) (meaning kind (count box) (raw_of c.args.bytes))
            list xs (rw c.num_elements.ensures at c.shifted.ensures.value) whole chosen;
        valid = search rules;
      };
    }
