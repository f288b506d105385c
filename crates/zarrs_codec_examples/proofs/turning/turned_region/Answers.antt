use Rattle.std.proofs.Common.{sym}
use Rattle.zarrs_codec_traits.specs.Prelude.{count_of, region as box_of, raw_of, kind_seen, lengths}
use Rattle.zarrs_codec_array_bytes.proofs.ExtractLaws.{valid_long}
use Rattle.zarrs_codec_examples.proofs.MirrorLaws.{places_below, region_turned, region_short}
use Rattle.zarrs_codec_examples.proofs.turning.turned_region.Goals as goal

pub select-requires-clause-within : goal.select-requires-clause-within
select-requires-clause-within c =
    rw (c.num_elements-count.ensures, c.deref.ensures.value)
    (places_below (lengths c.args.shape.now) (box_of c.args.region.now) c.in_ok-places.places.items c.requires.inside
    c.in_ok-places.ensures.value)

pub select-requires-clause-long : goal.select-requires-clause-long
select-requires-clause-long c =
    let valid = sym (rw c.num_elements-count.ensures at c.in_ok-validate.ensures) in
    rw (c.element_size.ensures, c.num_elements-count.ensures)
    (valid_long (kind_seen c.args.data_type.now) (count_of (lengths c.args.shape.now)) (raw_of c.args.bytes.now) valid)

pub returns-clause-value : goal.returns-clause-value
returns-clause-value c =
    let valid = sym (rw c.num_elements-count.ensures at c.in_ok-validate.ensures) in
    let made =
    rw (c.element_size.ensures, c.num_elements-count.ensures, c.deref.ensures.value) at c.in_ok-out.ensures.value in
    region_turned (kind_seen c.args.data_type.now) (lengths c.args.shape.now) (box_of c.args.region.now)
    c.in_ok-places.places.items (raw_of c.args.bytes.now) (raw_of c.in_ok-out.out)
    c.requires.inside c.in_ok-places.ensures.value valid made

pub returns-clause-short : goal.returns-clause-short
returns-clause-short c =
    let valid = sym (rw c.num_elements-count.ensures at c.in_ok-validate.ensures) in
    let made =
    rw (c.element_size.ensures, c.num_elements-count.ensures, c.deref.ensures.value) at c.in_ok-out.ensures.value in
    region_short (kind_seen c.args.data_type.now) (lengths c.args.shape.now) (box_of c.args.region.now)
    c.in_ok-places.places.items (raw_of c.args.bytes.now) (raw_of c.in_ok-out.out)
    c.requires.inside c.in_ok-places.ensures.value valid made
