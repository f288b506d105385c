use Rattle.std.proofs.Common.{◌≡◌, true, subst, sym}
use Rattle.zarr_model.specs.Region.{count}
use Rattle.zarr_model.specs.ArrayBytes.{meaning}
use Rattle.zarrs_array_subset.specs.ArraySubset.{region}
use Rattle.zarrs_codec_array_bytes.specs.Raw.{raw_of}
use Rattle.zarr_array_boxes.specs.Elements.{blanks}
use Rattle.zarr_array_boxes.specs.Given.{given_alike}
use Rattle.zarr_array_boxes.specs.BoxElements.{listed_kind, listed_box}
use Rattle.zarrs_codec_array_bytes_parts.proofs.MeansLaws.{some_list}
use Rattle.zarr_array_boxes.proofs.MemoryLaws.{piece_fits}
use Rattle.zarr_array_boxes.proofs.PutLaws.{given_alike_means, took, whole_piece, blanks_long}
use Rattle.zarr_array_boxes.proofs.ShareLaws.{overlap_inside}
use Rattle.zarr_array_boxes.proofs.ShortLaws.{given_short}
use Rattle.zarr_array_boxes.proofs.listed.ListedBox.put_whole.Goals as goal

pub with_piece-requires-clause-inside : goal.with_piece-requires-clause-inside
with_piece-requires-clause-inside c =
    piece_fits (region c.args.subset.now) (listed_box c.args.self.now) (region c.in_ok-at.at) c.shape.result.now
    c.requires.inside c.in_ok-at.ensures c.shape.ensures.value

pub with_piece-requires-clause-alike : goal.with_piece-requires-clause-alike
with_piece-requires-clause-alike c =
    let bytes = meaning (listed_kind c.args.self.now) (count (region c.args.subset.now)) (raw_of c.args.bytes.now) in
    subst (λ given. given_alike given (raw_of c.args.bytes.now) ≡ true) (sym c.take-before.ensures.value)
    (given_alike_means (listed_kind c.args.self.now) c.args.self.now.given _ (raw_of c.args.bytes.now) _
    c.args.self.now.given_means (some_list bytes c.requires.means))

pub invariant_of-self-2-clause-given_means : goal.invariant_of-self-2-clause-given_means
invariant_of-self-2-clause-given_means c =
    (took (listed_kind c.args.self.now) (listed_box c.args.self.now) (region c.args.subset.now)
    (region c.args.subset.now) (region c.in_ok-at.at) c.shape.result.now
    (blanks (listed_kind c.args.self.now) (count (listed_box c.args.self.now)) (raw_of c.args.self.now.blank))
    (raw_of c.args.bytes.now) (raw_of c.args.bytes.now) c.take-before.result c.args.self.now.given c.in_ok-given.given
    c.requires.rank (blanks_long (listed_kind c.args.self.now) (count (listed_box c.args.self.now))
    (raw_of c.args.self.now.blank)) c.args.self.now.given_means c.args.self.now.below c.requires.means
    (sym (overlap_inside (listed_box c.args.self.now) (region c.args.subset.now) c.requires.inside)) c.in_ok-at.ensures
    c.shape.ensures.value c.take-before.ensures.value
    (whole_piece (listed_kind c.args.self.now) (region c.args.subset.now) (raw_of c.args.bytes.now))
    c.in_ok-given.ensures.places c.in_ok-given.ensures.within c.in_ok-given.ensures.bytes).means

pub invariant_of-self-2-clause-below : goal.invariant_of-self-2-clause-below
invariant_of-self-2-clause-below c =
    (took (listed_kind c.args.self.now) (listed_box c.args.self.now) (region c.args.subset.now)
    (region c.args.subset.now) (region c.in_ok-at.at) c.shape.result.now
    (blanks (listed_kind c.args.self.now) (count (listed_box c.args.self.now)) (raw_of c.args.self.now.blank))
    (raw_of c.args.bytes.now) (raw_of c.args.bytes.now) c.take-before.result c.args.self.now.given c.in_ok-given.given
    c.requires.rank (blanks_long (listed_kind c.args.self.now) (count (listed_box c.args.self.now))
    (raw_of c.args.self.now.blank)) c.args.self.now.given_means c.args.self.now.below c.requires.means
    (sym (overlap_inside (listed_box c.args.self.now) (region c.args.subset.now) c.requires.inside)) c.in_ok-at.ensures
    c.shape.ensures.value c.take-before.ensures.value
    (whole_piece (listed_kind c.args.self.now) (region c.args.subset.now) (raw_of c.args.bytes.now))
    c.in_ok-given.ensures.places c.in_ok-given.ensures.within c.in_ok-given.ensures.bytes).below

pub returns-clause-copied : goal.returns-clause-copied
returns-clause-copied c =
    (took (listed_kind c.args.self.now) (listed_box c.args.self.now) (region c.args.subset.now)
    (region c.args.subset.now) (region c.in_ok-at.at) c.shape.result.now
    (blanks (listed_kind c.args.self.now) (count (listed_box c.args.self.now)) (raw_of c.args.self.now.blank))
    (raw_of c.args.bytes.now) (raw_of c.args.bytes.now) c.take-before.result c.args.self.now.given c.in_ok-given.given
    c.requires.rank (blanks_long (listed_kind c.args.self.now) (count (listed_box c.args.self.now))
    (raw_of c.args.self.now.blank)) c.args.self.now.given_means c.args.self.now.below c.requires.means
    (sym (overlap_inside (listed_box c.args.self.now) (region c.args.subset.now) c.requires.inside)) c.in_ok-at.ensures
    c.shape.ensures.value c.take-before.ensures.value
    (whole_piece (listed_kind c.args.self.now) (region c.args.subset.now) (raw_of c.args.bytes.now))
    c.in_ok-given.ensures.places c.in_ok-given.ensures.within c.in_ok-given.ensures.bytes).copied

pub returns-clause-short : goal.returns-clause-short
returns-clause-short c = λ short held.
    let bytes = meaning (listed_kind c.args.self.now) (count (region c.args.subset.now)) (raw_of c.args.bytes.now) in
    record {
      blank = held.blank;
      given = given_short (listed_kind c.args.self.now) _ c.take-before.result c.args.self.now.given c.in_ok-given.given
          (raw_of c.args.bytes.now) _ c.take-before.ensures.value c.args.self.now.given_means
          (some_list bytes c.requires.means) c.in_ok-given.ensures.bytes held.given short;
    }
