use Rattle.std.proofs.Common.{◌≡◌, ◌∙◌, true, subst, sym}
use Rattle.zarr_model.specs.Region.{count}
use Rattle.zarr_model.specs.Element.{null}
use Rattle.zarr_model.specs.ArrayBytes.{meaning}
use Rattle.zarrs_array_subset.specs.ArraySubset.{region}
use Rattle.zarrs_codec_array_bytes.specs.Raw.{raw_of}
use Rattle.zarr_array_boxes.specs.Elements.{blanks, list_in}
use Rattle.zarr_array_boxes.specs.Given.{given_alike}
use Rattle.zarr_array_boxes.specs.BoxElements.{listed_kind, listed_box, listed_list}
use Rattle.zarrs_codec_array_bytes_parts.proofs.MeansLaws.{some_list}
use Rattle.zarr_array_boxes.proofs.HeldLaws.{listed-long}
use Rattle.zarr_array_boxes.proofs.MemoryLaws.{part_first, part_second, piece_fits, none_copied}
use Rattle.zarr_array_boxes.proofs.PutLaws.{given_alike_means, took, blanks_long, list_long}
use Rattle.zarr_array_boxes.proofs.ShortLaws.{given_short}
use Rattle.zarr_array_boxes.proofs.listed.ListedBox.put_part.Goals as goal

pub returns-then-is_empty-clause-copied : goal.returns-then-is_empty-clause-copied
returns-then-is_empty-clause-copied c =
    none_copied (listed_box c.args.self.now) (region c.args.subset.now) (region c.in_ok-part.part) null
    (list_in (listed_kind c.args.self.now) (region c.args.subset.now) (raw_of c.args.bytes.now))
    (listed_list c.args.self.now) c.requires.rank c.in_ok-part.ensures (sym c.is_empty.ensures ∙ c.if-is_empty.true)
    (list_long (listed_kind c.args.self.now) (region c.args.subset.now) (raw_of c.args.bytes.now) c.requires.means)
    (listed-long c.args.self.now)

pub piece_in-requires-clause-inside : goal.piece_in-requires-clause-inside
piece_in-requires-clause-inside c =
    part_second (listed_box c.args.self.now) (region c.args.subset.now) (region c.in_ok-part.part)
    c.in_ok-part.ensures c.requires.rank (sym c.is_empty.ensures ∙ c.if-is_empty.false)

pub part_in-requires : goal.part_in-requires
part_in-requires c =
    part_first (listed_box c.args.self.now) (region c.args.subset.now) (region c.in_ok-part.part)
    c.in_ok-part.ensures c.requires.rank (sym c.is_empty.ensures ∙ c.if-is_empty.false)

pub with_piece-requires-clause-inside : goal.with_piece-requires-clause-inside
with_piece-requires-clause-inside c =
    piece_fits (region c.in_ok-part.part) (listed_box c.args.self.now) (region c.in_ok-at.at) c.shape.result.now
    (part_first (listed_box c.args.self.now) (region c.args.subset.now) (region c.in_ok-part.part)
    c.in_ok-part.ensures c.requires.rank (sym c.is_empty.ensures ∙ c.if-is_empty.false)) c.in_ok-at.ensures
    c.shape.ensures.value

pub with_piece-requires-clause-alike : goal.with_piece-requires-clause-alike
with_piece-requires-clause-alike c =
    let bytes = meaning (listed_kind c.args.self.now) (count (region c.args.subset.now)) (raw_of c.args.bytes.now) in
    subst (λ given. given_alike given (raw_of c.in_ok-piece.piece) ≡ true) (sym c.take-before.ensures.value)
    (given_alike_means (listed_kind c.args.self.now) c.args.self.now.given _ (raw_of c.in_ok-piece.piece) _
    c.args.self.now.given_means (c.in_ok-piece.ensures.selected _ (some_list bytes c.requires.means)))

pub invariant_of-self-2-clause-given_means : goal.invariant_of-self-2-clause-given_means
invariant_of-self-2-clause-given_means c =
    (took (listed_kind c.args.self.now) (listed_box c.args.self.now) (region c.args.subset.now)
    (region c.in_ok-part.part) (region c.in_ok-at.at) c.shape.result.now
    (blanks (listed_kind c.args.self.now) (count (listed_box c.args.self.now)) (raw_of c.args.self.now.blank)) (raw_of
    c.args.bytes.now) (raw_of c.in_ok-piece.piece) c.take-before.result c.args.self.now.given c.in_ok-given.given
    c.requires.rank (blanks_long (listed_kind c.args.self.now) (count (listed_box c.args.self.now))
    (raw_of c.args.self.now.blank)) c.args.self.now.given_means c.args.self.now.below c.requires.means
    c.in_ok-part.ensures c.in_ok-at.ensures c.shape.ensures.value c.take-before.ensures.value
    c.in_ok-piece.ensures.selected c.in_ok-given.ensures.places c.in_ok-given.ensures.within
    c.in_ok-given.ensures.bytes).means

pub invariant_of-self-2-clause-below : goal.invariant_of-self-2-clause-below
invariant_of-self-2-clause-below c =
    (took (listed_kind c.args.self.now) (listed_box c.args.self.now) (region c.args.subset.now)
    (region c.in_ok-part.part) (region c.in_ok-at.at) c.shape.result.now
    (blanks (listed_kind c.args.self.now) (count (listed_box c.args.self.now)) (raw_of c.args.self.now.blank)) (raw_of
    c.args.bytes.now) (raw_of c.in_ok-piece.piece) c.take-before.result c.args.self.now.given c.in_ok-given.given
    c.requires.rank (blanks_long (listed_kind c.args.self.now) (count (listed_box c.args.self.now))
    (raw_of c.args.self.now.blank)) c.args.self.now.given_means c.args.self.now.below c.requires.means
    c.in_ok-part.ensures c.in_ok-at.ensures c.shape.ensures.value c.take-before.ensures.value
    c.in_ok-piece.ensures.selected c.in_ok-given.ensures.places c.in_ok-given.ensures.within
    c.in_ok-given.ensures.bytes).below

pub returns-clause-copied : goal.returns-clause-copied
returns-clause-copied c =
    (took (listed_kind c.args.self.now) (listed_box c.args.self.now) (region c.args.subset.now)
    (region c.in_ok-part.part) (region c.in_ok-at.at) c.shape.result.now
    (blanks (listed_kind c.args.self.now) (count (listed_box c.args.self.now)) (raw_of c.args.self.now.blank)) (raw_of
    c.args.bytes.now) (raw_of c.in_ok-piece.piece) c.take-before.result c.args.self.now.given c.in_ok-given.given
    c.requires.rank (blanks_long (listed_kind c.args.self.now) (count (listed_box c.args.self.now))
    (raw_of c.args.self.now.blank)) c.args.self.now.given_means c.args.self.now.below c.requires.means
    c.in_ok-part.ensures c.in_ok-at.ensures c.shape.ensures.value c.take-before.ensures.value
    c.in_ok-piece.ensures.selected c.in_ok-given.ensures.places c.in_ok-given.ensures.within
    c.in_ok-given.ensures.bytes).copied

pub returns-clause-short : goal.returns-clause-short
returns-clause-short c = λ short held.
    let bytes = meaning (listed_kind c.args.self.now) (count (region c.args.subset.now)) (raw_of c.args.bytes.now) in
    record {
      blank = held.blank;
      given = given_short (listed_kind c.args.self.now) _ c.take-before.result c.args.self.now.given c.in_ok-given.given
          (raw_of c.in_ok-piece.piece) _ c.take-before.ensures.value c.args.self.now.given_means
          (c.in_ok-piece.ensures.selected _ (some_list bytes c.requires.means)) c.in_ok-given.ensures.bytes held.given
          (c.in_ok-piece.ensures.short short);
    }
