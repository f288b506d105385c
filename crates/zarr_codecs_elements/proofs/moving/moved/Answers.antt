use Rattle.std.proofs.Common.{◌≡◌, sym, refl, rules, subst, ◌-◌, length, drop}
use Rattle.std.specs.List.{range_with_len}
use Rattle.zarrs_codec_traits.specs.Prelude.{count_of, raw_of, kind_seen}
use Rattle.zarr_codecs_elements.specs.Moved.{moved_places}
use Rattle.zarrs_codec_array_bytes.proofs.ExtractLaws.{valid_long}
use Rattle.zarr_codecs_elements.proofs.MovingLaws.{moved_means, moved_short, stays_means}
use Rattle.zarr_codecs_elements.proofs.moving.moved.Goals as goal

pub picked-requires-clause-bytes : goal.picked-requires-clause-bytes
picked-requires-clause-bytes c =
    let counted : c.unwrap-count.result ≡ count_of c.args.shape.now = search rules in
    rw (c.element_size.ensures, counted) c.requires.fits.bytes

pub picked-requires-clause-long : goal.picked-requires-clause-long
picked-requires-clause-long c =
    let counted : c.unwrap-count.result ≡ count_of c.args.shape.now = search rules in
    let valid = sym (rw counted at c.in_ok-validate.ensures) in
    rw (c.element_size.ensures, counted)
    (valid_long (kind_seen c.args.data_type.now) (count_of c.args.shape.now) (raw_of c.args.bytes) valid)

pub returns-then-leading-eq0-clause-value : goal.returns-then-leading-eq0-clause-value
returns-then-leading-eq0-clause-value c =
    let order = c.args.order.now in
    let counted : c.unwrap-count.result ≡ count_of c.args.shape.now = search rules in
    let valid = sym (rw counted at c.in_ok-validate.ensures) in
    let stays =
    subst (λ n. drop n order ≡ range_with_len n (length order - n)) c.if-leading-eq0.true c.leading.ensures.rest in
    stays_means (kind_seen c.args.data_type.now) order c.args.shape.now (raw_of c.args.bytes) c.requires.order
    c.requires.rank stays valid

pub returns-clause-value : goal.returns-clause-value
returns-clause-value c =
    let counted : c.unwrap-count.result ≡ count_of c.args.shape.now = search rules in
    let valid = sym (rw counted at c.in_ok-validate.ensures) in
    let made = rw (c.element_size.ensures, counted) at c.in_ok-out.ensures.value in
    moved_means (kind_seen c.args.data_type.now) c.args.order.now c.args.shape.now (moved_places c.args.order.now
    c.args.shape.now) (raw_of c.args.bytes) (raw_of c.in_ok-out.out) c.requires.order c.requires.rank refl valid made

pub returns-clause-short : goal.returns-clause-short
returns-clause-short c =
    let counted : c.unwrap-count.result ≡ count_of c.args.shape.now = search rules in
    let valid = sym (rw counted at c.in_ok-validate.ensures) in
    let made = rw (c.element_size.ensures, counted) at c.in_ok-out.ensures.value in
    moved_short (kind_seen c.args.data_type.now) c.args.order.now c.args.shape.now (moved_places c.args.order.now
    c.args.shape.now) (raw_of c.args.bytes) (raw_of c.in_ok-out.out) c.requires.order c.requires.rank refl valid made
