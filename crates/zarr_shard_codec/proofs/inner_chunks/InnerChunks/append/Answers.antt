use Rattle.std.proofs.Common.{rules, ◌≡◌, ◌++◌, Some, sym, ap, ◌∙◌, subst, arith}
use Rattle.zarrs_codec_traits.specs.Prelude.{raw_of, options_of, list_at}
use Rattle.zarr_shard_codec.specs.Pair.{pair_seen}
use Rattle.zarr_shard_codec.proofs.EncodeLaws.{left_out, appended}
use Rattle.zarr_shard_codec.proofs.InnerLaws.{decoded_is}
use Rattle.zarr_shard_codec.proofs.inner_chunks.InnerChunks.append.Goals as goal

pub returns-then-is_left_out : goal.returns-then-is_left_out
returns-then-is_left_out c = λ list means.
    let both = c.is_left_out.ensures.out list means c.if-is_left_out.true in
    left_out c.args.self.now.codec.now (options_of c.args.options.now) list c.args.front.now.items
    (pair_seen c.absent.result) c.absent.ensures both.0 both.1

pub returns : goal.returns
returns c = λ list means.
    let inner = c.args.self.now in
    let first =
    subst (λ level. list_at level (raw_of c.args.elements) ≡ Some list) (sym c.requires.inner.serves.level) means in
    let new = c.extend_from_slice.new.self in
    appended inner.codec.now (options_of c.args.options.now) list c.args.front.now.items c.in_ok-value.value.items
    new.items
    (pair_seen (record { offset = c.len-offset.result; size = c.len.result }))
    (c.in_ok-extend_from_slice.ensures.items ∙ ap (λ xs. c.args.front.now.items ++ xs) c.deref.ensures.value)
    (let small = new.small in omega (arith, small)) (search rules) (search rules)
    (λ off same. c.is_left_out.ensures.kept list means c.if-is_left_out.false off same)
    (λ under. sym (decoded_is inner c.requires.inner c.chain-chain.result.now c.chain-chain.ensures under
    c.in_ok-value.value.items) ∙ c.in_ok-value.ensures.value list first under)
