use Rattle.std.proofs.Common.{Bool, true, Some, None, lit<, subst, arith}
use Rattle.std.proofs.lemmas.Grind.{common_steps}
use Rattle.std.proofs.lemmas.Str.Pattern.{strip_prefix_char}
use Rattle.zarr_cli_lines.specs.ElementText.{element_of}
use Rattle.zarrs_codec_array_bytes.specs.Steps.{kind_seen}
use Rattle.zarrs_codec_array_bytes_parts.specs.OwnedArrayBytes.{owned_raw}
use Rattle.zarr_cli_lines.specs.Put.{PutsElement}
use Rattle.zarr_cli_lines.proofs.PutLaws.{optional_none, some_put}
use Rattle.zarr_cli_lines.proofs.element.+push.Goals as goal

pub push_optional-returns-in_default : goal.push_optional-returns-in_default
push_optional-returns-in_default t c =
    optional_none (kind_seen c.args.inner.now) c.args.text.now _ _ (grind (arith, common_steps))
    (strip_prefix_char 43 c.args.text.now None c.in_default.ensures.cases (lit< tt))

pub push_optional-returns : goal.push_optional-returns
push_optional-returns t c =
    let first = strip_prefix_char 43 c.args.text.now (Some c.in-Some.held) c.in-Some.ensures.cases (lit< tt) in
    let puts : PutsElement (kind_seen c.args.inner.now) (element_of (kind_seen c.args.inner.now) c.in-Some.held.now)
    true
    (owned_raw c.args.under.now) (owned_raw c.push_element.new.into) =
    subst (λ (put : Bool). PutsElement (kind_seen c.args.inner.now) (element_of (kind_seen c.args.inner.now)
    c.in-Some.held.now) put (owned_raw c.args.under.now) (owned_raw c.push_element.new.into)) c.if-not-branch.false
    c.in_ok-push_element.ensures in
    some_put (kind_seen c.args.inner.now) c.args.text.now c.in-Some.held.now (owned_raw c.args.under.now) (owned_raw
    c.push_element.new.into) c.args.mask.now.items c.push-2.new.self.items first puts c.in_ok-push-2.ensures.items
