use Rattle.std.proofs.Common.{arith, ◌-◌, ◌≡◌, subst, ℕ}
use Rattle.std.proofs.lemmas.Grind.{common_steps}
use Rattle.zarr_codecs_to_bytes.specs.Values.{AreValues}
use Rattle.zarr_codecs_to_bytes.proofs.ValueLaws.{none_left, next_decoded, next_values, more_left, all_taken}
use Rattle.zarr_codecs_to_bytes.proofs.values.decode_items.Goals as goal

pub returns-in_default : goal.returns-in_default
returns-in_default c = none_left c.loop-left.left c.loop-left.rest.now c.loop-left.bytes.items c.loop-left.offsets.items
    _ c.loop-left-test.true c.in_default.ensures c.loop-left.invariant.decoded

pub loop-left-preserved : goal.loop-left-preserved
loop-left-preserved c = record {
  decoded = next_decoded c.loop-left.left c.args.elements c.loop-left.rest.now c.in-Some.behind.now c.in-Some.item.now
      c.loop-left.bytes.items c.loop-left.offsets.items c.push_value.new.bytes.items c.push_value.new.offsets.items _
      c.loop-left-test.true c.loop-left.invariant.values c.in-Some.ensures c.loop-left.invariant.decoded
      c.in_ok-push_value.ensures.0 c.in_ok-push_value.ensures.1;
  values = next_values c.loop-left.left c.args.elements c.in-Some.item.now c.loop-left.bytes.items
      c.loop-left.offsets.items c.push_value.new.bytes.items c.push_value.new.offsets.items
      c.loop-left-test.true c.loop-left.invariant.most c.loop-left.invariant.values c.in-Some.ensures.short
      c.in_ok-push_value.ensures.0 c.in_ok-push_value.ensures.1;
  most = omega (arith, c.loop-left.invariant.most);
}

pub returns-then-not-is_empty : goal.returns-then-not-is_empty
returns-then-not-is_empty c = more_left c.loop-left.left c.loop-left.rest.now c.loop-left.bytes.items
    c.loop-left.offsets.items _ c.loop-left-test.false (grind (arith, common_steps)) c.loop-left.invariant.decoded

pub returns : goal.returns
returns c =
    let all : c.args.elements - c.loop-left.left ≡ c.args.elements = omega (arith, c.loop-left-test.false) in
    record {
      decoded = all_taken c.loop-left.left c.args.elements c.loop-left.rest.now c.loop-left.bytes.items
          c.loop-left.offsets.items _ c.loop-left-test.false (grind (arith, common_steps))
          c.loop-left.invariant.decoded;
      values = subst (λ (n : ℕ). AreValues n c.loop-left.bytes.items c.loop-left.offsets.items) all
          c.loop-left.invariant.values;
    }
