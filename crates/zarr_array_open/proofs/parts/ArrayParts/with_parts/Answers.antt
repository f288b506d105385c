use Rattle.std.proofs.Common.{sym, ap, ◌∙◌}
use Rattle.zarrs_data_type.specs.DataType.{type_of}
use Rattle.zarr_array_open.specs.Sizes.{are_countable}
use Rattle.zarr_array_open.specs.Opening.{is_opened}
use Rattle.zarr_array_open.specs.Chain.{chain_form}
use Rattle.zarr_array_open.proofs.ServingLaws.{chain_serves}
use Rattle.zarr_array_open.proofs.parts.ArrayParts.with_parts.Goals as goal

pub is_large-requires : goal.is_large-requires
is_large-requires c =
    record {
      served = (chain_serves (chain_form c.args.chain) (type_of c.args.data_type) c.in_ok-expect_chain.ensures).bytes;
    }

pub invariant_of-result : goal.invariant_of-result
invariant_of-result c = record {
  proper = c.requires.proper;
  filled = c.requires.filled;
  countable = ap are_countable (sym c.grid_shape.ensures) ∙ c.countable.ensures;
  fits = sym c.is_large.ensures ∙ c.if-is_large.false;
  served = ap is_opened c.in_ok-expect_chain.ensures;
  ranked = c.requires.ranked;
}
