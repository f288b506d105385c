use Rattle.std.proofs.Common.{◌≡◌, None, [], sym, subst}
use Rattle.zarrs_codec_array_bytes.specs.Refusals.{kind_refusal}
use Rattle.zarrs_codec_array_bytes.specs.Steps.{kind_seen}
use Rattle.zarrs_codec_array_bytes_parts.specs.OwnedArrayBytes.{owned_raw}
use Rattle.zarr_cli_lines.proofs.ListLaws.{all_put, listed_of}
use Rattle.zarr_cli_lines.proofs.list.grow_elements.Goals as goal

pub elements-init : goal.elements-init
elements-init c = record {
  of_kind = subst (λ b. kind_refusal (kind_seen c.args.data_type.now) b ≡ None) (sym c.in_ok-elements.ensures)
      (listed_of (kind_seen c.args.data_type.now) []);
  put = all_put (kind_seen c.args.data_type.now) _ (owned_raw c.in_ok-elements.elements) c.in_ok-elements.ensures;
}
