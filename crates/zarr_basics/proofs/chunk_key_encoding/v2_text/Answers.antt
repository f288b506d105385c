use Rattle.std.proofs.Common.{◌∙◌, sym}
use Rattle.zarrs_metadata_parts.specs.Names.{separator_code}
use Rattle.zarr_basics.proofs.V2KeyLaws.{v2_key_is}
use Rattle.zarr_basics.proofs.chunk_key_encoding.v2_text.Goals as goal

pub returns-in_ok-text-in-len1-up : goal.returns-in_ok-text-in-len1-up
returns-in_ok-text-in-len1-up c =
    c.in_ok-text-in-len1-up.ensures
    ∙ sym (v2_key_is (separator_code c.args.separator) 0 c.args.chunk_indices.now c.in-len1-up.len_at_least)
