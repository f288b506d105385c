use Rattle.zarrs_codec_traits.specs.Prelude.{fill_element, kind_of, fill_bytes, type_of}
use Rattle.zarr_model.proofs.ElementLaws.{denoted}
use Rattle.zarrs_codec_traits.proofs.FillLaws.{element_bytes}
use Rattle.zarr_codec_chain.proofs.BuildLaws.{ready_as}
use Rattle.zarr_codec_chain.proofs.levels.ChunkLevels.of.Goals as goal

pub levels_down-requires : goal.levels_down-requires
levels_down-requires g c =
    let kind = kind_of (type_of c.args.data_type.now) in
    let fill = fill_bytes c.args.fill_value.now in
    let denotes = denoted (fill_element kind fill) c.requires.denotes in
    record {
      ready = ready_as _ _ _ _ c.in_ok-first.ensures.level c.in_ok-first.ensures.fill (record {
        fit = c.requires.fits;
        denotes = denotes;
        proper = element_bytes kind fill _ c.in_ok-first.ensures.proper denotes;
      });
    }
