use Rattle.std.proofs.Common.{refl, Err}
use Rattle.zarrs_codec_traits.specs.Prelude.{kind_of, fill_element, other_fill}
use Rattle.zarrs_codec_traits.proofs.FaultLaws.{told_no_fault, served_no_fault, fill_no_fault}
use Rattle.zarrs_codec_traits.proofs.LevelLaws.{served_ok}
use Rattle.zarrs_codec_partial_elements.proofs.DenotesLaws.{none_some}
use Rattle.zarrs_codec_partial.specs.Above.{codec_seen}
use Rattle.zarrs_codec_partial.proofs.ServedLaws.{named_fill, named_own}
use Rattle.zarrs_codec_partial.proofs.level.ArrayLevel.expect_served.Goals as goal

pub returns-in-Ok-encoded_representation : goal.returns-in-Ok-encoded_representation
returns-in-Ok-encoded_representation g c =
    let at = codec_seen g.C.ArrayCodecTraits g.C.ArrayToArrayCodecTraits c.args.self.now in
    record {
      served = served_ok at.unserved _ (rw c.deref.ensures.value at c.in-Ok-encoded_representation.ensures.unserved);
      denotes = c.in-Ok.ensures.denotes;
      memory = λ served filled. tt;
      named = λ below. tt;
      no_fault = tt;
    }

pub returns-in-Ok : goal.returns-in-Ok
returns-in-Ok g c =
    let at = codec_seen g.C.ArrayCodecTraits g.C.ArrayToArrayCodecTraits c.args.self.now in
    let refuses = rw c.deref.ensures.value at c.in-Err-encoded_representation.ensures.unserved in
    let memory = rw c.deref.ensures.value at c.in-Err-encoded_representation.ensures.value in
    let exact = rw c.deref.ensures.value at c.in-Err-encoded_representation.ensures.exact in
    record {
      served = tt;
      denotes = tt;
      memory = memory;
      named = λ below. named_own _ _ at.unserved below (fill_element (kind_of at.level.data_type) at.fill)
          c.in-Err-encoded_representation.error c.in-Ok.ensures.denotes refuses
          (λ served. memory served c.in-Ok.ensures.denotes);
      no_fault = served_no_fault at.unserved (Err c.in-Err-encoded_representation.error) refuses
          (λ served. fill_no_fault _ (Err c.in-Err-encoded_representation.error) (exact served));
    }

pub returns : goal.returns
returns g c =
    let at = codec_seen g.C.ArrayCodecTraits g.C.ArrayToArrayCodecTraits c.args.self.now in
    record {
      served = tt;
      denotes = tt;
      memory = λ served filled. none_some _ c.in-Err.ensures.refused filled;
      named = λ below. named_fill _ at.unserved below (fill_element (kind_of at.level.data_type) at.fill) c.in-Err.error
          c.in-Err.ensures.refused c.in-Err.ensures.told;
      no_fault = told_no_fault c.in-Err.error other_fill refl c.in-Err.ensures.told;
    }
