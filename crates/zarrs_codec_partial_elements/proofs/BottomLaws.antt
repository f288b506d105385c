-- The steps of an array-to-bytes codec with its level, as those of any level.
use Rattle.std.proofs.Common.{◌≡◌, ◌∙◌, Bool, true, List, ℕ, Option, None, option_and_then, Result, IfErr, refl}
use Rattle.std.proofs.Common.{sym, ap, subst, inl, inr}
use Rattle.std.proofs.lemmas.Bool.{ltb-true}
use Rattle.zarr_model.proofs.Choices.{none_of}
use Rattle.zarrs_storage.specs.declared.byte_range.ByteRange.{ByteRange}
use Rattle.zarrs_codec.specs.Prelude.{Region, Element, DataType, Level, Options, Unserved, unserved_at, Seen, ReadsRanges}
use Rattle.zarrs_codec.specs.Prelude.{Choice, IsListError}
use Rattle.zarrs_codec_error.specs.declared.error.CodecError.{CodecError}
use Rattle.zarrs_codec_array_bytes.specs.declared.array_bytes.ArrayBytes as code
use Rattle.zarrs_codec_partial_elements.specs.declared.level.BottomLevel.{BottomLevel}
use Rattle.zarrs_codec_partial_elements.specs.Level.{level_of_bottom, bottom_fill, IsServedBottom, bottom_list_in}
use Rattle.zarrs_codec_partial_elements.specs.Level.{says_in, request_of, request_for, seen_by}
use Rattle.zarrs_codec_partial_elements.specs.Reading.{ReadsElements, ReadsOld}
use Rattle.zarrs_codec_partial_elements.specs.Steps.{ReadsStep, ReadsHeld}
use Rattle.zarrs_codec_partial_elements.proofs.HeldLaws.{listed_reads, list_told}
use Rattle.zarrs_codec_partial_elements.proofs.ServedLaws.{served_for}
use Rattle.zarrs_codec_partial_elements.proofs.StepLaws.{none_smaller}

module _ {B X : Type 0} {unserved : B → Option (List ℕ) → Option DataType → Option (List ℕ) → Option Unserved}
    {meaning : B → Options → Level → List ℕ → Option (List Element)}
    {says : B → Options → Level → List ℕ → CodecError → Type 0} {seen : X → Seen}
    {Tells : X → Options → Option (List ByteRange) → CodecError → Type 0} {Same : X → X → Type 0}
    {bottom : BottomLevel B} {under : Options} {old new : X} where
  -- a read of the ranges that are asked for a box, or of the whole value
  pub step_of : (request : B → List ℕ → DataType → Region → Option (List ByteRange)) (box : Option Region)
      (choice : Level → Choice) (result : Result code.ArrayBytes CodecError) → IsServedBottom unserved bottom →
      ReadsElements unserved meaning says seen Tells Same bottom choice
      (option_and_then (request_of request bottom) box) true under old new result →
      ReadsStep under box choice (λ under asked e. says_in meaning says bottom (Tells old) (seen old) under
      (request_for request bottom asked) e) (seen_by unserved meaning request bottom (seen old))
      (seen_by unserved meaning request bottom (seen new)) result
  step_of request box choice result own read = record {
    selects = λ asked is.
        let ranges : option_and_then (request_of request bottom) box ≡ request_for request bottom asked =
        sym (ap (option_and_then (request_of request bottom)) is) in
        record {
          value = λ list served e. (read.gives own).value list e;
          valid = λ served filled. (read.gives own).valid;
          failed = λ served ok. subst (λ (r : Option (List ByteRange)).
              IfErr result (IsListError (seen old).there (bottom_list_in meaning bottom (seen old) under)
              (says_in meaning says bottom (Tells old) (seen old) under r) (seen old).shown.faults
              (seen new).shown.faults)) ranges (read.failed own refl);
          decodes = λ served there whole. read.decodes own (ranges ∙ none_of _ whole) (inl there);
          all = λ served filled all. read.decodes own (ap (option_and_then (request_of request bottom))
              (sym is ∙ none_smaller (level_of_bottom bottom).shape asked all)) (inr filled);
          named = λ ok. served_for _ result own;
          short = λ served few. (read.gives own).short (ltb-true _ _ few);
          fault = read.fault;
          reads = listed_reads (level_of_bottom bottom) (bottom_fill bottom)
              (unserved_at (unserved bottom.codec) (level_of_bottom bottom) (bottom_fill bottom))
              (λ under. meaning bottom.codec under (level_of_bottom bottom)) (request_of request bottom) asked
              (seen old) (seen new) result (subst (λ (r : Option (List ByteRange)).
              ReadsRanges r (seen old) (seen new) result) ranges read.reads);
        };
    valid = λ served. (read.gives own).valid;
  }

  -- what it tells afterwards
  pub told_of : {choice : Level → Choice} {asked : Option (List ByteRange)} {in_order : Bool}
      {result : Result code.ArrayBytes CodecError} →
      ReadsElements unserved meaning says seen Tells Same bottom choice asked in_order under old new result →
      (options : Options) (ranges : Option (List ByteRange)) (e : CodecError) →
      says_in meaning says bottom (Tells new) (seen new) options ranges e →
      says_in meaning says bottom (Tells old) (seen old) options ranges e
  told_of read options ranges e told = list_told (level_of_bottom bottom) (bottom_fill bottom)
      (meaning bottom.codec options (level_of_bottom bottom))
      (says bottom.codec options (level_of_bottom bottom)) ranges e (Tells old options) (Tells new options) (seen old)
      (seen new) options read.reads.keeps
      (read.tells options ranges e) told

  -- all elements, to be changed
  pub held_of : (request : B → List ℕ → DataType → Region → Option (List ByteRange))
      (result : Result code.ArrayBytes CodecError) → IsServedBottom unserved bottom →
      ReadsOld unserved meaning says seen Tells Same request bottom under old new result →
      ReadsHeld under (says_in meaning says bottom (Tells old) (seen old) under None)
      (seen_by unserved meaning request bottom (seen old)) (seen_by unserved meaning request bottom (seen new)) result
  held_of request result own read = record {
    value = λ xs served e. (read.gives own).value xs e;
    valid = λ served. (read.gives own).valid;
    decodes = λ served. read.decodes own;
    failed = λ served. read.failed own;
    named = served_for _ result own;
    short = λ served few. (read.gives own).short (ltb-true _ _ few);
    fault = read.fault;
    reads = listed_reads (level_of_bottom bottom) (bottom_fill bottom)
        (unserved_at (unserved bottom.codec) (level_of_bottom bottom) (bottom_fill bottom))
        (λ under. meaning bottom.codec under (level_of_bottom bottom)) (request_of request bottom) None (seen old)
        (seen new) result read.reads;
  }
