-- Steps of reading elements through a codec.
use Rattle.std.proofs.Common.{◌≡◌, true, false, Some, None, Result, Ok, Err, IfOk, IfErr, refl, sym, ap, ◌∙◌}
use Rattle.std.proofs.Common.{subst, inl}
use Rattle.zarrs_codec.specs.Prelude.{Region, whole, fill_element, kind_of, Options, has_long_element, raw_of}
use Rattle.zarrs_codec.specs.Prelude.{IsNoFault, RefusesFor, IsListError, ReadsList}
use Rattle.zarrs_codec_error.specs.declared.error.CodecError.{CodecError}
use Rattle.zarrs_codec_error.specs.declared.error.CodecError.TheVariants as codec
use Rattle.zarrs_codec_array_bytes.specs.declared.array_bytes.ArrayBytes as code
use Rattle.zarrs_codec_traits.proofs.FaultLaws.{memory_no_fault}
use Rattle.zarrs_codec.proofs.FaultLaws.{no_fault, no_faults}
use Rattle.zarrs_codec.proofs.NamedLaws.{refused_memory}
use Rattle.zarrs_codec.proofs.UpdateLaws.{keeps_self}
use Rattle.zarrs_codec.specs.declared.array_partial_decoder.ArrayPartialDecoderTraits as decoder
use Rattle.zarrs_codec.proofs.SelectsLaws.{reads_still}
use Rattle.zarrs_codec_partial_elements.specs.Boxes.{Denotes}
use Rattle.zarrs_codec_partial_elements.specs.Steps.{ReadsStep, ReadsHeld}
use Rattle.zarrs_codec_partial_elements.proofs.ReadLaws.{told_first}
use Rattle.zarrs_codec_partial_elements.proofs.StepLaws.{none_smaller}
use Rattle.zarrs_codec_partial.specs.Above.{CodecSeen, level_below, list_above, seen_above, box_for, asked_box_below}
use Rattle.zarrs_codec_partial.specs.Reading.{Asked, every_element, own_box, box_read, choice_of, ReadsBelow, ReadsAsked}
use Rattle.zarrs_codec_partial.proofs.AboveLaws.{above_told, below_served, below_short, raised_reads}
use Rattle.zarrs_codec_partial.proofs.ServedLaws.{named_above}

module _ {A : Type 0} (H : decoder.Ghosts A) where
  -- nothing is asked for
  pub below_early : (box : Region) (old : A) (e : CodecError) → H.same old old → IsNoFault e →
      ReadsBelow H box old old (Err e)
  below_early box old e same own = record {
    reads =
        record { keeps = keeps_self (H.seen old); asks = tt; asks_err = inl refl; taken = tt; taken_err = inl refl };
    same = same;
    tells = λ under asked e told. told;
    fault = no_fault _ _ e own;
    short = λ served few. tt;
  }

  -- what was read is made into something else, which has no fault of its own
  pub below_still : (box other : Region) (old new : A) (v : code.ArrayBytes) (r : Result code.ArrayBytes CodecError) →
      box ≡ other → ReadsBelow H box old new (Ok v)
      → (has_long_element (raw_of v) ≡ false → IfOk r (λ w. has_long_element (raw_of w) ≡ false)) → IfErr r IsNoFault →
      ReadsBelow H other old new r
  below_still box other old new v r is below short own =
      let still : ReadsBelow H box old new r = record {
        reads = reads_still (Some box) (H.seen old) (H.seen new) v r below.reads;
        same = below.same;
        tells = below.tells;
        fault = no_faults _ _ r own;
        short = λ served few. short (below.short served few);
      } in
      subst (λ (b : Region). ReadsBelow H b old new r) is still

module _ {A : Type 0} (H : decoder.Ghosts A) (at : CodecSeen) (under : Options) where
  -- memory runs out before anything is asked for
  pub reads_early : (asked : Asked) (old : A) (e : CodecError) → H.same old old → e ≡ codec.OutOfMemory →
      ReadsAsked H at under asked old old (Err e)
  reads_early asked old e same is = record {
    gives = λ served. record {
      value = λ xs is. tt;
      valid = tt;
      failed = inl (inl is);
      decodes = λ there all. tt;
      all = λ none. tt;
    };
    named = refused_memory _ (H.seen old).unserved e is;
    below = below_early H (box_read at asked) old e same (memory_no_fault e is);
  }

  -- what is below does not give the box
  pub reads_failed : (asked : Asked) (box : Region) (old new : A) (e : CodecError) → box ≡ box_read at asked
      → ((H.seen old).unserved ≡ None → IsListError (H.seen old).there ((H.seen old).list under)
      (H.tells old under (Some box)) (H.seen old).shown.faults (H.seen new).shown.faults e)
      → RefusesFor {T = code.ArrayBytes} (H.seen old).unserved (Err e) → ReadsBelow H box old new (Err e) →
      ReadsAsked H at under asked old new (Err e)
  reads_failed asked box old new e is told named below = record {
    gives = λ served. record {
      value = λ xs is. tt;
      valid = tt;
      failed = above_told (at.meaning.decode_list at.level) ((H.seen old).list under) (H.seen old).there
          (H.tells old under (Some (box_read at asked))) _ _ e
          (subst (λ (b : Region). IsListError (H.seen old).there ((H.seen old).list under) (H.tells old under (Some b))
          (H.seen old).shown.faults (H.seen new).shown.faults e) is
          (told (below_served at.unserved (H.seen old).unserved (fill_element (kind_of at.level.data_type) at.fill)
          served)));
      decodes = λ there all. tt;
      all = λ none. tt;
    };
    named = named;
    below = subst (λ (b : Region). ReadsBelow H b old new (Err e)) is below;
  }

  -- a step as one of any level
  pub step_of : (asked : Asked) (old new : A) (r : Result code.ArrayBytes CodecError) → at.unserved ≡ None →
      Denotes at.level at.fill → ReadsAsked H at under asked old new r →
      ReadsStep under (own_box asked) (λ level. choice_of level asked) (λ under other e. H.tells old under
      (Some (asked_box_below at.region_below at.level.shape (level_below at).shape other)) e)
      (seen_above at (H.seen old)) (seen_above at (H.seen new)) r
  step_of asked old new r own some reads = record {
    selects = λ other is.
        let same : box_read at asked ≡ asked_box_below at.region_below at.level.shape (level_below at).shape other =
        sym (ap (box_for (at.region_below at.level.shape) (whole (level_below at).shape)) is) in
        record {
          value = λ list served e. (reads.gives served).value list e;
          valid = λ served filled. (reads.gives served).valid;
          failed = λ served ok. subst (λ (b : Region). IfErr r (IsListError (H.seen old).there
              (list_above at ((H.seen old).list under)) (H.tells old under (Some b)) (H.seen old).shown.faults
              (H.seen new).shown.faults)) same (reads.gives served).failed;
          decodes = λ served there all. (reads.gives served).decodes there
              (subst (λ (b : Region). (H.seen old).whole (Some b) ≡ true) (sym same) all);
          all = λ served filled all. (reads.gives served).all (sym is ∙ none_smaller at.level.shape other all);
          named = λ ok. named_above at.unserved (H.seen old).unserved
              (fill_element (kind_of at.level.data_type) at.fill) r own some reads.named;
          short = λ served few. reads.below.short (below_served _ _ _ served) (below_short _ _ few);
          fault = reads.below.fault;
          reads = raised_reads at.level at.fill at.unserved at.meaning at.region_below other (H.seen old) (H.seen new) r
              (subst (λ (b : Region). ReadsList (Some b) (H.seen old) (H.seen new) r) same reads.below.reads);
        };
    valid = λ served. (reads.gives served).valid;
  }

  -- all elements, to be changed
  pub held_of : (old new : A) (r : Result code.ArrayBytes CodecError) → at.unserved ≡ None → Denotes at.level at.fill →
      ReadsAsked H at under every_element old new r → ReadsHeld under
      (H.tells old under (Some (whole (level_below at).shape))) (seen_above at (H.seen old))
      (seen_above at (H.seen new)) r
  held_of old new r own some reads = record {
    value = λ xs served e. (reads.gives served).value xs e;
    valid = λ served. (reads.gives served).valid;
    decodes = λ served. (reads.gives served).all refl;
    failed = λ served. told_first _ _ r (reads.gives served).failed;
    named = named_above at.unserved (H.seen old).unserved (fill_element (kind_of at.level.data_type) at.fill) r own some
        reads.named;
    short = λ served few. reads.below.short (below_served _ _ _ served) (below_short _ _ few);
    fault = reads.below.fault;
    reads = raised_reads at.level at.fill at.unserved at.meaning at.region_below None (H.seen old) (H.seen new) r
        reads.below.reads;
  }
