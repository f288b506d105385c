-- The summary of replies as the program holds them, whose elements have n bytes.
use Rattle.std.specs.Prelude.{◌≡◌, ◌≤◌, ◌<◌, ℕ, ◌+◌, ◌-◌, ◌/◌, ◌^◌, List, length}
use Rattle.std.specs.List.{sum_by}
use Rattle.zarrs_codec_array_bytes.specs.Raw.{raw_of}
use Rattle.zarr_array.specs.boxes.declared.command.Reply.{Reply}
use Rattle.zarr_array.specs.boxes.declared.command.Reply.TheVariants.{Elements, Done, Refused}
use Rattle.zarr_cli_lines.specs.Place.{fixed_part}
use Rattle.zarr_cli_runs.specs.Summary.{summary_lines}
use Rattle.zarr_cli_runs.specs.declared.tally.Tally.{Tally}

-- 1 for a reply of a kind, and 0 for another
abbrev pub ok_held : Reply → ℕ
ok_held (Elements bytes) = 1
ok_held Done = 0
ok_held (Refused why) = 0

abbrev pub done_held : Reply → ℕ
done_held (Elements bytes) = 0
done_held Done = 1
done_held (Refused why) = 0

abbrev pub refused_held : Reply → ℕ
refused_held (Elements bytes) = 0
refused_held Done = 0
refused_held (Refused why) = 1

-- how many elements of n bytes a reply has
abbrev pub elements_held : ℕ → Reply → ℕ
elements_held n (Elements bytes) = length (fixed_part (raw_of bytes)) / n
elements_held n Done = 0
elements_held n (Refused why) = 0

-- each count of replies may rise by one
pub record MayRise (tally : Tally) : Type 0 where
  pub ok : tally.ok < 2 ^ 64 - 1
  pub done : tally.done < 2 ^ 64 - 1
  pub refused : tally.refused < 2 ^ 64 - 1

-- a reply was counted, whose elements have n bytes; each count of replies rises by one at most
pub record CountsReply (n : ℕ) (reply : Reply) (old new : Tally) : Type 0 where
  pub ok : new.ok ≡ old.ok + ok_held reply
  pub done : new.done ≡ old.done + done_held reply
  pub refused : new.refused ≡ old.refused + refused_held reply
  pub elements : new.elements ≡ old.elements + elements_held n reply
  pub ok_rises : new.ok ≤ old.ok + 1
  pub done_rises : new.done ≤ old.done + 1
  pub refused_rises : new.refused ≤ old.refused + 1

-- a tally counts replies
pub record CountsAll (n : ℕ) (replies : List Reply) (tally : Tally) : Type 0 where
  pub ok : tally.ok ≡ sum_by ok_held replies
  pub done : tally.done ≡ sum_by done_held replies
  pub refused : tally.refused ≡ sum_by refused_held replies
  pub elements : tally.elements ≡ sum_by (elements_held n) replies

-- their summary, with the digest of a text
abbrev pub summary_held : ℕ → List Reply → ℕ → List ℕ → List ℕ
summary_held n held keys text =
    summary_lines (sum_by ok_held held) (sum_by done_held held) (sum_by refused_held held)
    (sum_by (elements_held n) held) keys text
