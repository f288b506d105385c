-- What was read so far, with more behind it.
use Rattle.std.proofs.Common.{◌≡◌, ℕ, ◌+◌, ◌<◌, ◌≤◌, Some, Result, Ok, Err, IfErr, Bool, true, false, ◌==◌, List}
use Rattle.std.proofs.Common.{[], ◌∷◌, ◌++◌, length, map, IsUtf8, String, string_bytes, refl, sym, ap, ◌∙◌}
use Rattle.std.proofs.Common.{subst, arith, ◌⊎◌, ⊎_elim, append_assoc, append-nil}
use Rattle.std.specs.declared.alloc.Global.{Global}
use Rattle.std.proofs.lemmas.List.{map-append}
use Rattle.std.proofs.lemmas.List.Elements.{All-append, All-nil}
use Rattle.std.proofs.lemmas.List.{length-map}
use Rattle.std.proofs.lemmas.Str.{IsUtf8-append, IsUtf8-string_bytes}
use Rattle.std.specs.Str.{IsValidUpTo}
use Rattle.zarr_model.specs.Prelude.{Told}
use Rattle.zarr_cli.specs.declared.lines.InputFault.{InputFault}
use Rattle.zarr_cli.specs.declared.lines.InputFault.TheVariants.{Read, TooLong, NotUtf8, OutOfMemory}
use Rattle.zarr_cli.specs.Input.{input_limit, IsInputFault}
use Rattle.zarr_cli_runs.specs.lines.Text.{input_lines, line_at}
use Rattle.zarr_cli.proofs.LineLaws.{utf8_ended, lines_ended, lines_behind, no_lines, bad_line, ends_none, ends_newline}
use Rattle.zarr_cli.specs.Steps.{with_newlines, NoNewline, AreWhole, IsBehind, AreRead, IsTextFault}
use Rattle.zarr_cli.specs.declared.read.LinesSoFar.{LinesSoFar}

ended_push : (lines : List (List ℕ)) (line : List ℕ) →
    with_newlines (lines ++ line ∷ []) ≡ with_newlines lines ++ (line ++ 10 ∷ [])
ended_push [] line = append-nil (line ++ 10 ∷ [])
ended_push (first ∷ lines) line = ap (λ l. (first ++ 10 ∷ []) ++ l) (ended_push lines line)
    ∙ sym (append_assoc (first ++ 10 ∷ []) (with_newlines lines) (line ++ 10 ∷ []))

whole_push : (lines : List (List ℕ)) (line : List ℕ) → AreWhole lines → NoNewline line → AreWhole (lines ++ line ∷ [])
whole_push [] line all none = (none, tt)
whole_push (first ∷ lines) line all none = (all.0, whole_push lines line all.1 none)

-- the front of the next line, where the last one was UTF-8
front : (bad : Bool) (line behind : List ℕ) → bad ≡ false → IsBehind bad line behind → (behind ≡ line) × NoNewline line
front bad line behind good is = subst (λ b. IsBehind b line behind) good is

pub line_ended : (taken bytes : List ℕ) (old new : LinesSoFar) (line : String Global) → old.bad ≡ false →
    NoNewline bytes → string_bytes line ≡ old.line.items ++ bytes →
    new.lines.items ≡ old.lines.items ++ line ∷ [] → new.line.items ≡ [] → new.bad ≡ false → AreRead taken old →
    AreRead (taken ++ (bytes ++ 10 ∷ [])) new
line_ended taken bytes old new line good none is pushed empty still read =
    let old_lines = map string_bytes old.lines.items in
    let behind = front old.bad old.line.items read.behind good read.is_behind in
    let all : map string_bytes new.lines.items ≡ old_lines ++ string_bytes line ∷ [] =
    ap (map string_bytes) pushed ∙ map-append string_bytes old.lines.items (line ∷ []) in
    record {
      whole = subst AreWhole (sym all) (whole_push old_lines (string_bytes line) read.whole
          (subst NoNewline (sym is) (All-append (λ b. (b == 10) ≡ false) old.line.items bytes behind.1 none)));
      behind = [];
      joined = ap (λ t. t ++ (bytes ++ 10 ∷ [])) (read.joined ∙ ap (λ b. with_newlines old_lines ++ b) behind.0)
          ∙ (append_assoc (with_newlines old_lines) old.line.items (bytes ++ 10 ∷ [])
          ∙ (ap (λ l. with_newlines old_lines ++ l) (sym (append_assoc old.line.items bytes (10 ∷ []))
          ∙ ap (λ l. l ++ 10 ∷ []) (sym is))
          ∙ (sym (ended_push old_lines (string_bytes line))
          ∙ (ap with_newlines (sym all) ∙ sym (append-nil (with_newlines (map string_bytes new.lines.items)))))));
      is_behind = subst (λ b. IsBehind b new.line.items []) (sym still)
          (sym empty, subst NoNewline (sym empty) (All-nil (λ b. (b == 10) ≡ false)));
    }

pub line_bad : (taken bytes : List ℕ) (old new : LinesSoFar) → old.bad ≡ false → NoNewline bytes →
    ¬ (IsUtf8 (old.line.items ++ bytes)) →
    new.lines.items ≡ old.lines.items → new.bad ≡ true → AreRead taken old → AreRead (taken ++ (bytes ++ 10 ∷ [])) new
line_bad taken bytes old new good none bad same still read =
    let old_lines = map string_bytes old.lines.items in
    let behind = front old.bad old.line.items read.behind good read.is_behind in
    record {
      whole = subst (λ items. AreWhole (map string_bytes items)) (sym same) read.whole;
      behind = (old.line.items ++ bytes) ++ 10 ∷ [];
      joined = ap (λ t. t ++ (bytes ++ 10 ∷ [])) (read.joined ∙ ap (λ b. with_newlines old_lines ++ b) behind.0)
          ∙ (append_assoc (with_newlines old_lines) old.line.items (bytes ++ 10 ∷ [])
          ∙ (ap (λ l. with_newlines old_lines ++ l) (sym (append_assoc old.line.items bytes (10 ∷ [])))
          ∙ ap (λ items. with_newlines (map string_bytes items) ++ ((old.line.items ++ bytes) ++ 10 ∷ [])) (sym same)));
      is_behind = subst (λ b. IsBehind b new.line.items ((old.line.items ++ bytes) ++ 10 ∷ [])) (sym still) (
        old.line.items ++ bytes,
        [],
        refl,
        All-append (λ b. (b == 10) ≡ false) old.line.items bytes behind.1 none,
        bad,
      );
    }

-- what follows such a line is not kept
pub bad_stays : (taken more : List ℕ) (so_far : LinesSoFar) → so_far.bad ≡ true → AreRead taken so_far →
    AreRead (taken ++ more) so_far
bad_stays taken more so_far bad read =
    let (line, rest, parts, none, not_utf8) =
    subst (λ b. IsBehind b so_far.line.items read.behind) bad read.is_behind in
    record {
      whole = read.whole;
      behind = read.behind ++ more;
      joined = ap (λ t. t ++ more) read.joined
          ∙ append_assoc (with_newlines (map string_bytes so_far.lines.items)) read.behind more;
      is_behind = subst (λ b. IsBehind b so_far.line.items (read.behind ++ more)) (sym bad)
          (line, rest ++ more, ap (λ b. b ++ more) parts ∙ append_assoc line (10 ∷ rest) more, none, not_utf8);
    }

-- the front of the next line
pub front_kept : (taken more : List ℕ) (old new : LinesSoFar) → old.bad ≡ false → NoNewline more →
    new.lines.items ≡ old.lines.items → new.line.items ≡ old.line.items ++ more → new.bad ≡ old.bad →
    AreRead taken old → AreRead (taken ++ more) new
front_kept taken more old new good none same longer still read =
    let old_lines = map string_bytes old.lines.items in
    let behind = front old.bad old.line.items read.behind good read.is_behind in
    record {
      whole = subst (λ items. AreWhole (map string_bytes items)) (sym same) read.whole;
      behind = old.line.items ++ more;
      joined = ap (λ t. t ++ more) (read.joined ∙ ap (λ b. with_newlines old_lines ++ b) behind.0)
          ∙ (append_assoc (with_newlines old_lines) old.line.items more
          ∙ ap (λ items. with_newlines (map string_bytes items) ++ (old.line.items ++ more)) (sym same));
      is_behind = subst (λ b. IsBehind b new.line.items (old.line.items ++ more)) (sym (still ∙ good)) (
        sym longer,
        subst NoNewline (sym longer) (All-append (λ b. (b == 10) ≡ false) old.line.items more behind.1 none),
      );
    }

-- a line that ended is no UTF-8
pub bad_told : (input : List ℕ) (so_far : LinesSoFar) → so_far.bad ≡ true → AreRead input so_far →
    (n : ℕ) × IsValidUpTo input n × (length so_far.lines.items + 1 ≡ line_at input n)
bad_told input so_far bad read =
    let (line, rest, parts, none, not_utf8) =
    subst (λ b. IsBehind b so_far.line.items read.behind) bad read.is_behind in
    subst (λ t. (n : ℕ) × IsValidUpTo t n × (length so_far.lines.items + 1 ≡ line_at t n))
    (sym (read.joined ∙ ap (λ b. with_newlines (map string_bytes so_far.lines.items) ++ b) parts))
    (bad_line so_far.lines.items line (10 ∷ rest) read.whole none not_utf8 (ends_newline line rest))

-- or the last one is none
pub last_told : (input : List ℕ) (so_far : LinesSoFar) → so_far.bad ≡ false → ¬ (IsUtf8 so_far.line.items) →
    AreRead input so_far →
    (n : ℕ) × IsValidUpTo input n × (length so_far.lines.items + 1 ≡ line_at input n)
last_told input so_far good not_utf8 read =
    let behind = front so_far.bad so_far.line.items read.behind good read.is_behind in
    subst (λ t. (n : ℕ) × IsValidUpTo t n × (length so_far.lines.items + 1 ≡ line_at t n)) (sym (read.joined ∙
    ap (λ b. with_newlines (map string_bytes so_far.lines.items) ++ b) (behind.0 ∙ sym (append-nil so_far.line.items))))
    (bad_line so_far.lines.items so_far.line.items [] read.whole behind.1 not_utf8 (ends_none so_far.line.items))

no_bytes : (line : List ℕ) → length line ≡ 0 → line ≡ []
no_bytes [] none = refl
no_bytes (x ∷ line) none = absurd (omega (arith, none))

-- all lines, where the last one ended
pub all_ended : (input : List ℕ) (so_far : LinesSoFar) → so_far.bad ≡ false → length so_far.line.items ≡ 0 →
    0 < length so_far.lines.items → AreRead input so_far →
    IsUtf8 input × (map string_bytes so_far.lines.items ≡ input_lines input)
all_ended input so_far good empty some read =
    let lines = map string_bytes so_far.lines.items in
    let behind = front so_far.bad so_far.line.items read.behind good read.is_behind in
    let whole : input ≡ with_newlines lines = read.joined ∙ (ap (λ b.
    with_newlines lines ++ b) (behind.0 ∙ no_bytes so_far.line.items empty) ∙ append-nil (with_newlines lines)) in (
      subst IsUtf8 (sym whole) (utf8_ended so_far.lines.items),
      sym (ap input_lines whole
          ∙ lines_ended lines read.whole (omega (arith, some, length-map so_far.lines.items string_bytes))),
    )

-- or did not, or is the only one
pub all_behind : (input : List ℕ) (so_far : LinesSoFar) (line : String Global) (all : List (String Global)) →
    so_far.bad ≡ false → (0 < length so_far.line.items) ⊎ (length so_far.lines.items ≡ 0) →
    string_bytes line ≡ so_far.line.items → all ≡ so_far.lines.items ++ line ∷ [] → AreRead input so_far →
    IsUtf8 input × (map string_bytes all ≡ input_lines input)
all_behind input so_far line all good which is pushed read =
    let lines = map string_bytes so_far.lines.items in
    let behind = front so_far.bad so_far.line.items read.behind good read.is_behind in
    let whole : input ≡ with_newlines lines ++ so_far.line.items =
    read.joined ∙ ap (λ b. with_newlines lines ++ b) behind.0 in
    let text : IsUtf8 so_far.line.items = subst IsUtf8 is (IsUtf8-string_bytes line) in
    let every : map string_bytes all ≡ lines ++ so_far.line.items ∷ [] = ap (map string_bytes) pushed
    ∙ (map-append string_bytes so_far.lines.items (line ∷ []) ∙ ap (λ l. lines ++ l ∷ []) is) in (
      subst IsUtf8 (sym whole)
          (IsUtf8-append (with_newlines lines) so_far.line.items (utf8_ended so_far.lines.items) text),
      every ∙ sym (ap input_lines whole ∙ ⊎_elim
          (λ (some : 0 < length so_far.line.items). lines_behind lines so_far.line.items read.whole behind.1 some)
          (λ (none : length so_far.lines.items ≡ 0). only so_far.lines.items none so_far.line.items behind.1)
          which),
    )
  where
    only : (lines : List (String Global)) → length lines ≡ 0 → (line : List ℕ) → NoNewline line →
        input_lines (with_newlines (map string_bytes lines) ++ line) ≡ map string_bytes lines ++ line ∷ []
    only [] none line whole = no_lines line whole
    only (first ∷ lines) none line whole = absurd (omega (arith, none))

-- a fault of the text is one of the input
pub told_fault : {T : Type 0} (before now : Told) (so_far : LinesSoFar) (result : Result T InputFault) →
    ((input : List ℕ) → before.left ≡ Some input → AreRead input so_far × (length input ≤ input_limit)) →
    IfErr result (IsTextFault so_far) → IfErr result (IsInputFault before now)
told_fault before now so_far (Ok value) read fault = tt
told_fault before now so_far (Err (NotUtf8 line)) read fault =
    λ input e. ((read input e).1, fault input (read input e).0)
told_fault before now so_far (Err OutOfMemory) read fault = tt
told_fault before now so_far (Err Read) read fault = absurd fault
told_fault before now so_far (Err TooLong) read fault = absurd fault
