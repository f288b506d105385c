-- What each step of a run over references promises to the next one.
use Rattle.std.specs.Prelude.{◌≡◌, ℕ, ◌<◌, Bool, true, false, List, length, map, Some, None}
use Rattle.zarr_model.specs.Prelude.{Kind}
use Rattle.zarr_cli_lines.specs.Text.{all_some, first_entries}
use Rattle.zarr_cli_lines.specs.Parts.{entry_view}
use Rattle.zarr_array.specs.boxes.Command.{command_of}
use Rattle.zarr_refs.specs.declared.lines.RefLines.{RefLines}
use Rattle.zarr_refs.specs.declared.lines.RefLineError.{RefLineError}
use Rattle.zarr_refs.specs.declared.lines.RefLineError.TheVariants.{OutOfForm, ReadOnly, OutOfMemory}
use Rattle.zarr_refs.specs.Lines.{line_references, lines_after_references, line_read, reads_of, good_reads}
use Rattle.zarr_refs.specs.Lines.{changes_first, good_ref_lines}

-- lines are of their form, and this is what they say
pub record SaysRefs (kind : Kind) (lines : List (List ℕ)) (parsed : RefLines) : Type 0 where
  pub entries : map entry_view parsed.entries.items ≡ first_entries lines
  pub references : parsed.references.items ≡ line_references lines
  pub reads : reads_of kind lines ≡ Some (map command_of parsed.reads.items)

-- so many lines read, and the next one does not: it writes or erases, or is no command
pub record StopsReads (kind : Kind) (lines : List (List ℕ)) (good : ℕ) (changes : Bool)
    : Type 0 where
  pub none : all_some (map (line_read kind) lines) ≡ None
  pub first : good ≡ good_reads kind lines
  pub inside : good < length lines
  pub which : changes_first kind lines ≡ changes

-- the error by the next line, which is a command, or none
abbrev pub stop_after : ℕ → Bool → RefLineError
stop_after good true = ReadOnly good
stop_after good false = OutOfForm good

abbrev pub IsReadFault : Kind → List (List ℕ) → RefLineError → Type 0
IsReadFault kind lines (OutOfForm good) = StopsReads kind lines good false
IsReadFault kind lines (ReadOnly good) = StopsReads kind lines good true
IsReadFault kind lines OutOfMemory = Unit {0}

-- so many lines are of their form, and the next one is not
pub record StopsRefs (kind : Kind) (lines : List (List ℕ)) (good : ℕ) (changes : Bool)
    : Type 0 where
  pub none : reads_of kind lines ≡ None
  pub first : good ≡ good_ref_lines kind lines
  pub inside : good < length lines
  pub which : changes_first kind (lines_after_references lines) ≡ changes

abbrev pub IsRefLineFault : Kind → List (List ℕ) → RefLineError → Type 0
IsRefLineFault kind lines (OutOfForm good) = StopsRefs kind lines good false
IsRefLineFault kind lines (ReadOnly good) = StopsRefs kind lines good true
IsRefLineFault kind lines OutOfMemory = Unit {0}
