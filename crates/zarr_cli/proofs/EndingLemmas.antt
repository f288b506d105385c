-- The status of an ending.
use Rattle.std.proofs.Common.{◌≡◌, Bool, List, Option, Some, None, refl, sym, subst}
use Rattle.zarr_cli_runs.specs.array.parts.Opening.{OpenRefusal}
use Rattle.zarr_cli_runs.specs.array.parts.OpenError.{open_refusal_of}
use Rattle.zarr_model.specs.Prelude.{Options, Description, Command, Shown}
use Rattle.zarr_cli_runs.specs.Commands.{IsRunFault}
use Rattle.zarr_cli_runs.specs.Ending.{Ending, IsBeforeStore}
use Rattle.zarr_cli_runs.specs.Ending as end
use Rattle.zarr_cli_runs.specs.Status.{ending_of, refused_by}
use Rattle.zarr_cli_runs.specs.declared.status.Status.{Status}
use Rattle.zarr_cli_runs.specs.declared.status.Status.TheVariants.{Done, BadWords, BadInput, Document, Chunk, Store}
use Rattle.zarr_cli_runs.specs.declared.status.Status.TheVariants.{Read, Write, TooLong, OutOfMemory}

-- an ending that no refused document has
abbrev IsOther : Ending → Type 0
IsOther (end.refused_document why) = ⊥
IsOther end.out_of_memory = ⊥
IsOther _ = Unit {0}

no_document : (why : Option OpenRefusal) (ending : Ending) → IsOther ending → refused_by why ≡ ending → ⊥
no_document None ending other e = subst IsOther (sym e) other
no_document (Some why) ending other e = subst IsOther (sym e) other

pub is_done : (status : Status) → ending_of status ≡ end.done → status ≡ Done
is_done Done e = refl
is_done (Document error) e = absurd (no_document (open_refusal_of error) end.done tt e)
is_done status e = absurd (cc)

pub is_write : (status : Status) → ending_of status ≡ end.write_fault → status ≡ Write
is_write Write e = refl
is_write (Document error) e = absurd (no_document (open_refusal_of error) end.write_fault tt e)
is_write status e = absurd (cc)

-- commands end after they began with the store
pub begun : (once : Bool) (description : Description) (options : Options) (commands : List Command)
    (before now : Shown) (status : Status) → IsRunFault once description options commands before now status →
    ¬ IsBeforeStore (ending_of status)
begun once description options commands before now (Chunk key) fault = λ b. b
begun once description options commands before now Store fault = λ b. b
begun once description options commands before now OutOfMemory fault = λ b. b
begun once description options commands before now Done fault = absurd fault
begun once description options commands before now BadWords fault = absurd fault
begun once description options commands before now (BadInput line) fault = absurd fault
begun once description options commands before now (Document error) fault = absurd fault
begun once description options commands before now Read fault = absurd fault
begun once description options commands before now Write fault = absurd fault
begun once description options commands before now TooLong fault = absurd fault
