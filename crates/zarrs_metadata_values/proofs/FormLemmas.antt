-- Documents that are objects, and documents that are written and read again.
use Rattle.std.proofs.Common.{◌≡◌, Option, Some, Result, refl, ap, subst, ◌∙◌}
use Rattle.serde_json.specs.Data.{Data, null, boolean, number, string, array, object, Members}
use Rattle.serde_json.specs.Find.{as_object}
use Rattle.zarrs_metadata_values.specs.Reading.{◌>>=◌, GivesRead, from_data, unless_float}
use Rattle.zarrs_metadata_values.specs.declared.error.MetadataError.{MetadataError}

-- what a grammar of objects reads is an object
pub object_of : {Y : Type 0} (grammar : Members → Option Y) (d : Data) (y : Y) → (as_object d >>= grammar) ≡ Some y →
    (ms : Members) × (d ≡ object ms) × (grammar ms ≡ Some y)
object_of grammar null y e = absurd cc
object_of grammar (boolean b) y e = absurd cc
object_of grammar (number n) y e = absurd cc
object_of grammar (string s) y e = absurd cc
object_of grammar (array ds) y e = absurd cc
object_of grammar (object ms) y e = (ms, refl, e)

-- what is read of a value that was written
pub given_again : {X Y : Type 0} (seen : X → Y) (grammar : Data → Option Y) (r : Result X MetadataError) (d e : Data)
    (y : Y) → GivesRead seen r (from_data grammar d) → d ≡ e
    → grammar e ≡ Some y → GivesRead seen r (unless_float e y)
given_again seen grammar r d e y gives is reads =
    let same : from_data grammar e ≡ unless_float e y = rw reads in
    subst (λ x. GivesRead seen r x) (ap (from_data grammar) is ∙ same) gives
