-- An answer of opening from its last step.
use Rattle.std.proofs.Common.{Option, Some, None, Result, Ok, Err, ap}
use Rattle.zarr_array_open.specs.Opening.{OpenRefusal}
use Rattle.zarr_array_open.specs.OpenError.{open_refusal_of}
use Rattle.zarr_array_open.specs.Parts.{StopsBy, Opens}
use Rattle.zarr_array_open.specs.declared.open_error.OpenError.{OpenError}
use Rattle.zarr_array_open.specs.ShardDocument.{ShardDocument}
use Rattle.zarr_array_open.specs.ShardOpening.{shard_answer}
use Rattle.zarr_array_open.specs.Views.{sharded_document, IsShardRefusedBy, OpensShardPartsAs}
use Rattle.zarr_array_open.specs.declared.shard_parts.ShardParts.{ShardParts}

pub opens_as : (result : Result ShardParts OpenError) (expected : Result ShardDocument OpenRefusal) →
    Opens sharded_document result expected → OpensShardPartsAs result (shard_answer expected)
opens_as (Ok array) expected is = ap shard_answer is
opens_as (Err error) expected fails = refused (open_refusal_of error) expected fails
  where
    refused : (why : Option OpenRefusal) (expected : Result ShardDocument OpenRefusal) → StopsBy why expected →
        IsShardRefusedBy why (shard_answer expected)
    refused None expected fails = tt
    refused (Some why) expected fails = ap shard_answer fails
