use Rattle.zarr_model.proofs.NeededLaws.{read_needs, write_needs}
use Rattle.zarr_model.proofs.MeetingLaws.{shared_count}
use Rattle.zarr_model.proofs.needed.needed_bytes_by_chunk.Goals as goal

pub returns-clause-read : goal.returns-clause-read
returns-clause-read c = read_needs

pub returns-clause-write : goal.returns-clause-write
returns-clause-write c = write_needs

pub returns-clause-shared : goal.returns-clause-shared
returns-clause-shared c = shared_count
