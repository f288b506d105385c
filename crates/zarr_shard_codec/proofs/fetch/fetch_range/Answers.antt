use Rattle.zarr_shard_codec.proofs.FetchLaws.{range_costs, range_single, range_given, range_absent, range_unread}
use Rattle.zarr_shard_codec.proofs.fetch.fetch_range.Goals as goal

pub only_part-requires : goal.only_part-requires
only_part-requires g c =
    range_single c.args.key.now c.args.range (g.S.Store.shown c.args.store.now) (g.S.Store.shown
    c.get_partial_many.new.self) _ c.in-Ok-Some.parts c.in-Ok-Some.field-0-is c.in-Ok-Some.ensures.reads

pub returns-in-Ok-Some-clause-read : goal.returns-in-Ok-Some-clause-read
returns-in-Ok-Some-clause-read g c =
    let key = c.args.key.now in
    let before = g.S.Store.shown c.args.store.now in
    let now = g.S.Store.shown c.get_partial_many.new.self in (
      range_given key c.args.range before now _ c.in-Ok-Some.parts _ c.in-Ok-Some.field-0-is c.in-Ok-Some.ensures.reads
          c.only_part.ensures,
      range_costs key c.args.range before now _ c.in-Ok-Some.ensures.reads,
    )

pub returns-in-Ok-None-clause-read : goal.returns-in-Ok-None-clause-read
returns-in-Ok-None-clause-read g c =
    let key = c.args.key.now in
    let before = g.S.Store.shown c.args.store.now in
    let now = g.S.Store.shown c.get_partial_many.new.self in (
      range_absent key c.args.range before now _ c.in-Ok-None.field-0-is c.in-Ok-None.ensures.reads,
      range_costs key c.args.range before now _ c.in-Ok-None.ensures.reads,
    )

pub returns-in-Err-clause-read : goal.returns-in-Err-clause-read
returns-in-Err-clause-read g c =
    range_unread c.args.key.now c.args.range (g.S.Store.shown c.args.store.now)
    (g.S.Store.shown c.get_partial_many.new.self) c.in-Err.error _ c.from.ensures c.in-Err.ensures.reads
