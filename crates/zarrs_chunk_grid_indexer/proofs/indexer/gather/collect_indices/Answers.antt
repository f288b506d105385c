use Rattle.zarrs_chunk_grid_indexer.proofs.indexer.gather.collect_indices.Goals as goal

pub append_indices-requires : goal.append_indices-requires
append_indices-requires g c = g.met.I.Indexer.can_list c.args.indexer.now c.requires
