use Rattle.cp_sync.proofs.tables.adjacency.Goals as goal

pub put_edge-requires-clause-live : goal.put_edge-requires-clause-live
put_edge-requires-clause-live c = c.requires.live c.loop-e.e-index _ c.loop-e-test.true
