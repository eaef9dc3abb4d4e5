use Rattle.std.proofs.lemmas.List.{length-take-le}
use Rattle.cp_io.proofs.StreamLemmas.{take_behind}
use Rattle.cp_io.proofs.copies.copy_behind.Goals as goal

pub returns-clause-front : goal.returns-clause-front
returns-clause-front c = rw c.split_at_mut-free.ensures.front (take_behind _ _ _ _ _ (length-take-le _ _ c.requires)
    c.copy_front.ensures.front)
