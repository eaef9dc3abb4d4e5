use Rattle.cp_io.proofs.StreamLemmas.{given_and_rest, nothing_given}
use Rattle.cp_io.proofs.mem_source.MemSourceSource.read.Goals as goal

pub returns-clause-bytes : goal.returns-clause-bytes
returns-clause-bytes c =
    let at = c.self.inside.at in
    let items = c.self.inside.bytes.items in
    let copied = rw (c.split_at.ensures.back, c.as_slice.ensures.value) at c.copy_front-count.ensures.front in
    let count = rw (c.split_at.ensures.back, c.as_slice.ensures.value) at c.copy_front-count.ensures.count in
    rw (← c.self.view_is) (
      given_and_rest at c.copy_front-count.result items _ copied,
      λ none room. nothing_given at _ _ c.copy_front-count.result items count c.self.invariant.1 room none,
    )
