use Rattle.std.proofs.Common.{not, take}
use Rattle.std.specs.List.{filter}
use Rattle.cp_board.specs.Names.{has}
use Rattle.cp_store.specs.Exchanges.{items_of}
use Rattle.cp_store.specs.Forests.{Keeps}
use Rattle.cp_store.specs.PipeLinks.{HasPipeLinks, ArePipeTrees}
use Rattle.cp_store.proofs.pipe_links.without_names.Given as goal

abbrev pub invariant-loop-name : goal.invariant-loop-name
invariant-loop-name l =
    Keeps l.initial.forest l.forest × ArePipeTrees l.forest l.trees
    × (HasPipeLinks l.initial.forest l.fn.roots (items_of l.fn.pipes.entries.items)
    → HasPipeLinks l.forest l.trees
    (filter (λ q. not (has (take l.name-index l.names) q.name)) (items_of l.fn.pipes.entries.items)))
