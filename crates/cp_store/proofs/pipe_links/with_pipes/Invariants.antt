use Rattle.std.proofs.Common.{List, ◌++◌, take}
use Rattle.cp_board.specs.declared.parts.Pipe.{Pipe}
use Rattle.cp_store.specs.Forests.{Keeps}
use Rattle.cp_store.specs.PipeLinks.{HasPipeLinks, ArePipeTrees}
use Rattle.cp_store.proofs.pipe_links.with_pipes.Given as goal

abbrev pub invariant-loop-p : goal.invariant-loop-p
invariant-loop-p l =
    Keeps l.initial.forest l.forest × ArePipeTrees l.forest l.trees
    × ((ps : List Pipe) → HasPipeLinks l.initial.forest l.fn.roots ps
    → HasPipeLinks l.forest l.trees (ps ++ take l.p-index l.pipes))
