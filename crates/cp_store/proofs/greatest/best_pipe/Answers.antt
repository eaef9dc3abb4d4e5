use Rattle.cp_store.proofs.PipeReads.{no_pipes, best_of-last}
use Rattle.cp_store.proofs.greatest.best_pipe.Goals as goal

pub returns-in-None : goal.returns-in-None
returns-in-None c ps fits has =
    no_pipes c.args.forest.now c.args.ranks ps fits has c.in-None.ensures

pub returns-in-Some : goal.returns-in-Some
returns-in-Some c ps fits has =
    best_of-last c.args.forest.now c.args.ranks ps c.in-Some.ensures.0 c.in-Some.link fits has c.in-Some.ensures.1
