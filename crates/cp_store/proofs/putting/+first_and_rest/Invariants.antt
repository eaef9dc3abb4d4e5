use Rattle.cp_store.proofs.putting.+first_and_rest.Given as goal

abbrev pub decreases-first_and_rest : goal.decreases-first_and_rest
decreases-first_and_rest g l = l.root
