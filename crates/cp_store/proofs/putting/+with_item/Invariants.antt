use Rattle.cp_store.proofs.putting.+with_item.Given as goal

abbrev pub decreases-with_item : goal.decreases-with_item
decreases-with_item g l = l.root
