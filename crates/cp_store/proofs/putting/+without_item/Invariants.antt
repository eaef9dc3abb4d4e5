use Rattle.cp_store.proofs.putting.+without_item.Given as goal

abbrev pub decreases-without_item : goal.decreases-without_item
decreases-without_item g l = l.root
