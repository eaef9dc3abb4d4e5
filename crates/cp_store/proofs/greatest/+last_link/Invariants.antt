use Rattle.cp_store.proofs.greatest.+last_link.Given as goal

abbrev pub decreases-last_link : goal.decreases-last_link
decreases-last_link l = l.root
