use Rattle.cp_store.proofs.linking.+name_under.Given as goal

abbrev pub decreases-name_under : goal.decreases-name_under
decreases-name_under l = l.root
