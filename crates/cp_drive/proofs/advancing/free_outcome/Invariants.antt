use Rattle.cp_drive.proofs.advancing.free_outcome.Given as goal

abbrev pub ghost-turned_back : goal.ghost-turned_back
ghost-turned_back g a = g.first
