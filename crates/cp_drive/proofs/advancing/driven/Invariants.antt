use Rattle.cp_drive.proofs.advancing.driven.Given as goal

abbrev pub ghost-advance_to_end : goal.ghost-advance_to_end
ghost-advance_to_end g a = g.first

abbrev pub ghost-free_outcome : goal.ghost-free_outcome
ghost-free_outcome g a = g.first
