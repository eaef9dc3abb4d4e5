use Rattle.cp_store.specs.Histories.{present_of}
use Rattle.cp_drive.proofs.advancing.solve_instance.Given as goal

abbrev pub ghost-driven : goal.ghost-driven
ghost-driven a = present_of a.store
