use Rattle.cp_store.proofs.SlotBounds.{slots-after}
use Rattle.cp_store.proofs.laws.slots_after_a_step.Goals as goal

pub returns : goal.returns
returns c = slots-after
