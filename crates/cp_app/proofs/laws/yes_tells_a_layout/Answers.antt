-- The law of what a yes tells.
use Rattle.std.proofs.Common.{refl}
use Rattle.cp_app.proofs.YesLayouts.{yes-TellsDrawing}
use Rattle.cp_app.proofs.laws.yes_tells_a_layout.Goals as goal

pub returns : goal.returns
returns c = λ bytes text is. yes-TellsDrawing bytes is refl
