-- What a fault of Toroidal says.
use Rattle.std.specs.Prelude.{◌≡◌, ℕ, Some}
use Rattle.cp_board.specs.declared.parts.Pipe.{Pipe}
use Rattle.cp_board.specs.Instances.{Synchronized, pipe_named}
use Rattle.cp_board.specs.Reasons.{HaveUnequalCycles}
use Rattle.cp_poles.specs.declared.torus_fault.TorusFault.{TorusFault}
use Rattle.cp_poles.specs.declared.torus_fault.TorusFault.TheVariants.{CyclesDiffer, Memory}

-- what the fault of Toroidal says of the pipe; want of memory says nothing of it
abbrev pub IsTorusFaultOf : Synchronized → ℕ → TorusFault → Type 0
IsTorusFaultOf i pipe (CyclesDiffer a b) = (p : Pipe) × (pipe_named i pipe ≡ Some p) × HaveUnequalCycles i p a b
IsTorusFaultOf i pipe Memory = Unit {0}
