-- What parts that make no instance are refused for.
use Rattle.std.specs.Prelude.{List}
use Rattle.cp_board.specs.declared.parts.Vert.{Vert}
use Rattle.cp_board.specs.declared.parts.EdgeRow.{EdgeRow}
use Rattle.cp_board.specs.declared.parts.Pipe.{Pipe}
use Rattle.cp_board.specs.Instances.{Synchronized}
use Rattle.cp_board.specs.Faults.{IsFirstBroken}
use Rattle.cp_sync.specs.declared.fault.PartsFault.{PartsFault}
use Rattle.cp_sync.specs.declared.fault.PartsFault.TheVariants.{Broken, Memory}

-- these parts, whether or not they keep the rules
abbrev pub with_parts : List Vert → List EdgeRow → List Pipe → Synchronized
with_parts verts edges pipes = record { verts = verts; edges = edges; pipes = pipes }

-- the fault tells the least rule that is broken and the first part that breaks it; want of memory is free
abbrev pub IsFaultOf : Synchronized → PartsFault → Type 0
IsFaultOf i (Broken rule name) = IsFirstBroken i rule name
IsFaultOf i Memory = Unit {0}
