-- Faults of the parts as faults of the whole.
use Rattle.cp_parity.specs.declared.fault.ParityFault.{ParityFault}
use Rattle.cp_parity.specs.declared.fault.ParityFault.TheVariants as parity
use Rattle.cp_flip.specs.declared.fault.BlockFault.{BlockFault}
use Rattle.cp_flip.specs.declared.fault.BlockFault.TheVariants as block
use Rattle.cp_flip.specs.declared.fault.FreeFault.{FreeFault}
use Rattle.cp_flip.specs.declared.fault.FreeFault.TheVariants.{NotPlanar, Conflict, Memory}

-- a block that is not embedded
abbrev pub of_block : BlockFault → FreeFault
of_block (block.NotPlanar edge) = NotPlanar edge
of_block block.Memory = Memory

-- equations that no bits meet
abbrev pub of_parity : ParityFault → FreeFault
of_parity (parity.Conflict cycle) = Conflict
of_parity parity.Memory = Memory
