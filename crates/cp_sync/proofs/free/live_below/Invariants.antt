use Rattle.std.proofs.Common.{take}
use Rattle.cp_sync.specs.FreeNames.{TellLive}
use Rattle.cp_sync.proofs.free.live_below.Given as goal

abbrev pub invariant-loop-name : goal.invariant-loop-name
invariant-loop-name l = TellLive (take l.name-index l.live) l.size l.table.items
