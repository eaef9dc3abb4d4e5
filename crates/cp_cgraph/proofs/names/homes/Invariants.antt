use Rattle.std.proofs.Common.{◌≡◌, map, take}
use Rattle.cp_cgraph.specs.GraphOf.{home_by}
use Rattle.cp_cgraph.proofs.names.homes.Given as goal

abbrev pub invariant-homes : goal.invariant-homes
invariant-homes l = l.homes.items ≡ map (home_by l.names) (take l.id-index l.ids)
