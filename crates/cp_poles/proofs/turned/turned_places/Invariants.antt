use Rattle.std.proofs.Common.{◌≡◌, map, take}
use Rattle.cp_poles.specs.Turned.{place_back}
use Rattle.cp_poles.proofs.turned.turned_places.Given as goal

abbrev pub invariant-loop-partner : goal.invariant-loop-partner
invariant-loop-partner l =
    l.places.items ≡ map (place_back l.firsts l.back l.seconds) (take l.partner-index l.partners)
