use Rattle.std.proofs.Common.{map, sym, ap, ◌∙◌}
use Rattle.cp_sync.proofs.NamedRows.{map-zip-names}
use Rattle.cp_sync.proofs.solution.Solution.names.Goals as goal

pub returns : goal.returns
returns c =
    c.as_slice.ensures.value
    ∙ sym (map-zip-names c.self.inside.names.items c.self.inside.lists.items c.self.invariant.0)
    ∙ ap (map (λ row. row.0)) c.self.view_is
