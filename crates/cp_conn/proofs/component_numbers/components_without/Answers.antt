use Rattle.std.proofs.Common.{ℕ, subst, sym, ◌∙◌}
use Rattle.cp_base.specs.Graphs.{AreWithin}
use Rattle.cp_conn.specs.Removed.{is_left}
use Rattle.cp_conn.proofs.CutVertices.{AreWithin-filter}
use Rattle.cp_conn.proofs.component_numbers.components_without.Goals as goal

pub numbers_of_components-requires : goal.numbers_of_components-requires
numbers_of_components-requires c =
    subst (λ (n : ℕ). AreWithin n c.as_slice.result.now) (sym c.vertices.ensures.value)
    (subst (AreWithin c.args.g.now.vertices) (sym (c.as_slice.ensures.value ∙ c.in_ok-left.ensures))
    (AreWithin-filter (is_left c.args.removed.now) c.args.g.now.vertices c.ends.result.now
    (subst (AreWithin c.args.g.now.vertices) (sym c.ends.ensures.value) c.ends.ensures.within)))
