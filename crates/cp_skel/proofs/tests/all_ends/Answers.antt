use Rattle.std.proofs.Common.{ℕ, List, refl, subst, ◌∙◌}
use Rattle.std.specs.Prelude.{slice_index}
use Rattle.std.specs.List.{Contains}
use Rattle.cp_lists.proofs.ExactLists.{contains_at}
use Rattle.cp_skel.proofs.tests.all_ends.Goals as goal

pub ends-requires : goal.ends-requires
ends-requires c =
    let e : ℕ = slice_index c.deref-e-items.result.now c.loop-e.e-index in
    subst (λ (xs : List ℕ). Contains xs e) (c.deref-e-items.ensures.value ∙ c.in_ok-edges.ensures.names)
    (contains_at c.deref-e-items.result.now c.loop-e.e-index e c.loop-e-test.true refl)
