use Rattle.std.proofs.Common.{ℕ, List, subst, sym, map}
use Rattle.std.specs.List.{Contains}
use Rattle.cp_poles.proofs.SetLists.{with_list-has}
use Rattle.cp_poles.proofs.reordered.with_lists.Goals as goal

pub set_list-requires-2 : goal.set_list-requires-2
set_list-requires-2 c =
    subst (λ (rows : List (ℕ × List ℕ)). Contains (map (λ row. row.0) rows) c.args.second.0) (sym c.set_list.ensures)
    (with_list-has c.args.first.0 c.args.first.1 c.args.s c.args.second.0 c.requires.second)
