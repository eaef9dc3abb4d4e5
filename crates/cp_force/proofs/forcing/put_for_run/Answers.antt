use Rattle.std.proofs.Common.{◌≡◌, ℕ, Bool, true, List, ◌++◌, map, sym, ap, ◌∙◌, subst}
use Rattle.std.specs.List.{list_all}
use Rattle.cp_pq.specs.declared.node.Node.{Node}
use Rattle.cp_pq.specs.declared.node.Node.TheVariants.{Leaf}
use Rattle.cp_pq.specs.Frames.{fill}
use Rattle.cp_pq.specs.Nodes.{is_branching}
use Rattle.cp_pq.specs.Readings.{ReadsAll}
use Rattle.cp_pq.specs.Trees.{make_tree, IsWellFormed}
use Rattle.cp_pq.specs.Promises.{IsForced, in_direction}
use Rattle.cp_pq.specs.Ties.{tie_equations}
use Rattle.cp_force.specs.Fits.{IsTiedRow}
use Rattle.cp_force.proofs.Variants.{match_Some, match_None}
use Rattle.cp_force.proofs.OpenedTrees.{kids_branch, in_place, fill_row, run_forced, run_never}
use Rattle.cp_force.proofs.forcing.put_for_run.Goals as goal

pub fit_run-requires-clause-branching : goal.fit_run-requires-clause-branching
fit_run-requires-clause-branching c =
    subst (λ z. list_all is_branching z ≡ true) (sym c.items.ensures)
    (kids_branch c.args.order.now c.args.var c.requires.0 c.args.hole c.args.kids _ c.requires.1)

pub closed-requires : goal.closed-requires
closed-requires c =
    let o = c.requires.1 in
    let order = c.args.order.now in let hole = c.args.hole in let run = c.in-Some.fitted in
    let kids = c.items.result.now in
    let fit = subst (λ (z : List Node). IsTiedRow z order run.0 run.1) c.items.ensures
    (match_Some ((may : ℕ → Bool → Bool) (way : Bool) → ReadsAll may (in_direction way kids) order → ⊥)
    (λ (r : Bool × List (ℕ × Bool)). IsTiedRow kids order r.0 r.1) c.in_ok-found.found run c.in-Some.is
    c.in_ok-found.ensures) in
    let js : List Node = map Leaf (in_direction run.0 order) in
    let row : c.in_ok-row-in-Some.row ≡ js =
    c.in_ok-row-in-Some.ensures ∙ ap (map Leaf) (c.as_slice.ensures.value ∙ c.in_ok-leaves-in-Some.ensures) in
    let m = fill_row c.args.own hole.frames
    (in_place order c.args.var c.requires.0 hole c.args.kids c.args.own o) js in (
      m.0,
      m.1 ∙ ap (fill hole.frames) (sym row),
      subst (λ ts. IsWellFormed (make_tree hole.root m.0 hole.vars (hole.equations ++ tie_equations c.args.var ts)))
          (sym c.in_ok-all-in-Some.ensures)
          (run_forced order c.args.var c.requires.0 hole c.args.kids c.args.own o run.0 run.1 fit m.0 m.1).0,
    )

pub returns-in-None-clause-refused : goal.returns-in-None-clause-refused
returns-in-None-clause-refused c = λ e tree o.
    let order = c.args.order.now in let kids = c.items.result.now in
    run_never order c.args.var tree c.args.hole c.args.kids c.args.own o
    (subst (λ (z : List Node). (may : ℕ → Bool → Bool) (way : Bool) → ReadsAll may (in_direction way z) order → ⊥)
    c.items.ensures
    (match_None ((may : ℕ → Bool → Bool) (way : Bool) → ReadsAll may (in_direction way kids) order → ⊥)
    (λ (r : Bool × List (ℕ × Bool)). IsTiedRow kids order r.0 r.1) c.in_ok-found.found c.in-None.is
    c.in_ok-found.ensures))

pub returns-in_ok-tree-in-Some-clause-forced : goal.returns-in_ok-tree-in-Some-clause-forced
returns-in_ok-tree-in-Some-clause-forced c = λ tree o.
    let order = c.args.order.now in let hole = c.args.hole in let run = c.in-Some.fitted in
    let kids = c.items.result.now in
    let fit = subst (λ (z : List Node). IsTiedRow z order run.0 run.1) c.items.ensures
    (match_Some ((may : ℕ → Bool → Bool) (way : Bool) → ReadsAll may (in_direction way kids) order → ⊥)
    (λ (r : Bool × List (ℕ × Bool)). IsTiedRow kids order r.0 r.1) c.in_ok-found.found run c.in-Some.is
    c.in_ok-found.ensures) in
    let js : List Node = map Leaf (in_direction run.0 order) in
    let row : c.in_ok-row-in-Some.row ≡ js =
    c.in_ok-row-in-Some.ensures ∙ ap (map Leaf) (c.as_slice.ensures.value ∙ c.in_ok-leaves-in-Some.ensures) in
    let m = fill_row c.args.own hole.frames (in_place order c.args.var tree hole c.args.kids c.args.own o) js in
    subst (IsForced order c.args.var tree)
    (ap (λ ts. make_tree hole.root m.0 hole.vars (hole.equations ++ tie_equations c.args.var ts))
    (sym c.in_ok-all-in-Some.ensures)
    ∙ sym (c.in_ok-tree-in-Some.ensures m.0 (m.1 ∙ ap (fill hole.frames) (sym row))))
    (run_forced order c.args.var tree hole c.args.kids c.args.own o run.0 run.1 fit m.0 m.1).1
