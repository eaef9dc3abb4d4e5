-- The list is cut, the tree forced to its first part, and a row of the second part in reverse put in.
use Rattle.std.proofs.Common.{◌≡◌, ℕ, List, reverse, sym, ap, ◌∙◌, subst, arith}
use Rattle.std.specs.Prelude.{MatchOption}
use Rattle.std.proofs.lemmas.Result.{err_from_is_err_and}
use Rattle.cp_lists.specs.CyclicLists.{Has, Distinct}
use Rattle.cp_lists.proofs.ReversedLists.{Has-reverse, reverse-Has, Distinct-reverse}
use Rattle.cp_pq.specs.Promises.{IsForced, IsNeverInRow}
use Rattle.cp_embed.specs.Arrangements.{IsArrangementOf}
use Rattle.cp_embed.specs.Cuts.{IsCut}
use Rattle.cp_embed.specs.Splits.{IsSplit}
use Rattle.cp_embed.specs.TreeSteps.{row_body}
use Rattle.cp_embed.specs.VertexOrders.{enters}
use Rattle.cp_embed.proofs.TakenTrees.{IsLeafSet-kept, row-IsFreshNode, cut-IsSplit, split-IsCut, some-passes, some-fails, split-some, split_first_same, forced-IsConsecutive, listed-IsListedStep}
use Rattle.cp_embed.proofs.taking.take_listed.Goals as goal

pub cut_list-requires-clause-some_in : goal.cut_list-requires-clause-some_in
cut_list-requires-clause-some_in g c =
    some-passes (enters c.args.later.now c.args.vertex) c.args.list.now c.args.ins.now c.args.outs.now c.requires.once
    c.requires.ins_are c.requires.outs_are c.requires.leaf_set.not_empty

pub cut_list-requires-clause-some_out : goal.cut_list-requires-clause-some_out
cut_list-requires-clause-some_out g c =
    some-fails (enters c.args.later.now c.args.vertex) c.args.list.now c.args.ins.now c.args.outs.now c.requires.once
    c.requires.ins_are c.requires.outs_are c.requires.fresh.not_empty

pub returns-in-None-clause-refused : goal.returns-in-None-clause-refused
returns-in-None-clause-refused g c = λ same first second split.
    absurd (subst (λ found. MatchOption found
    ((us vs : List ℕ) → IsCut (enters c.args.later.now c.args.vertex) c.args.list.now us vs → ⊥)
    (λ cut. IsCut (enters c.args.later.now c.args.vertex) c.args.list.now cut.first.items cut.second.items))
    c.in-None.is c.in_ok-cut.ensures first second
    (split-IsCut (enters c.args.later.now c.args.vertex) c.args.list.now c.args.ins.now c.args.outs.now c.requires.once
    c.requires.ins_are c.requires.outs_are first second split))

pub forced-requires-clause-not_empty : goal.forced-requires-clause-not_empty
forced-requires-clause-not_empty g c =
    let split : IsSplit c.args.list.now c.args.ins.now c.args.outs.now c.in-Some.cut.first.items c.in-Some.cut.second.items =
    (cut-IsSplit (enters c.args.later.now c.args.vertex) c.args.list.now c.args.ins.now c.args.outs.now
    c.requires.once c.requires.ins_are c.requires.outs_are c.in-Some.cut.first.items c.in-Some.cut.second.items
    (subst (λ found. MatchOption found
    ((us vs : List ℕ) → IsCut (enters c.args.later.now c.args.vertex) c.args.list.now us vs → ⊥)
    (λ cut. IsCut (enters c.args.later.now c.args.vertex) c.args.list.now cut.first.items cut.second.items))
    c.in-Some.is c.in_ok-cut.ensures))
    in
    λ none. split-some c.args.list.now c.args.ins.now c.args.outs.now c.in-Some.cut.first.items
    c.in-Some.cut.second.items split c.requires.leaf_set.not_empty (sym c.as_slice.ensures.value ∙ none)

pub forced-requires-clause-distinct : goal.forced-requires-clause-distinct
forced-requires-clause-distinct g c =
    let split : IsSplit c.args.list.now c.args.ins.now c.args.outs.now c.in-Some.cut.first.items c.in-Some.cut.second.items =
    (cut-IsSplit (enters c.args.later.now c.args.vertex) c.args.list.now c.args.ins.now c.args.outs.now
    c.requires.once c.requires.ins_are c.requires.outs_are c.in-Some.cut.first.items c.in-Some.cut.second.items
    (subst (λ found. MatchOption found
    ((us vs : List ℕ) → IsCut (enters c.args.later.now c.args.vertex) c.args.list.now us vs → ⊥)
    (λ cut. IsCut (enters c.args.later.now c.args.vertex) c.args.list.now cut.first.items cut.second.items))
    c.in-Some.is c.in_ok-cut.ensures))
    in
    subst Distinct (sym c.as_slice.ensures.value) split.first_is.distinct

pub forced-requires-clause-leaves_of : goal.forced-requires-clause-leaves_of
forced-requires-clause-leaves_of g c =
    let split : IsSplit c.args.list.now c.args.ins.now c.args.outs.now c.in-Some.cut.first.items c.in-Some.cut.second.items =
    (cut-IsSplit (enters c.args.later.now c.args.vertex) c.args.list.now c.args.ins.now c.args.outs.now
    c.requires.once c.requires.ins_are c.requires.outs_are c.in-Some.cut.first.items c.in-Some.cut.second.items
    (subst (λ found. MatchOption found
    ((us vs : List ℕ) → IsCut (enters c.args.later.now c.args.vertex) c.args.list.now us vs → ⊥)
    (λ cut. IsCut (enters c.args.later.now c.args.vertex) c.args.list.now cut.first.items cut.second.items))
    c.in-Some.is c.in_ok-cut.ensures))
    in
    λ x h. c.requires.leaf_set.leaves_of x ((split.first_is.items x).0 (subst (Has x) c.as_slice.ensures.value h))

pub returns-in_err-mid-clause-refused : goal.returns-in_err-mid-clause-refused
returns-in_err-mid-clause-refused g c =
    let split : IsSplit c.args.list.now c.args.ins.now c.args.outs.now c.in-Some.cut.first.items c.in-Some.cut.second.items =
    (cut-IsSplit (enters c.args.later.now c.args.vertex) c.args.list.now c.args.ins.now c.args.outs.now
    c.requires.once c.requires.ins_are c.requires.outs_are c.in-Some.cut.first.items c.in-Some.cut.second.items
    (subst (λ found. MatchOption found
    ((us vs : List ℕ) → IsCut (enters c.args.later.now c.args.vertex) c.args.list.now us vs → ⊥)
    (λ cut. IsCut (enters c.args.later.now c.args.vertex) c.args.list.now cut.first.items cut.second.items))
    c.in-Some.is c.in_ok-cut.ensures))
    in
    let p = err_from_is_err_and c.from_residual-in_err-mid.result c.from_residual-in_err-mid.ensures.1 in
    rw (p.1, p.2) (λ fault first second other.
    let once : Distinct c.args.list.now = c.requires.once in
    subst (λ row. IsNeverInRow row (g.T.OrderTree.tree c.args.old))
    (c.as_slice.ensures.value ∙ split_first_same c.args.list.now c.args.ins.now c.args.outs.now c.in-Some.cut.first.items
    c.in-Some.cut.second.items first second once c.requires.leaf_set.not_empty c.requires.fresh.not_empty split other)
    (c.in_err-mid.ensures.refused fault))

pub replace-requires-clause-leaf_set : goal.replace-requires-clause-leaf_set
replace-requires-clause-leaf_set g c =
    IsLeafSet-kept (g.T.OrderTree.tree c.args.old) (g.T.OrderTree.tree c.in_ok-mid.mid) c.in_ok-mid.ensures.forced.root
    c.in_ok-mid.ensures.forced.leaves_kept c.args.ins.now c.requires.leaf_set

pub replace-requires-clause-consecutive : goal.replace-requires-clause-consecutive
replace-requires-clause-consecutive g c =
    let split : IsSplit c.args.list.now c.args.ins.now c.args.outs.now c.in-Some.cut.first.items c.in-Some.cut.second.items =
    (cut-IsSplit (enters c.args.later.now c.args.vertex) c.args.list.now c.args.ins.now c.args.outs.now
    c.requires.once c.requires.ins_are c.requires.outs_are c.in-Some.cut.first.items c.in-Some.cut.second.items
    (subst (λ found. MatchOption found
    ((us vs : List ℕ) → IsCut (enters c.args.later.now c.args.vertex) c.args.list.now us vs → ⊥)
    (λ cut. IsCut (enters c.args.later.now c.args.vertex) c.args.list.now cut.first.items cut.second.items))
    c.in-Some.is c.in_ok-cut.ensures))
    in
    forced-IsConsecutive c.as_slice.result.now c.args.ins.now c.args.vertex (g.T.OrderTree.tree c.args.old)
    (g.T.OrderTree.tree c.in_ok-mid.mid) c.requires.formed c.in_ok-mid.ensures.forced
    (subst (λ row. IsArrangementOf row c.args.ins.now) (sym c.as_slice.ensures.value) split.first_is)

pub replace-requires-clause-fresh : goal.replace-requires-clause-fresh
replace-requires-clause-fresh g c =
    let split : IsSplit c.args.list.now c.args.ins.now c.args.outs.now c.in-Some.cut.first.items c.in-Some.cut.second.items =
    (cut-IsSplit (enters c.args.later.now c.args.vertex) c.args.list.now c.args.ins.now c.args.outs.now
    c.requires.once c.requires.ins_are c.requires.outs_are c.in-Some.cut.first.items c.in-Some.cut.second.items
    (subst (λ found. MatchOption found
    ((us vs : List ℕ) → IsCut (enters c.args.later.now c.args.vertex) c.args.list.now us vs → ⊥)
    (λ cut. IsCut (enters c.args.later.now c.args.vertex) c.args.list.now cut.first.items cut.second.items))
    c.in-Some.is c.in_ok-cut.ensures))
    in
    let row_is : c.as_slice-2.result.now ≡ reverse c.in-Some.cut.second.items =
    c.as_slice-2.ensures.value ∙ c.reverse.ensures.items
    in
    row-IsFreshNode (g.T.OrderTree.tree c.args.old) (g.T.OrderTree.tree c.in_ok-mid.mid) c.in_ok-mid.ensures.forced.root
    c.in_ok-mid.ensures.forced.leaves_kept c.args.ins.now c.args.outs.now (reverse c.in-Some.cut.second.items)
    c.args.vertex c.in_ok-node.node (c.in_ok-node.ensures ∙ ap (row_body c.args.vertex) row_is)
    (omega (arith, c.requires.var_within, c.in_ok-mid.ensures.forced.vars_kept)) c.requires.fresh
    (Distinct-reverse c.in-Some.cut.second.items split.second_is.distinct)
    (λ k. (
      (λ h. (split.second_is.items k).0 (reverse-Has k c.in-Some.cut.second.items h)),
      (λ h. Has-reverse k c.in-Some.cut.second.items ((split.second_is.items k).1 h)),
    ))

pub returns-clause-step : goal.returns-clause-step
returns-clause-step g c =
    let split : IsSplit c.args.list.now c.args.ins.now c.args.outs.now c.in-Some.cut.first.items c.in-Some.cut.second.items =
    (cut-IsSplit (enters c.args.later.now c.args.vertex) c.args.list.now c.args.ins.now c.args.outs.now
    c.requires.once c.requires.ins_are c.requires.outs_are c.in-Some.cut.first.items c.in-Some.cut.second.items
    (subst (λ found. MatchOption found
    ((us vs : List ℕ) → IsCut (enters c.args.later.now c.args.vertex) c.args.list.now us vs → ⊥)
    (λ cut. IsCut (enters c.args.later.now c.args.vertex) c.args.list.now cut.first.items cut.second.items))
    c.in-Some.is c.in_ok-cut.ensures))
    in
    listed-IsListedStep c.args.vertex c.args.list.now c.args.ins.now c.args.outs.now c.in-Some.cut.first.items
    c.in-Some.cut.second.items c.as_slice-2.result.now (g.T.OrderTree.tree c.args.old)
    (g.T.OrderTree.tree c.in_ok-mid.mid) (g.T.OrderTree.tree c.in_ok-new.new) c.in_ok-node.node c.in_ok-new.part split
    (c.as_slice-2.ensures.value ∙ c.reverse.ensures.items) c.in_ok-node.ensures
    (omega (arith, c.requires.var_within, c.in_ok-mid.ensures.forced.vars_kept))
    (subst (λ row. IsForced row c.args.vertex (g.T.OrderTree.tree c.args.old) (g.T.OrderTree.tree c.in_ok-mid.mid))
    c.as_slice.ensures.value c.in_ok-mid.ensures.forced)
    c.in_ok-new.ensures.replaced
