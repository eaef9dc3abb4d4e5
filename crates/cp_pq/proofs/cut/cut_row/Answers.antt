use Rattle.std.proofs.Common.{[], ◌∷◌, reverse, ap, ◌∙◌, subst}
use Rattle.std.proofs.lemmas.List.{reverse-append}
use Rattle.cp_pq.proofs.Cuts.{Remains, add_remains, none_remains}
use Rattle.cp_pq.proofs.cut.cut_row.Goals as goal

pub loop-found-preserved : goal.loop-found-preserved
loop-found-preserved c = λ before run after some cut.
    let inv = c.loop-found.invariant before run after some cut in
    let old = c.loop-found.parts in let new = c.add.new.self in
    let left = ap reverse c.in-Some.ensures ∙ reverse-append c.pop.new.self (c.in-Some.found ∷ []) in
    add_remains before run after old.before old.run old.after new.before new.run new.after c.in-Some.found
    (reverse c.pop.new.self) some
    (subst (Remains before run after old.before old.run old.after) left inv.0)
    (record {
      before = c.in_ok-add.ensures.before;
      no_more_before = c.in_ok-add.ensures.no_more_before;
      run = c.in_ok-add.ensures.run;
      not_yet_after = c.in_ok-add.ensures.not_yet_after;
      after = c.in_ok-add.ensures.after;
    })
    inv.1

pub returns : goal.returns
returns c = λ before run after some cut.
    none_remains before run after _ _ _ _ (ap reverse c.in_default.ensures.0)
    (c.loop-found.invariant before run after some cut).0
