use Rattle.std.proofs.Common.{◌≡◌, ◌+◌, IsTrue, true, [], ◌∷◌, ◌++◌, take, sym, ap, ◌∙◌, subst}
use Rattle.std.specs.List.{list_all, AllZip}
use Rattle.std.proofs.lemmas.List.{take_more}
use Rattle.cp_pq.specs.Nodes.{is_branching}
use Rattle.cp_force.specs.Fits.{place_in, IsFitted}
use Rattle.cp_pq.proofs.Results.{IfOk-map}
use Rattle.cp_force.proofs.FittedNodes.{zip_more, branching_kids_P, branching_kids_Q}
use Rattle.cp_pq.proofs.NodeTests.{all_at}
use Rattle.cp_force.proofs.fitting.+fits.Goals as goal

pub fit_row-loop-node-preserved : goal.fit_row-loop-node-preserved
fit_row-loop-node-preserved t c = λ branching.
    let ks = c.args.nodes.now in let i = c.loop-node.node-index in let k = c.node-item.result in
    let fit = IsFitted (place_in c.args.places.now) in
    let more : take (i + 1) ks ≡ take i ks ++ k ∷ [] =
    take_more ks i k c.loop-node-test.true ∙ ap (λ z. take i ks ++ z ∷ []) (sym c.node-item.is) in
    let two : is_branching k ≡ true =
    subst (λ z. is_branching z ≡ true) (sym c.node-item.is)
    (all_at is_branching ks i k c.loop-node-test.true branching) in
    subst (λ z. AllZip fit z c.push.new.self.items) (sym more)
    (subst (AllZip fit (take i ks ++ k ∷ [])) (sym c.in_ok-push.ensures.items)
    (zip_more (place_in c.args.places.now) (take i ks) c.loop-node.row.items k c.in_ok-fit_node.field-0
    (c.loop-node.invariant branching) (c.in_ok-fit_node.ensures two)))

pub fit_node-returns-in_ok-row-in-P : goal.fit_node-returns-in_ok-row-in-P
fit_node-returns-in_ok-row-in-P t c =
    let fit = IsFitted (place_in c.args.places.now) in
    IfOk-map _ (λ f. IsTrue (is_branching c.args.node.now) → fit c.args.node.now f)
    (λ f g h.
    let two = branching_kids_P c.in-P.owner c.in-P.kids (subst (λ z. is_branching z ≡ true) c.in-P.is h) in
    subst (λ n. fit n f) (sym c.in-P.is)
    (g (place_in c.args.places.now) c.in-P.owner c.in-P.kids
    (subst (λ z. AllZip fit z c.in_ok-row-in-P.row.items) c.items.ensures
    (c.in_ok-row-in-P.ensures (subst (λ z. list_all is_branching z ≡ true) (sym c.items.ensures) two.1))) two.0))
    c.fit_p.result c.fit_p.ensures

pub fit_node-returns-in_ok-kids_row-in-Q : goal.fit_node-returns-in_ok-kids_row-in-Q
fit_node-returns-in_ok-kids_row-in-Q t c =
    let fit = IsFitted (place_in c.args.places.now) in
    IfOk-map _ (λ f. IsTrue (is_branching c.args.node.now) → fit c.args.node.now f)
    (λ f g h.
    let two = branching_kids_Q c.in-Q.var c.in-Q.kids (subst (λ z. is_branching z ≡ true) c.in-Q.is h) in
    subst (λ n. fit n f) (sym c.in-Q.is)
    (g (place_in c.args.places.now) c.in-Q.kids
    (subst (λ z. AllZip fit z c.in_ok-kids_row-in-Q.kids_row.items) c.items-in-Q.ensures
    (c.in_ok-kids_row-in-Q.ensures (subst (λ z. list_all is_branching z ≡ true)
    (sym c.items-in-Q.ensures) two.1))) two.0))
    c.fit_q.result c.fit_q.ensures
