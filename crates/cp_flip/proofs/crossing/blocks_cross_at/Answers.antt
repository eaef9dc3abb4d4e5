-- Blocks cross exactly where the numbers of the blocks along the list take turns.
use Rattle.std.proofs.Common.{◌≡◌, ℕ, Bool, true, false, List, length, sym, ◌∙◌, subst}
use Rattle.std.specs.List.{All, Contains}
use Rattle.std.proofs.lemmas.List.{get_or_default}
use Rattle.std.proofs.lemmas.Result.{IfOk-weaker}
use Rattle.cp_conn.specs.Blocks.{AreInOneBlock}
use Rattle.cp_conn.specs.Numbering.{AreNumbered}
use Rattle.cp_sync.specs.Numbering.{numbered}
use Rattle.cp_board.specs.Instances.{edge_names, graph, is_q, psi_at}
use Rattle.cp_board.specs.Blocks.{HaveCrossing}
use Rattle.cp_flip.specs.TakingTurns.{TakeTurns}
use Rattle.cp_flip.proofs.CrossingLists.{HaveCrossing-turns, psi-live, told_along, turns-HaveCrossing}
use Rattle.cp_flip.proofs.crossing.blocks_cross_at.Goals as goal

pub numbers_along-requires-clause-live : goal.numbers_along-requires-clause-live
numbers_along-requires-clause-live g c =
    let i = g.B.Board.instance c.args.board.now in
    let psi = psi_at i c.args.q in
    let t : is_q i c.args.q ≡ true = sym c.is_q.ensures.value ∙ c.if-not-is_q.false in
    let are = subst (λ (xs : List ℕ). AreNumbered (AreInOneBlock (numbered (graph i)).ends) (length xs)
    c.args.numbers.now)
    c.requires.edges c.requires.numbers in
    subst (λ (xs : List ℕ). All (Contains xs) c.items.result.now) (sym c.requires.edges)
    (subst (All (Contains (edge_names i))) (sym (c.items.ensures ∙ c.psi.ensures))
    (λ k d lt. subst (Contains (edge_names i)) (get_or_default psi k 0 d lt)
    (psi-live i c.requires.rules c.args.numbers.now are c.args.q c.requires.live t k lt)))

pub returns-clause-yes : goal.returns-clause-yes
returns-clause-yes g c =
    let i = g.B.Board.instance c.args.board.now in
    let t : is_q i c.args.q ≡ true = sym c.is_q.ensures.value ∙ c.if-not-is_q.false in
    let are = subst (λ (xs : List ℕ). AreNumbered (AreInOneBlock (numbered (graph i)).ends) (length xs)
    c.args.numbers.now)
    c.requires.edges c.requires.numbers in
    let along = told_along (edge_names i) c.args.edges.now (psi_at i c.args.q) c.items.result.now c.args.numbers.now
    c.in_ok-along.along.items c.as_slice.result.now c.requires.edges (c.items.ensures ∙ c.psi.ensures)
    c.as_slice.ensures.value c.in_ok-along.ensures in
    IfOk-weaker c.take_turns.result (λ (b : Bool). b ≡ true → TakeTurns c.as_slice.result.now)
    (λ b. b ≡ true → HaveCrossing i c.args.q)
    (λ b h e. turns-HaveCrossing i c.requires.rules c.args.numbers.now are c.args.q c.requires.live t
    (subst TakeTurns along (h e)))
    c.take_turns.ensures.yes

pub returns-clause-no : goal.returns-clause-no
returns-clause-no g c =
    let i = g.B.Board.instance c.args.board.now in
    let are = subst (λ (xs : List ℕ). AreNumbered (AreInOneBlock (numbered (graph i)).ends) (length xs)
    c.args.numbers.now)
    c.requires.edges c.requires.numbers in
    let along = told_along (edge_names i) c.args.edges.now (psi_at i c.args.q) c.items.result.now c.args.numbers.now
    c.in_ok-along.along.items c.as_slice.result.now c.requires.edges (c.items.ensures ∙ c.psi.ensures)
    c.as_slice.ensures.value c.in_ok-along.ensures in
    IfOk-weaker c.take_turns.result (λ (b : Bool). b ≡ false → TakeTurns c.as_slice.result.now → ⊥)
    (λ b. b ≡ false → HaveCrossing i c.args.q → ⊥)
    (λ b h e crossing. h e (subst TakeTurns (sym along)
    (HaveCrossing-turns i c.requires.rules c.args.numbers.now are c.args.q c.requires.live crossing)))
    c.take_turns.ensures.no
