-- The edges are taken one by one.
use Rattle.std.proofs.Common.{rules, Global, Vec, ℕ, List, ◌∷◌, [], ◌++◌, ◌+◌, ◌≡◌, ◌<◌, ◌∙◌, ap, arith, length, slice_index, subst, sym}
use Rattle.std.specs.Prelude.{Option}
use Rattle.std.specs.List.{Contains}
use Rattle.std.proofs.lemmas.List.Elements.{Contains-get_or}
use Rattle.cp_conn.specs.NamedGraphs.{NamedGraph, far}
use Rattle.cp_poles.specs.Between.{AreTaken, number_of}
use Rattle.cp_poles.specs.LocalBonds.{local_part}
use Rattle.cp_poles.proofs.LocalBonds.{along_whole, bond_there, edge_live, edges_once, far_other, far_there, first_edges}
use Rattle.cp_poles.proofs.TakenEdges.{AreTaken-all, AreTaken-direct, AreTaken-none, AreTaken-stuck, AreTaken-through}
use Rattle.cp_poles.proofs.bonds.taken.Goals as goal
use Rattle.cp_poles.proofs.bonds.taken.Goals.{then-far-v+in_ok-push, else-far-v+in-Some+in_ok-push-in-Some}

-- the same for the values after the step
taken_more : (h : NamedGraph) (u v : ℕ) (numbers : List ℕ) (k : ℕ) {table table' : List (Option ℕ)}
    {along along' : List (ℕ × ℕ)} → table' ≡ table → along' ≡ along → AreTaken h u v numbers k table along
    → AreTaken h u v numbers k table' along'
taken_more h u v numbers k {table} {table'} {along} {along'} t a so =
    subst (λ ts. AreTaken h u v numbers k ts along') (sym t) (subst (AreTaken h u v numbers k table) (sym a) so)

pub loop-e-init : goal.loop-e-init
loop-e-init g c =
    let i = g.B.Board.instance c.args.board.now in
    let h = local_part i c.args.between.now in
    let numbers = c.args.between.now.numbers.items in
    let none : c.new-along.result.items ≡ [] = search rules in
    subst (AreTaken h c.args.u c.args.v numbers 0 c.in_ok-table.table.items) (sym none)
    (AreTaken-none h c.args.u c.args.v numbers c.requires.between.numbers c.requires.differ
    (far_there i c.args.u c.args.v c.args.between.now c.requires.between)
    (edges_once i c.args.u c.args.v c.args.between.now c.requires.between)
    (far_other i c.args.u c.args.v c.args.between.now c.requires.between)
    c.requires.between.components.second c.in_ok-table.table.items
    c.in_ok-table.ensures)

pub far_end-far-requires : goal.far_end-far-requires
far_end-far-requires g c =
    let i = g.B.Board.instance c.args.board.now in
    let es = c.deref-e-items.result.now in
    let e = slice_index es c.loop-e.e-index in
    let same = c.deref-e-items.ensures.value ∙ c.in_ok-edges.ensures.names
    ∙ first_edges i c.args.u c.args.v c.args.between.now c.requires.between in
    edge_live i c.args.u c.args.v c.args.between.now c.requires.between c.args.u e
    (subst (λ (xs : List ℕ). Contains xs e) same (Contains-get_or es c.loop-e.e-index 0 c.loop-e-test.true))

pub part_of-part-requires-clause-within : goal.part_of-part-requires-clause-within
part_of-part-requires-clause-within g c =
    let i = g.B.Board.instance c.args.board.now in
    let es = c.deref-e-items.result.now in
    let e = slice_index es c.loop-e.e-index in
    let same = c.deref-e-items.ensures.value ∙ c.in_ok-edges.ensures.names
    ∙ first_edges i c.args.u c.args.v c.args.between.now c.requires.between in
    subst (Contains c.args.between.now.local.verts) (sym c.far_end-far.ensures.value)
    (far_there i c.args.u c.args.v c.args.between.now c.requires.between c.args.u e
    (subst (λ (xs : List ℕ). Contains xs e) same (Contains-get_or es c.loop-e.e-index 0 c.loop-e-test.true)))

pub returns-in-None : goal.returns-in-None
returns-in-None g c = λ bond.
    let i = g.B.Board.instance c.args.board.now in
    let h = local_part i c.args.between.now in
    let u = c.args.u in
    let v = c.args.v in
    let numbers = c.args.between.now.numbers.items in
    let k = c.loop-e.e-index in
    let same = c.deref-e-items.ensures.value ∙ c.in_ok-edges.ensures.names
    ∙ first_edges (g.B.Board.instance c.args.board.now) c.args.u c.args.v c.args.between.now c.requires.between in
    let within = subst (λ (xs : List ℕ). k < length xs) same c.loop-e-test.true in
    let far_is = c.far_end-far.ensures.value ∙ ap (λ (xs : List ℕ). far h u (slice_index xs k)) same in
    AreTaken-stuck h u v numbers c.requires.between.numbers c.requires.differ
    (far_there i c.args.u c.args.v c.args.between.now c.requires.between)
    (edges_once i c.args.u c.args.v c.args.between.now c.requires.between)
    (far_other i c.args.u c.args.v c.args.between.now c.requires.between)
    c.requires.between.components.second k c.loop-e.table.items
    c.loop-e.along.items c.loop-e.invariant c.part_of-part.result within
    (λ e. c.if-far-v.false (far_is ∙ e))
    (c.part_of-part.ensures.value ∙ ap (number_of h numbers) far_is)
    (sym c.in-None.ensures.found) (bond_there i c.args.u c.args.v c.args.between.now c.requires.between bond)

pub loop-e-preserved : goal.loop-e-preserved
loop-e-preserved g c =
    let i = g.B.Board.instance c.args.board.now in
    let h = local_part i c.args.between.now in
    let u = c.args.u in
    let v = c.args.v in
    let numbers = c.args.between.now.numbers.items in
    let k = c.loop-e.e-index in
    let es = c.deref-e-items.result.now in
    let e = slice_index es k in
    let same = c.deref-e-items.ensures.value ∙ c.in_ok-edges.ensures.names
    ∙ first_edges (g.B.Board.instance c.args.board.now) c.args.u c.args.v c.args.between.now c.requires.between in
    let within = subst (λ (xs : List ℕ). k < length xs) same c.loop-e-test.true in
    let far_is = c.far_end-far.ensures.value ∙ ap (λ (xs : List ℕ). far h u (slice_index xs k)) same in
    let here = ap (λ (xs : List ℕ). slice_index xs k) same in
    let table = c.loop-e.table.items in
    let along = c.loop-e.along.items in
    elim c.if-far-v.branch [
      | then-far-v+in_ok-push w ↦
          taken_more h u v numbers (k + 1)
          (ap (λ (t : Vec (Option ℕ) Global). t.items) w.table-is)
          (ap (λ (a : Vec (ℕ × ℕ) Global). a.items) w.along-is ∙ w.in_ok-push.ensures.items
          ∙ ap (λ (x : ℕ). along ++ (x, x) ∷ []) here)
          (AreTaken-direct h u v numbers c.requires.between.numbers c.requires.differ
          (far_there i c.args.u c.args.v c.args.between.now c.requires.between)
          (edges_once i c.args.u c.args.v c.args.between.now c.requires.between)
          (far_other i c.args.u c.args.v c.args.between.now c.requires.between)
          c.requires.between.components.second k table along
          c.loop-e.invariant within (sym far_is ∙ w.if-far-v.true))
      | else-far-v+in-Some+in_ok-push-in-Some w ↦
          taken_more h u v numbers (k + 1)
          (ap (λ (t : Vec (Option ℕ) Global). t.items) w.table-is ∙ w.take_entry.ensures.left)
          (ap (λ (a : Vec (ℕ × ℕ) Global). a.items) w.along-is ∙ w.in_ok-push-in-Some.ensures.items
          ∙ ap (λ (x : ℕ). along ++ (x, w.in-Some.f) ∷ []) here)
          (AreTaken-through h u v numbers c.requires.between.numbers c.requires.differ
          (far_there i c.args.u c.args.v c.args.between.now c.requires.between)
          (edges_once i c.args.u c.args.v c.args.between.now c.requires.between)
          (far_other i c.args.u c.args.v c.args.between.now c.requires.between)
          c.requires.between.components.second k table along
          c.loop-e.invariant w.part_of-part.result w.in-Some.f within (λ e. w.if-far-v.false (far_is ∙ e))
          (w.part_of-part.ensures.value ∙ ap (number_of h numbers) far_is) w.part_of-part.ensures.within
          (sym w.in-Some.ensures.found))
    ]

pub returns : goal.returns
returns g c =
    let i = g.B.Board.instance c.args.board.now in
    let h = local_part i c.args.between.now in
    let same = c.deref-e-items.ensures.value ∙ c.in_ok-edges.ensures.names
    ∙ first_edges (g.B.Board.instance c.args.board.now) c.args.u c.args.v c.args.between.now c.requires.between in
    along_whole i c.args.u c.args.v c.args.between.now c.requires.between c.loop-e.along.items
    (AreTaken-all h c.args.u c.args.v c.args.between.now.numbers.items c.requires.between.numbers c.requires.differ
    (far_there i c.args.u c.args.v c.args.between.now c.requires.between)
    (edges_once i c.args.u c.args.v c.args.between.now c.requires.between)
    (far_other i c.args.u c.args.v c.args.between.now c.requires.between)
    c.requires.between.components.second
    c.loop-e.e-index c.loop-e.table.items c.loop-e.along.items c.loop-e.invariant
    (omega (arith, c.loop-e-test.false, ap length same, c.loop-e.auto.e-index-end)))
