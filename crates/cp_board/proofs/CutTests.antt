-- A test that a vertex is no cut vertex, and what the driver does at the wheel.
use Rattle.std.proofs.Common.{◌≡◌, ℕ, suc, Bool, true, ◌||◌, eqb, List, [], ◌∷◌, sym, refl, ap, ◌∙◌, subst, inl, ⊎_elim, arith}
use Rattle.std.specs.Prelude.{filter, map}
use Rattle.std.specs.List.{All, Contains, list_all}
use Rattle.std.proofs.lemmas.Bool.{cond-true, cond-false, eqb-true, eq-eqb, ne_eqb, cond_both}
use Rattle.std.proofs.lemmas.List.Elements.{All-contains}
use Rattle.cp_orbits.specs.Classes.{labels}
use Rattle.cp_orbits.specs.Connected.{Joins}
use Rattle.cp_orbits.proofs.ClassLabels.{Contains-cons_cases, connected_labels}
use Rattle.cp_conn.specs.CutVertex.{without_vertex, IsNeighbour}
use Rattle.cp_board.specs.declared.steps.Step.TheVariants.{Propagate}
use Rattle.cp_conn.specs.NamedGraphs.{NamedGraph, IsCut, pairs, edges_at, far}
use Rattle.cp_board.specs.Instances.{graph}
use Rattle.cp_board.specs.Runs.{IsDriven}
use Rattle.cp_board.proofs.ListTests.{All-from_test}
use Rattle.cp_board.proofs.RuleTests.{part_label}
use Rattle.cp_board.proofs.WorkedRun.{is_up_to, is_up_to_tells}
use Rattle.cp_board.proofs.Wheel.{wheel, wheel_pipe, row}

-- what is contained behind a first item
later : {A : Type 0} (y x : A) (ys : List A) → Contains ys x → Contains (y ∷ ys) x
later y x ys h = (suc h.0, omega (arith, h.1), h.2)

-- a value of a list of values is that of an item
Contains-map_back : {A B : Type 0} (f : A → B) (xs : List A) (y : B) → Contains (map f xs) y
    → (x : A) × Contains xs x × (f x ≡ y)
Contains-map_back f [] y c = absurd (omega (arith, c.1))
Contains-map_back f (x ∷ xs) y c =
    ⊎_elim
    (λ e. (x, (0, omega arith, refl), e))
    (λ h. let r = Contains-map_back f xs y h in (r.0, later x r.0 xs r.1, r.2))
    (Contains-cons_cases (f x) y (map f xs) c)

-- what passes stays
Contains-kept : (p : ℕ → Bool) (xs : List ℕ) (x : ℕ) → p x ≡ true → Contains xs x → Contains (filter p xs) x
Contains-kept p [] x t c = c
Contains-kept p (y ∷ ys) x t c =
    ⊎_elim
    (λ e. subst (λ zs. Contains zs x) (sym (cond-true (p y) (y ∷ filter p ys) (filter p ys) (ap p e ∙ t))) (0, omega arith, e))
    (λ h. let in_rest = Contains-kept p ys x t h in cond_both (p y) (y ∷ filter p ys) (filter p ys) (λ zs. Contains zs x) (λ _. later y x (filter p ys) in_rest) (λ _. in_rest))
    (Contains-cons_cases y x ys c)

-- a neighbour is the far end of some edge
edge_to : (g : NamedGraph) (v x : ℕ) → IsNeighbour (pairs g) v x → (e : ℕ) × Contains (edges_at g v) e × (far g v e ≡ x)
edge_to g v x n =
    let r = Contains-map_back g.ends g.edges n.pair n.contained in
    let joined : Joins (g.ends r.0) v x = subst (λ z. Joins z v x) (sym r.2) n.joined in
    ⊎_elim
    (λ h. (
      r.0,
      Contains-kept (λ e. eqb (g.ends e).0 v || eqb (g.ends e).1 v) g.edges r.0 (ap (λ b. b || eqb (g.ends r.0).1 v) (eq-eqb (g.ends r.0).0 v h.0)) r.1,
      cond-true (eqb (g.ends r.0).0 v) (g.ends r.0).1 (g.ends r.0).0 (eq-eqb (g.ends r.0).0 v h.0) ∙ h.1,
    ))
    (λ h. (
      r.0,
      Contains-kept (λ e. eqb (g.ends e).0 v || eqb (g.ends e).1 v) g.edges r.0 (ap (λ b. b || eqb (g.ends r.0).1 v) (ne_eqb (g.ends r.0).0 v (λ e. n.other (sym h.0 ∙ e))) ∙ eq-eqb (g.ends r.0).1 v h.1) r.1,
      cond-false (eqb (g.ends r.0).0 v) (g.ends r.0).1 (g.ends r.0).0 (ne_eqb (g.ends r.0).0 v (λ e. n.other (sym h.0 ∙ e))) ∙ h.0,
    ))
    joined

-- all edges of v have one label
abbrev pub one_label : NamedGraph → ℕ → Bool
one_label g v = list_all (λ e. list_all (λ f. eqb (part_label g v e) (part_label g v f)) (edges_at g v)) (edges_at g v)

-- a vertex whose edges have all one label is no cut vertex
pub uncut_from_test : (g : NamedGraph) (v : ℕ) → one_label g v ≡ true → IsCut g v → ⊥
uncut_from_test g v t cut =
    let one = edge_to g v cut.one cut.near_one in
    let two = edge_to g v cut.two cut.near_two in
    let all = All-from_test (λ e. All (λ f. part_label g v e ≡ part_label g v f) (edges_at g v)) (λ e. list_all (λ f. eqb (part_label g v e) (part_label g v f)) (edges_at g v)) (λ e. All-from_test (λ f. part_label g v e ≡ part_label g v f) (λ f. eqb (part_label g v e) (part_label g v f)) (λ f h. eqb-true (part_label g v e) (part_label g v f) h) (edges_at g v)) (edges_at g v) t in
    let same = All-contains (λ f. part_label g v one.0 ≡ part_label g v f) (edges_at g v) two.0 (All-contains (λ e. All (λ f. part_label g v e ≡ part_label g v f) (edges_at g v)) (edges_at g v) one.0 all one.1) two.1 in
    cut.apart (connected_labels (without_vertex v (pairs g)) cut.one cut.two (ap (labels (without_vertex v (pairs g))) (sym one.2) ∙ same ∙ ap (labels (without_vertex v (pairs g))) two.2))

-- the centre of the wheel is no cut vertex
wheel_uncut : ¬ IsCut (graph wheel) 0
wheel_uncut = uncut_from_test (graph wheel) 0 refl

-- Propagate at the pipe of the wheel, with its centre as the end, is a step that the solver may take
wheel_driven : IsDriven wheel (Propagate 0 0 row)
wheel_driven = (wheel_pipe, record { live = refl; others = All-from_test _ (is_up_to wheel_pipe) (is_up_to_tells wheel_pipe) wheel.pipes refl }, (refl, (omega arith, λ both. wheel_uncut both.0), inl (refl, wheel_uncut)))
