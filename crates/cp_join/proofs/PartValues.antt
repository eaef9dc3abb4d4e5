-- A number for the component, without a vertex, that an edge ends in: it tells the parts of the edges of this vertex.
use Rattle.std.proofs.Common.{◌≡◌, ◌≢◌, ℕ, ◌↔◌, not, eqb, List, sym, refl, ap, ◌∙◌, inl, ⊎_elim}
use Rattle.std.specs.List.{Contains}
use Rattle.std.proofs.lemmas.Bool.{and_from, cases_eq, cond-false, cond-true, eq-eqb, ne_eqb}
use Rattle.cp_orbits.specs.Classes.{labels}
use Rattle.cp_orbits.specs.Connected.{Connected, Joins, here, step}
use Rattle.cp_orbits.proofs.ClassLabels.{connected_labels, labels_connected}
use Rattle.cp_conn.specs.CutVertex.{avoids, without_vertex}
use Rattle.cp_conn.specs.NamedGraphs.{NamedGraph, edges_at, far, pairs}
use Rattle.cp_conn.proofs.CutVertices.{kept_of}
use Rattle.cp_conn.proofs.NamedGraphs.{edges_at-Contains, far_joins, pairs_have}
use Rattle.cp_maplaw.proofs.NamedRests.{equal_not}

module _ (g : NamedGraph) (u : ℕ) where
  -- the pairs that do not touch u
  abbrev rest : List (ℕ × ℕ)
  rest = without_vertex u (pairs g)

  -- the least vertex connected without u to the end of edge e that is not u
  abbrev pub part_value : ℕ → ℕ
  part_value e = labels rest (far g u e)

  -- an edge of another vertex ends in the component of that vertex
  pub part_value-at : (w e : ℕ) → w ≢ u → Contains (edges_at g w) e → part_value e ≡ labels rest w
  part_value-at w e other c =
      let h = edges_at-Contains g w e c in
      let x : ℕ = (g.ends e).0 in
      let y : ℕ = (g.ends e).1 in
      let joins : Joins (g.ends e) w (far g w e) = far_joins g w e h.1 in
      ⊎_elim
      (λ first.
      let end : far g u e ≡ y = cond-true (eqb x u) y x (eq-eqb x u first) in
      ap (labels rest) (end ∙ ⊎_elim (λ j. absurd (other (sym j.0 ∙ first))) (λ j. j.1) joins))
      (λ ne.
      let end : far g u e ≡ x = cond-false (eqb x u) y x (ne_eqb x u ne) in
      ap (labels rest) end
      ∙ ⊎_elim
      (λ j. ap (labels rest) j.0)
      (λ j.
      let kept : Contains rest (g.ends e) =
      kept_of (avoids u) (pairs g) (g.ends e) (pairs_have g e h.0)
      (and_from (not (eqb x u)) (not (eqb y u)) (equal_not x u ne) (equal_not y u (λ q. other (sym j.1 ∙ q)))) in
      labels_connected rest x w (step here (g.ends e) kept (inl (refl, j.1)))) joins)
      (cases_eq x u)

  -- edges end in one component exactly where their ends are connected without u
  pub part_value-Connected : (e f : ℕ) → (part_value e ≡ part_value f) ↔ Connected rest (far g u e) (far g u f)
  part_value-Connected e f =
      (connected_labels rest (far g u e) (far g u f), labels_connected rest (far g u e) (far g u f))
