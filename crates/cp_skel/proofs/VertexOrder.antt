-- The vertices of the skeletons, skeleton by skeleton.
use Rattle.std.proofs.Common.{◌≡◌, ℕ, ◌+◌, List, [], ◌∷◌, ◌++◌, map, append_assoc, ap, ap₂, sym, ◌∙◌}
use Rattle.std.specs.Prelude.{cond, eqb, false, true}
use Rattle.std.specs.List.{filter, flat_map}
use Rattle.std.proofs.lemmas.Bool.{cond-false, cond-true}
use Rattle.std.proofs.lemmas.List.{append-nil}
use Rattle.cp_cgraph.specs.Clustered.{Clustered, home, nodes, parent}
use Rattle.cp_skel.specs.declared.vertex.Vertex.{Vertex}
use Rattle.cp_skel.specs.declared.vertex.Vertex.TheVariants.{Child, Node, Outside}
use Rattle.cp_skel.specs.Skeletons.{below, is_left, left, vertices_in}
use Rattle.cp_skel.proofs.GatheredLists.{pieces_more}

-- the vertices of cluster c behind those of the clusters before it
module _ (g : Clustered) (c : ℕ) (before nodes_in children_in : List Vertex) (own children : List ℕ)
    (is : before ≡ flat_map (vertices_in g) (below c))
    (is_own : own ≡ filter (λ v. eqb (home g v) c) (below (nodes g)))
    (are_children : children ≡ filter (λ d. eqb (parent g d) c) (left g))
    (with_nodes : nodes_in ≡ before ++ map Node own)
    (with_children : children_in ≡ nodes_in ++ map Child children) where
  -- its nodes and children
  inner : children_in ≡ flat_map (vertices_in g) (below c)
      ++ (map Node (filter (λ v. eqb (home g v) c) (below (nodes g)))
      ++ map Child (filter (λ d. eqb (parent g d) c) (left g)))
  inner =
      with_children
      ∙ ap₂ (λ (xs : List Vertex) (ds : List ℕ). xs ++ map Child ds)
      (with_nodes ∙ ap₂ (λ (xs : List Vertex) (vs : List ℕ). xs ++ map Node vs) is is_own) are_children
      ∙ append_assoc (flat_map (vertices_in g) (below c)) (map Node (filter (λ v. eqb (home g v) c) (below (nodes g))))
      (map Child (filter (λ d. eqb (parent g d) c) (left g)))

  -- with what stands behind them
  whole : (behind : List Vertex) → cond (is_left g c) (Outside c ∷ []) [] ≡ behind
      → children_in ++ behind ≡ flat_map (vertices_in g) (below (c + 1))
  whole behind same =
      let ns : List Vertex = map Node (filter (λ v. eqb (home g v) c) (below (nodes g))) in
      let ds : List Vertex = map Child (filter (λ d. eqb (parent g d) c) (left g)) in
      let first : List Vertex = flat_map (vertices_in g) (below c) in
      ap₂ (λ (xs : List Vertex) (ys : List Vertex). xs ++ ys) inner (sym same)
      ∙ append_assoc first (ns ++ ds) (cond (is_left g c) (Outside c ∷ []) [])
      ∙ ap (λ (xs : List Vertex). first ++ xs) (append_assoc ns ds (cond (is_left g c) (Outside c ∷ []) []))
      ∙ sym (pieces_more (vertices_in g) c)

  -- where some edge leaves the cluster
  pub vertices-left : (all : List Vertex) → is_left g c ≡ true → all ≡ children_in ++ Outside c ∷ []
      → all ≡ flat_map (vertices_in g) (below (c + 1))
  vertices-left all t outside = outside ∙ whole (Outside c ∷ []) (cond-true (is_left g c) (Outside c ∷ []) [] t)

  -- and where none does
  pub vertices-not_left : is_left g c ≡ false → children_in ≡ flat_map (vertices_in g) (below (c + 1))
  vertices-not_left f =
      sym (append-nil children_in) ∙ whole [] (cond-false (is_left g c) (Outside c ∷ []) [] f)
