-- A planted tree with named vertices and edges, on a map of darts.
use Rattle.std.proofs.Common.{◌≡◌, ℕ, List, ◌∷◌, ◌++◌, map, sym, refl, ap, ap₂, ◌∙◌, subst, ◌*◌}
use Rattle.std.proofs.lemmas.List.{map-append}
use Rattle.cp_faces.specs.Twins.{twin}
use Rattle.cp_maps.specs.Genus.{Becomes}
use Rattle.cp_maps.specs.Maps.{IsMapOf}
use Rattle.cp_maps.specs.Trees.{Kids, darts_of_kids, leaves_of, lists_of_nodes}
use Rattle.cp_plantlaw.specs.NamedTrees.{Named, tops, word, rows}
use Rattle.cp_plantlaw.proofs.PlantedTrees.{planted_tree-Becomes}

-- dart v e stands at vertex v and is of edge e, and leaf x has the dart `leaf x`
module _ (dart : ℕ → ℕ → ℕ) (leaf : ℕ → ℕ) where
  -- the darts of the kids of a node at v
  abbrev grown : ℕ → Named → Kids
  grown v Named.no_kid = Kids.no_kid
  grown v (Named.leaf_kid x ks) = Kids.leaf_kid (dart v x) (grown v ks)
  grown v (Named.node_kid w g inner ks) = Kids.node_kid (dart v g) (grown w inner) (grown v ks)

  -- each leaf has its dart at its node, and the two darts of an edge between two nodes are twins
  abbrev pub Fits : ℕ → Named → Type 0
  Fits v Named.no_kid = Unit {0}
  Fits v (Named.leaf_kid x ks) = (dart v x ≡ leaf x) × Fits v ks
  Fits v (Named.node_kid w g inner ks) = (dart w g ≡ twin (dart v g)) × (Fits w inner × Fits v ks)

  -- the list of darts of an inner node
  abbrev pub row_darts : ℕ × List ℕ → List ℕ
  row_darts r = map (dart r.0) r.1

  -- the darts of the kids are those of their edges
  darts_grown : (v : ℕ) (ks : Named) → darts_of_kids (grown v ks) ≡ map (dart v) (tops ks)
  darts_grown v Named.no_kid = refl
  darts_grown v (Named.leaf_kid x ks) = ap (λ zs. dart v x ∷ zs) (darts_grown v ks)
  darts_grown v (Named.node_kid w g inner ks) = ap (λ zs. dart v g ∷ zs) (darts_grown v ks)

  -- the leaves are those of the tree
  leaves_grown : (v : ℕ) (ks : Named) → Fits v ks → leaves_of (grown v ks) ≡ map leaf (word ks)
  leaves_grown v Named.no_kid fits = refl
  leaves_grown v (Named.leaf_kid x ks) fits = ap₂ (λ z zs. z ∷ zs) fits.0 (leaves_grown v ks fits.1)
  leaves_grown v (Named.node_kid w g inner ks) fits =
      ap₂ (λ us zs. us ++ zs) (leaves_grown w inner fits.1.0) (leaves_grown v ks fits.1.1)
      ∙ sym (map-append leaf (word inner) (word ks))

  -- the lists of the nodes are those of the tree
  nodes_grown : (v : ℕ) (ks : Named) → Fits v ks → lists_of_nodes (grown v ks) ≡ map row_darts (rows ks)
  nodes_grown v Named.no_kid fits = refl
  nodes_grown v (Named.leaf_kid x ks) fits = nodes_grown v ks fits.1
  nodes_grown v (Named.node_kid w g inner ks) fits =
      ap₂ (λ us zs. us ∷ zs)
      (ap₂ (λ z zs. z ∷ zs) (sym fits.0) (darts_grown w inner))
      (ap₂ (λ us zs. us ++ zs) (nodes_grown w inner fits.1.0) (nodes_grown v ks fits.1.1)
      ∙ sym (map-append row_darts (rows inner) (rows ks)))

  -- a tree planted at v with the root edge r, in the place of its leaves: the genus stays
  pub planted_names-Becomes : (e : ℕ) (f : ℕ → ℕ) (v r : ℕ) (ks : Named) (lists : List (List ℕ)) → Fits v ks
      → dart v r ≡ leaf r
      → IsMapOf (2 * e) f (map (dart v) (r ∷ tops ks) ∷ (map row_darts (rows ks) ++ lists))
      → Becomes e f (map leaf (r ∷ word ks) ∷ lists)
  planted_names-Becomes e f v r ks lists fits root is =
      subst (λ zs. Becomes e f (zs ∷ lists)) (ap₂ (λ z zs. z ∷ zs) root (leaves_grown v ks fits))
      (planted_tree-Becomes e f (dart v r) (grown v ks) lists
      (subst (λ zs. IsMapOf (2 * e) f (zs ∷ (lists_of_nodes (grown v ks) ++ lists)))
      (ap (λ zs. dart v r ∷ zs) (sym (darts_grown v ks)))
      (subst (λ us. IsMapOf (2 * e) f (map (dart v) (r ∷ tops ks) ∷ (us ++ lists))) (sym (nodes_grown v ks fits)) is)))
