-- A tree planted at a vertex: some map with the leaves in its place has the same genus.
use Rattle.std.proofs.Common.{ℕ, List, [], ◌∷◌, ◌++◌, append_assoc, sym, refl, ap, ◌∙◌, subst, ◌*◌}
use Rattle.std.proofs.lemmas.List.{append-nil}
use Rattle.cp_lists.proofs.TurnedLists.{turn_parts}
use Rattle.cp_faces.specs.Twins.{twin}
use Rattle.cp_maps.specs.Genus.{Becomes}
use Rattle.cp_maps.specs.Maps.{IsMapOf}
use Rattle.cp_maps.specs.Trees.{Kids, darts_of_kids, leaf_kid, leaves_of, lists_of_nodes, no_kid, node_kid}
use Rattle.cp_maps.proofs.ContractedEdges.{contracted_edge-Becomes}
use Rattle.cp_maps.proofs.Genus.{SameGenus-trans}
use Rattle.cp_maps.proofs.MapLists.{IsMapOf-turn}

-- a part of a planted tree contracted
planted_part-Becomes : (e : ℕ) (f : ℕ → ℕ) (r : ℕ) (xs : List ℕ) (ks : Kids) (ys : List ℕ) (rows : List (List ℕ))
    → IsMapOf (2 * e) f ((r ∷ (xs ++ (darts_of_kids ks ++ ys))) ∷ (lists_of_nodes ks ++ rows))
    → Becomes e f ((r ∷ (xs ++ (leaves_of ks ++ ys))) ∷ rows)
planted_part-Becomes e f r xs no_kid ys rows is = (f, is, refl)
planted_part-Becomes e f r xs (leaf_kid x ks) ys rows is =
    let rest : Becomes e f ((r ∷ ((xs ++ x ∷ []) ++ (leaves_of ks ++ ys))) ∷ rows) =
    planted_part-Becomes e f r (xs ++ x ∷ []) ks ys rows
    (subst (λ zs. IsMapOf (2 * e) f ((r ∷ zs) ∷ (lists_of_nodes ks ++ rows)))
    (sym (append_assoc xs (x ∷ []) (darts_of_kids ks ++ ys))) is) in (
      rest.0,
      subst (λ zs. IsMapOf (2 * e) rest.0 ((r ∷ zs) ∷ rows))
          (append_assoc xs (x ∷ []) (leaves_of ks ++ ys)) rest.1,
      rest.2,
    )
planted_part-Becomes e f r xs (node_kid up inner ks) ys rows is =
    let others : List (List ℕ) = lists_of_nodes inner ++ (lists_of_nodes ks ++ rows) in
    let h : Becomes e f ((((darts_of_kids ks ++ ys) ++ r ∷ xs) ++ darts_of_kids inner) ∷ others) =
    contracted_edge-Becomes e f up ((darts_of_kids ks ++ ys) ++ r ∷ xs) (darts_of_kids inner) others
    (IsMapOf-turn (2 * e) f (r ∷ (xs ++ up ∷ (darts_of_kids ks ++ ys))) (up ∷ ((darts_of_kids ks ++ ys) ++ r ∷ xs))
    ((twin up ∷ darts_of_kids inner) ∷ others) (turn_parts (r ∷ xs) (up ∷ (darts_of_kids ks ++ ys)))
    (subst (λ zs. IsMapOf (2 * e) f
    ((r ∷ (xs ++ up ∷ (darts_of_kids ks ++ ys))) ∷ (twin up ∷ darts_of_kids inner) ∷ zs))
    (append_assoc (lists_of_nodes inner) (lists_of_nodes ks) rows) is)) in
    let one : Becomes e h.0 ((r ∷ (xs ++ (leaves_of inner ++ (darts_of_kids ks ++ ys))))
    ∷ (lists_of_nodes ks ++ rows)) =
    planted_part-Becomes e h.0 r xs inner (darts_of_kids ks ++ ys) (lists_of_nodes ks ++ rows)
    (subst (λ zs. IsMapOf (2 * e) h.0 ((r ∷ zs) ∷ others))
    (append_assoc xs (darts_of_kids inner) (darts_of_kids ks ++ ys))
    (IsMapOf-turn (2 * e) h.0 ((darts_of_kids ks ++ ys) ++ (r ∷ (xs ++ darts_of_kids inner)))
    ((r ∷ (xs ++ darts_of_kids inner)) ++ (darts_of_kids ks ++ ys)) others
    (turn_parts (darts_of_kids ks ++ ys) (r ∷ (xs ++ darts_of_kids inner)))
    (subst (λ zs. IsMapOf (2 * e) h.0 (zs ∷ others))
    (append_assoc (darts_of_kids ks ++ ys) (r ∷ xs) (darts_of_kids inner)) h.1))) in
    let two : Becomes e one.0 ((r ∷ ((xs ++ leaves_of inner) ++ (leaves_of ks ++ ys))) ∷ rows) =
    planted_part-Becomes e one.0 r (xs ++ leaves_of inner) ks ys rows
    (subst (λ zs. IsMapOf (2 * e) one.0 ((r ∷ zs) ∷ (lists_of_nodes ks ++ rows)))
    (sym (append_assoc xs (leaves_of inner) (darts_of_kids ks ++ ys))) one.1) in (
      two.0,
      subst (λ zs. IsMapOf (2 * e) two.0 ((r ∷ zs) ∷ rows))
          (append_assoc xs (leaves_of inner) (leaves_of ks ++ ys)
          ∙ ap (λ zs. xs ++ zs) (sym (append_assoc (leaves_of inner) (leaves_of ks) ys))) two.1,
      SameGenus-trans e f h.0 two.0 h.2 (SameGenus-trans e h.0 one.0 two.0 one.2 two.2),
    )

-- the leaves in the place of a tree planted at a vertex
pub planted_tree-Becomes : (e : ℕ) (f : ℕ → ℕ) (r : ℕ) (ks : Kids) (rows : List (List ℕ))
    → IsMapOf (2 * e) f ((r ∷ darts_of_kids ks) ∷ (lists_of_nodes ks ++ rows))
    → Becomes e f ((r ∷ leaves_of ks) ∷ rows)
planted_tree-Becomes e f r ks rows is =
    subst (λ zs. Becomes e f ((r ∷ zs) ∷ rows)) (append-nil (leaves_of ks))
    (planted_part-Becomes e f r [] ks [] rows
    (subst (λ zs. IsMapOf (2 * e) f ((r ∷ zs) ∷ (lists_of_nodes ks ++ rows))) (sym (append-nil (darts_of_kids ks))) is))
