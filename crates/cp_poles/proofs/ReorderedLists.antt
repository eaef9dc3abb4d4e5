-- Named lists where the poles of a bond get the lists of a permuted rotation system.
use Rattle.std.proofs.Common.{◌≡◌, ◌≢◌, ℕ, List, map, slice_index_or, sym, ◌∙◌, subst, ⊎_elim}
use Rattle.std.specs.List.{All, Contains}
use Rattle.std.proofs.lemmas.Bool.{cases_eq}
use Rattle.std.proofs.lemmas.List.Elements.{Contains-get_or}
use Rattle.std.proofs.lemmas.List.Sorted.{Contains-permutation, IsPermutation-sym}
use Rattle.cp_conn.specs.Bonds.{IsBond}
use Rattle.cp_conn.specs.NamedGraphs.{NamedGraph, edges_at, rank}
use Rattle.cp_conn.proofs.NamedGraphs.{edges_at-Contains}
use Rattle.cp_rot.specs.Genus.{HasGenusZero}
use Rattle.cp_rot.specs.Systems.{Arranges, IsRotation, System}
use Rattle.cp_rotlaw.specs.Poles.{IsPermutedAt, graph_of}
use Rattle.cp_board.specs.Instances.{Synchronized, IsSynchronized, graph, vert_names}
use Rattle.cp_board.specs.Rotations.{ArrangesEdges, IsRotationOf, dart, system}
use Rattle.cp_board.specs.Solutions.{list_in, with_list}
use Rattle.cp_poles.specs.Permuted.{IsReordered, listed_edges}
use Rattle.cp_poles.proofs.PermutedLists.{listed-first, listed-other, listed-IsRotationOf}
use Rattle.cp_poles.proofs.SetLists.{list_in-other, list_in-same, with_list-has}

-- a list that arranges the edges of a vertex has live edges
pub arranged_live : (g : NamedGraph) (v : ℕ) (xs : List ℕ) → ArrangesEdges g v xs → All (Contains g.edges) xs
arranged_live g v xs arr k d lt =
    let e : ℕ = slice_index_or xs k d in
    (edges_at-Contains g v e
    (Contains-permutation xs (edges_at g v) e (IsPermutation-sym (edges_at g v) xs arr)
    (Contains-get_or xs k d lt))).0

-- a bond under other names of the same things
pub bond_given : (r r' : System) (a a' b b' : ℕ) → r ≡ r' → a ≡ a' → b ≡ b' → IsBond (graph_of r') a' b'
    → IsBond (graph_of r) a b
bond_given r r' a a' b b' er ea eb bond =
    subst (λ x. IsBond (graph_of x) a b) (sym er)
    (subst (λ x. IsBond (graph_of r') x b) (sym ea) (subst (λ x. IsBond (graph_of r') a' x) (sym eb) bond))

-- an arrangement
pub arranges_given : (r r' : System) (a a' : ℕ) (xs xs' : List ℕ) → r ≡ r' → a ≡ a' → xs ≡ xs'
    → Arranges r'.at a' xs' → Arranges r.at a xs
arranges_given r r' a a' xs xs' er ea es arr =
    subst (λ x. Arranges x.at a xs) (sym er)
    (subst (λ x. Arranges r'.at x xs) (sym ea) (subst (Arranges r'.at a') (sym es) arr))

-- a permuted system
pub permuted_given : (r r' : System) (a a' b b' : ℕ) (xs xs' : List ℕ) (t : System) → r ≡ r' → a ≡ a' → b ≡ b'
    → xs ≡ xs' → IsPermutedAt r a b xs t → IsPermutedAt r' a' b' xs' t
permuted_given r r' a a' b b' xs xs' t er ea eb es made =
    subst (λ x. IsPermutedAt x a' b' xs' t) er
    (subst (λ x. IsPermutedAt r x b' xs' t) ea
    (subst (λ x. IsPermutedAt r a x xs' t) eb (subst (λ x. IsPermutedAt r a b x t) es made)))

-- the lists of a rotation with those of a permuted system at the poles
pub IsReordered-made : (i : Synchronized) → IsSynchronized i → (rows : List (ℕ × List ℕ))
    → map (λ x. x.0) rows ≡ vert_names i → IsRotationOf (graph i) (list_in rows) → (u v : ℕ)
    → Contains (graph i).verts u → Contains (graph i).verts v → u ≢ v → (order : List ℕ)
    → ArrangesEdges (graph i) u order → (t : System) → IsRotation t
    → IsPermutedAt (system (graph i) (list_in rows)) (rank (graph i).verts u) (rank (graph i).verts v)
    (map (dart (graph i) u) order) t
    → HasGenusZero t → (row : List ℕ) → row ≡ listed_edges (graph i) t v
    → IsReordered (graph i) (list_in rows) u v order (list_in (with_list v row (with_list u order rows)))
IsReordered-made i is rows names rotation u v cu cv differ order arr t rot_t made flat row row_is = record {
  rotation = listed-IsRotationOf i is (list_in rows) rotation u order cu arr v cv t rot_t made flat
      (list_in (with_list v row (with_list u order rows)))
      (λ w c. ⊎_elim
      (λ e. subst (λ x. list_in (with_list v row (with_list u order rows)) x ≡ listed_edges (graph i) t x) (sym e)
      (at_v ∙ row_is))
      (λ nv. ⊎_elim
      (λ e. subst (λ x. list_in (with_list v row (with_list u order rows)) x ≡ listed_edges (graph i) t x) (sym e)
      (at_u ∙ sym (listed-first i is (list_in rows) rotation u order cu arr v cv t rot_t made flat)))
      (λ nu. elsewhere w nu nv
      ∙ sym (listed-other i is (list_in rows) rotation u order cu arr v cv t rot_t made flat w c nu nv))
      (cases_eq w u))
      (cases_eq w v));
  first = at_u;
  others = λ w c nu nv. elsewhere w nu nv;
}
  where
    named : (w : ℕ) → Contains (vert_names i) w → Contains (map (λ x. x.0) rows) w
    named w c = subst (λ ns. Contains ns w) (sym names) c

    at_v : list_in (with_list v row (with_list u order rows)) v ≡ row
    at_v = list_in-same v row (with_list u order rows) (with_list-has u order rows v (named v cv))

    at_u : list_in (with_list v row (with_list u order rows)) u ≡ order
    at_u = list_in-other v row (with_list u order rows) u differ ∙ list_in-same u order rows (named u cu)

    elsewhere : (w : ℕ) → w ≢ u → w ≢ v → list_in (with_list v row (with_list u order rows)) w ≡ list_in rows w
    elsewhere w nu nv = list_in-other v row (with_list u order rows) w nv ∙ list_in-other u order rows w nu
