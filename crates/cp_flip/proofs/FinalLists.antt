-- The lists of all vertices, put together, are a solution.
use Rattle.std.proofs.Common.{◌≡◌, ℕ, Bool, true, false, List, [], map, sym, ap, ◌∙◌, subst, arith}
use Rattle.std.specs.Prelude.{Some, slice_index_or}
use Rattle.std.specs.List.{All, Contains}
use Rattle.std.specs.Option.{option_map_or}
use Rattle.std.proofs.lemmas.Bool.{cond-false, cond-true}
use Rattle.std.proofs.lemmas.List.{get_or_default, get_or-map, length-map}
use Rattle.cp_lists.specs.Rows.{flat}
use Rattle.cp_lists.specs.Turns.{IsTurn}
use Rattle.cp_lists.proofs.DistinctLists.{Has-Contains}
use Rattle.cp_lists.proofs.TurnedLists.{turn-refl}
use Rattle.cp_conn.specs.NamedGraphs.{rank}
use Rattle.cp_board.specs.declared.parts.Kind.{Kind}
use Rattle.cp_board.specs.declared.parts.Kind.TheVariants.{P, Q}
use Rattle.cp_board.specs.declared.parts.Pipe.{Pipe}
use Rattle.cp_board.specs.declared.parts.Vert.{Vert}
use Rattle.cp_board.specs.Instances.{IsSynchronized, Synchronized, is_q, is_q_kind, kind_cell, kind_of, kind_psi, psi_at, vert_names}
use Rattle.cp_board.specs.Solutions.{IsInDirection, IsMirror, IsSolution, directed, list_in, second_of}
use Rattle.cp_flip.specs.declared.block_trees.BlockTree.{BlockTree}
use Rattle.cp_flip.specs.BlockTrees.{AreAllBlocks}
use Rattle.cp_flip.specs.FreeFaults.{IsFree}
use Rattle.cp_flip.specs.GluedLists.{AreGlued, back_by, final_list, final_lists}
use Rattle.cp_flip.proofs.AppendedLists.{each-names, list_in-each}
use Rattle.cp_flip.proofs.GluedSolutions.{joined-IsRotationOf}
use Rattle.cp_flip.proofs.RotationsOfBlocks.{none, row_kind}

module _ {T : Type 0} (i : Synchronized) (is : IsSynchronized i) (cells : List ℕ) (bits : List Bool)
    (blocks : List (BlockTree T)) (found : AreAllBlocks i blocks) (rows : List (List ℕ))
    (glued : AreGlued i found.numbers (back_by i cells bits) blocks rows) (free : IsFree i) where
  -- the list of a vertex, from its row
  abbrev own : ℕ → List ℕ
  own v = final_list i cells bits v (slice_index_or rows (rank (vert_names i) v) [])

  -- what stands under a name in the final lists
  abbrev s : ℕ → List ℕ
  s = list_in (final_lists i cells bits rows)

  -- the list under the name of a vertex is this one
  s-own : (v : ℕ) → Contains (vert_names i) v → s v ≡ own v
  s-own v live = list_in-each own (vert_names i) v ((Has-Contains v (vert_names i)).1 live)

  -- that of a Q-vertex is its psi in the direction of its cell
  s-q : (v : ℕ) → Contains (vert_names i) v → is_q i v ≡ true → s v ≡ directed (back_by i cells bits v) (psi_at i v)
  s-q v live q = s-own v live
      ∙ cond-true {A = List ℕ} (is_q i v) (directed (back_by i cells bits v) (psi_at i v))
      (slice_index_or rows (rank (vert_names i) v) []) q

  -- that of another one is what was put together
  s-p : (v : ℕ) → Contains (vert_names i) v → is_q i v ≡ false
      → s v ≡ flat (map (λ (p : ℕ → List ℕ). p v) glued.parts)
  s-p v live p = s-own v live
      ∙ cond-false {A = List ℕ} (is_q i v) (directed (back_by i cells bits v) (psi_at i v))
      (slice_index_or rows (rank (vert_names i) v) []) p
      ∙ glued.row_of v live

  -- the direction of a cell
  abbrev back : ℕ → Bool
  back c = slice_index_or bits (rank cells c) false

  -- the lists are in the directions of the cells
  s-directions : All (λ (v : Vert). IsInDirection back (s v.name) v.kind) i.verts
  s-directions k d lt =
      let row = slice_index_or i.verts k none in
      let same : slice_index_or i.verts k d ≡ row = get_or_default i.verts k d none lt in
      let c : Contains (vert_names i) row.name = (
        k,
        omega (arith, lt, length-map i.verts (λ (x : Vert). x.name)),
        get_or-map (λ (x : Vert). x.name) i.verts k none row.name lt,
      ) in
      subst (λ (x : Vert). IsInDirection back (s x.name) x.kind) (sym same)
      (by_kind row.name row.kind (row_kind i is k lt) c)
    where
      by_kind : (v : ℕ) (k : Kind) → kind_of i v ≡ Some k → Contains (vert_names i) v → IsInDirection back (s v) k
      by_kind v P e live = tt
      by_kind v (Q cell psi) e live =
          let list : s v ≡ directed (back cell) psi =
          s-q v live (ap is_q_kind e)
          ∙ ap (λ o. directed (back (option_map_or kind_cell o 0)) (option_map_or kind_psi o [])) e in
          subst (IsTurn (directed (back cell) psi)) (sym list) (turn-refl (directed (back cell) psi))

  -- so they are a solution
  pub final-IsSolution : IsSolution i (final_lists i cells bits rows)
  final-IsSolution = record {
    names = each-names own (vert_names i);
    solves = record {
      rotation = joined-IsRotationOf i is found.numbers found.numbered.by_least (back_by i cells bits) blocks glued.parts
          found.embedded.edges glued.are_parts s s-q s-p free.no_crossing;
      mirrored = subst (All (λ (p : Pipe). IsMirror (second_of p) (s p.a) (s p.b))) (sym free.no_pipe)
          (λ k d lt. absurd (omega (arith, lt)));
      back = back;
      in_direction = s-directions;
    };
  }
