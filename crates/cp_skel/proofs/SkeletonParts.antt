-- The parts of the skeletons keep the rules of an instance where they fit into memory.
use Rattle.std.proofs.Common.{◌≡◌, ℕ, zero, suc, ◌+◌, ◌^◌, ◌≤◌, Bool, List, length, sym, ap, ap₂, ◌∙◌, subst, ⊎_elim, arith}
use Rattle.std.specs.List.{filter, range_with_len}
use Rattle.std.proofs.lemmas.Bool.{cases_Bool}
use Rattle.cp_lists.proofs.FilteredLists.{filter_no, filter_yes}
use Rattle.cp_board.specs.declared.parts.Vert.{Vert}
use Rattle.cp_board.specs.declared.parts.EdgeRow.{EdgeRow}
use Rattle.cp_board.specs.declared.parts.Pipe.{Pipe}
use Rattle.cp_board.specs.Instances.{IsSynchronized}
use Rattle.cp_sync.specs.Faults.{with_parts}
use Rattle.cp_cgraph.specs.Clustered.{Clustered, IsClustered, clusters}
use Rattle.cp_skel.specs.Skeletons.{all_vertices, is_left, kept_segments, left, skeletons}
use Rattle.cp_skel.proofs.SkeletonRules.{IsSynchronized-skeletons}

-- a test keeps at most all numbers of a range
length-filter-le : (p : ℕ → Bool) (a n : ℕ) → length (filter p (range_with_len a n)) ≤ n
length-filter-le p a zero = omega arith
length-filter-le p a (suc n) =
    let rest : length (filter p (range_with_len (a + 1) n)) ≤ n = length-filter-le p (a + 1) n in
    ⊎_elim
    (λ t. let e = ap length (filter_yes p a (range_with_len (a + 1) n) t) in omega (arith, e, rest))
    (λ f. let e = ap length (filter_no p a (range_with_len (a + 1) n) f) in omega (arith, e, rest))
    (cases_Bool (p a))

-- at most all clusters are left
pub length-left-le : (g : Clustered) → length (left g) ≤ clusters g
length-left-le g = length-filter-le (is_left g) 0 (clusters g)

-- the parts of the skeletons
pub parts-IsSynchronized : (g : Clustered) → IsClustered g → length (all_vertices g) ≤ 2 ^ 63
    → length (kept_segments g) ≤ 2 ^ 63 → clusters g ≤ 2 ^ 63
    → (verts : List Vert) (edges : List EdgeRow) (pipes : List Pipe) → verts ≡ (skeletons g).verts
    → edges ≡ (skeletons g).edges → pipes ≡ (skeletons g).pipes → IsSynchronized (with_parts verts edges pipes)
parts-IsSynchronized g is few_vertices few_edges few_clusters verts edges pipes is_verts is_edges is_pipes =
    let same : with_parts verts edges pipes ≡ skeletons g =
    ap (λ (vs : List Vert). with_parts vs edges pipes) is_verts
    ∙ ap₂ (λ (es : List EdgeRow) (ps : List Pipe). with_parts (skeletons g).verts es ps) is_edges is_pipes in
    subst IsSynchronized (sym same)
    (IsSynchronized-skeletons g is few_vertices few_edges
    (let h = length-left-le g in omega (arith, h, few_clusters)))
