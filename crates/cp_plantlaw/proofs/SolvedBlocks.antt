-- A solution of an instance tells an order of each vertex that is no cut vertex in its block.
use Rattle.std.proofs.Common.{◌≡◌, ℕ, Bool, true, false, List, [], ◌∷◌, get_or, sym, refl, ap, ◌∙◌, subst, inl, inr}
use Rattle.std.specs.Prelude.{filter}
use Rattle.std.specs.List.{Contains}
use Rattle.std.proofs.lemmas.Bool.{cond-true}
use Rattle.std.proofs.lemmas.List.Sorted.{IsPermutation-sym}
use Rattle.std.proofs.lemmas.List.Elements.{All-contains}
use Rattle.cp_lists.specs.CyclicLists.{Has}
use Rattle.cp_lists.specs.Turns.{IsTurn}
use Rattle.cp_lists.proofs.DistinctLists.{Has-Contains}
use Rattle.cp_lists.proofs.PermutedLists.{Has-IsPermutation}
use Rattle.cp_lists.proofs.ReversedLists.{filter-reverse}
use Rattle.cp_lists.proofs.TurnedLists.{turn-filter, turn-refl}
use Rattle.cp_conn.specs.Blocks.{HaveNoLoop}
use Rattle.cp_conn.specs.NamedGraphs.{IsBlockOf, IsCut, NamedGraph, edges_at, pairs}
use Rattle.cp_conn.proofs.BlockBonds.{uncut_inside}
use Rattle.cp_conn.proofs.NamedGraphs.{IsBlockOf-block_test, block_test, edge_at, edges_at-Contains}
use Rattle.cp_board.specs.declared.parts.Kind.{Kind}
use Rattle.cp_board.specs.declared.parts.Kind.TheVariants.{P, Q}
use Rattle.cp_board.specs.Blocks.{IsBlockOrder, IsBlockRotation, IsKept, IsUnembeddable}
use Rattle.cp_board.specs.Instances.{Synchronized, IsSynchronized, edges_of, graph}
use Rattle.cp_board.specs.Rotations.{ArrangesEdges}
use Rattle.cp_board.specs.Solutions.{IsInDirection, IsSolvable, Solves, directed}
use Rattle.cp_synclaw.proofs.InstanceDarts.{live_at, live_ends}
use Rattle.cp_plantlaw.proofs.RestrictedGraphs.{inner-IsRotationOf}

-- what a list in a direction has of some edges is in that direction
kept_direction : (inside : ℕ → Bool) (back : ℕ → Bool) (xs : List ℕ) (k : Kind) → IsInDirection back xs k
    → IsKept inside (filter inside xs) k
kept_direction inside back xs P h = tt
kept_direction inside back xs (Q cell psi) h = (
  back cell,
  subst (λ zs. IsTurn zs (filter inside xs)) (same (back cell))
      (turn-filter inside (directed (back cell) psi) xs h),
)
  where
    same : (b : Bool) → filter inside (directed b psi) ≡ directed b (filter inside psi)
    same true = filter-reverse inside psi
    same false = refl

-- a filter that all items pass
all_pass : (inside : ℕ → Bool) (xs : List ℕ) → ((x : ℕ) → Has x xs → inside x ≡ true) → filter inside xs ≡ xs
all_pass inside [] all = refl
all_pass inside (x ∷ xs) all =
    cond-true (inside x) (x ∷ filter inside xs) (filter inside xs) (all x (inl refl))
    ∙ ap (λ zs. x ∷ zs) (all_pass inside xs (λ y h. all y (inr h)))

module _ (i : Synchronized) (is : IsSynchronized i) where
  -- the graph
  abbrev g : NamedGraph
  g = graph i

  -- no edge joins a vertex with itself
  pub instance-HaveNoLoop : HaveNoLoop (pairs g)
  instance-HaveNoLoop k lt same =
      let at = edge_at g k lt in
      (live_ends i is (get_or g.edges k 0) at.0).2
      (ap (λ (x : ℕ × ℕ). x.0) at.1 ∙ same ∙ ap (λ (x : ℕ × ℕ). x.1) (sym at.1))

  -- what the lists of a solution have of a block is a rotation of it
  pub Solves-IsBlockRotation : (s : ℕ → List ℕ) → Solves i s → (inside : ℕ → Bool)
      → IsBlockRotation i inside (λ v. filter inside (s v))
  Solves-IsBlockRotation s sol inside = record {
    rotation = inner-IsRotationOf g inside is.verts_named.rise is.edges_named.rise
        (λ f c. let l = live_ends i is f c in (l.0, l.1)) (λ f c. (live_ends i is f c).2) s sol.rotation;
    kept = λ k d lt. kept_direction inside sol.back _ _ (sol.in_direction k d lt);
  }

  -- so an instance with a block that has no rotation has no solution
  pub unembeddable-IsSolvable : (e : ℕ) → IsUnembeddable i e → ¬ IsSolvable i
  unembeddable-IsSolvable e u h =
      let block = IsBlockOf-block_test g e instance-HaveNoLoop u.live in
      u.none (block_test g e) (λ v. filter (block_test g e) (h.0 v)) block (Solves-IsBlockRotation h.0 h.1 (block_test g e))

  -- the list of a vertex that is no cut vertex, in a solution, is one of its orders in its block
  pub Solves-IsBlockOrder : (s : ℕ → List ℕ) → Solves i s → (u e : ℕ) → Contains (edges_of i u) e → ¬ IsCut g u
      → IsBlockOrder i u (s u)
  Solves-IsBlockOrder s sol u e at uncut =
      let live_e : Contains g.edges e = (edges_at-Contains g u e at).0 in
      let inside : ℕ → Bool = block_test g e in
      let block : IsBlockOf g e inside = IsBlockOf-block_test g e instance-HaveNoLoop live_e in
      let all : (f : ℕ) → Contains (edges_at g u) f → inside f ≡ true =
      uncut_inside g e u inside instance-HaveNoLoop block at uncut in
      let arr = All-contains (λ v. ArrangesEdges g v (s v)) g.verts u sol.rotation.arranged (live_at i is u e at) in
      let whole : filter inside (s u) ≡ s u =
      all_pass inside (s u) (λ x h. all x ((Has-Contains x (edges_at g u)).0
      (Has-IsPermutation x (s u) (edges_at g u) (IsPermutation-sym (edges_at g u) (s u) arr) h))) in
      record {
        edge = e;
        at = at;
        inside = inside;
        block = block;
        lists = λ v. filter inside (s v);
        rotation = Solves-IsBlockRotation s sol inside;
        turn = subst (λ xs. IsTurn xs (s u)) (sym whole) (turn-refl (s u));
      }
