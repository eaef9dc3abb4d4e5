-- The pipe past the two poles: its pairs are those of the step, and it fits beside the pipes that stay.
use Rattle.std.proofs.Common.{◌≡◌, ◌≢◌, ℕ, true, false, not, eqb, List, [], ◌∷◌, length, map, sym, refl, ap, ◌∙◌, subst, inl, inr, IsPermutation}
use Rattle.std.specs.Prelude.{Some, find}
use Rattle.std.specs.List.{All, Contains}
use Rattle.std.specs.Option.{option_map_or}
use Rattle.std.proofs.lemmas.List.Elements.{All-contains, All-head, All-tail}
use Rattle.std.proofs.lemmas.List.Kept.{IsStrictlyIncreasing-filter}
use Rattle.std.proofs.lemmas.List.Sorted.{IsPermutation-map, IsPermutation-sym, IsPermutation-trans}
use Rattle.cp_lists.specs.CyclicLists.{Distinct, Has, Lacks}
use Rattle.cp_lists.proofs.DistinctLists.{Has-Contains}
use Rattle.cp_lists.proofs.FilteredLists.{filter-Distinct}
use Rattle.cp_lists.proofs.MappedLists.{Distinct-map_on, Has-map_on, map_on-Has, map_undone}
use Rattle.cp_lists.proofs.PermutedLists.{IsPermutation-from}
use Rattle.cp_conn.specs.Bonds.{GoesOn, IsAlong}
use Rattle.cp_conn.specs.NamedGraphs.{NamedGraph, edges_at, ends_at}
use Rattle.cp_conn.proofs.Bonds.{GoesOn-within, along_apart}
use Rattle.cp_conn.proofs.EqualBonds.{along_onto}
use Rattle.cp_conn.proofs.NamedGraphs.{map_from}
use Rattle.cp_board.specs.declared.parts.Pipe.{Pipe}
use Rattle.cp_board.specs.Names.{has, AreNew}
use Rattle.cp_board.specs.Instances.{HasRightEnds, HasRightPairs, IsPVertex, IsSynchronized, Synchronized, edges_of, graph, pipe_named, pipe_names}
use Rattle.cp_board.specs.Changes.{pairs_by_first}
use Rattle.cp_board.specs.Steps.{IsEnd, IsFusible, opposite, partner}
use Rattle.cp_board.proofs.ListTests.{rises}
use Rattle.cp_board.proofs.NamedLists.{rises_from}
use Rattle.cp_board.proofs.NewNames.{new_names-dead}
use Rattle.cp_poles.specs.Between.{IsAlongBond}
use Rattle.cp_poles.specs.Fused.{new_pipe_name, past, pipe_past}
use Rattle.cp_poles.specs.Wanted.{partner_in}
use Rattle.cp_poles.proofs.AddedPipes.{FitsBeside, has-fewer, new_pipe-small}
use Rattle.cp_poles.proofs.ApartEnds.{ends_of_all}
use Rattle.cp_poles.proofs.FreePoles.{other_end}
use Rattle.cp_poles.proofs.FusiblePipes.{ends-apart, others-no_end_p, others-no_end_q, q_end, q_live, without_two}
use Rattle.cp_synclaw.proofs.InstanceDarts.{edges_once}
use Rattle.cp_poles.proofs.NamedOrders.{by_name-rising}
use Rattle.cp_poles.proofs.NewCells.{one_new_name, one_new_name-le}
use Rattle.cp_poles.proofs.PipePartners.{HasPartners, end-HasPartners, found_own}
use Rattle.cp_poles.proofs.ReorderedSolutions.{HasNoEnd}
use Rattle.cp_poles.proofs.SmallPipes.{right_ends, right_pairs}

-- the first edges of pairs that are told by them
firsts-with : (f : ℕ → ℕ) (ys : List ℕ) → map (λ (x : ℕ × ℕ). x.0) (map (λ y. (y, f y)) ys) ≡ ys
firsts-with f [] = refl
firsts-with f (y ∷ ys) = ap (λ zs. y ∷ zs) (firsts-with f ys)

-- and the second ones
seconds-with : (f : ℕ → ℕ) (ys : List ℕ) → map (λ (x : ℕ × ℕ). x.1) (map (λ y. (y, f y)) ys) ≡ map f ys
seconds-with f [] = refl
seconds-with f (y ∷ ys) = ap (λ zs. f y ∷ zs) (seconds-with f ys)

-- pairs told by the partners of edges, where each edge can be told from its partner
pairs-told : (there back along : ℕ → ℕ) (xs : List ℕ) → ((x : ℕ) → Has x xs → back (there x) ≡ x)
    → map {B = ℕ × ℕ} (λ x. (there x, along x)) xs ≡ map {B = ℕ × ℕ} (λ y. (y, along (back y))) (map there xs)
pairs-told there back along [] undone = refl
pairs-told there back along (x ∷ xs) undone =
    let pair : ℕ → ℕ × ℕ = λ z. (there x, z) in
    ap (λ (z : ℕ × ℕ). z ∷ map {B = ℕ × ℕ} (λ y. (there y, along y)) xs)
    (ap pair (ap along (sym (undone x (inl refl)))))
    ∙ ap (λ (zs : List (ℕ × ℕ)). pair (along (back (there x))) ∷ zs)
    (pairs-told there back along xs (λ y h. undone y (inr h)))

-- the steps from an edge of the other end of p to an edge of the other end of q, one after the other
pub past-steps : (p q : Pipe) (u v : ℕ) (along : List (ℕ × ℕ)) (ys : List ℕ)
    → map (λ x. partner q v x) (map (λ x. partner_in along true x) (map (λ y. partner p (opposite p u) y) ys))
    ≡ map (past p q u v along) ys
past-steps p q u v along [] = refl
past-steps p q u v along (y ∷ ys) = ap (λ zs. past p q u v along y ∷ zs) (past-steps p q u v along ys)

-- a vertex at which no pipe ends is none of the ends of pipes
ends-Lacks : (x : ℕ) (ps : List Pipe) → All (HasNoEnd x) ps → Lacks x (ends_of_all ps)
ends-Lacks x [] off = tt
ends-Lacks x (p ∷ ps) off =
    let h = All-head (HasNoEnd x) p ps off in
    (h.0, (h.1, ends-Lacks x ps (All-tail (HasNoEnd x) p ps off)))

-- the pipes p of the end u and q of its pole v, and the edges of u with those as which they go on
module _ (i : Synchronized) (pipe : ℕ) (p q : Pipe) (is : IsSynchronized i) (live : pipe_named i pipe ≡ Some p)
    (u v : ℕ) (fus : IsFusible i p q u v) (along : List (ℕ × ℕ)) (are : IsAlongBond (graph i) u v along) where
  -- the graph, and the other ends
  abbrev g : NamedGraph
  g = graph i

  -- the other end of p
  abbrev w : ℕ
  w = opposite p u

  -- the other end of q
  abbrev w' : ℕ
  w' = opposite q v

  -- the partners at u and back from it, the edge onward, and the partners at the pole
  abbrev there : ℕ → ℕ
  there x = partner p u x

  -- the partner at u of an edge of the other end
  abbrev back : ℕ → ℕ
  back y = partner p (opposite p u) y

  -- the edge of the pole as which an edge of u goes on
  abbrev onward : ℕ → ℕ
  onward x = partner_in along true x

  -- the partner at the other end of q of an edge of the pole
  abbrev beyond : ℕ → ℕ
  beyond x = partner q v x

  -- q is found under its name
  live_q : pipe_named i q.name ≡ Some q
  live_q = q_live i pipe p q is live u v fus

  -- the pole is an end of q
  end_q : IsEnd q v
  end_q = q_end i pipe p q is live u v fus

  -- the ends of p are right
  ends_p : HasRightEnds i.verts p
  ends_p = right_ends i pipe p is live

  -- and so are those of q
  ends_q : HasRightEnds i.verts q
  ends_q = right_ends i q.name q is live_q

  -- the partners of the edges of u
  partners_p : HasPartners i is p ends_p.differ (right_pairs i pipe p is live) u w there back
  partners_p = end-HasPartners i is p ends_p.differ (right_pairs i pipe p is live) u fus.end

  -- and of those of the pole
  partners_q : HasPartners i is q ends_q.differ (right_pairs i q.name q is live_q) v w' beyond (λ x. partner q w' x)
  partners_q = end-HasPartners i is q ends_q.differ (right_pairs i q.name q is live_q) v end_q

  -- no edge of a vertex stands twice
  once_at : (x : ℕ) → Distinct (edges_at g x)
  once_at x = filter-Distinct (ends_at g x) g.edges (edges_once i is)

  -- to go on by the pairs is to go along the bond
  pub IsAlong-pairs : IsAlong g u v onward
  IsAlong-pairs e c =
      let from : (y : ℕ × ℕ) × Contains along y × (y.0 ≡ e) =
      map_from (λ (y : ℕ × ℕ). y.0) along e (subst (λ zs. Contains zs e) (sym are.edges) c) in
      let found : onward from.0.0 ≡ from.0.1 =
      ap (λ o. option_map_or (λ y. y.1) o 0)
      (All-contains (λ (y : ℕ × ℕ). find (λ z. eqb z.0 y.0) along ≡ Some y) along from.0
      (found_own (λ (y : ℕ × ℕ). y.0) along (subst Distinct (sym are.edges) (once_at u))) from.1) in
      subst (λ z. GoesOn g u v z (onward z)) from.2
      (subst (GoesOn g u v from.0.0) (sym found)
      (All-contains (λ y. GoesOn g u v y.0 y.1) along from.0 are.onward from.1))

  -- the two poles have as many edges
  equal : length (edges_at g u) ≡ length (edges_at g v)
  equal = partners_p.size ∙ sym fus.same ∙ sym partners_q.size

  -- what the edges of u go on as are the edges of v
  onward_arranged : IsPermutation (edges_at g v) (map onward (edges_at g u))
  onward_arranged =
      IsPermutation-from (edges_at g v) (map onward (edges_at g u)) (once_at v)
      (Distinct-map_on onward (edges_at g u)
      (λ x y hx hy. along_apart g u v fus.bond onward IsAlong-pairs x y (edge hx) (edge hy))
      (once_at u))
      (λ f h.
      let e = along_onto g u v fus.bond (edges_once i is) equal onward IsAlong-pairs f
      ((Has-Contains f (edges_at g v)).0 h) in
      subst (λ z. Has z (map onward (edges_at g u))) e.2
      (Has-map_on onward e.0 (edges_at g u) ((Has-Contains e.0 (edges_at g u)).1 e.1)))
      (λ f h.
      let e = map_on-Has onward f (edges_at g u) h in
      subst (λ z. Has z (edges_at g v)) e.2
      ((Has-Contains (onward e.0) (edges_at g v)).1
      (GoesOn-within g u v e.0 (onward e.0) (edge e.1) (IsAlong-pairs e.0 (edge e.1)))))
    where
      edge : {x : ℕ} → Has x (edges_at g u) → Contains (edges_at g u) x
      edge {x} h = (Has-Contains x (edges_at g u)).0 h

  -- the pairs, by the edges of the other end of p
  abbrev new_pairs : List (ℕ × ℕ)
  new_pairs = map (λ y. (y, past p q u v along y)) (edges_of i w)

  -- are those of the step
  pub pairs-past : pairs_by_first (map (λ x. (there x, beyond (onward x))) (edges_of i u)) ≡ new_pairs
  pairs-past =
      by_name-rising (λ (x : ℕ × ℕ). x.0) (map (λ x. (there x, beyond (onward x))) (edges_of i u)) new_pairs
      (subst (λ zs. IsPermutation zs new_pairs)
      (sym (pairs-told there back (λ x. beyond (onward x)) (edges_of i u)
      (λ x h. partners_p.undone x ((Has-Contains x (edges_of i u)).0 h))))
      (IsPermutation-map (λ y. (y, past p q u v along y)) (map there (edges_of i u)) (edges_of i w)
      (IsPermutation-sym (edges_of i w) (map there (edges_of i u)) partners_p.arranged)))
      (subst (λ zs. rises zs ≡ true) (sym (firsts-with (past p q u v along) (edges_of i w)))
      (rises_from (edges_of i w) (IsStrictlyIncreasing-filter (ends_at g w) g.edges is.edges_named.rise)))

  -- they are right for the two other ends
  second_arranged : IsPermutation (edges_at g w') (map (past p q u v along) (edges_at g w))
  second_arranged =
      subst (IsPermutation (edges_at g w')) (past-steps p q u v along (edges_at g w))
      (IsPermutation-trans (edges_at g w') (map beyond (edges_at g v))
      (map beyond (map onward (map back (edges_at g w))))
      partners_q.arranged
      (IsPermutation-map beyond (edges_at g v) (map onward (map back (edges_at g w)))
      (IsPermutation-trans (edges_at g v) (map onward (edges_at g u)) (map onward (map back (edges_at g w)))
      onward_arranged
      (IsPermutation-map onward (edges_at g u) (map back (edges_at g w)) back_arranged))))
    where
      back_arranged : IsPermutation (edges_at g u) (map back (edges_at g w))
      back_arranged =
          IsPermutation-sym (map back (edges_at g w)) (edges_at g u)
          (subst (IsPermutation (map back (edges_at g w)))
          (map_undone there back (edges_at g u) (λ x h. partners_p.undone x ((Has-Contains x (edges_at g u)).0 h)))
          (IsPermutation-map back (edges_at g w) (map there (edges_at g u)) partners_p.arranged))

  -- the pipe past the two poles
  abbrev new_pipe : Pipe
  new_pipe = pipe_past i p q u v along

  -- it has right pairs
  pairs_right : HasRightPairs g new_pipe
  pairs_right = record {
    first = firsts-with (past p q u v along) (edges_of i w);
    second = subst (IsPermutation (edges_at g w')) (sym (seconds-with (past p q u v along) (edges_of i w)))
        second_arranged;
  }

  -- its name is new
  pub new_name : AreNew (pipe_names i) (new_pipe_name i ∷ [])
  new_name = one_new_name (pipe_names i)

  -- the other end of p is another P-vertex
  other_p : (w ≢ u) × IsPVertex i w × IsEnd p w
  other_p = other_end i pipe p is live u fus.end

  -- and so is the other end of q
  other_q : (w' ≢ v) × IsPVertex i w' × IsEnd q w'
  other_q = other_end i q.name q is live_q v end_q

  -- the pipe fits beside those that stay
  pub FitsBeside-past : FitsBeside (without_two i p q) new_pipe
  FitsBeside-past = record {
    new_name = has-fewer (λ r. not (has (p.name ∷ q.name ∷ []) r.name)) (new_pipe_name i) i.pipes
        (All-head (λ n. has (pipe_names i) n ≡ false) (new_pipe_name i) []
        (new_names-dead (pipe_names i) (new_pipe_name i ∷ []) new_name));
    small = new_pipe-small i (new_pipe_name i) is (one_new_name-le (pipe_names i));
    ends = record {
      differ = ends-apart i pipe p q is live u v fus w w' other_p.2 other_q.2;
      free_a = other_p.1;
      free_b = other_q.1;
    };
    apart_a = ends-Lacks w (without_two i p q).pipes (others-no_end_p i pipe p q is live u v fus w other_p.2);
    apart_b = ends-Lacks w' (without_two i p q).pipes (others-no_end_q i pipe p q is live u v fus w' other_q.2);
    pairs = pairs_right;
  }
