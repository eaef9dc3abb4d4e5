-- A pole of a bond with an end of the pipe of greatest degree: it has no pipe, or the other end of this pipe is the
-- pole, or it has another pipe of the same degree.
use Rattle.std.proofs.Common.{◌≡◌, ◌≢◌, ℕ, ◌<◌, ◌≤◌, Bool, ◌||◌, ◌⊎◌, eqb, length, sym, ap, ◌∙◌, subst, inl, inr, ⊎_elim, arith}
use Rattle.std.specs.Prelude.{Some, find}
use Rattle.std.specs.List.{Contains}
use Rattle.cp_lists.specs.CyclicLists.{Distinct}
use Rattle.cp_lists.proofs.DistinctLists.{Has-Contains}
use Rattle.cp_lists.proofs.FilteredLists.{filter-Distinct}
use Rattle.cp_conn.specs.Bonds.{IsBond}
use Rattle.cp_conn.specs.NamedGraphs.{NamedGraph, ends_at, edges_at}
use Rattle.cp_conn.proofs.Bonds.{GoesOn-within, IsAlong-first_onward, along_apart, first_onward}
use Rattle.cp_conn.proofs.DistinctSubsets.{injected_length}
use Rattle.cp_conn.proofs.EqualBonds.{bond_back}
use Rattle.cp_board.specs.declared.parts.Pipe.{Pipe}
use Rattle.cp_board.specs.Instances.{Synchronized, IsSynchronized, HasRightPairs, graph, edges_of, pipe_named, pipe_at}
use Rattle.cp_board.specs.Steps.{degree, IsEnd, IsFusible}
use Rattle.cp_board.specs.Runs.{IsGreatest}
use Rattle.cp_runlaw.proofs.FoundPipes.{All-find, find-named, length-right_end, edges_distinct, pipes_distinct, pipe_at-end, end-pipe_at}

-- along a bond no two edges of the one pole go on as one of the other, so the other has no fewer
pub bond_le : (g : NamedGraph) (u v : ℕ) → IsBond g u v → Distinct g.edges
    → length (edges_at g u) ≤ length (edges_at g v)
bond_le g u v bond once =
    injected_length (first_onward g u v) (edges_at g u) (edges_at g v) (filter-Distinct (ends_at g u) g.edges once)
    (λ e h.
    let c : Contains (edges_at g u) e = (Has-Contains e (edges_at g u)).0 h in
    (Has-Contains (first_onward g u v e) (edges_at g v)).1
    (GoesOn-within g u v e (first_onward g u v e) c (IsAlong-first_onward g u v bond e c)))
    (λ e k he hk same.
    along_apart g u v bond (first_onward g u v) (IsAlong-first_onward g u v bond) e k
    ((Has-Contains e (edges_at g u)).0 he) ((Has-Contains k (edges_at g u)).0 hk) same)

-- no pipe has a greater degree than the greatest
pub greatest_le : (i : Synchronized) (p q : Pipe) (f : Pipe → Bool) → IsGreatest i p → find f i.pipes ≡ Some q
    → degree q ≤ degree p
greatest_le i p q f greatest found =
    ⊎_elim
    (λ (lt : degree q < degree p). let le : degree q ≤ degree p = omega (arith, lt) in le)
    (λ (h : (degree q ≡ degree p) × (p.name ≤ q.name)). let le : degree q ≤ degree p = omega (arith, h.0) in le)
    (All-find (λ q. (degree q < degree p) ⊎
    ((degree q ≡ degree p) × (p.name ≤ q.name))) f i.pipes q greatest.others found)

-- the end u of the pipe p and the pole v are a bond
module _ (i : Synchronized) (is : IsSynchronized i) (n : ℕ) (p : Pipe) (live : pipe_named i n ≡ Some p) (u v : ℕ)
    (end : IsEnd p u) (bond : IsBond (graph i) u v) where
  -- the edges of the end
  size_u : length (edges_of i u) ≡ degree p
  size_u = length-right_end i p u (All-find (HasRightPairs (graph i))
      (λ x. eqb x.name n) i.pipes p is.pairs_right live) end

  -- the edges of the pole are the pairs of its pipe
  size_v : (q : Pipe) → pipe_at i v ≡ Some q → length (edges_of i v) ≡ degree q
  size_v q found =
      length-right_end i q v (All-find (HasRightPairs (graph i))
      (λ x. eqb x.a v || eqb x.b v) i.pipes q is.pairs_right found)
      (pipe_at-end i v q found)

  -- the pipe of the pole has no smaller degree
  pub pole_degree : (q : Pipe) → pipe_at i v ≡ Some q → degree p ≤ degree q
  pole_degree q found = omega (arith, size_u, size_v q found, bond_le (graph i) u v bond (edges_distinct i is))

  -- a pipe of the pole that has the name of p is p
  pub pole_same : (q : Pipe) → pipe_at i v ≡ Some q → q.name ≡ p.name → q ≡ p
  pole_same q found named =
      let own : pipe_named i q.name ≡ Some q =
      find-named (λ x. eqb x.a v || eqb x.b v) i.pipes q (pipes_distinct i is) found in
      let theirs : pipe_named i p.name ≡ Some p = find-named (λ x. eqb x.name n) i.pipes p (pipes_distinct i is) live in
      let moved : pipe_named i p.name ≡ Some q = subst (λ m. pipe_named i m ≡ Some q) named own in
      cc

  -- and then the pole is the other end
  pub pole_opposite : (q : Pipe) → pipe_at i v ≡ Some q → q.name ≡ p.name
      → ((u ≡ p.a) × (v ≡ p.b)) ⊎ ((u ≡ p.b) × (v ≡ p.a))
  pole_opposite q found named =
      ends_are end (subst (λ z. IsEnd z v) (pole_same q found named) (pipe_at-end i v q found))
    where
      ends_are : IsEnd p u → IsEnd p v → ((u ≡ p.a) × (v ≡ p.b)) ⊎ ((u ≡ p.b) × (v ≡ p.a))
      ends_are (inl a) (inl b) = absurd (bond.differ (sym a ∙ b))
      ends_are (inl a) (inr b) = inl (sym a, sym b)
      ends_are (inr a) (inl b) = inr (sym a, sym b)
      ends_are (inr a) (inr b) = absurd (bond.differ (sym a ∙ b))

  -- and where the pole is the other end, its pipe is p
  pub opposite_pipe : ((u ≡ p.a) × (v ≡ p.b)) ⊎ ((u ≡ p.b) × (v ≡ p.a)) → pipe_at i v ≡ Some p
  opposite_pipe where_is =
      end-pipe_at i n p v is live (⊎_elim (λ (h : (u ≡ p.a) × (v ≡ p.b)). inr (sym h.1))
      (λ (h : (u ≡ p.b) × (v ≡ p.a)). inl (sym h.1)) where_is)

  -- where the pole has the pipe p, both ends are a bond, read from the first
  pub pole_torus : (q : Pipe) → pipe_at i v ≡ Some q → q.name ≡ p.name → IsBond (graph i) p.a p.b
  pole_torus q found named =
      ⊎_elim
      (λ (h : (u ≡ p.a) × (v ≡ p.b)). subst (λ x. IsBond (graph i) x p.b) h.0
      (subst (λ y. IsBond (graph i) u y) h.1 bond))
      (λ (h : (u ≡ p.b) × (v ≡ p.a)).
      subst (λ x. IsBond (graph i) x p.b) h.1 (subst (λ y. IsBond (graph i) v y) h.0
      (bond_back (graph i) u v bond (edges_distinct i is) equal)))
      (pole_opposite q found named)
    where
      equal : length (edges_of i u) ≡ length (edges_of i v)
      equal = size_u ∙ sym (ap degree (pole_same q found named)) ∙ sym (size_v q found)

  -- no fourth case: where p is the pipe of greatest degree, another pipe of the pole has its degree
  pub pole_fusible : IsGreatest i p → (q : Pipe) → pipe_at i v ≡ Some q → q.name ≢ p.name → IsFusible i p q u v
  pole_fusible greatest q found another = record {
    end = end;
    bond = bond;
    matched = found;
    another = another;
    same = omega (arith, pole_degree q found, greatest_le i p q (λ x. eqb x.a v || eqb x.b v) greatest found);
  }
