-- An instance keeps the rules where a pipe comes that fits beside its others.
use Rattle.std.proofs.Common.{◌≡◌, ℕ, ◌*◌, ◌^◌, ◌<◌, ◌≤◌, Bool, true, false, not, eqb, List, [], ◌∷◌, length, map, sym, ap, subst, ⊎_elim, arith, IsPermutation}
use Rattle.std.specs.Prelude.{filter}
use Rattle.std.specs.List.{All, Contains}
use Rattle.std.proofs.lemmas.Bool.{and_from, cond_both, or_from, or_parts}
use Rattle.std.proofs.lemmas.List.{length-map}
use Rattle.std.proofs.lemmas.List.Elements.{All-cons, All-head, All-tail}
use Rattle.std.proofs.lemmas.List.Sorted.{All-permutation, IsPermutation-append_comm, IsPermutation-append_left, IsPermutation-cons, IsPermutation-refl, IsPermutation-trans}
use Rattle.std.proofs.lemmas.Map.Views.{All-map-IsPermutation}
use Rattle.cp_lists.specs.CyclicLists.{Has, Lacks}
use Rattle.cp_lists.proofs.DistinctLists.{Has-Contains}
use Rattle.cp_lists.proofs.PermutedLists.{along_permutation, Distinct-IsPermutation}
use Rattle.cp_conn.proofs.DistinctSubsets.{subset_length}
use Rattle.cp_board.specs.declared.parts.Kind.TheVariants.{P}
use Rattle.cp_board.specs.declared.parts.Pipe.{Pipe}
use Rattle.cp_board.specs.Names.{has}
use Rattle.cp_board.specs.Changes.{pipes_by_name}
use Rattle.cp_board.specs.Instances.{HasRightEnds, HasRightPairs, IsSynchronized, Synchronized, graph, pipe_names, vert_names}
use Rattle.cp_board.proofs.ListTests.{IsStrictlyIncreasing-from_test, distinct}
use Rattle.cp_board.proofs.NamedLists.{by_name_keeps, distinct_from_rises, rises-by_name, rises_from}
use Rattle.cp_poles.proofs.ApartEnds.{ends_of_all}
use Rattle.cp_poles.proofs.FixedEnds.{named-Contains}
use Rattle.cp_poles.proofs.NewCells.{rising_below}

-- the ends of pipes in another order are the same ends
ends-permuted : (ps qs : List Pipe) → IsPermutation ps qs → IsPermutation (ends_of_all ps) (ends_of_all qs)
ends-permuted = along_permutation (λ ps qs. IsPermutation (ends_of_all ps) (ends_of_all qs))
    (λ ps. IsPermutation-refl (ends_of_all ps))
    (λ p ps qs h. IsPermutation-cons p.a (p.b ∷ ends_of_all ps) (p.b ∷ ends_of_all qs)
    (IsPermutation-cons p.b (ends_of_all ps) (ends_of_all qs) h))
    (λ p q ps. IsPermutation-append_left (ends_of_all ps) (p.a ∷ p.b ∷ q.a ∷ q.b ∷ []) (q.a ∷ q.b ∷ p.a ∷ p.b ∷ [])
    (IsPermutation-append_comm (p.a ∷ p.b ∷ []) (q.a ∷ q.b ∷ [])))
    (λ ps qs rs f g. IsPermutation-trans (ends_of_all ps) (ends_of_all qs) (ends_of_all rs) f g)

-- a name that no pipe has none of those that are kept has
pub has-fewer : (t : Pipe → Bool) (n : ℕ) (ps : List Pipe) → has (map (λ p. p.name) ps) n ≡ false
    → has (map (λ p. p.name) (filter t ps)) n ≡ false
has-fewer t n [] e = e
has-fewer t n (p ∷ ps) e =
    let h = or_parts (eqb n p.name) (has (map (λ q. q.name) ps) n) e in
    let rest = has-fewer t n ps h.1 in
    cond_both (t p) (p ∷ filter t ps) (filter t ps) (λ qs. has (map (λ q. q.name) qs) n ≡ false)
    (λ _. or_from (eqb n p.name) (has (map (λ q. q.name) (filter t ps)) n) h.0 rest)
    (λ _. rest)

-- there are two vertices for each pipe, so a new name of a pipe is small
pub new_pipe-small : (i : Synchronized) (name : ℕ) → IsSynchronized i → name ≤ length (pipe_names i) → name < 2 ^ 63
new_pipe-small i name is le =
    omega (
      arith,
      le,
      length-map i.pipes (λ (p : Pipe). p.name),
      two_each i.pipes,
      subset_length (ends_of_all i.pipes) (vert_names i) is.ends_apart
          (λ d h. (Has-Contains d (vert_names i)).1 (live i.pipes is.ends_free d h)),
      rising_below (2 ^ 63) (vert_names i) (rises_from (vert_names i) is.verts_named.rise) is.verts_named.fit,
    )
  where
    two_each : (ps : List Pipe) → length (ends_of_all ps) ≡ 2 * length ps
    two_each [] = omega arith
    two_each (p ∷ ps) = omega (arith, two_each ps)

    live : (ps : List Pipe) → All (HasRightEnds i.verts) ps → (d : ℕ) → Has d (ends_of_all ps)
        → Contains (vert_names i) d
    live [] all d h = elim h [ ]
    live (p ∷ ps) all d h =
        let ends = All-head (HasRightEnds i.verts) p ps all in
        ⊎_elim
        (λ e. subst (Contains (vert_names i)) e (named-Contains i.verts p.a P ends.free_a))
        (λ k. ⊎_elim
        (λ e. subst (Contains (vert_names i)) e (named-Contains i.verts p.b P ends.free_b))
        (λ l. live ps (All-tail (HasRightEnds i.verts) p ps all) d l)
        k)
        h

-- the pipe has a new small name, its ends are P-vertices and no ends of other pipes, and its pairs are right
pub record FitsBeside (i : Synchronized) (r : Pipe) : Type 0 where
  pub new_name : has (pipe_names i) r.name ≡ false
  pub small : r.name < 2 ^ 63
  pub ends : HasRightEnds i.verts r
  pub apart_a : Lacks r.a (ends_of_all i.pipes)
  pub apart_b : Lacks r.b (ends_of_all i.pipes)
  pub pairs : HasRightPairs (graph i) r

-- with such a pipe the instance keeps the rules
module _ (i : Synchronized) (is : IsSynchronized i) (r : Pipe) (fits : FitsBeside i r) where
  -- all pipes, and in the order of their names
  abbrev all : List Pipe
  all = r ∷ i.pipes

  -- the order of names only moves them
  moved : IsPermutation all (pipes_by_name all)
  moved = by_name_keeps (λ p. p.name) all

  -- no two have one name
  pub names_distinct : distinct (map (λ p. p.name) all) ≡ true
  names_distinct =
      and_from (not (has (pipe_names i) r.name)) (distinct (pipe_names i)) (ap not fits.new_name)
      (distinct_from_rises (λ p. p.name) i.pipes (rises_from (pipe_names i) is.pipes_named.rise))

  -- the five rules hold with the pipe at its place
  pub IsSynchronized-with_pipe :
      IsSynchronized record { verts = i.verts; edges = i.edges; pipes = pipes_by_name (r ∷ i.pipes) }
  IsSynchronized-with_pipe = record {
    verts_named = is.verts_named;
    edges_named = is.edges_named;
    pipes_named = record {
      rise = IsStrictlyIncreasing-from_test (map (λ p. p.name) (pipes_by_name all))
          (rises-by_name (λ p. p.name) all names_distinct);
      fit = All-map-IsPermutation (λ (p : Pipe). p.name) (λ n. n < 2 ^ 63) all (pipes_by_name all) moved
          (All-cons (λ n. n < 2 ^ 63) r.name (pipe_names i) fits.small is.pipes_named.fit);
    };
    cells_fit = is.cells_fit;
    ends_live = is.ends_live;
    ends_differ = is.ends_differ;
    lists_right = is.lists_right;
    ends_free = All-permutation (HasRightEnds i.verts) all (pipes_by_name all) moved
        (All-cons (HasRightEnds i.verts) r i.pipes fits.ends is.ends_free);
    ends_apart = Distinct-IsPermutation (ends_of_all all) (ends_of_all (pipes_by_name all))
        (ends-permuted all (pipes_by_name all) moved)
        (((λ e. fits.ends.differ (sym e)), fits.apart_a), (fits.apart_b, is.ends_apart));
    pairs_right = All-permutation (HasRightPairs (graph i)) all (pipes_by_name all) moved
        (All-cons (HasRightPairs (graph i)) r i.pipes fits.pairs is.pairs_right);
  }
