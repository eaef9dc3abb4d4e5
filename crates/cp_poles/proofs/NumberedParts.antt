-- The components without two vertices of a graph with names, and those of the numbered graph.
use Rattle.std.proofs.Common.{◌≡◌, ◌≢◌, ℕ, ◌<◌, ◌↔◌, Bool, true, false, not, eqb, List, length, map, get_or, set, replicate, sym, ap, ◌∙◌, subst, inl, inr, ⊎_elim}
use Rattle.std.specs.List.{Contains}
use Rattle.std.proofs.lemmas.Bool.{and_parts}
use Rattle.cp_orbits.specs.Connected.{Connected, here, step}
use Rattle.cp_conn.specs.Bonds.{ConnectedWithout}
use Rattle.cp_conn.specs.CutVertex.{avoids, without_vertex}
use Rattle.cp_conn.specs.NamedGraphs.{NamedGraph, pairs, rank}
use Rattle.cp_base.specs.Graphs.{PlainGraph}
use Rattle.cp_conn.specs.Numbering.{AreNumbered}
use Rattle.cp_conn.specs.Removed.{without_removed}
use Rattle.cp_conn.proofs.CutVertices.{avoids_of, kept_of, kept_pair}
use Rattle.cp_conn.proofs.NamedGraphs.{map_from, map_has, pairs_from, pairs_have, rank_at}
use Rattle.cp_conn.proofs.NumberedClasses.{connected_by_number, number-below, number_of_connected}
use Rattle.cp_maplaw.proofs.NamedRests.{not_equal}
use Rattle.cp_rotlaw.proofs.PoleParts.{two_removed}
use Rattle.cp_sync.specs.Numbering.{numbered, numbered_ends}
use Rattle.cp_poles.specs.Between.{AreNumbersBetween, number_of}

-- a walk is taken to a walk
Connected-mapped : (h : ℕ → ℕ) (es fs : List (ℕ × ℕ)) (x y : ℕ)
    → ((e : ℕ × ℕ) → Contains es e → Contains fs (h e.0, h e.1)) → Connected es x y → Connected fs (h x) (h y)
Connected-mapped h es fs x y each here = here
Connected-mapped h es fs x y each (step {y = w} q e c j) =
    step (Connected-mapped h es fs x w each q) (h e.0, h e.1) (each e c)
    (⊎_elim (λ k. inl (ap h k.0, ap h k.1)) (λ k. inr (ap h k.0, ap h k.1)) j)

-- a pair that avoids a vertex does not touch it
avoids_both : (w : ℕ) (p : ℕ × ℕ) → avoids w p ≡ true → (p.0 ≢ w) × (p.1 ≢ w)
avoids_both w p t =
    let both = and_parts (not (eqb p.0 w)) (not (eqb p.1 w)) t in (not_equal p.0 w both.0, not_equal p.1 w both.1)

-- names at one place are equal
pub rank_one : (names : List ℕ) (x w : ℕ) → Contains names x → Contains names w → rank names x ≡ rank names w → x ≡ w
rank_one names x w cx cw e =
    sym (rank_at names x cx).1 ∙ ap (λ (k : ℕ). get_or names k 0) e ∙ (rank_at names w cw).1

-- a graph whose edges end at vertices
module _ (g : NamedGraph)
    (live : (e : ℕ) → Contains g.edges e → Contains g.verts (g.ends e).0 × Contains g.verts (g.ends e).1) (u v : ℕ)
    (cu : Contains g.verts u) (cv : Contains g.verts v) where
  -- the place of a name
  abbrev pub place : ℕ → ℕ
  place = rank g.verts

  -- the name at a place
  abbrev pub name : ℕ → ℕ
  name k = get_or g.verts k 0

  -- the ends of the edges that end at neither u nor v
  abbrev pub named_pairs : List (ℕ × ℕ)
  named_pairs = without_vertex u (without_vertex v (pairs g))

  -- the pairs of places without the two
  abbrev pub placed_pairs : List (ℕ × ℕ)
  placed_pairs = without_vertex (place u) (without_vertex (place v) (map (numbered_ends g) g.edges))

  -- names at one place are equal
  one_place : (x w : ℕ) → Contains g.verts x → Contains g.verts w → place x ≡ place w → x ≡ w
  one_place x w cx cw e = rank_one g.verts x w cx cw e

  -- the places of a pair between
  placed_pair : (p : ℕ × ℕ) → Contains named_pairs p → Contains placed_pairs (place p.0, place p.1)
  placed_pair p c =
      let a = kept_pair (avoids u) (without_vertex v (pairs g)) p c in
      let b = kept_pair (avoids v) (pairs g) p a.0 in
      let k = pairs_from g p b.0 in
      let l = subst (λ (q : ℕ × ℕ). Contains g.verts q.0 × Contains g.verts q.1) k.2 (live k.0 k.1) in
      let of_u = avoids_both u p a.1 in
      let of_v = avoids_both v p b.1 in
      let q : ℕ × ℕ = (place p.0, place p.1) in
      let there : Contains (map (numbered_ends g) g.edges) q =
      subst (Contains (map (numbered_ends g) g.edges)) (ap (λ (x : ℕ × ℕ). (place x.0, place x.1)) k.2)
      (map_has (numbered_ends g) g.edges k.0 k.1) in
      kept_of (avoids (place u)) (without_vertex (place v) (map (numbered_ends g) g.edges)) q
      (kept_of (avoids (place v)) (map (numbered_ends g) g.edges) q there
      (avoids_of (place v) q (λ e. of_v.0 (one_place p.0 v l.0 cv e)) (λ e. of_v.1 (one_place p.1 v l.1 cv e))))
      (avoids_of (place u) q (λ e. of_u.0 (one_place p.0 u l.0 cu e)) (λ e. of_u.1 (one_place p.1 u l.1 cu e)))

  -- the names of a pair of places
  named_pair : (q : ℕ × ℕ) → Contains placed_pairs q → Contains named_pairs (name q.0, name q.1)
  named_pair q c =
      let a = kept_pair (avoids (place u)) (without_vertex (place v) (map (numbered_ends g) g.edges)) q c in
      let b = kept_pair (avoids (place v)) (map (numbered_ends g) g.edges) q a.0 in
      let k = map_from (numbered_ends g) g.edges q b.0 in
      let l = live k.0 k.1 in
      let first : place (g.ends k.0).0 ≡ q.0 = ap (λ (x : ℕ × ℕ). x.0) k.2 in
      let second : place (g.ends k.0).1 ≡ q.1 = ap (λ (x : ℕ × ℕ). x.1) k.2 in
      let one : (g.ends k.0).0 ≡ name q.0 = sym (rank_at g.verts (g.ends k.0).0 l.0).1 ∙ ap name first in
      let two : (g.ends k.0).1 ≡ name q.1 = sym (rank_at g.verts (g.ends k.0).1 l.1).1 ∙ ap name second in
      let of_u = avoids_both (place u) q a.1 in
      let of_v = avoids_both (place v) q b.1 in
      let there : Contains named_pairs (g.ends k.0) =
      kept_of (avoids u) (without_vertex v (pairs g)) (g.ends k.0)
      (kept_of (avoids v) (pairs g) (g.ends k.0) (pairs_have g k.0 k.1)
      (avoids_of v (g.ends k.0) (λ e. of_v.0 (sym first ∙ ap place e)) (λ e. of_v.1 (sym second ∙ ap place e))))
      (avoids_of u (g.ends k.0) (λ e. of_u.0 (sym first ∙ ap place e)) (λ e. of_u.1 (sym second ∙ ap place e))) in
      subst (λ (x : ℕ). Contains named_pairs (x, name q.1)) one
      (subst (λ (x : ℕ). Contains named_pairs ((g.ends k.0).0, x)) two there)

  -- two names are connected exactly where their places are
  pub places_connected : (x y : ℕ) → Contains g.verts x → Contains g.verts y
      → Connected placed_pairs (place x) (place y) ↔ ConnectedWithout g u v x y
  places_connected x y cx cy = (
    λ c. subst (λ (a : ℕ). Connected named_pairs a y) (rank_at g.verts x cx).1
        (subst (λ (a : ℕ). Connected named_pairs (name (place x)) a) (rank_at g.verts y cy).1
        (Connected-mapped name placed_pairs named_pairs (place x) (place y) named_pair c)),
    λ c. Connected-mapped place named_pairs placed_pairs x y placed_pair c,
  )

  -- so the numbers of the components of the numbered graph tell the components
  pub AreNumbersBetween-numbered : (numbers : List ℕ) → AreNumbered (Connected placed_pairs) (length g.verts) numbers
      → AreNumbersBetween g u v numbers
  AreNumbersBetween-numbered numbers are = record {
    one_each = are.one_each;
    below = λ x cx. subst (λ n. number_of g numbers x < n) (sym are.one_each)
        (number-below placed_pairs (length g.verts) numbers are (place x) (rank_at g.verts x cx).0);
    tells = λ x y cx cy. (
      λ same. (places_connected x y cx cy).0
          (connected_by_number placed_pairs (length g.verts) numbers are (place x) (place y) (rank_at g.verts x cx).0
          (rank_at g.verts y cy).0 same),
      λ c. number_of_connected placed_pairs (length g.verts) numbers are (place x) (place y) (rank_at g.verts x cx).0
          (rank_at g.verts y cy).0 ((places_connected x y cx cy).1 c),
    );
  }

-- the same by marks of the two vertices, as a program makes them
pub AreNumbersBetween-marked : (g : NamedGraph)
    → ((e : ℕ) → Contains g.edges e → Contains g.verts (g.ends e).0 × Contains g.verts (g.ends e).1) → (u v : ℕ)
    → Contains g.verts u → Contains g.verts v → (names : List ℕ) (marks : List Bool) (numbers : List ℕ)
    (plain : PlainGraph) (place_u place_v : ℕ) → plain ≡ numbered g → names ≡ g.verts → place_u ≡ rank names u
    → place_v ≡ rank names v → marks ≡ set (set (replicate (length names) false) place_v true) place_u true
    → AreNumbered (Connected (without_removed marks plain.ends)) plain.vertices numbers
    → AreNumbersBetween g u v numbers
AreNumbersBetween-marked g live u v cu cv names marks numbers plain place_u place_v plain_is names_is at_u at_v marks_is
    are =
    let n : ℕ = length g.verts in
    let es : List (ℕ × ℕ) = map (numbered_ends g) g.edges in
    let pu : place_u ≡ rank g.verts u = at_u ∙ ap (λ (xs : List ℕ). rank xs u) names_is in
    let pv : place_v ≡ rank g.verts v = at_v ∙ ap (λ (xs : List ℕ). rank xs v) names_is in
    let both : marks ≡ set (set (replicate n false) (rank g.verts v) true) (rank g.verts u) true =
    marks_is ∙ ap (λ (xs : List ℕ). set (set (replicate (length xs) false) place_v true) place_u true) names_is
    ∙ ap (λ (k : ℕ). set (set (replicate n false) k true) place_u true) pv
    ∙ ap (λ (k : ℕ). set (set (replicate n false) (rank g.verts v) true) k true) pu in
    let one : AreNumbered (Connected (without_removed marks es)) n numbers =
    subst (λ (p : PlainGraph). AreNumbered (Connected (without_removed marks p.ends)) p.vertices numbers) plain_is
    are in
    let two : AreNumbered (Connected (without_removed (set (set (replicate n false) (rank g.verts v) true)
    (rank g.verts u) true) es)) n numbers =
    subst (λ (ms : List Bool). AreNumbered (Connected (without_removed ms es)) n numbers) both one in
    AreNumbersBetween-numbered g live u v cu cv numbers
    (subst (λ (ps : List (ℕ × ℕ)). AreNumbered (Connected ps) n numbers)
    (two_removed n (rank g.verts u) (rank g.verts v) es (rank_at g.verts u cu).0 (rank_at g.verts v cv).0) two)
