-- A pipe between the poles of a bond: its ends mirror each other where the turning turns the list of the first.
use Rattle.std.proofs.Common.{◌≡◌, ℕ, eqb, List, length, map, reverse, slice_index, sym, ap, subst, arith}
use Rattle.std.specs.Prelude.{Some}
use Rattle.std.specs.List.{Contains}
use Rattle.std.proofs.lemmas.List.{length-map, reverse-reverse}
use Rattle.std.proofs.lemmas.List.Elements.{Contains-get_or}
use Rattle.std.proofs.lemmas.List.Sorted.{length_permutation}
use Rattle.cp_lists.specs.CyclicLists.{Has}
use Rattle.cp_lists.specs.Turns.{IsTurn}
use Rattle.cp_lists.proofs.MappedLists.{map_on-Has, map_undone}
use Rattle.cp_lists.proofs.TurnedLists.{turn-map, turn-reverse, turn-sym, turn-trans}
use Rattle.cp_orbits.specs.Orbits.{CycleLength}
use Rattle.cp_orbits.proofs.CycleLengths.{CycleLength-unique}
use Rattle.cp_orbits.proofs.ListOrbits.{turned_CycleLength}
use Rattle.cp_conn.specs.Bonds.{IsAlong, IsBond}
use Rattle.cp_conn.specs.NamedGraphs.{NamedGraph, edges_at}
use Rattle.cp_conn.proofs.Bonds.{IsAlong-first_onward, first_onward}
use Rattle.cp_conn.proofs.EqualBonds.{along_back, along_only, bond_back}
use Rattle.cp_maps.proofs.GluedVertices.{maps_agree}
use Rattle.cp_board.specs.declared.parts.Pipe.{Pipe}
use Rattle.cp_board.specs.Instances.{Synchronized, IsSynchronized, graph, pipe_named}
use Rattle.cp_board.specs.Reasons.{HaveUnequalCycles}
use Rattle.cp_board.specs.Rotations.{IsRotationOf}
use Rattle.cp_board.specs.Solutions.{IsMirror, Solves, second_of}
use Rattle.cp_board.specs.Steps.{IsTurning}
use Rattle.cp_poles.proofs.FoundItems.{All-found}
use Rattle.cp_synclaw.proofs.InstanceDarts.{edges_once}
use Rattle.cp_synclaw.proofs.InstanceSystems.{listed_edge, listed_once}
use Rattle.cp_synclaw.proofs.MirroredBonds.{bond-IsMirror}
use Rattle.cp_poles.proofs.SmallPipes.{live_a, live_b, right_pairs}

-- a live pipe between the poles of a bond
module _ (i : Synchronized) (pipe : ℕ) (p : Pipe) (is : IsSynchronized i) (live : pipe_named i pipe ≡ Some p)
    (bond : IsBond (graph i) p.a p.b) where
  -- the graph
  abbrev g : NamedGraph
  g = graph i

  -- the ends have as many edges
  pub equal_ends : length (edges_at g p.a) ≡ length (edges_at g p.b)
  equal_ends =
      let right = right_pairs i pipe p is live in
      omega (
        arith,
        ap length right.first,
        length_permutation (edges_at g p.b) (map (λ (x : ℕ × ℕ). x.1) p.pairs) right.second,
        length-map p.pairs (λ (x : ℕ × ℕ). x.0),
        length-map p.pairs (λ (x : ℕ × ℕ). x.1),
      )

  -- the edge of b as which an edge of a goes on along the bond
  abbrev pub along : ℕ → ℕ
  along = first_onward (graph i) p.a p.b

  -- the way back along the bond
  abbrev pub back : ℕ → ℕ
  back = first_onward g p.b p.a

  -- which is one way to go along the bond
  pub is_along : IsAlong g p.a p.b along
  is_along = IsAlong-first_onward g p.a p.b bond

  -- and the way back is one
  pub is_back : IsAlong g p.b p.a back
  is_back = IsAlong-first_onward g p.b p.a (bond_back g p.a p.b bond (edges_once i is) equal_ends)

  -- the map of the pipe and the bond
  module _ (m : ℕ → ℕ) (turning : IsTurning i p m) where
    -- what it makes of an edge goes on as the partner
    pub along_turned : (x : ℕ) → Contains (edges_at g p.a) x → along (m x) ≡ second_of p x
    along_turned x c =
        let t = turning x c in
        along_only g p.a p.b bond (edges_once i is) equal_ends along is_along (m x) (second_of p x) t.0 t.1

    -- a rotation
    module _ (s : ℕ → List ℕ) (rotation : IsRotationOf g s) where
      -- the items of the list of the first end are its edges
      first_edge : (x : ℕ) → Has x (s p.a) → Contains (edges_at g p.a) x
      first_edge x h = (listed_edge i is s rotation.arranged p.a x (live_a i pipe p is live)).0 h

      -- the two ends are mirrored along the bond
      mirrored : IsTurn (reverse (map along (s p.a))) (s p.b)
      mirrored = bond-IsMirror i is s rotation p.a p.b (live_a i pipe p is live) (live_b i pipe p is live) bond
          equal_ends along is_along

      -- the partners are what the turned list goes on as
      partners : map along (map m (s p.a)) ≡ map (second_of p) (s p.a)
      partners = maps_agree m along (second_of p) (s p.a) (λ x h. along_turned x (first_edge x h))

      -- where the map turns the list the ends mirror each other
      pub mirror_from_turn : IsTurn (s p.a) (map m (s p.a)) → IsMirror (second_of p) (s p.a) (s p.b)
      mirror_from_turn t =
          subst (λ xs. IsTurn (reverse xs) (s p.b)) partners
          (turn-trans (reverse (map along (map m (s p.a)))) (reverse (map along (s p.a))) (s p.b)
          (turn-sym (reverse (map along (s p.a))) (reverse (map along (map m (s p.a))))
          (turn-reverse (map along (s p.a)) (map along (map m (s p.a)))
          (turn-map along (s p.a) (map m (s p.a)) t)))
          mirrored)

      -- and only there
      pub turn_from_mirror : IsMirror (second_of p) (s p.a) (s p.b) → IsTurn (s p.a) (map m (s p.a))
      turn_from_mirror mirror =
          let both : IsTurn (reverse (map along (s p.a))) (reverse (map along (map m (s p.a)))) =
          turn-trans (reverse (map along (s p.a))) (s p.b) (reverse (map along (map m (s p.a)))) mirrored
          (turn-sym (reverse (map along (map m (s p.a)))) (s p.b)
          (subst (λ xs. IsTurn (reverse xs) (s p.b)) (sym partners) mirror)) in
          let there : IsTurn (map along (s p.a)) (map along (map m (s p.a))) =
          subst (λ xs. IsTurn xs (map along (map m (s p.a)))) (reverse-reverse (map along (s p.a)))
          (subst (IsTurn (reverse (reverse (map along (s p.a))))) (reverse-reverse (map along (map m (s p.a))))
          (turn-reverse (reverse (map along (s p.a))) (reverse (map along (map m (s p.a)))) both)) in
          let undone : (xs : List ℕ) → ((x : ℕ) → Has x xs → Contains (edges_at g p.a) x)
          → map back (map along xs) ≡ xs =
          λ xs each. map_undone along back xs (λ x h.
          along_back g p.a p.b bond (edges_once i is) equal_ends along back is_along is_back x (each x h)) in
          subst (λ xs. IsTurn xs (map m (s p.a))) (undone (s p.a) first_edge)
          (subst (IsTurn (map back (map along (s p.a))))
          (undone (map m (s p.a)) (λ x h.
          let k = map_on-Has m x (s p.a) h in
          subst (Contains (edges_at g p.a)) k.2 (turning k.0 (first_edge k.0 k.1)).0))
          (turn-map back (map along (s p.a)) (map along (map m (s p.a))) there))

    -- in a solution all edges have cycles of one length
    pub one_cycle_length : (s : ℕ → List ℕ) → Solves i s → (x y k l : ℕ) → Contains (edges_at g p.a) x
        → Contains (edges_at g p.a) y → CycleLength m x k → CycleLength m y l → k ≡ l
    one_cycle_length s solves x y k l cx cy cycle_x cycle_y =
        let mirror : IsMirror (second_of p) (s p.a) (s p.b) =
        (All-found (λ q. eqb q.name pipe) (λ q. IsMirror (second_of q) (s q.a) (s q.b)) i.pipes p solves.mirrored
        live).0 in
        let turn : IsTurn (s p.a) (map m (s p.a)) = turn_from_mirror s solves.rotation mirror in
        let arranged = solves.rotation.arranged in
        let item : (z : ℕ) → Contains (edges_at g p.a) z → Has z (s p.a) =
        λ z c. (listed_edge i is s arranged p.a z (live_a i pipe p is live)).1 c in
        CycleLength-unique m y k l
        (turned_CycleLength m (s p.a) (listed_once i is s arranged p.a (live_a i pipe p is live)) turn x y k (item x cx)
        (item y cy) cycle_x)
        cycle_y

-- where two cycles differ there is no solution
pub unequal-unsolvable : (i : Synchronized) (pipe : ℕ) (p : Pipe) → IsSynchronized i → pipe_named i pipe ≡ Some p
    → IsBond (graph i) p.a p.b → (a b : ℕ) → HaveUnequalCycles i p a b → (s : ℕ → List ℕ) → Solves i s → ⊥
unequal-unsolvable i pipe p is live bond a b h s solves =
    let es : List ℕ = edges_at (graph i) p.a in
    h.differ (one_cycle_length i pipe p is live bond h.turning h.is_turning s solves (slice_index es 0)
    (slice_index es h.place) a b (Contains-get_or es 0 0 (omega (arith, h.within)))
    (Contains-get_or es h.place 0 h.within) h.first h.other)
