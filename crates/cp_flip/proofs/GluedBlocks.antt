-- Rotations of the blocks of an instance, put together at each vertex.
use Rattle.std.proofs.Common.{◌≡◌, ◌≢◌, ℕ, ◌*◌, ◌/◌, ◌<◌, Bool, true, false, eqb, List, [], ◌∷◌, length, filter, map, slice_index, refl, ap, inl, inr, ⊎_elim}
use Rattle.std.specs.List.{All, Contains}
use Rattle.std.specs.List.Sorted.{IsStrictlyIncreasing}
use Rattle.std.proofs.lemmas.Bool.{cases_Bool}
use Rattle.std.proofs.lemmas.List.Kept.{IsStrictlyIncreasing-filter}
use Rattle.cp_lists.specs.Crossings.{NoCross}
use Rattle.cp_lists.specs.CyclicLists.{Has}
use Rattle.cp_lists.specs.Turns.{IsTurn}
use Rattle.cp_lists.proofs.DistinctLists.{Has-Contains}
use Rattle.cp_conn.specs.Blocks.{AreInOneBlock}
use Rattle.cp_conn.specs.NamedGraphs.{NamedGraph, rank}
use Rattle.cp_conn.specs.Numbering.{AreNumbered}
use Rattle.cp_conn.proofs.CutVertices.{kept_pair}
use Rattle.cp_rot.specs.Genus.{HasGenusZero}
use Rattle.cp_maps.specs.Blocks.{NoneCross}
use Rattle.cp_maps.proofs.FlatMaps.{IsFlat-agree}
use Rattle.cp_maplaw.specs.NamedDarts.{dart_list}
use Rattle.cp_sync.specs.Numbering.{numbered}
use Rattle.cp_board.specs.Instances.{IsSynchronized, Synchronized, graph, is_q, psi_at}
use Rattle.cp_board.specs.Reasons.{HasNoCrossing}
use Rattle.cp_board.specs.Rotations.{ArrangesEdges, IsRotationOf, dart, system}
use Rattle.cp_board.specs.Solutions.{directed}
use Rattle.cp_embed.proofs.BoardBlocks.{live_ends}
use Rattle.cp_flip.proofs.BlocksTogether.{blocks-HasGenusZero, kept-arranged}
use Rattle.cp_flip.proofs.FlatBlocks.{dart_half}
use Rattle.cp_flip.proofs.NamedSystems.{system-IsFlat, turn-Permutes, turn_of, turned-step}
use Rattle.cp_flip.proofs.UncrossedLists.{NoCross-map, darts-NoCross}

-- no two classes cross where they do not at each vertex
NoneCross-lists : (class : ℕ → ℕ) (lists : ℕ → List ℕ) (names : List ℕ)
    → ((v : ℕ) → Has v names → NoCross class (lists v))
    → NoneCross class (map lists names)
NoneCross-lists class lists [] each = tt
NoneCross-lists class lists (v ∷ names) each =
    (each v (inl refl), NoneCross-lists class lists names (λ w h. each w (inr h)))

module _ (i : Synchronized) (is : IsSynchronized i) (numbers : List ℕ)
    (are : AreNumbered (AreInOneBlock (numbered (graph i)).ends) (length (graph i).edges) numbers)
    (none : HasNoCrossing i) where
  -- the graph
  abbrev g : NamedGraph
  g = graph i

  -- the number of the block of an edge
  abbrev pub number : ℕ → ℕ
  number f = slice_index numbers (rank g.edges f)

  -- the graph with the edges of the block of a number alone
  abbrev pub block : ℕ → NamedGraph
  block c = record { verts = g.verts; edges = filter (λ f. eqb (number f) c) g.edges; ends = g.ends }

  -- lists that have of each block those of a rotation of it, up to a turn, have each psi in some direction, and at no
  -- other vertex two blocks crosswise, are a rotation of the instance
  pub glued-IsRotationOf : (s : ℕ → List ℕ) → All (λ v. ArrangesEdges g v (s v)) g.verts
      → ((c : ℕ) → c < 2 * length g.edges → (p : ℕ → List ℕ) × IsRotationOf (block c) p
      × ((v : ℕ) → Contains g.verts v → IsTurn (p v) (filter (λ f. eqb (number f) c) (s v))))
      → (back : ℕ → Bool) → ((v : ℕ) → Contains g.verts v → is_q i v ≡ true → IsTurn (directed (back v) (psi_at i v)) (s v))
      → ((v : ℕ) → Contains g.verts v → is_q i v ≡ false → NoCross number (s v))
      → IsRotationOf g s
  glued-IsRotationOf s arranged parts back psi_kept apart = record {
    arranged = arranged;
    flat = (blocks-HasGenusZero i is s arranged numbers are).1 (each_block, NoneCross-lists (λ d. slice_index numbers (d / 2)) (dart_list (dart g) s) g.verts uncrossed);
  }
    where
      -- the ends of an edge are vertices
      live : (f : ℕ) → Contains g.edges f → Contains g.verts (g.ends f).0 × Contains g.verts (g.ends f).1
      live f c = let l = live_ends i is f c in (l.0, l.1)

      -- and they differ
      differ : (f : ℕ) → Contains g.edges f → (g.ends f).0 ≢ (g.ends f).1
      differ f c = (live_ends i is f c).2

      -- what the lists have of each block has genus zero
      each_block : (c : ℕ) → c < 2 * length g.edges
          → HasGenusZero (system (block c) (λ v. filter (λ f. eqb (number f) c) (s v)))
      each_block c lt =
          let test = λ (f : ℕ). eqb (number f) c in
          let rise : IsStrictlyIncreasing (filter test g.edges) =
          IsStrictlyIncreasing-filter test g.edges is.edges_named.rise in
          let in_g : (f : ℕ) → Contains (filter test g.edges) f → Contains g.edges f =
          λ f h. (kept_pair test g.edges f h).0 in
          let here = system-IsFlat (block c) is.verts_named.rise rise (λ f h. live f (in_g f h))
          (λ f h. differ f (in_g f h)) (parts c lt).0 (parts c lt).1.arranged in
          let there = system-IsFlat (block c) is.verts_named.rise rise (λ f h. live f (in_g f h))
          (λ f h. differ f (in_g f h)) (λ v. filter test (s v)) (kept-arranged i is s arranged numbers are c) in
          there.1 (IsFlat-agree (length (filter test g.edges)) (turn_of (block c) (parts c lt).0)
          (turn_of (block c) (λ v. filter test (s v)))
          (turn-Permutes (block c) is.verts_named.rise rise (λ f h. live f (in_g f h)) (λ f h. differ f (in_g f h))
          (parts c lt).0 (parts c lt).1.arranged)
          (turned-step (block c) is.verts_named.rise rise (λ f h. live f (in_g f h)) (λ f h. differ f (in_g f h))
          (parts c lt).0 (parts c lt).1.arranged (λ v. filter test (s v)) (λ v h. (parts c lt).2 v h))
          (here.0 (parts c lt).1.flat))

      -- no two blocks stand crosswise in the darts of a vertex
      uncrossed : (v : ℕ) → Has v g.verts → NoCross (λ d. slice_index numbers (d / 2)) (dart_list (dart g) s v)
      uncrossed v h =
          let c = (Has-Contains v g.verts).0 h in
          ⊎_elim
          (λ q. darts-NoCross i is numbers are v c q (none v) (back v) (s v) (psi_kept v c q))
          (λ p. NoCross-map (dart g v) (λ d. slice_index numbers (d / 2)) number (s v)
          (λ f. ap (slice_index numbers) (dart_half g differ v f)) (apart v c p))
          (cases_Bool (is_q i v))
