-- A solution before Join makes one after it.
use Rattle.std.proofs.Common.{◌≡◌, ℕ, ◌<◌, not, eqb, List, [], ◌∷◌, length, map, reverse, slice_index_or, sym, ap, ◌∙◌, subst, ⊎_elim, arith, subst₂, get_or, ◌/◌}
use Rattle.std.specs.Prelude.{find, filter}
use Rattle.std.specs.List.{All, Contains}
use Rattle.std.specs.Option.{option_map_or}
use Rattle.std.proofs.lemmas.Bool.{eq-eqb, ne_eqb, cases_eq}
use Rattle.std.proofs.lemmas.List.{get_or-map, length-map, reverse-reverse}
use Rattle.std.proofs.lemmas.List.Elements.{All-append, All-contains, All-filter, All-map, filter_passes}
use Rattle.std.proofs.lemmas.List.Sums.{prefix_len-le-length}
use Rattle.std.proofs.lemmas.List.Sorted.{All-permutation}
use Rattle.cp_lists.specs.CyclicLists.{Has}
use Rattle.cp_lists.specs.Turns.{IsTurn}
use Rattle.cp_lists.proofs.DistinctLists.{Has-Contains, Has_at}
use Rattle.cp_lists.proofs.FilteredLists.{filter-Has}
use Rattle.cp_lists.proofs.MappedLists.{map_agree_on}
use Rattle.cp_lists.proofs.ReversedLists.{filter-reverse, map-reverse}
use Rattle.cp_lists.proofs.TurnedLists.{turn-filter, turn-map, turn-refl, turn-reverse, turn-sym}
use Rattle.cp_conn.specs.NamedGraphs.{NamedGraph}
use Rattle.cp_maps.specs.Genus.{CanBeFlat}
use Rattle.cp_lists.specs.Crossings.{NoCross}
use Rattle.cp_maps.specs.Maps.{has}
use Rattle.cp_maps.proofs.ListFacts.{has_true}
use Rattle.cp_maplaw.specs.NamedDarts.{IsArrangedBy}
use Rattle.cp_board.specs.declared.parts.Pipe.{Pipe}
use Rattle.cp_board.specs.declared.parts.Vert.{Vert}
use Rattle.cp_board.specs.Changes.{free_vert}
use Rattle.cp_board.specs.declared.parts.Kind.TheVariants.{P}
use Rattle.cp_board.specs.Names.{has as named}
use Rattle.cp_board.specs.Instances.{HasRightEnds, Synchronized, edge_names, edges_of, graph, vert_names}
use Rattle.cp_board.specs.Rotations.{ArrangesEdges, dart}
use Rattle.cp_board.specs.Solutions.{IsInDirection, IsMirror, Solves, second_of}
use Rattle.cp_board.specs.Steps.{partner}
use Rattle.cp_board.proofs.NamedLists.{by_name_keeps}
use Rattle.cp_synclaw.proofs.InstanceDarts.{dart_edge, instance_darts}
use Rattle.cp_synclaw.proofs.InstanceSystems.{instance-IsArrangedBy, listed_once}
use Rattle.cp_join.specs.declared.parted_ends.Parting.{Parting}
use Rattle.cp_join.specs.Partings.{new_verts}
use Rattle.cp_join.proofs.DartsBeside.{beside-CanBeFlat, rows_of}
use Rattle.cp_join.proofs.GraphSystems.{IsLoopless-pairs, arranged-CanBeFlat, instance-IsLoopless}
use Rattle.cp_join.proofs.HatOrders.{map_twice}
use Rattle.cp_join.proofs.JoinNames.{HasPartings}
use Rattle.cp_join.proofs.JoinedGraph.{hat, joined, partner_a, partner_back}
use Rattle.cp_join.proofs.JoinedHalves.{after-IsLoopless, halves-AreBeside, inner-AreListed, inner_graph, kept_verts, outer-AreListed, outer_graph}
use Rattle.cp_join.proofs.JoinedInner.{inner-CanBeFlat}
use Rattle.cp_join.proofs.JoinedOuter.{ArePartedLists, Has-kept_verts, filter-map, kept-Has, outer-CanBeFlat, part_order}
use Rattle.cp_join.proofs.JoinedPipes.{found}
use Rattle.cp_join.proofs.JoinedRules.{All-pipes, keeps, keeps_other, others, others_off, stay, verts}
use Rattle.cp_join.proofs.LaterLists.{later, later-arranged, later-inner_a, later-inner_b, later-old, later-outer_a, later-outer_b}
use Rattle.cp_join.proofs.LiveVerts.{kind_live}
use Rattle.cp_join.proofs.MovedCrossings.{map-NoCross}
use Rattle.cp_join.proofs.PartCrossings.{parts-NoCross}
use Rattle.cp_join.proofs.PartPipes.{All-part_pipes}
use Rattle.cp_join.proofs.PartValues.{part_value}

-- the partner of an edge in the pipe of a part
pub second_in_part : (new : ℕ → ℕ) (part : List ℕ) (x : ℕ) → Has x part
    → option_map_or (λ (y : ℕ × ℕ). y.1) (find (λ y. eqb y.0 x) (map (λ e. (e, new e)) part)) 0 ≡ new x
second_in_part new [] x m = absurd m
second_in_part new (e ∷ es) x m = ⊎_elim
    (λ q. rw (eq-eqb e x q) (ap new q))
    (λ q. rw (ne_eqb e x q) (second_in_part new es x (⊎_elim (λ l. absurd (q l)) (λ l. l) m)))
    (cases_eq e x)

module _ (i : Synchronized) (p : Pipe) (s t : Parting) (hats : List ℕ) (h : HasPartings i p s t hats) where
  -- a pipe that stays has ends that stay
  pub stay_ends : All (λ q. Has q.a (kept_verts i p s t hats h) × Has q.b (kept_verts i p s t hats h))
      (stay i p s t hats h)
  stay_ends k d lt =
      let q : Pipe = slice_index_or (stay i p s t hats h) k d in
      let ends = All-filter (λ (x : Pipe). not (named (p.name ∷ []) x.name)) (HasRightEnds i.verts) i.pipes
      h.rules.ends_free k d lt in
      let off = others_off i p s t hats h k d lt in (
        Has-kept_verts i p s t hats h q.a ((Has-Contains q.a (vert_names i)).1 (kind_live i.verts q.a P ends.free_a))
            off.0 off.1,
        Has-kept_verts i p s t hats h q.b ((Has-Contains q.b (vert_names i)).1 (kind_live i.verts q.b P ends.free_b))
            off.2 off.3,
      )

module _ (i : Synchronized) (p : Pipe) (s t : Parting) (hats : List ℕ) (h : HasPartings i p s t hats)
    (f : ℕ → List ℕ) (solves : Solves i f) where
  -- the graph, the instance after Join, and its lists
  abbrev g : NamedGraph
  g = graph i

  -- the instance after Join
  abbrev after : Synchronized
  after = joined i p s t hats h

  -- and its lists
  abbrev lists : ℕ → List ℕ
  lists = later i p s t hats h f

  -- the new edge for an edge of the first end
  abbrev new_edge : ℕ → ℕ
  new_edge x = hat i p s t hats h x

  -- the vertices that stay
  abbrev kept : List ℕ
  kept = kept_verts i p s t hats h

  -- the lists before Join arrange the edges of each vertex
  arranged_at : (v : ℕ) → Contains g.verts v → ArrangesEdges g v (f v)
  arranged_at v c = All-contains (λ w. ArrangesEdges g w (f w)) g.verts v solves.rotation.arranged c

  -- so the graph is arranged
  arr : IsArrangedBy g f
  arr = instance-IsArrangedBy i h.rules f solves.rotation.arranged

  -- an item of the list of an end is one of its edges
  item : (u x : ℕ) → Contains g.verts u → Has x (f u) → Has x (edges_of i u)
  item u x c m = (Has-Contains x (edges_of i u)).1 ((arr.arranged u x ((Has-Contains u g.verts).1 c)).0 m)

  -- they can be flat
  before-CanBeFlat : CanBeFlat (length g.edges) (rows_of g f)
  before-CanBeFlat =
      (arranged-CanBeFlat g (instance-IsLoopless i h.rules) f solves.rotation.arranged).0 solves.rotation.flat

  -- so the parts of an end do not cross in its list
  end-NoCross : (u : ℕ) → Contains g.verts u → NoCross (part_value g u) (f u)
  end-NoCross u c =
      let can = before-CanBeFlat in
      map-NoCross (dart g u) (part_value g u) (λ d. part_value g u (get_or g.edges (d / 2) 0)) (f u)
      (λ x m. ap (part_value g u) (dart_edge i h.rules u x ((Has-Contains x (edges_of i u)).0 (item u x c m))))
      (parts-NoCross (length g.edges) g (dart g) f can.0 (instance_darts i h.rules) arr can.1
      (IsLoopless-pairs g (instance-IsLoopless i h.rules)) can.2 (λ k. get_or g.edges k 0)
      (λ w e k. dart_edge i h.rules w e k) (λ e. prefix_len-le-length (λ n. not (eqb n e)) g.edges) u
      ((Has-Contains u g.verts).1 c))

  -- the second end mirrors the first
  mirrored : IsTurn (reverse (map (partner p p.a) (f p.a))) (f p.b)
  mirrored =
      subst (λ zs. IsTurn (reverse zs) (f p.b))
      (map_agree_on (second_of p) (partner p p.a) (f p.a) (λ x m. sym (partner_a i p s t hats h x)))
      (found (λ q. eqb q.name p.name) (λ q. IsMirror (second_of q) (f q.a) (f q.b)) i.pipes p solves.mirrored h.live).0

  -- the lists after Join are arranged
  later_arranged : All (λ v. ArrangesEdges (graph after) v (lists v)) (vert_names after)
  later_arranged = later-arranged i p s t hats h f (arranged_at p.a h.live_a) (arranged_at p.b h.live_b)
      (λ v k. arranged_at v (kept-Has i p s t hats h v k).0)

  -- and those before it, parted
  later_parted : ArePartedLists p s t (kept_verts i p s t hats h) f (later i p s t hats h f)
  later_parted = record {
    old = λ v k. later-old i p s t hats h f v k;
    outer_a = λ k lt. subst (λ zs. IsTurn zs (part_order (f p.a) (slice_index_or s.parts k [])))
        (sym (later-outer_a i p s t hats h f k lt)) (turn-refl (part_order (f p.a) (slice_index_or s.parts k [])));
    outer_b = λ k lt. subst (λ zs. IsTurn zs (part_order (f p.b) (slice_index_or t.parts k [])))
        (sym (later-outer_b i p s t hats h f k lt)) (turn-refl (part_order (f p.b) (slice_index_or t.parts k [])));
  }

  -- the lists after Join can be flat
  later-CanBeFlat : CanBeFlat (length (edge_names after)) (rows_of (graph after) lists)
  later-CanBeFlat =
      (beside-CanBeFlat (graph after) (outer_graph i p s t hats h) (inner_graph i p s t hats h)
      (halves-AreBeside i p s t hats h) lists
      (outer-AreListed i p s t hats h lists later_arranged) (inner-AreListed i p s t hats h lists later_arranged)).0 (
        outer-CanBeFlat i p s t hats h f lists later_parted arr before-CanBeFlat,
        inner-CanBeFlat i p s t hats h (f p.a) (f p.b) (λ x m. item p.a x h.live_a m)
            (listed_once i h.rules f solves.rotation.arranged p.a h.live_a) mirrored lists
            (λ k lt. later-inner_a i p s t hats h f k lt) (λ k lt. later-inner_b i p s t hats h f k lt)
            (end-NoCross p.a h.live_a) (end-NoCross p.b h.live_b),
      )

  -- at the second end the inner vertex mirrors the outer one
  mirrored_part : (k : ℕ) → k < length t.parts
      → IsTurn (reverse (map (λ y. new_edge (partner p p.b y)) (part_order (f p.b) (slice_index_or t.parts k []))))
      (map new_edge (filter (λ x. has (partner p p.a x) (slice_index_or t.parts k [])) (f p.a)))
  mirrored_part k lt =
      turn-sym (map new_edge mine) (reverse (map there (part_order (f p.b) part)))
      (subst (λ zs. IsTurn zs (reverse (map there (part_order (f p.b) part)))) same
      (turn-reverse (map there (part_order (reverse (map (partner p p.a) (f p.a))) part))
      (map there (part_order (f p.b) part))
      (turn-map there (part_order (reverse (map (partner p p.a) (f p.a))) part) (part_order (f p.b) part)
      (turn-filter (λ x. has x part) (reverse (map (partner p p.a) (f p.a))) (f p.b) mirrored))))
    where
      part : List ℕ
      part = slice_index_or t.parts k []

      there : ℕ → ℕ
      there y = new_edge (partner p p.b y)

      mine : List ℕ
      mine = filter (λ x. has (partner p p.a x) part) (f p.a)

      same : reverse (map there (part_order (reverse (map (partner p p.a) (f p.a))) part)) ≡ map new_edge mine
      same =
          ap (λ zs. reverse (map there zs)) (filter-reverse (λ x. has x part) (map (partner p p.a) (f p.a))
          ∙ ap reverse (filter-map (partner p p.a) (λ x. has x part) (f p.a)))
          ∙ ap reverse (map-reverse there (map (partner p p.a) mine))
          ∙ reverse-reverse (map there (map (partner p p.a) mine))
          ∙ map_twice (partner p p.a) there mine
          ∙ map_agree_on (λ x. there (partner p p.a x)) new_edge mine (λ x m. ap new_edge
          (partner_back i p s t hats h x
          (item p.a x h.live_a (filter-Has (λ y. has (partner p p.a y) part) x (f p.a) m).0)))

  -- the ends of each pipe mirror each other
  later_mirrored : All (λ q. IsMirror (second_of q) (lists q.a) (lists q.b)) after.pipes
  later_mirrored =
      All-pipes i p s t hats h mirrors
      (λ k d lt.
      let q : Pipe = slice_index_or (stay i p s t hats h) k d in
      let ends = stay_ends i p s t hats h k d lt in
      subst₂ (IsMirror (second_of q)) (sym (later-old i p s t hats h f q.a ends.0))
      (sym (later-old i p s t hats h f q.b ends.1))
      (All-filter (λ (x : Pipe). not (named (p.name ∷ []) x.name)) (λ x. IsMirror (second_of x) (f x.a) (f x.b)) i.pipes
      solves.mirrored k d lt))
      (All-part_pipes new_edge s.names s.outer s.inner s.parts h.parted.first_end.name_each
      h.parted.first_end.outer_each h.parted.first_end.inner_each mirrors (λ k lt.
      let part : List ℕ = slice_index_or s.parts k [] in
      let mine : List ℕ = part_order (f p.a) part in
      subst₂ (IsMirror (second_in new_edge part)) (sym (later-outer_a i p s t hats h f k lt))
      (sym (later-inner_a i p s t hats h f k lt))
      (subst (λ zs. IsTurn (reverse zs) (reverse (map new_edge mine))) (sym (seconds new_edge part (f p.a)))
      (turn-refl (reverse (map new_edge mine))))))
      (All-part_pipes (λ y. new_edge (partner p p.b y)) t.names t.outer t.inner t.parts h.parted.second_end.name_each
      h.parted.second_end.outer_each h.parted.second_end.inner_each mirrors (λ k lt.
      let part : List ℕ = slice_index_or t.parts k [] in
      subst₂ (IsMirror (second_in (λ y. new_edge (partner p p.b y)) part)) (sym (later-outer_b i p s t hats h f k lt))
      (sym (later-inner_b i p s t hats h f k lt))
      (subst (λ zs. IsTurn (reverse zs) (map new_edge (filter (λ x. has (partner p p.a x) part) (f p.a))))
      (sym (seconds (λ y. new_edge (partner p p.b y)) part (f p.b))) (mirrored_part k lt))))
    where
      mirrors : Pipe → Type 0
      mirrors q = IsMirror (second_of q) (lists q.a) (lists q.b)

      second_in : (ℕ → ℕ) → List ℕ → ℕ → ℕ
      second_in new part x = option_map_or (λ (y : ℕ × ℕ). y.1) (find (λ y. eqb y.0 x) (map (λ e. (e, new e)) part)) 0

      seconds : (new : ℕ → ℕ) (part order : List ℕ) → map (second_in new part) (part_order order part)
          ≡ map new (part_order order part)
      seconds new part order = map_agree_on (second_in new part) new (part_order order part)
          (λ x m. second_in_part new part x (has_true x part (filter-Has (λ y. has y part) x order m).1))

  -- each Q-vertex stands as before
  later_directions : All (λ v. IsInDirection solves.back (lists v.name) v.kind) after.verts
  later_directions =
      All-permutation directed (verts i p s t hats h) after.verts (by_name_keeps (λ v. v.name) (verts i p s t hats h))
      (All-append directed (others i p s t hats h) (map free_vert (new_verts s t))
      (λ k d lt.
      let v : Vert = slice_index_or (others i p s t hats h) k d in
      let off = keeps_other i p s t hats h v.name (filter_passes (λ (w : Vert). keeps i p s t hats h w.name) i.verts k
      d lt) in
      let live = All-filter (λ (w : Vert). keeps i p s t hats h w.name) (λ (w : Vert). Has w.name g.verts) i.verts
      all_named k d lt in
      subst (λ zs. IsInDirection solves.back zs v.kind)
      (sym (later-old i p s t hats h f v.name (Has-kept_verts i p s t hats h v.name live off.0 off.1)))
      (All-filter (λ (w : Vert). keeps i p s t hats h w.name) (λ (w : Vert). IsInDirection solves.back (f w.name)
      w.kind)
      i.verts solves.in_direction k d lt))
      (All-map directed free_vert (new_verts s t) (λ k d lt. tt)))
    where
      directed : Vert → Type 0
      directed v = IsInDirection solves.back (lists v.name) v.kind

      all_named : All (λ (w : Vert). Has w.name g.verts) i.verts
      all_named k d lt =
          subst (λ n. Has n g.verts) (get_or-map (λ (w : Vert). w.name) i.verts k d 0 lt)
          (Has_at g.verts k (omega (arith, lt, length-map i.verts (λ (w : Vert). w.name))))

  -- so they solve the instance after Join
  pub Solves-later : Solves (joined i p s t hats h) (later i p s t hats h f)
  Solves-later = record {
    rotation = record {
      arranged = later_arranged;
      flat = (arranged-CanBeFlat (graph after) (after-IsLoopless i p s t hats h) lists later_arranged).1
          later-CanBeFlat;
    };
    mirrored = later_mirrored;
    back = solves.back;
    in_direction = later_directions;
  }
