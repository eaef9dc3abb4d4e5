-- The graph of the skeletons: its vertices and edges are numbers, and each edge has the two ends of its segment.
use Rattle.std.proofs.Common.{◌≡◌, ℕ, ◌+◌, ◌*◌, ◌/◌, ◌<◌, List, [], ◌∷◌, map, length, sym, refl, ap, ap₂, ◌∙◌, inl, inr, ⊎_elim, arith}
use Rattle.std.specs.Prelude.{eqb, slice_index_or, Option, Some}
use Rattle.std.specs.List.{find}
use Rattle.std.specs.Option.{option_map_or}
use Rattle.std.proofs.lemmas.Bool.{cases_eq, cond-false, cond-true, eq-eqb, ne_eqb}
use Rattle.cp_lists.specs.CyclicLists.{Has}
use Rattle.cp_lists.proofs.DistinctLists.{Has-Contains}
use Rattle.cp_conn.specs.NamedGraphs.{rank}
use Rattle.cp_conn.proofs.NamedGraphs.{rank_at, rank_is}
use Rattle.cp_board.specs.Instances.{edge_names, ends_of, graph, vert_names}
use Rattle.cp_board.specs.declared.parts.Kind.TheVariants.{P}
use Rattle.cp_board.specs.declared.parts.Vert.{Vert}
use Rattle.cp_cgraph.specs.Clustered.{Clustered}
use Rattle.cp_skel.specs.Skeletons.{all_vertices, below, dart_vertex, kept_segments, segment_name, skeleton_edge, skeletons, vertex_name}
use Rattle.cp_skel.proofs.KeptSegments.{kept_segments-Distinct}
use Rattle.cp_skel.proofs.NumberedSystems.{numbers}
use Rattle.cp_skel.proofs.TabledLists.{map_places, map_twice}

-- the items themselves
map_self : {X : Type 0} (xs : List X) → map (λ x. x) xs ≡ xs
map_self [] = refl
map_self (x ∷ xs) = ap (λ ys. x ∷ ys) (map_self xs)

-- the vertices are numbers
pub vert_names-skeletons : (g : Clustered) → vert_names (skeletons g) ≡ below (length (all_vertices g))
vert_names-skeletons g =
    let vert : ℕ → Vert = λ v. record { name = v; kind = P } in
    map_twice vert (λ x. x.name) (below (length (all_vertices g))) ∙ map_self (below (length (all_vertices g)))

-- the name of the segment at a place is its place
pub name_at : (g : Clustered) (n t : ℕ) → n < length (kept_segments g) → slice_index_or (kept_segments g) n 0 ≡ t
    → rank (kept_segments g) t ≡ n
name_at g n t lt at = rank_is (kept_segments g) n t (kept_segments-Distinct g) lt at

-- the edges are numbers
pub edge_names-skeletons : (g : Clustered) → edge_names (skeletons g) ≡ below (length (kept_segments g))
edge_names-skeletons g =
    map_twice (skeleton_edge g) (λ x. x.name) (kept_segments g)
    ∙ sym (map_places (λ n. n) (λ t. segment_name g (2 * t)) 0 0 (kept_segments g)
    (λ i lt. let t : ℕ = slice_index_or (kept_segments g) i 0 in
    (let h : 0 + i ≡ i = omega arith in h)
    ∙ sym (ap (rank (kept_segments g)) (let h : 2 * t / 2 ≡ t = omega arith in h) ∙ name_at g i t lt refl)))
    ∙ map_self (below (length (kept_segments g)))

-- an item found by its name
pub find_named : {A : Type 0} (name : A → ℕ) (row : ℕ → A) (xs : List ℕ) (t : ℕ) → Has t xs
    → ((u : ℕ) → Has u xs → name (row u) ≡ name (row t) → u ≡ t)
    → find (λ x. eqb (name x) (name (row t))) (map row xs) ≡ Some (row t)
find_named name row [] t h once = absurd h
find_named {A = A} name row (u ∷ xs) t h once =
    let rest : Option A = find (λ x. eqb (name x) (name (row t))) (map row xs) in
    ⊎_elim
    (λ same. cond-true (eqb (name (row u)) (name (row t))) (Some (row u)) rest
    (eq-eqb (name (row u)) (name (row t)) same)
    ∙ ap (λ x. Some (row x)) (once u (inl refl) same))
    (λ ne. cond-false (eqb (name (row u)) (name (row t))) (Some (row u)) rest (ne_eqb (name (row u)) (name (row t)) ne)
    ∙ find_named name row xs t
    (⊎_elim (λ e. absurd (ne (ap (λ x. name (row x)) e))) (λ k. k) h) (λ w k e. once w (inr k) e))
    (cases_eq (name (row u)) (name (row t)))

-- the ends of the edge of a segment
pub ends_of-skeletons : (g : Clustered) (t : ℕ) → Has t (kept_segments g)
    → ends_of (skeletons g) (rank (kept_segments g) t)
    ≡ (vertex_name g (dart_vertex g (2 * t)), vertex_name g (dart_vertex g (2 * t + 1)))
ends_of-skeletons g t h =
    let half : (u : ℕ) → 2 * u / 2 ≡ u = λ u. omega arith in
    let name : (u : ℕ)
    → segment_name g (2 * u) ≡ rank (kept_segments g) u = λ u. ap (rank (kept_segments g)) (half u) in
    let once : (u : ℕ) → Has u (kept_segments g) → segment_name g (2 * u) ≡ segment_name g (2 * t) → u ≡ t =
    λ u k same.
    sym (rank_at (kept_segments g) u ((Has-Contains u (kept_segments g)).0 k)).1
    ∙ ap (λ n. slice_index_or (kept_segments g) n 0) (sym (name u) ∙ same ∙ name t)
    ∙ (rank_at (kept_segments g) t ((Has-Contains t (kept_segments g)).0 h)).1 in
    ap (ends_of (skeletons g)) (sym (name t))
    ∙ ap (λ o. option_map_or (λ x. (x.a, x.b)) o (0, 0))
    (find_named (λ x. x.name) (skeleton_edge g) (kept_segments g) t h once)

-- the graph is one of numbers
pub graph-skeletons : (g : Clustered)
    → graph (skeletons g)
    ≡ numbers (length (all_vertices g)) (length (kept_segments g)) (ends_of (skeletons g))
graph-skeletons g =
    ap₂ (λ vs es. record { verts = vs; edges = es; ends = ends_of (skeletons g) }) (vert_names-skeletons g)
    (edge_names-skeletons g)
