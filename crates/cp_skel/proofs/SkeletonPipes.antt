-- The pipes of the skeletons: one for each cluster that some edge leaves, with the edges that leave it as pairs.
use Rattle.std.proofs.Common.{◌≡◌, ℕ, ◌/◌, ◌<◌, Bool, true, List, [], ◌∷◌, map, length, sym, refl, ap, ◌∙◌, subst, inl, inr, ⊎_elim, arith}
use Rattle.std.specs.Prelude.{eqb, not, slice_index_or}
use Rattle.std.specs.List.{All, filter, list_any, zip}
use Rattle.std.specs.Option.{option_map_or}
use Rattle.std.proofs.lemmas.Bool.{and_parts, cases_eq, false≢true, or_cases, eq-eqb}
use Rattle.std.proofs.lemmas.List.Elements.{All-cons, All-nil, All-tail}
use Rattle.std.proofs.lemmas.List.FromFn.{length-range_with_len}
use Rattle.cp_lists.specs.CyclicLists.{Has}
use Rattle.cp_lists.proofs.FilteredLists.{Has-filter, filter-Has}
use Rattle.cp_board.specs.Solutions.{second_of}
use Rattle.cp_board.specs.declared.parts.Pipe.{Pipe}
use Rattle.cp_cgraph.specs.Clustered.{Clustered, IsClustered, clusters, edges}
use Rattle.cp_cgraph.specs.Crossings.{leaves}
use Rattle.cp_skel.specs.SkeletonLists.{in_dart, out_dart}
use Rattle.cp_skel.specs.declared.vertex.Vertex.{Vertex}
use Rattle.cp_skel.specs.declared.vertex.Vertex.TheVariants.{Child}
use Rattle.cp_skel.specs.Skeletons.{below, is_left, kept_segments, left, segment_name, skeleton_pipe, skeletons}
use Rattle.cp_skel.proofs.DartVertices.{StandsAt, StandsAt-kept, out_dart-StandsAt}
use Rattle.cp_skel.proofs.KeptSegments.{segment_apart}
use Rattle.cp_skel.proofs.Ranges.{Has-range, range-Has}
use Rattle.cp_skel.proofs.SkeletonGraph.{find_named}
use Rattle.cp_skel.proofs.SkeletonVertices.{is_left-from}
use Rattle.cp_skel.proofs.StockDarts.{kept_name}

-- an item passes where some item does
some_item : (p : ℕ → Bool) (xs : List ℕ) → list_any p xs ≡ true → (x : ℕ) × Has x xs × (p x ≡ true)
some_item p [] t = absurd (false≢true t)
some_item p (x ∷ xs) t = ⊎_elim
    (λ h. (x, inl refl, h))
    (λ r. let w = some_item p xs r in (w.0, inr w.1, w.2))
    (or_cases (p x) (list_any p xs) t)

-- what holds of the pipe of each cluster that an edge leaves holds of all pipes
all_pipes : (g : Clustered) (P : Pipe → Type 0) (ns cs : List ℕ)
    → ((n c : ℕ) → Has c cs → P (skeleton_pipe g n c)) → All P (map (λ x. skeleton_pipe g x.0 x.1) (zip ns cs))
all_pipes g P [] cs of = All-nil P
all_pipes g P (n ∷ ns) [] of = All-nil P
all_pipes g P (n ∷ ns) (c ∷ cs) of =
    All-cons P (skeleton_pipe g n c) (map (λ x. skeleton_pipe g x.0 x.1) (zip ns cs)) (of n c (inl refl))
    (all_pipes g P ns cs (λ k b h. of k b (inr h)))

-- an edge leaves a cluster that is left
pub left-edge : (g : Clustered) (c : ℕ) → is_left g c ≡ true → (e : ℕ) × (e < edges g) × (leaves g c e ≡ true)
left-edge g c t =
    let two = and_parts (not (eqb c 0)) (list_any (leaves g c) (below (edges g))) t in
    let e = some_item (leaves g c) (below (edges g)) two.1 in
    (e.0, omega (arith, (range-Has e.0 0 (edges g) e.1).1), e.2)

-- and it is not the root
pub left-Has : (g : Clustered) (c : ℕ) → Has c (left g) → (0 < c) × (c < clusters g) × (is_left g c ≡ true)
left-Has g c h =
    let w = filter-Has (is_left g) c (below (clusters g)) h in
    let two = and_parts (not (eqb c 0)) (list_any (leaves g c) (below (edges g))) w.1 in
    let above : 0 < c = ⊎_elim
    (λ root. absurd (false≢true (sym (ap not (eq-eqb c 0 root)) ∙ two.0)))
    (λ ne. omega arith)
    (cases_eq c 0) in
    (above, omega (arith, (range-Has c 0 (clusters g) w.0).1), w.1)

-- what holds of the pipes of such clusters holds of all
pub All-pipes : (g : Clustered) (P : Pipe → Type 0)
    → ((n c e : ℕ) → 0 < c → c < clusters g → e < edges g → leaves g c e ≡ true → P (skeleton_pipe g n c))
    → All P (skeletons g).pipes
All-pipes g P of = all_pipes g P (below (length (left g))) (left g)
    (λ n c h. let w = left-Has g c h in let e = left-edge g c w.2 in of n c e.0 w.0 w.1 e.1 e.2)

-- what holds of all pipes of some clusters holds of that of each
pipe_of-some : (g : Clustered) (P : Pipe → Type 0) (ns cs : List ℕ) (c : ℕ) → length ns ≡ length cs
    → All P (map (λ x. skeleton_pipe g x.0 x.1) (zip ns cs)) → Has c cs → (n : ℕ) × P (skeleton_pipe g n c)
pipe_of-some g P ns [] c long all h = absurd h
pipe_of-some g P [] (b ∷ cs) c long all h = absurd (omega (arith, long))
pipe_of-some g P (n ∷ ns) (b ∷ cs) c long all h =
    let rows : List Pipe = map (λ x. skeleton_pipe g x.0 x.1) (zip ns cs) in
    ⊎_elim
    (λ same. (n, subst (λ x. P (skeleton_pipe g n x)) same (all 0 (skeleton_pipe g n b) (omega arith))))
    (λ k. pipe_of-some g P ns cs c (omega (arith, long)) (All-tail P (skeleton_pipe g n b) rows all) k)
    h

-- so there is one for each cluster that an edge leaves
pub pipe-of : (g : Clustered) (P : Pipe → Type 0) (c e : ℕ) → 0 < c → c < clusters g → e < edges g
    → leaves g c e ≡ true → All P (skeletons g).pipes → (n : ℕ) × P (skeleton_pipe g n c)
pipe-of g P c e above cluster lt leave all =
    pipe_of-some g P (below (length (left g))) (left g) c (length-range_with_len 0 (length (left g))) all
    (Has-filter (is_left g) c (below (clusters g)) (Has-range c 0 (clusters g) (omega arith) (omega (arith, cluster)))
    (is_left-from g c e above lt leave))

-- darts at a border whose segments have one name are of one edge
module _ (g : Clustered) (is : IsClustered g) (c : ℕ) (cluster : c < clusters g) where
  -- of two edges that leave the cluster
  pub name-apart : (d b e f : ℕ) (p q : Vertex) → StandsAt g d e p → StandsAt g b f q
      → segment_name g d ≡ segment_name g b
      → e ≡ f
  name-apart d b e f p q s t same =
      let half : d / 2 ≡ b / 2 =
      sym (kept_name g (d / 2) (StandsAt-kept g d e p s)).1
      ∙ ap (λ n. slice_index_or (kept_segments g) n 0) same
      ∙ (kept_name g (b / 2) (StandsAt-kept g b f q t)).1 in
      (segment_apart g e s.place f t.place s.of.within t.of.within (sym s.of.is ∙ half ∙ t.of.is)).0

  -- the edges that leave the cluster
  abbrev leaving : List ℕ
  leaving = filter (leaves g c) (below (edges g))

  -- the partner of the segment outside is the one inside
  pub second_of-pipe : (n e : ℕ) → e < edges g → leaves g c e ≡ true
      → second_of (skeleton_pipe g n c) (segment_name g (out_dart g c e)) ≡ segment_name g (in_dart g c e)
  second_of-pipe n e lt leave =
      let pair : ℕ → ℕ × ℕ = λ x. (segment_name g (out_dart g c x), segment_name g (in_dart g c x)) in
      let item : Has e leaving =
      Has-filter (leaves g c) e (below (edges g)) (Has-range e 0 (edges g) (omega arith) (omega (arith, lt))) leave in
      ap (λ o. option_map_or (λ y. y.1) o 0)
      (find_named (λ y. y.0) pair leaving e item
      (λ u h same.
      let w = filter-Has (leaves g c) u (below (edges g)) h in
      name-apart (out_dart g c u) (out_dart g c e) u e (Child c) (Child c)
      (out_dart-StandsAt g is c u (omega (arith, (range-Has u 0 (edges g) w.0).1)) cluster w.1)
      (out_dart-StandsAt g is c e lt cluster leave) same))
