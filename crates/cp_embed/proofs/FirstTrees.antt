-- The tree of the first stage.
use Rattle.std.proofs.Common.{◌≡◌, ◌≢◌, ℕ, ◌*◌, ◌<◌, ◌⊎◌, ◌↔◌, Bool, true, false, Option, Some, None, List, [], ◌∷◌, ◌++◌, length, map, reverse, sym, refl, ap, ◌∙◌, subst, inl, inr, ⊎_elim, arith}
use Rattle.std.specs.List.Sorted.{IsPermutation}
use Rattle.std.proofs.lemmas.List.Sorted.{IsPermutation-refl, IsPermutation-sym}
use Rattle.std.proofs.lemmas.Bool.{cases_eq}
use Rattle.cp_lists.specs.CyclicLists.{Has, Lacks, Distinct, but}
use Rattle.cp_lists.specs.Turns.{IsTurn}
use Rattle.cp_lists.proofs.DistinctLists.{has_lacks, but-Has, Has-but, but-Lacks, but-Distinct}
use Rattle.cp_lists.proofs.MappedLists.{Has-map_on, map_on-Has}
use Rattle.cp_lists.proofs.TurnedLists.{turn-Has, turn-Distinct, Has-of_turn}
use Rattle.cp_faces.specs.Twins.{twin}
use Rattle.cp_faces.proofs.Twins.{twin-twin, half_twin, same_half}
use Rattle.cp_conn.specs.Darts.{start}
use Rattle.cp_pq.specs.Nodes.{leaves}
use Rattle.cp_pq.specs.Orders.{HasRow}
use Rattle.cp_pq.specs.Promises.{IsStar, IsForced, IsNeverInRow}
use Rattle.cp_pq.specs.Trees.{PQTree, IsWellFormed}
use Rattle.cp_pq.proofs.PermutedLists.{Has-IsPermutation}
use Rattle.cp_pq.proofs.Stars.{star_leaves}
use Rattle.cp_embed.specs.Arrangements.{IsArrangementOf}
use Rattle.cp_embed.specs.Directions.{directed, edge_of}
use Rattle.cp_embed.specs.ListedBlocks.{ListedGraph, IsListedBlock, list_given, edges_at}
use Rattle.cp_embed.specs.Pairs.{HasRun, SamePairs}
use Rattle.cp_embed.specs.Sweeps.{darts_at, LeadsInto, IsStagePair, IsSweep}
use Rattle.cp_embed.specs.TreePairs.{pairs_of}
use Rattle.cp_embed.specs.TreeSteps.{IsStageTree}
use Rattle.cp_embed.specs.VertexOrders.{dart_at}
use Rattle.cp_embed.proofs.Arrangements.{IsArrangementOf-items, IsArrangementOf-reverse}
use Rattle.cp_embed.proofs.DartLists.{darts_at-Has}
use Rattle.cp_embed.proofs.Directions.{IsArrangementOf-directed}
use Rattle.cp_embed.proofs.EdgeDarts.{edges_at-Has, dart_at-start, dart-touches}
use Rattle.cp_embed.proofs.FirstPairs.{free_first-SamePairs, listed_first-SamePairs}
use Rattle.cp_embed.proofs.RowNodes.{IsPermutation-arranges}
use Rattle.cp_embed.proofs.StageSteps.{IsPair-Admits}
use Rattle.cp_embed.proofs.StageTrees.{edges_at-Distinct}
use Rattle.cp_embed.proofs.StarPairs.{star-SamePairs}
use Rattle.cp_embed.proofs.Sweeps.{twin_within}
use Rattle.cp_embed.proofs.TreePairs.{forced-SamePairs}

-- a block, the dart r, and the first vertex s, at the other end of its edge
module _ (block : ListedGraph) (well : IsListedBlock block) (r : ℕ)
    (no_loop : (d : ℕ) → d < 2 * length block.graph.ends
    → start block.graph.ends (twin d) ≢ start block.graph.ends d)
    (lt_r : r < 2 * length block.graph.ends) (s : ℕ)
    (sweep : IsSweep (start block.graph.ends) (length block.graph.ends) r (s ∷ []))
    (root : ℕ) (root_is : edge_of r ≡ root) where
  -- the ends of the edges
  abbrev ends : List (ℕ × ℕ)
  ends = block.graph.ends

  -- how many edges there are
  abbrev e : ℕ
  e = length ends

  -- where the darts stand
  abbrev at : ℕ → ℕ
  at = start ends

  -- what is given
  abbrev psi : ℕ → Option (List ℕ)
  psi = list_given block.lists

  -- how many vertices there are
  abbrev n : ℕ
  n = block.graph.vertices

  -- the other edges of s
  abbrev rest : List ℕ
  rest = but root (edges_at ends s)

  -- as darts
  abbrev rest_darts : List ℕ
  rest_darts = but (twin r) (darts_at at e s)

  -- the edges but the root are those of the other darts
  rest_are : (k : ℕ) → Has k rest ↔ Has k (map edge_of rest_darts)
  rest_are k = (
    λ h.
        let w = (edges_at-Has ends s k).0 (Has-but root k (edges_at ends s) h) in
        let d = dart_at-start ends well.no_loop s k w.0 w.1 in
        subst (λ z. Has z (map edge_of rest_darts)) d.2 (Has-map_on edge_of (dart_at ends s k) rest_darts
        (but-Has (twin r) (dart_at ends s k) (darts_at at e s)
        (λ same. has_lacks k rest h (subst (λ z. Lacks z rest)
        (sym (sym d.2 ∙ ap edge_of same ∙ half_twin r ∙ root_is)) (but-Lacks root (edges_at ends s))))
        ((darts_at-Has at e (dart_at ends s k) s).1 (d.1, d.0)))),
    λ h.
        let c = map_on-Has edge_of k rest_darts h in
        let w = (darts_at-Has at e c.0 s).0 (Has-but (twin r) c.0 (darts_at at e s) c.1) in
        let t = dart-touches ends well.no_loop c.0 s w.0 w.1 in
        but-Has root k (edges_at ends s)
        (λ same. ⊎_elim
        (λ is_r. sweep.1 (sym (ap at is_r) ∙ w.1))
        (λ is_twin. has_lacks (twin r) rest_darts
        (subst (λ z. Has z rest_darts) (sym (twin-twin c.0) ∙ ap twin (sym is_twin)) c.1)
        (but-Lacks (twin r) (darts_at at e s)))
        (same_half c.0 r (c.2 ∙ same ∙ sym root_is)))
        (subst (λ z. Has z (edges_at ends s)) c.2 ((edges_at-Has ends s (edge_of c.0)).1 (t.0, t.1))),
  )

  -- they are distinct, and the root is none of them
  pub rest-Distinct : Distinct (root ∷ rest)
  rest-Distinct = (but-Lacks root (edges_at ends s), but-Distinct root (edges_at ends s) (edges_at-Distinct ends s))

  -- the star of the other edges
  module _ (star : PQTree) (is : IsStar root rest s n star) (formed : IsWellFormed star) where
    -- its root
    star_root : star.root ≡ root
    star_root = ap (λ (t : PQTree). t.root) is.tree_is

    -- its vars
    pub star_vars : star.vars ≡ n
    star_vars = ap (λ (t : PQTree). t.vars) is.tree_is

    -- its leaves
    pub star_leaves-are : leaves star.body ≡ rest
    star_leaves-are = ap (λ (t : PQTree). leaves t.body) is.tree_is ∙ star_leaves s rest

    -- its pairs
    star_pairs : SamePairs (pairs_of n star) (λ word bit. IsArrangementOf word (map edge_of rest_darts))
    star_pairs = star-SamePairs n root s rest (map edge_of rest_darts) star is
        (λ word. IsPermutation-arranges rest word rest-Distinct.1) rest_are

    -- the leaves with the root are the edges that leave s
    leaves_leave : (tree : PQTree) → tree.root ≡ root → IsPermutation (leaves star.body) (leaves tree.body) → (k : ℕ)
        → Has k (tree.root ∷ leaves tree.body) ↔ ((d : ℕ) × (edge_of d ≡ k) × LeadsInto at e (s ∷ []) d)
    leaves_leave tree same perm k = (
      ⊎_elim
          (λ is_root. (
            r,
            root_is ∙ sym same ∙ is_root,
            record {
              within = lt_r;
              outside = ((λ h. sweep.1 (sym h)), tt);
              into = inl (sym sweep.0);
            },
          ))
          (λ l.
          let h : Has k rest = subst (Has k) star_leaves-are (Has-IsPermutation k (leaves tree.body) (leaves star.body)
          (IsPermutation-sym (leaves star.body) (leaves tree.body) perm) l)
          in
          let c = map_on-Has edge_of k rest_darts ((rest_are k).0 h) in
          let w = (darts_at-Has at e c.0 s).0 (Has-but (twin r) c.0 (darts_at at e s) c.1) in
          let lt : twin c.0 < 2 * e = twin_within at e r c.0 w.0 in (
            twin c.0,
            half_twin c.0 ∙ c.2,
            record {
              within = lt;
              outside = ((λ m. no_loop c.0 w.0 (sym m ∙ sym w.1)), tt);
              into = inl (sym (ap at (twin-twin c.0) ∙ w.1));
            },
          )),
      λ q. ⊎_elim
          (λ is_r. inl (same ∙ sym root_is ∙ ap edge_of (sym is_r) ∙ q.1))
          (λ ne. inr (Has-IsPermutation k (leaves star.body) (leaves tree.body) perm
          (subst (Has k) (sym star_leaves-are) ((rest_are k).1
          (subst (λ z. Has z (map edge_of rest_darts)) (half_twin q.0 ∙ q.1)
          (Has-map_on edge_of (twin q.0) rest_darts (but-Has (twin r) (twin q.0) (darts_at at e s)
          (λ m. ne (sym (twin-twin q.0) ∙ ap twin m ∙ twin-twin r))
          ((darts_at-Has at e (twin q.0) s).1 (twin_within at e r q.0 q.2.within, into_s q.2.into)))))))))
          (cases_eq q.0 r),
    )
      where
        into_s : {v : ℕ} → Has v (s ∷ []) → v ≡ s
        into_s h = ⊎_elim (λ m. sym m) (λ m. absurd m) h

    -- a first vertex without a given list has the tree of its stage
    pub free_first-IsStageTree : psi s ≡ None → IsStageTree block r (s ∷ []) star
    free_first-IsStageTree none = record {
      formed = formed;
      root = star_root ∙ sym root_is;
      vars = omega (arith, star_vars);
      leaves_are = leaves_leave star star_root (IsPermutation-refl (leaves star.body));
      pairs = λ word bit. (
        λ p. (free_first-SamePairs at e r psi no_loop lt_r s sweep none word bit).0 ((star_pairs word bit).0 p),
        λ p. (star_pairs word bit).1 ((free_first-SamePairs at e r psi no_loop lt_r s sweep none word bit).1 p),
      );
    }

    -- a given list, and what stands behind the root in it
    module _ (list behind : List ℕ) (is_given : psi s ≡ Some list) (arranges : IsArrangementOf list (edges_at ends s))
        (turn : IsTurn list (root ∷ behind)) (lt_s : s < n) where
      -- what stands behind the root arranges the other edges
      pub behind-arranges : IsArrangementOf behind rest
      behind-arranges =
          let once = turn-Distinct list (root ∷ behind) turn arranges.distinct in
          record {
            distinct = once.1;
            items = λ k. (
              λ h. but-Has root k (edges_at ends s)
                  (λ same. has_lacks k behind h (subst (λ z. Lacks z behind) (sym same) once.0))
                  ((arranges.items k).0 (Has-of_turn list (root ∷ behind) k turn (inr h))),
              λ h. ⊎_elim
                  (λ same. absurd (has_lacks k rest h (subst (λ z. Lacks z rest) same
                  (but-Lacks root (edges_at ends s)))))
                  (λ l. l)
                  (turn-Has list (root ∷ behind) k turn ((arranges.items k).1 (Has-but root k (edges_at ends s) h))),
            );
          }

      -- as edges of darts
      behind_arranges : IsArrangementOf behind (map edge_of rest_darts)
      behind_arranges = IsArrangementOf-items behind rest (map edge_of rest_darts) behind-arranges rest_are

      -- the pairs of the stage
      stage_pairs : SamePairs (HasRun (reverse behind) s (λ word bit. IsArrangementOf word (map edge_of rest_darts)))
          (IsStagePair at e psi r (s ∷ []))
      stage_pairs = listed_first-SamePairs at e r psi no_loop lt_r s sweep list behind is_given arranges.distinct
          (subst (λ k. IsTurn list (k ∷ behind)) (sym root_is) turn) behind_arranges

      -- the pairs of the star with the run are those of the stage
      star_runs : SamePairs (HasRun (reverse behind) s (pairs_of n star)) (IsStagePair at e psi r (s ∷ []))
      star_runs word bit = (
        λ p. (stage_pairs word bit).0 (record {
          front = p.front;
          behind = p.behind;
          word_is = p.word_is;
          pair = (star_pairs word bit).0 p.pair;
        }),
        λ q. let p = (stage_pairs word bit).1 q in record {
          front = p.front;
          behind = p.behind;
          word_is = p.word_is;
          pair = (star_pairs word bit).1 p.pair;
        },
      )

      -- the star forced to it has the pairs of the stage
      pub listed_first-IsStageTree : (new : PQTree) → IsForced (reverse behind) s star new → IsWellFormed new
          → IsStageTree block r (s ∷ []) new
      listed_first-IsStageTree new forced new_formed = record {
        formed = new_formed;
        root = forced.root ∙ star_root ∙ sym root_is;
        vars = omega (arith, star_vars, forced.vars_kept);
        leaves_are = leaves_leave new (forced.root ∙ star_root) forced.leaves_kept;
        pairs = λ word bit. (
          λ p. (star_runs word bit).0 ((runs word bit).0 p),
          λ q. (runs word bit).1 ((star_runs word bit).1 q),
        );
      }
        where
          runs : SamePairs (pairs_of n new) (HasRun (reverse behind) s (pairs_of n star))
          runs = forced-SamePairs n (reverse behind) s star new (omega (arith, star_vars)) lt_s forced
              (λ b h. has_lacks root rest (((IsArrangementOf-directed b (reverse behind) rest
              (IsArrangementOf-reverse behind rest behind-arranges)).items root).0
              (subst (λ k. Has k (directed b (reverse behind))) star_root h))
              (but-Lacks root (edges_at ends s)))

      -- where no order of the star has it as a row, the stage has no pair
      pub listed_first-none : IsNeverInRow (reverse behind) star → (word : List ℕ) (bit : ℕ → Bool)
          → IsStagePair at e psi r (s ∷ []) word bit → ⊥
      listed_first-none never word bit p =
          let q = (star_runs word bit).1 p in
          never (star.root ∷ word) (IsPair-Admits star (star.root ∷ word) q.pair.0 q.pair.1)
          (subst (λ us. HasRow (reverse behind) (star.root ∷ us) ⊎ HasRow (reverse (reverse behind)) (star.root ∷ us))
          (sym q.word_is) (either (bit s) q.front q.behind))
        where
          either : (b : Bool) (front after : List ℕ)
              → HasRow (reverse behind) (star.root ∷ (front ++ (directed b (reverse behind) ++ after)))
              ⊎ HasRow (reverse (reverse behind)) (star.root ∷ (front ++ (directed b (reverse behind) ++ after)))
          either false front after = inl (star.root ∷ front, after, refl)
          either true front after = inr (star.root ∷ front, after, refl)
