-- The edges of each vertex after Join.
use Rattle.std.proofs.Common.{◌≡◌, ℕ, Bool, true, false, ◌||◌, cond, eqb, List, [], ◌∷◌, ◌++◌, length, map, sym, refl, ap, ap₂, ◌∙◌, subst, IsPermutation}
use Rattle.std.specs.Prelude.{filter}
use Rattle.std.specs.List.{All}
use Rattle.std.specs.List.Sorted.{IsStrictlyIncreasing}
use Rattle.std.proofs.lemmas.Bool.{cond-true, cond-false, eq-eqb, ne_eqb}
use Rattle.std.proofs.lemmas.List.{append-nil, length-map, map-append}
use Rattle.std.proofs.lemmas.List.Elements.{All-head, All-tail, All-map, filter-append}
use Rattle.std.proofs.lemmas.List.Kept.{IsStrictlyIncreasing-filter}
use Rattle.std.proofs.lemmas.List.Sorted.{IsPermutation-map, IsPermutation-sym}
use Rattle.cp_lists.specs.CyclicLists.{Distinct, Has}
use Rattle.cp_lists.proofs.DistinctLists.{Distinct-append, Has-Contains, Lacks-from}
use Rattle.cp_conn.specs.NamedGraphs.{ends_at}
use Rattle.cp_board.specs.declared.parts.EdgeRow.{EdgeRow}
use Rattle.cp_board.specs.declared.parts.Pipe.{Pipe}
use Rattle.cp_board.specs.Names.{has}
use Rattle.cp_board.specs.Changes.{moved_edges, edges_by_name, verts_by_name, pipes_by_name, other_verts, other_pipes, free_vert}
use Rattle.cp_board.specs.Instances.{Synchronized, graph, edge_names, edges_of}
use Rattle.cp_board.specs.Joins.{edge_for, bipartite_edge, part_pipes}
use Rattle.cp_board.specs.Steps.{partner}
use Rattle.cp_board.proofs.EdgesOfVertices.{touch, moved_row, names_passing}
use Rattle.cp_board.proofs.ListTests.{distinct, rises}
use Rattle.cp_board.proofs.NamedLists.{by_name_keeps, by_name_same, distinct_from_rises, filter-by_name, rises-by_name, rises_from}
use Rattle.cp_join.specs.declared.parted_ends.Parting.{Parting}
use Rattle.cp_join.specs.Partings.{new_verts}
use Rattle.cp_lists.proofs.PermutedLists.{Distinct-IsPermutation, Has-IsPermutation}
use Rattle.cp_join.proofs.RisingLists.{Distinct-rising}
use Rattle.cp_join.proofs.FreshNames.{fresh_once, fresh_other}
use Rattle.cp_join.proofs.NamedParts.{has_from, from_has}
use Rattle.cp_join.proofs.PipePairs.{firsts, seconds, second, first, second_has, first_has, first_second, second_first}
use Rattle.cp_join.proofs.SameLists.{map_ranks, All-from_has, names_kept, none_kept, distinct_from, Has-kept, kept-Has, one_order}
use Rattle.cp_join.proofs.JoinNames.{HasPartings}
use Rattle.cp_join.proofs.JoinedMoves.{to}

-- one of the two tests fails
pub or_second : (a b : Bool) → a ≡ false → (a || b) ≡ b
or_second true b f = cc
or_second false b f = refl

-- and the other one is left
pub or_first : (a b : Bool) → b ≡ false → (a || b) ≡ a
or_first true b f = refl
or_first false b f = f

-- numbers that rise are among them in their order
pub kept_part : (xs part : List ℕ) → IsStrictlyIncreasing xs → IsStrictlyIncreasing part
    → ((x : ℕ) → Has x part → Has x xs) → filter (has part) xs ≡ part
kept_part xs part up rise among =
    one_order (filter (has part) xs) part (rises_from (filter (has part) xs) (IsStrictlyIncreasing-filter (has part) xs up))
    (rises_from part rise)
    (λ x h. from_has part x (Has-kept (has part) xs x h).1)
    (λ x h. kept-Has (has part) xs x (among x h) (has_from part x h))

module _ (i : Synchronized) (p : Pipe) (s t : Parting) (hats : List ℕ) (h : HasPartings i p s t hats) where
  -- the edges of the first end
  abbrev pub edges_a : List ℕ
  edges_a = edges_of i p.a

  -- and of the second
  abbrev pub edges_b : List ℕ
  edges_b = edges_of i p.b

  -- the new edge for an edge of the first end
  abbrev pub hat : ℕ → ℕ
  hat x = edge_for i p hats x

  -- and its row
  abbrev pub row : ℕ → EdgeRow
  row x = bipartite_edge i p hats s.parts s.inner t.parts t.inner x

  -- the edges that were there, and the new ones
  abbrev pub kept_rows : List EdgeRow
  kept_rows = moved_edges i (to i p s t hats h)

  -- the rows of the new edges
  abbrev pub new_rows : List EdgeRow
  new_rows = map row edges_a

  -- the instance after Join
  abbrev pub joined : Synchronized
  joined = record {
    verts = verts_by_name (other_verts i (p.a ∷ p.b ∷ []) ++ map free_vert (new_verts s t));
    edges = edges_by_name (kept_rows ++ new_rows);
    pipes = pipes_by_name (other_pipes i (p.name ∷ [])
        ++ part_pipes hat s.names s.outer s.inner s.parts
        ++ part_pipes (λ y. hat (partner p p.b y)) t.names t.outer t.inner t.parts);
  }

  -- the edges of a vertex rise
  pub rise_at : (v : ℕ) → IsStrictlyIncreasing (edges_of i v)
  rise_at v = IsStrictlyIncreasing-filter (ends_at (graph i) v) (edge_names i) h.rules.edges_named.rise

  -- so none stands twice
  pub once_at : (v : ℕ) → Distinct (edges_of i v)
  once_at v = Distinct-rising (edges_of i v) (rise_at v)

  -- no first edge of the pairs stands twice
  pub once_firsts : Distinct (firsts p.pairs)
  once_firsts = subst Distinct (sym h.pairs.first) (once_at p.a)

  -- nor does a second
  pub once_seconds : Distinct (seconds p.pairs)
  once_seconds = Distinct-IsPermutation edges_b (seconds p.pairs) h.pairs.second (once_at p.b)

  -- partners by the pairs
  pub partner_a : (x : ℕ) → partner p p.a x ≡ second p.pairs x
  partner_a x = cond-true (eqb p.a p.a) (second p.pairs x) (first p.pairs x) (eq-eqb p.a p.a refl)

  -- the partner of an edge of the second end
  pub partner_b : (y : ℕ) → partner p p.b y ≡ first p.pairs y
  partner_b y = cond-false (eqb p.a p.b) (second p.pairs y) (first p.pairs y) (ne_eqb p.a p.b h.ends.differ)

  -- an edge of the first end is the first of a pair
  is_first : (x : ℕ) → Has x edges_a → Has x (firsts p.pairs)
  is_first x k = subst (Has x) (sym h.pairs.first) k

  -- and one of the second end the second
  is_second : (y : ℕ) → Has y edges_b → Has y (seconds p.pairs)
  is_second y k = Has-IsPermutation y edges_b (seconds p.pairs) h.pairs.second k

  -- the partner of an edge of the first end is one of the second
  pub partner_of_a : (x : ℕ) → Has x edges_a → Has (partner p p.a x) edges_b
  partner_of_a x k =
      subst (λ n. Has n edges_b) (sym (partner_a x))
      (Has-IsPermutation (second p.pairs x) (seconds p.pairs) edges_b (IsPermutation-sym edges_b (seconds p.pairs) h.pairs.second)
      (second_has p.pairs once_firsts once_seconds x (is_first x k)))

  -- and the other way round
  pub partner_of_b : (y : ℕ) → Has y edges_b → Has (partner p p.b y) edges_a
  partner_of_b y k =
      subst (λ n. Has n edges_a) (sym (partner_b y))
      (subst (Has (first p.pairs y)) h.pairs.first
      (first_has p.pairs once_firsts once_seconds y (is_second y k)))

  -- the partner of the partner is the edge
  pub partner_back : (x : ℕ) → Has x edges_a → partner p p.b (partner p p.a x) ≡ x
  partner_back x k =
      partner_b (partner p p.a x) ∙ ap (first p.pairs) (partner_a x)
      ∙ first_second p.pairs once_firsts once_seconds x (is_first x k)

  -- also from the second end
  pub partner_forth : (y : ℕ) → Has y edges_b → partner p p.a (partner p p.b y) ≡ y
  partner_forth y k =
      partner_a (partner p p.b y) ∙ ap (second p.pairs) (partner_b y)
      ∙ second_first p.pairs once_firsts once_seconds y (is_second y k)

  -- the names of the edges
  names_kept_rows : (es : List EdgeRow)
      → map (λ e. e.name) (map (moved_row (to i p s t hats h)) es) ≡ map (λ e. e.name) es
  names_kept_rows [] = refl
  names_kept_rows (e ∷ es) = ap (λ zs. e.name ∷ zs) (names_kept_rows es)

  -- the names of new rows
  names_of_row : (xs : List ℕ) → map (λ e. e.name) (map row xs) ≡ map hat xs
  names_of_row [] = refl
  names_of_row (x ∷ xs) = ap (λ zs. hat x ∷ zs) (names_of_row xs)

  -- the new edges for all edges of the first end are all new edges
  pub hats_all : map hat edges_a ≡ hats
  hats_all = map_ranks edges_a hats (once_at p.a)
      (h.hats_each ∙ sym (length-map p.pairs (λ (x : ℕ × ℕ). x.0)) ∙ ap length h.pairs.first)

  -- the names of all rows
  pub names_all : map (λ e. e.name) (kept_rows ++ new_rows) ≡ edge_names i ++ hats
  names_all =
      map-append (λ (e : EdgeRow). e.name) kept_rows new_rows
      ∙ ap₂ (λ xs ys. xs ++ ys) (names_kept_rows i.edges) (names_of_row edges_a ∙ hats_all)

  -- no name stands twice
  pub edges_once : Distinct (edge_names i ++ hats)
  edges_once =
      Distinct-append (edge_names i) hats (Distinct-rising (edge_names i) h.rules.edges_named.rise)
      (fresh_once (edge_names i) hats h.hats_new)
      (λ d k. Lacks-from d hats (λ l. fresh_other (edge_names i) hats d d h.hats_new l ((Has-Contains d (edge_names i)).0 k) refl))

  -- so the names pass the test for it
  pub names_differ : distinct (map (λ e. e.name) (kept_rows ++ new_rows)) ≡ true
  names_differ = ap distinct names_all ∙ distinct_from (edge_names i ++ hats) edges_once

  -- the edges of a vertex after Join: those that were there, and new ones
  edges_joined : (v : ℕ) → edges_of joined v
      ≡ map (λ e. e.name) (edges_by_name (filter (touch v) kept_rows ++ filter (touch v) new_rows))
  edges_joined v =
      names_passing (λ x. eqb x.0 v || eqb x.1 v) (edges_by_name (kept_rows ++ new_rows))
      (distinct_from_rises (λ e. e.name) (edges_by_name (kept_rows ++ new_rows))
      (rises-by_name (λ e. e.name) (kept_rows ++ new_rows) names_differ))
      ∙ ap (map (λ e. e.name)) (filter-by_name (λ e. e.name) (touch v) (kept_rows ++ new_rows) names_differ)
      ∙ ap (λ zs. map (λ e. e.name) (edges_by_name zs)) (filter-append (touch v) kept_rows new_rows)

  -- those that were there, by a test of their names
  kept_by : (v : ℕ) (q : ℕ → Bool) → All (λ e. touch v (moved_row (to i p s t hats h) e) ≡ q e.name) i.edges
      → map (λ e. e.name) (filter (touch v) kept_rows) ≡ filter q (edge_names i)
  kept_by v q each =
      names_kept (λ e. e.name) (touch v) q kept_rows
      (All-map (λ e. touch v e ≡ q e.name) (moved_row (to i p s t hats h)) i.edges each)
      ∙ ap (filter q) (names_kept_rows i.edges)

  -- the edges of a vertex at which no new edge ends
  pub no_new_edge : (v : ℕ) (q : ℕ → Bool) → All (λ e. touch v (moved_row (to i p s t hats h) e) ≡ q e.name) i.edges
      → All (λ x. touch v (row x) ≡ false) edges_a → edges_of joined v ≡ filter q (edge_names i)
  no_new_edge v q each none =
      edges_joined v
      ∙ ap (λ zs. map (λ e. e.name) (edges_by_name (filter (touch v) kept_rows ++ zs)))
      (none_kept (touch v) new_rows (All-map (λ e. touch v e ≡ false) row edges_a none))
      ∙ ap (λ zs. map (λ e. e.name) (edges_by_name zs)) (append-nil (filter (touch v) kept_rows))
      ∙ ap (map (λ e. e.name)) (by_name_same (λ e. e.name) (filter (touch v) kept_rows)
      (ap rises (kept_by v q each) ∙ rises_from (filter q (edge_names i))
      (IsStrictlyIncreasing-filter q (edge_names i) h.rules.edges_named.rise)))
      ∙ kept_by v q each

  -- the edges of a vertex at which only new edges end, in some order
  pub no_old_edge : (v : ℕ) (q : ℕ → Bool) → All (λ e. touch v (moved_row (to i p s t hats h) e) ≡ false) i.edges
      → ((x : ℕ) → Has x edges_a → touch v (row x) ≡ q x)
      → IsPermutation (edges_of joined v) (map hat (filter q edges_a))
  no_old_edge v q none each =
      subst (λ zs. IsPermutation zs (map hat (filter q edges_a)))
      (sym (edges_joined v
      ∙ ap (λ zs. map (λ e. e.name) (edges_by_name (zs ++ filter (touch v) new_rows)))
      (none_kept (touch v) kept_rows (All-map (λ e. touch v e ≡ false) (moved_row (to i p s t hats h)) i.edges none))))
      (subst (IsPermutation (map (λ e. e.name) (edges_by_name (filter (touch v) new_rows)))) names
      (IsPermutation-map (λ (e : EdgeRow). e.name) (edges_by_name (filter (touch v) new_rows)) (filter (touch v) new_rows)
      (IsPermutation-sym (filter (touch v) new_rows) (edges_by_name (filter (touch v) new_rows))
      (by_name_keeps (λ e. e.name) (filter (touch v) new_rows)))))
    where
      filter_rows : (xs : List ℕ) → All (λ x. touch v (row x) ≡ q x) xs
          → filter (touch v) (map row xs) ≡ map row (filter q xs)
      filter_rows [] all = refl
      filter_rows (x ∷ xs) all =
          ap (λ b. cond b (row x ∷ filter (touch v) (map row xs)) (filter (touch v) (map row xs))) (All-head (λ z. touch v (row z) ≡ q z) x xs all)
          ∙ by_test (q x) (filter_rows xs (All-tail (λ z. touch v (row z) ≡ q z) x xs all))
        where
          by_test : (b : Bool) → filter (touch v) (map row xs) ≡ map row (filter q xs)
              → cond b (row x ∷ filter (touch v) (map row xs)) (filter (touch v) (map row xs))
              ≡ map row (cond b (x ∷ filter q xs) (filter q xs))
          by_test true e = ap (λ zs. row x ∷ zs) e
          by_test false e = e

      names : map (λ e. e.name) (filter (touch v) new_rows) ≡ map hat (filter q edges_a)
      names = ap (map (λ e. e.name)) (filter_rows edges_a (All-from_has (λ x. touch v (row x) ≡ q x) edges_a each))
          ∙ names_of_row (filter q edges_a)
