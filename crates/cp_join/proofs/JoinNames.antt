-- What is known where a pipe between two parted vertices is joined: its rows, and that new names are apart.
use Rattle.std.proofs.Common.{◌≡◌, ◌≢◌, ℕ, ◌<◌, true, ◌||◌, eqb, List, ◌++◌, length, slice_index_or, sym, ap, ◌∙◌, subst, ⊎_elim, arith}
use Rattle.std.specs.Prelude.{Some}
use Rattle.std.specs.List.{All, Contains}
use Rattle.std.specs.Option.{option_map_or}
use Rattle.std.proofs.lemmas.Bool.{cases_Bool, both_ways}
use Rattle.std.proofs.lemmas.List.{get_or-map, get_or_default, length-map}
use Rattle.cp_lists.specs.CyclicLists.{Distinct, Has}
use Rattle.cp_lists.proofs.DistinctLists.{Distinct-apart, Distinct-append_left, Has-append_left, Has-append_right, has_lacks}
use Rattle.cp_conn.specs.NamedGraphs.{ends_at}
use Rattle.cp_conn.proofs.NamedGraphs.{edges_at-Contains, Contains-edges_at}
use Rattle.cp_board.specs.declared.parts.EdgeRow.{EdgeRow}
use Rattle.cp_board.specs.declared.parts.Pipe.{Pipe}
use Rattle.cp_board.specs.Names.{has, AreNew}
use Rattle.cp_board.specs.Instances.{Synchronized, IsSynchronized, HasRightEnds, HasRightPairs, graph, edge_names, edges_of, ends_of, pipe_named, vert_names}
use Rattle.cp_board.specs.Joins.{ArePartsAt}
use Rattle.cp_board.proofs.EdgesOfVertices.{touch}
use Rattle.cp_board.proofs.NamedLists.{found_at, rises_from}
use Rattle.cp_join.specs.declared.parted_ends.Parting.{Parting}
use Rattle.cp_join.specs.Partings.{AreParted, new_verts}
use Rattle.cp_join.proofs.FreshNames.{fresh_once, fresh_other}
use Rattle.cp_join.proofs.NamedParts.{has_from, has_not}
use Rattle.cp_join.proofs.PartLists.{all_of, all_has, all_from}

-- the ends of the pipe are parted, and there is a new edge for each pair
pub record HasPartings (i : Synchronized) (p : Pipe) (s t : Parting) (hats : List ℕ) : Type 0 where
  pub rules : IsSynchronized i
  pub live : pipe_named i p.name ≡ Some p
  pub ends : HasRightEnds i.verts p
  pub live_a : Contains (vert_names i) p.a
  pub live_b : Contains (vert_names i) p.b
  pub pairs : HasRightPairs (graph i) p
  pub parts_a : ArePartsAt (graph i) p.a s.parts
  pub parts_b : ArePartsAt (graph i) p.b t.parts
  pub parted : AreParted i s.parts t.parts s t
  pub hats_new : AreNew (edge_names i) hats
  pub hats_each : length hats ≡ length p.pairs

-- no item of one of four lists is one of another
pub record AreApart (xs ys zs ws : List ℕ) : Type 0 where
  pub first_second : (m n : ℕ) → Has m xs → Has n ys → m ≢ n
  pub first_third : (m n : ℕ) → Has m xs → Has n zs → m ≢ n
  pub first_fourth : (m n : ℕ) → Has m xs → Has n ws → m ≢ n
  pub second_third : (m n : ℕ) → Has m ys → Has n zs → m ≢ n
  pub second_fourth : (m n : ℕ) → Has m ys → Has n ws → m ≢ n
  pub third_fourth : (m n : ℕ) → Has m zs → Has n ws → m ≢ n

-- items of two parts of distinct numbers differ
other_item : (xs ys : List ℕ) (m n : ℕ) → Distinct (xs ++ ys) → Has m xs → Has n ys → m ≢ n
other_item xs ys m n once h k e =
    has_lacks n ys k (Distinct-apart n xs ys once (subst (λ z. Has z xs) e h))

-- four parts of distinct numbers are apart
pub AreApart-from : (xs ys zs ws : List ℕ) → Distinct (xs ++ ys ++ zs ++ ws) → AreApart xs ys zs ws
AreApart-from xs ys zs ws once =
    let three = Distinct-append_left (xs ++ ys ++ zs) ws once in
    let two = Distinct-append_left (xs ++ ys) zs three in
    record {
      first_second = λ m n h k. other_item xs ys m n two h k;
      first_third = λ m n h k. other_item (xs ++ ys) zs m n three (Has-append_left m xs ys h) k;
      first_fourth = λ m n h k.
          other_item (xs ++ ys ++ zs) ws m n once (Has-append_left m (xs ++ ys) zs (Has-append_left m xs ys h)) k;
      second_third = λ m n h k. other_item (xs ++ ys) zs m n three (Has-append_right m xs ys h) k;
      second_fourth = λ m n h k.
          other_item (xs ++ ys ++ zs) ws m n once (Has-append_left m (xs ++ ys) zs (Has-append_right m xs ys h)) k;
      third_fourth = λ m n h k.
          other_item (xs ++ ys ++ zs) ws m n once (Has-append_right m (xs ++ ys) zs h) k;
    }

-- what the row of an edge tells
pub record IsLiveRow (i : Synchronized) (e : EdgeRow) : Type 0 where
  pub named : Contains (edge_names i) e.name
  pub told : ends_of i e.name ≡ (e.a, e.b)
  pub live_a : Contains (vert_names i) e.a
  pub live_b : Contains (vert_names i) e.b
  pub differ : e.a ≢ e.b

-- all rows are live
pub rows_live : (i : Synchronized) → IsSynchronized i → All (IsLiveRow i) i.edges
rows_live i is k d lt =
    let row : EdgeRow = slice_index_or i.edges k d in
    record {
      named = subst (Contains (edge_names i)) (get_or-map (λ (x : EdgeRow). x.name) i.edges k d 0 lt)
          (name_at (edge_names i) k (omega (arith, lt, length-map i.edges (λ (x : EdgeRow). x.name))));
      told = ap (λ o. option_map_or (λ (x : EdgeRow). (x.a, x.b)) o (0, 0))
          (found_at (λ (x : EdgeRow). x.name) i.edges k d (rises_from (edge_names i) is.edges_named.rise) lt);
      live_a = (is.ends_live k d lt).0;
      live_b = (is.ends_live k d lt).1;
      differ = is.ends_differ k d lt;
    }
  where
    name_at : (ns : List ℕ) (j : ℕ) → j < length ns → Contains ns (slice_index_or ns j 0)
    name_at ns j l = (j, l, get_or_default ns j (slice_index_or ns j 0) 0 l)

-- a row ends at a vertex exactly where its edge is one of the vertex
pub touch_is : (i : Synchronized) (e : EdgeRow) (v : ℕ) → IsLiveRow i e → touch v e ≡ ends_at (graph i) v e.name
touch_is i e v row = ap (λ (x : ℕ × ℕ). eqb x.0 v || eqb x.1 v) (sym row.told)

-- an edge whose row ends at a vertex is one of it
pub row_at : (i : Synchronized) (e : EdgeRow) (v : ℕ) → IsLiveRow i e → touch v e ≡ true
    → Contains (edges_of i v) e.name
row_at i e v row t = Contains-edges_at (graph i) v e.name row.named (sym (touch_is i e v row) ∙ t)

-- and the row of an edge of a vertex ends there
pub row_from : (i : Synchronized) (e : EdgeRow) (v : ℕ) → IsLiveRow i e → Contains (edges_of i v) e.name
    → touch v e ≡ true
row_from i e v row c = touch_is i e v row ∙ (edges_at-Contains (graph i) v e.name c).1

-- the parts of a vertex have exactly the edges whose rows end there
pub parts_touch : (i : Synchronized) (u : ℕ) (parts : List (List ℕ)) (e : EdgeRow) → IsSynchronized i
    → ArePartsAt (graph i) u parts → IsLiveRow i e → has (all_of parts) e.name ≡ touch u e
parts_touch i u parts e is are row =
    ⊎_elim
    (λ t. has_from (all_of parts) e.name
    (all_has (graph i) u parts is.edges_named.rise are e.name (row_at i e u row t)) ∙ sym t)
    (λ f. has_not (all_of parts) e.name
    (λ h. both_ways (touch u e) f
    (row_from i e u row (all_from (graph i) u parts is.edges_named.rise are e.name h))) ∙ sym f)
    (cases_Bool (touch u e))

module _ (i : Synchronized) (p : Pipe) (s t : Parting) (hats : List ℕ) (h : HasPartings i p s t hats) where
  -- no new vertex stands twice
  pub new_once : Distinct (new_verts s t)
  new_once = fresh_once (vert_names i) (new_verts s t) h.parted.new_verts

  -- new vertices of two kinds differ
  pub apart : AreApart s.outer s.inner t.outer t.inner
  apart = AreApart-from s.outer s.inner t.outer t.inner new_once

  -- an outer vertex of the first end is new
  pub outer_a_new : (n : ℕ) → Has n s.outer → Has n (new_verts s t)
  outer_a_new n k =
      Has-append_left n (s.outer ++ s.inner ++ t.outer) t.inner
      (Has-append_left n (s.outer ++ s.inner) t.outer (Has-append_left n s.outer s.inner k))

  -- so is an inner one
  pub inner_a_new : (n : ℕ) → Has n s.inner → Has n (new_verts s t)
  inner_a_new n k =
      Has-append_left n (s.outer ++ s.inner ++ t.outer) t.inner
      (Has-append_left n (s.outer ++ s.inner) t.outer (Has-append_right n s.outer s.inner k))

  -- so is an outer vertex of the second end
  pub outer_b_new : (n : ℕ) → Has n t.outer → Has n (new_verts s t)
  outer_b_new n k =
      Has-append_left n (s.outer ++ s.inner ++ t.outer) t.inner (Has-append_right n (s.outer ++ s.inner) t.outer k)

  -- and an inner one
  pub inner_b_new : (n : ℕ) → Has n t.inner → Has n (new_verts s t)
  inner_b_new n k = Has-append_right n (s.outer ++ s.inner ++ t.outer) t.inner k

  -- a live vertex is no new one
  pub old_other : (m n : ℕ) → Contains (vert_names i) m → Has n (new_verts s t) → m ≢ n
  old_other m n c k = fresh_other (vert_names i) (new_verts s t) n m h.parted.new_verts k c
