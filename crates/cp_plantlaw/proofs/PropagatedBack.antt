-- Propagate backwards: lists that solve the instance after it, read from both trees, solve the instance before it.
use Rattle.std.proofs.Common.{◌≡◌, ◌≢◌, ◌↔◌, ℕ, suc, Bool, true, false, not, eqb, List, [], ◌∷◌, ◌++◌, length, map, reverse, sym, refl, ap, ◌∙◌, subst, subst₂, inl, inr, ⊎_elim, arith, IsPermutation}
use Rattle.std.specs.Prelude.{None, Some, filter, find}
use Rattle.std.specs.List.{All, AllZip, Contains}
use Rattle.std.specs.Option.{option_map}
use Rattle.std.proofs.lemmas.Bool.{cases_eq, cond-false, cond_both, ne_eqb}
use Rattle.std.proofs.lemmas.List.Elements.{All-contains, Contains-append_left}
use Rattle.std.proofs.lemmas.List.Sorted.{Contains-permutation, IsPermutation-sym, IsPermutation-trans, length_permutation}
use Rattle.cp_lists.specs.CyclicLists.{Has}
use Rattle.cp_lists.specs.Turns.{IsTurn}
use Rattle.cp_lists.proofs.DistinctLists.{Has-append_left, Has-append_right, Has-Contains}
use Rattle.cp_lists.proofs.FilteredLists.{filter-Distinct}
use Rattle.cp_lists.proofs.PermutedLists.{Distinct-IsPermutation}
use Rattle.cp_lists.proofs.TurnedLists.{turn-map, turn-reverse, turn-sym, turn-trans}
use Rattle.cp_base.specs.declared.shape.Shape.{Shape}
use Rattle.cp_base.specs.Shapes.{leaves}
use Rattle.cp_conn.specs.NamedGraphs.{ends_at}
use Rattle.cp_conn.proofs.NamedGraphs.{map_has}
use Rattle.cp_orbits.proofs.ClassLabels.{Contains-cons_cases}
use Rattle.cp_rot.specs.Genus.{HasGenusZero}
use Rattle.cp_board.specs.declared.parts.Kind.TheVariants.{P}
use Rattle.cp_board.specs.declared.parts.Pipe.{Pipe}
use Rattle.cp_board.specs.declared.parts.Vert.{Vert}
use Rattle.cp_board.specs.Changes.{other_pipes}
use Rattle.cp_board.specs.Instances.{Synchronized, IsSynchronized, HasRightEnds, edge_names, edges_of, graph, kind_in, vert_names}
use Rattle.cp_board.specs.Names.{has, rising}
use Rattle.cp_board.specs.Plantings.{Planted}
use Rattle.cp_board.specs.Propagations.{IsPropagated}
use Rattle.cp_board.specs.Rotations.{ArrangesEdges, system}
use Rattle.cp_board.specs.Solutions.{IsInDirection, IsMirror, Solves, second_of}
use Rattle.cp_board.specs.Steps.{IsEnd, opposite, partner}
use Rattle.cp_board.proofs.NamedLists.{rises_from}
use Rattle.cp_board.proofs.NumberOfNewNames.{Distinct-from_rises}
use Rattle.cp_synclaw.proofs.InstanceDarts.{edges_once, verts_once}
use Rattle.cp_plantlaw.specs.NamedTrees.{PairedRow}
use Rattle.cp_plantlaw.proofs.ApartPipes.{one_name, one_owner}
use Rattle.cp_plantlaw.proofs.EndPartners.{by_end, found_own}
use Rattle.cp_plantlaw.proofs.FreshNames.{All-from_items, has-false}
use Rattle.cp_plantlaw.proofs.LaidTrees.{AreLaid, Kid, KidsLaid, kid_tops, kid_word}
use Rattle.cp_plantlaw.proofs.PropagatedEnds.{differ, edges_stay, mirrors, old_Has, right, rows_some}
use Rattle.cp_plantlaw.proofs.PropagatedRows.{HaveEdges, PairHas, all_pairs, all_pipes, all_verts, new_fixed, new_free, new_pipes, old_verts, pipes_keep, row_edges, row_verts, verts_keep, verts_named}
use Rattle.cp_plantlaw.proofs.EdgesOfRows.{rows-HaveEdges}
use Rattle.cp_plantlaw.proofs.PropagatedTrees.{Holds, node-HasGenusZero, rows_inside, turn_back, word-edges_u}
use Rattle.cp_plantlaw.proofs.ReadLeaves.{reads-leaves}
use Rattle.cp_plantlaw.proofs.RowOrders.{directed-HaveOrder, mirrored-HaveOrder}
use Rattle.cp_plantlaw.proofs.RowPairs.{turn-IsPermutation, zip_both, zip_then}
use Rattle.cp_plantlaw.proofs.ToldTrees.{HaveOrder, ToldAs, branch-ToldAs}

-- an item that passes the test is one of those that a filter keeps
kept_Contains : {A : Type 0} (q : A → Bool) (xs : List A) (x : A) → Contains xs x → q x ≡ true
    → Contains (filter q xs) x
kept_Contains q [] x c t = absurd (omega (arith, c.1))
kept_Contains q (y ∷ xs) x c t = ⊎_elim
    (λ (e : y ≡ x). let ty : q y ≡ true = ap q e ∙ t in rw (ty) (0, omega arith, e))
    (λ k. let r = kept_Contains q xs x k t in
    cond_both (q y) (y ∷ filter q xs) (filter q xs) (λ zs. Contains zs x)
    (λ a. (suc r.0, omega (arith, r.1), r.2)) (λ b. r))
    (Contains-cons_cases y x xs c)

-- an instance with a pipe and one end of it, and what Propagate makes of it
module _ (i j : Synchronized) (is_i : IsSynchronized i) (p : Pipe) (live : Contains i.pipes p)
    (u : ℕ) (end : IsEnd p u) (shape : Shape)
    (edges_u : rising (shape.root ∷ leaves shape.body) ≡ edges_of i u) (prop : IsPropagated i p u shape j) where
  -- the other end, and the partners
  abbrev w : ℕ
  w = opposite p u

  -- the partner of an edge of u
  abbrev phi : ℕ → ℕ
  phi = partner p u

  -- the names of the vertices that stay
  abbrev stay : List ℕ
  stay = map (λ v. v.name) (old_verts i j p u shape prop)

  -- both ends are ends of the pipe
  ends_are : Has u (p.a ∷ p.b ∷ []) × Has w (p.a ∷ p.b ∷ [])
  ends_are = by_end i is_i p (differ i j is_i p live u end shape edges_u prop)
      (right i j is_i p live u end shape edges_u prop)
      (λ x y there back. Has x (p.a ∷ p.b ∷ []) × Has y (p.a ∷ p.b ∷ []))
      (inl refl, inr (inl refl)) (inr (inl refl), inl refl) u end

  -- another pipe has neither as an end
  pub other_pipe : (q : Pipe) → Contains i.pipes q → q.name ≢ p.name → (x : ℕ) → Has x (q.a ∷ q.b ∷ [])
      → (x ≢ u) × (x ≢ w)
  other_pipe q c ne x h = (
    (λ e. ne (ap (λ (z : Pipe). z.name) (one_owner (λ (z : Pipe). z.a ∷ z.b ∷ []) i.pipes q p x is_i.ends_apart c live h
        (subst (λ y. Has y (p.a ∷ p.b ∷ [])) (sym e) ends_are.0)))),
    (λ e. ne (ap (λ (z : Pipe). z.name) (one_owner (λ (z : Pipe). z.a ∷ z.b ∷ []) i.pipes q p x is_i.ends_apart c live h
        (subst (λ y. Has y (p.a ∷ p.b ∷ [])) (sym e) ends_are.1)))),
  )

  -- the ends of a pipe are live P-vertices
  pub live_end : (q : Pipe) → Contains i.pipes q → (x : ℕ) → Has x (q.a ∷ q.b ∷ []) → kind_in i.verts x ≡ Some P
  live_end q c x h =
      let r = All-contains (HasRightEnds i.verts) i.pipes q is_i.ends_free c in
      ⊎_elim
      (λ e. subst (λ y. kind_in i.verts y ≡ Some P) e r.free_a)
      (λ k. ⊎_elim (λ e. subst (λ y. kind_in i.verts y ≡ Some P) e r.free_b) (λ none. absurd none) k) h

  -- a vertex of a known kind is live
  pub kind_live : (vs : List Vert) (x : ℕ) → kind_in vs x ≡ Some P → Contains (map (λ v. v.name) vs) x
  kind_live [] x e = let h : None ≡ Some P = e in absurd cc
  kind_live (v ∷ vs) x e = ⊎_elim
      (λ (s : v.name ≡ x). (0, omega arith, s))
      (λ ne.
      let rest : kind_in vs x ≡ Some P =
      sym (ap (option_map (λ (y : Vert). y.kind)) (cond-false (eqb v.name x) (Some v) (find (λ y. eqb y.name x) vs)
      (ne_eqb v.name x ne))) ∙ e in
      let c = kind_live vs x rest in
      (suc c.0, omega (arith, c.1), c.2))
      (cases_eq v.name x)

  -- the ends of another pipe stay
  pub other_stays : (q : Pipe) → Contains i.pipes q → q.name ≢ p.name → (x : ℕ) → Has x (q.a ∷ q.b ∷ []) → Has x stay
  other_stays q c ne x h =
      let k = other_pipe q c ne x h in
      old_Has i j is_i p live u end shape edges_u prop x (kind_live i.verts x (live_end q c x h)) k.0 k.1

  -- the other pipes are pipes of j
  pub other_in_j : (q : Pipe) → Contains i.pipes q → q.name ≢ p.name → Contains j.pipes q
  other_in_j q c ne =
      Contains-permutation (all_pipes i j p u shape prop) j.pipes q (pipes_keep i j p u shape prop)
      (Contains-append_left (other_pipes i (p.name ∷ [])) (new_pipes i j p u shape prop) q
      (kept_Contains (λ (z : Pipe). not (has (p.name ∷ []) z.name)) i.pipes q c
      (ap not (has-false (p.name ∷ []) q.name ((λ e. ne (sym e)), tt)))))

  -- the other vertices are vertices of j
  pub other_vert : (v : Vert) → Contains i.verts v → v.name ≢ u → v.name ≢ w → Contains j.verts v
  other_vert v c nu nw =
      Contains-permutation (all_verts i j p u shape prop) j.verts v (verts_keep i j p u shape prop)
      (Contains-append_left (old_verts i j p u shape prop)
      (new_free i j p u shape prop ++ new_fixed i j p u shape prop) v
      (kept_Contains (λ (z : Vert). not (has (u ∷ w ∷ []) z.name)) i.verts v c
      (ap not (has-false (u ∷ w ∷ []) v.name ((λ e. nu (sym e)), ((λ e. nw (sym e)), tt))))))

  -- an end of the pipe is a P-vertex
  pub end_kind : (v : Vert) → Contains i.verts v → Has v.name (p.a ∷ p.b ∷ []) → v.kind ≡ P
  end_kind v c h =
      let k = live_end p live v.name h in
      let f = All-contains (λ (x : Vert). find (λ y. eqb y.name x.name) i.verts ≡ Some x) i.verts v
      (found_own (λ (x : Vert). x.name) i.verts (verts_once i is_i)) c in
      let same : Some v.kind ≡ Some P = sym (ap (option_map (λ (x : Vert). x.kind)) f) ∙ k in
      cc

-- the same, where both keep the rules
module _ (i j : Synchronized) (is_i : IsSynchronized i) (is_j : IsSynchronized j) (p : Pipe) (live : Contains i.pipes p)
    (u : ℕ) (end : IsEnd p u) (shape : Shape)
    (edges_u : rising (shape.root ∷ leaves shape.body) ≡ edges_of i u) (prop : IsPropagated i p u shape j) where
  -- the other end, and the partners
  abbrev other_end : ℕ
  other_end = opposite p u

  -- the partner of an edge of u
  abbrev mate_of : ℕ → ℕ
  mate_of = partner p u

  -- the names of the vertices that stay
  abbrev staying : List ℕ
  staying = map (λ v. v.name) (old_verts i j p u shape prop)

  -- a row of the first tree is no empty one
  pub not_leaf : (good : PairedRow → Type 0) (x : ℕ) → KidsLaid mate_of good (Kid.leaf x ∷ []) prop.rows_u prop.rows_w
      → ⊥
  not_leaf good x laid = none prop.rows_u prop.rows_w laid.rows laid.laid
      (let n = length_permutation laid.rows [] laid.same in omega (arith, n))
      (rows_some i j is_i p live u end shape edges_u prop)
    where
      none : (hs bs : List Planted) (rs : List PairedRow) → AreLaid mate_of hs bs rs → length rs ≡ 0
          → Has shape.root (row_edges hs) → ⊥
      none [] bs rs l e h = h
      none (a ∷ hs) [] rs l e h = absurd l
      none (a ∷ hs) (b ∷ bs) [] l e h = absurd l
      none (a ∷ hs) (b ∷ bs) (r ∷ rs) l e h = absurd (omega (arith, e))

  -- a kid of both trees with the root edges that is laid on the planted rows: both systems have genus zero or none
  pub trees-HasGenusZero : (t s : ℕ → List ℕ) (kid : Kid) → kid_tops mate_of kid ≡ (shape.root, mate_of shape.root)
      → KidsLaid mate_of (Holds t) (kid ∷ []) prop.rows_u prop.rows_w
      → IsPermutation (leaves shape.body) (kid_word kid)
      → IsTurn (shape.root ∷ kid_word kid) (s u)
      → IsTurn (mate_of shape.root ∷ reverse (map mate_of (kid_word kid))) (s other_end)
      → ((x : ℕ) → Has x staying → s x ≡ t x)
      → All (λ x. ArrangesEdges (graph i) x (s x)) (vert_names i)
      → All (λ x. ArrangesEdges (graph j) x (t x)) (vert_names j)
      → HasGenusZero (system (graph i) s)
      ↔ HasGenusZero (system (graph j) t)
  trees-HasGenusZero t s (Kid.leaf x) tops laid arr at_u at_w kept arranged_s arranged_t = absurd
      (not_leaf (Holds t) x laid)
  trees-HasGenusZero t s (Kid.node v g inner) tops laid arr at_u at_w kept arranged_s arranged_t =
      node-HasGenusZero i j is_i is_j p live u end shape edges_u prop t v g inner tops laid arr s at_u at_w kept
      arranged_s arranged_t

  -- lists t that solve j
  module _ (t : ℕ → List ℕ) (sol : Solves j t) where
    -- the vertices of the rows are those of j
    row_live : (x : ℕ) → Has x (row_verts prop.rows_u ++ row_verts prop.rows_w) → Contains (vert_names j) x
    row_live x h =
        Contains-permutation (staying ++ (row_verts prop.rows_u ++ row_verts prop.rows_w)) (vert_names j) x
        (verts_named i j p u shape prop)
        ((Has-Contains x (staying ++ (row_verts prop.rows_u ++ row_verts prop.rows_w))).0
        (Has-append_right x staying (row_verts prop.rows_u ++ row_verts prop.rows_w) h))

    -- the pipes and Q-vertices of the rows, with what the lists keep of them
    abbrev PipeOk : Pipe → Type 0
    PipeOk q = IsMirror (second_of q) (t q.a) (t q.b)

    -- a vertex has its psi in the direction of its cell
    abbrev VertOk : Vert → Type 0
    VertOk v = IsInDirection sol.back (t v.name) v.kind

    -- the order of two rows of one place
    one_order : (a b : Planted) → Has a.vertex (row_verts prop.rows_u) → HaveEdges i j p u shape prop a b
        → PairHas i j p u shape prop PipeOk VertOk a b → (fixed : Bool) → a.fixed ≡ fixed → HaveOrder mate_of
        (Holds t) a b
    one_order a b here edges pair true e =
        let k = pair.1 e in directed-HaveOrder mate_of t a b (sol.back k.0) k.1 k.2
    one_order a b here edges pair false e =
        let k = pair.0 (ap not e) in
        mirrored-HaveOrder mate_of t a b k.0 (ap not e)
        (Distinct-IsPermutation (edges_of j a.vertex) a.edges (IsPermutation-sym a.edges (edges_of j a.vertex) edges.0)
        (filter-Distinct (ends_at (graph j) a.vertex) (edge_names j) (edges_once j is_j)))
        (IsPermutation-trans a.edges (edges_of j a.vertex) (t a.vertex) edges.0
        (All-contains (λ x. ArrangesEdges (graph j) x (t x)) (vert_names j) a.vertex sol.rotation.arranged
        (row_live a.vertex (Has-append_left a.vertex (row_verts prop.rows_u) (row_verts prop.rows_w) here)))) k.1

    -- so each two rows have an order
    orders : AllZip (HaveOrder mate_of (Holds t)) prop.rows_u prop.rows_w
    orders =
        let hs : List Planted = prop.rows_u in
        let bs : List Planted = prop.rows_w in
        let E : Planted → Planted → Type 0 = HaveEdges i j p u shape prop in
        let R : Planted → Planted → Type 0 = PairHas i j p u shape prop PipeOk VertOk in
        let edges = rows-HaveEdges i j is_i p live u end shape edges_u prop in
        zip_then (λ a b. Has a.vertex (row_verts hs) × (E a b × R a b)) (HaveOrder mate_of (Holds t)) hs bs
        (λ a b h. one_order a b h.0 h.1.0 h.1.1 a.fixed refl)
        (zip_both (λ a b. Has a.vertex (row_verts hs)) (λ a b. E a b × R a b) hs bs
        (rows_inside hs hs bs (λ x h. h) E edges)
        (zip_both E R hs bs edges (all_pairs i j p u shape prop PipeOk VertOk sol.mirrored sol.in_direction)))

    -- the two trees of these lists, which are read from the shape
    pub told : ToldAs mate_of (Holds t) shape.body (shape.root, mate_of shape.root) prop.rows_u prop.rows_w
    told = branch-ToldAs mate_of (Holds t) shape.body shape.root prop.at_u (shape.root ∷ prop.edges_u) prop.rows_u
        (mate_of shape.root) prop.at_w
        (mate_of shape.root ∷ prop.edges_w) prop.rows_w prop.planted_u prop.planted_w orders

    -- the leaves that they read
    abbrev pub told_word : List ℕ
    told_word = kid_word told.kid

    -- they are the leaves of the shape, in some order
    pub told_leaves : IsPermutation (leaves shape.body) told_word
    told_leaves = reads-leaves shape.body told_word told.reads

    -- lists s of i with this order at u, its mirror at other_end, and t elsewhere
    module _ (s : ℕ → List ℕ) (at_u : IsTurn (shape.root ∷ told_word) (s u))
        (at_w : IsTurn (reverse (map mate_of (shape.root ∷ told_word))) (s other_end))
        (kept : (x : ℕ) → Has x staying → s x ≡ t x) where
      -- each arranges the edges of its vertex
      arranged_s : All (λ x. ArrangesEdges (graph i) x (s x)) (vert_names i)
      arranged_s = All-from_items (λ x. ArrangesEdges (graph i) x (s x)) (vert_names i)
          (λ x c. ⊎_elim
          (λ (e : x ≡ u). subst (λ y. ArrangesEdges (graph i) y (s y)) (sym e)
          (IsPermutation-trans (edges_of i u) (shape.root ∷ told_word) (s u)
          (word-edges_u i j is_i is_j p live u end shape edges_u prop told_word told_leaves)
          (turn-IsPermutation (shape.root ∷ told_word) (s u) at_u)))
          (λ nu. ⊎_elim
          (λ (e : x ≡ other_end). subst (λ y. ArrangesEdges (graph i) y (s y)) (sym e)
          (IsPermutation-trans (edges_of i other_end) (reverse (map mate_of (shape.root ∷ told_word))) (s other_end)
          ((mirrors i j is_i p live u end shape edges_u prop).arranges (shape.root ∷ told_word)
          (word-edges_u i j is_i is_j p live u end shape edges_u prop told_word told_leaves))
          (turn-IsPermutation (reverse (map mate_of (shape.root ∷ told_word))) (s other_end) at_w)))
          (λ nw.
          let h : Has x staying = old_Has i j is_i p live u end shape edges_u prop x c nu nw in
          subst (IsPermutation (edges_of i x)) (sym (kept x h))
          (IsPermutation-trans (edges_of i x) (edges_of j x) (t x)
          (edges_stay i j is_i p live u end shape edges_u prop x h)
          (All-contains (λ y. ArrangesEdges (graph j) y (t y)) (vert_names j) x sol.rotation.arranged
          (Contains-permutation (staying ++ (row_verts prop.rows_u ++ row_verts prop.rows_w)) (vert_names j) x
          (verts_named i j p u shape prop)
          ((Has-Contains x (staying ++ (row_verts prop.rows_u ++ row_verts prop.rows_w))).0
          (Has-append_left x staying (row_verts prop.rows_u ++ row_verts prop.rows_w) h))))))
          (cases_eq x other_end))
          (cases_eq x u))

      -- they solve i
      pub Solves-from_trees : Solves i s
      Solves-from_trees = record {
        rotation = record {
          arranged = arranged_s;
          flat = (trees-HasGenusZero t s told.kid told.same_tops told.laid told_leaves at_u
              (turn-trans (mate_of shape.root ∷ reverse (map mate_of told_word))
              (reverse (map mate_of (shape.root ∷ told_word))) (s other_end)
              (turn-sym (reverse (map mate_of (shape.root ∷ told_word)))
              (mate_of shape.root ∷ reverse (map mate_of told_word))
              (turn_back (mate_of shape.root) (map mate_of told_word))) at_w)
              kept arranged_s sol.rotation.arranged).1 sol.rotation.flat;
        };
        mirrored = All-from_items (λ q. IsMirror (second_of q) (s q.a) (s q.b)) i.pipes
            (λ q c. ⊎_elim
            (λ (e : q.name ≡ p.name).
            let same : q ≡ p = one_name (λ (z : Pipe). z.name) i.pipes q p
            (Distinct-from_rises (map (λ (z : Pipe). z.name) i.pipes)
            (rises_from (map (λ (z : Pipe). z.name) i.pipes) is_i.pipes_named.rise)) c live e in
            subst (λ (z : Pipe). IsMirror (second_of z) (s z.a) (s z.b)) (sym same)
            ((mirrors i j is_i p live u end shape edges_u prop).mirrors s
            (All-contains (λ x. ArrangesEdges (graph i) x (s x)) (vert_names i) u arranged_s
            ((kind_live i j is_i p live u end shape edges_u prop) i.verts u
            ((live_end i j is_i p live u end shape edges_u prop) p live u
            (ends_are i j is_i p live u end shape edges_u prop).0)))
            (turn-trans (reverse (map mate_of (s u))) (reverse (map mate_of (shape.root ∷ told_word))) (s other_end)
            (turn-reverse (map mate_of (s u)) (map mate_of (shape.root ∷ told_word))
            (turn-map mate_of (s u) (shape.root ∷ told_word) (turn-sym (shape.root ∷ told_word) (s u) at_u))) at_w)))
            (λ ne.
            let one : s q.a ≡ t q.a = kept q.a ((other_stays i j is_i p live u end shape edges_u prop) q c ne q.a
            (inl refl)) in
            let two : s q.b ≡ t q.b = kept q.b ((other_stays i j is_i p live u end shape edges_u prop) q c ne q.b
            (inr (inl refl))) in
            subst₂ (λ (xs ys : List ℕ). IsMirror (second_of q) xs ys) (sym one) (sym two)
            (All-contains (λ (z : Pipe). IsMirror (second_of z) (t z.a) (t z.b)) j.pipes q sol.mirrored
            ((other_in_j i j is_i p live u end shape edges_u prop) q c ne)))
            (cases_eq q.name p.name));
        back = sol.back;
        in_direction = All-from_items (λ v. IsInDirection sol.back (s v.name) v.kind) i.verts
            (λ v c. ⊎_elim
            (λ (e : v.name ≡ u). subst (IsInDirection sol.back (s v.name))
            (sym ((end_kind i j is_i p live u end shape edges_u prop) v c
            (subst (λ y. Has y (p.a ∷ p.b ∷ [])) (sym e)
            (ends_are i j is_i p live u end shape edges_u prop).0))) tt)
            (λ nu. ⊎_elim
            (λ (e : v.name ≡ other_end). subst (IsInDirection sol.back (s v.name))
            (sym ((end_kind i j is_i p live u end shape edges_u prop) v c
            (subst (λ y. Has y (p.a ∷ p.b ∷ [])) (sym e)
            (ends_are i j is_i p live u end shape edges_u prop).1))) tt)
            (λ nw.
            let live_v : Contains (vert_names i) v.name = map_has (λ (z : Vert). z.name) i.verts v c in
            let same : s v.name ≡ t v.name =
            kept v.name (old_Has i j is_i p live u end shape edges_u prop v.name live_v nu nw) in
            subst (λ xs. IsInDirection sol.back xs v.kind) (sym same)
            (All-contains (λ (z : Vert). IsInDirection sol.back (t z.name) z.kind) j.verts v sol.in_direction
            ((other_vert i j is_i p live u end shape edges_u prop) v c nu nw)))
            (cases_eq v.name other_end))
            (cases_eq v.name u));
      }
