-- What a board tells of a pipe, its ends and new names plants the shape at both ends.
use Rattle.std.proofs.Common.{◌≡◌, ℕ, zero, suc, ◌^◌, ◌<◌, ◌≤◌, Bool, true, false, cond, eqb, List, [], ◌∷◌, ◌++◌, length, map, sym, refl, ap, ap₂, ◌∙◌, subst, subst₂, inl, inr, ⊎_elim, arith}
use Rattle.std.specs.Prelude.{Some}
use Rattle.std.specs.List.{Contains, flat_map}
use Rattle.std.specs.Option.{option_map_or}
use Rattle.std.proofs.lemmas.Bool.{cases_eq, eq-eqb, ne_eqb}
use Rattle.std.proofs.lemmas.List.{length-map}
use Rattle.std.proofs.lemmas.List.Elements.{All-contains}
use Rattle.std.proofs.lemmas.List.Sorted.{IsPermutation-sym, length_permutation}
use Rattle.cp_lists.specs.CyclicLists.{Has}
use Rattle.cp_lists.proofs.DistinctLists.{Has-append_left, Has-append_right}
use Rattle.cp_lists.proofs.PermutedLists.{Has-IsPermutation}
use Rattle.cp_base.specs.declared.shape.Branch.{Branch}
use Rattle.cp_base.specs.declared.shape.Branch.TheVariants.{Leaf}
use Rattle.cp_base.specs.declared.shape.Shape.{Shape}
use Rattle.cp_base.specs.Shapes.{leaves}
use Rattle.cp_conn.proofs.NamedGraphs.{map_has}
use Rattle.cp_board.specs.declared.parts.Pipe.{Pipe}
use Rattle.cp_board.specs.Changes.{free_vert}
use Rattle.cp_board.specs.declared.parts.Vert.{Vert}
use Rattle.cp_board.specs.Instances.{Synchronized, IsSynchronized, HasRightEnds, HasRightPairs, edge_names, edges_of, graph, pairs_of, pipe_ends_of, pipe_named, pipe_names, vert_names}
use Rattle.cp_board.specs.Names.{AreNew, new_names}
use Rattle.cp_board.specs.Plantings.{Planted, Plants, PlantsAll}
use Rattle.cp_board.specs.Steps.{IsFitting, opposite, partner}
use Rattle.cp_board.proofs.NamedLists.{arranged}
use Rattle.cp_board.proofs.NumberOfNewNames.{length-new_names}
use Rattle.cp_board.proofs.ShapeEquations.{leaves_Leaf, leaves_P, leaves_Q}
use Rattle.cp_plantlaw.proofs.PropagateSteps.{found-Contains}
use Rattle.cp_plantlaw.proofs.PropagatedRules.{kind_free}
use Rattle.cp_plant.specs.Growing.{partner_in}
use Rattle.cp_plant.specs.Rewriting.{ArePlanted, PlantedEnd}
use Rattle.cp_plant.specs.TreeWords.{partner_by}
use Rattle.cp_plant.proofs.ToldPlantings.{own_name}

-- functions that agree on the leaves plant the same rows
mutual
  pub plants_agree : (f g : ℕ → ℕ) (b : Branch) (top : ℕ) (vs es : List ℕ) (rows : List Planted)
      → Plants f b top vs es rows → ((x : ℕ) → Has x (leaves b) → f x ≡ g x) → Plants g b top vs es rows
  plants_agree f g _ _ _ _ _ (Plants.leaf x) same =
      subst (λ t. Plants g (Leaf x) t [] [] []) (sym (same x (subst (Has x) (sym (leaves_Leaf x)) (inl refl)))) (Plants.leaf x)
  plants_agree f g _ _ _ _ _ (Plants.free kids top v tops vs es rows all) same =
      Plants.free kids top v tops vs es rows
      (kids_agree f g kids tops vs es rows all (λ x h. same x (subst (Has x) (sym (leaves_P kids)) h)))
  plants_agree f g _ _ _ _ _ (Plants.fixed kids top v tops vs es rows all) same =
      Plants.fixed kids top v tops vs es rows
      (kids_agree f g kids tops vs es rows all (λ x h. same x (subst (Has x) (sym (leaves_Q kids)) h)))

  -- the same of the kids of a node
  kids_agree : (f g : ℕ → ℕ) (kids : List Branch) (tops vs es : List ℕ) (rows : List Planted)
      → PlantsAll f kids tops vs es rows → ((x : ℕ) → Has x (flat_map leaves kids) → f x ≡ g x)
      → PlantsAll g kids tops vs es rows
  kids_agree f g _ _ _ _ _ PlantsAll.none same = PlantsAll.none
  kids_agree f g _ _ _ _ _ (PlantsAll.more k ks top tops us vs ds es rows more_rows one rest) same =
      PlantsAll.more k ks top tops us vs ds es rows more_rows
      (plants_agree f g k top us ds rows one (λ x h. same x (Has-append_left x (leaves k) (flat_map leaves ks) h)))
      (kids_agree f g ks tops vs es more_rows rest
      (λ x h. same x (Has-append_right x (leaves k) (flat_map leaves ks) h)))

-- an edge in a list of edges with their partners is found with its own
pub found_partner : (f : ℕ → ℕ) (own : List ℕ) (x : ℕ) → Has x own → partner_in (map (λ y. (y, f y)) own) x ≡ f x
found_partner f [] x h = absurd h
found_partner f (y ∷ own) x h = ⊎_elim
    (λ (e : y ≡ x). rw (eq-eqb y x e) (ap f e))
    (λ ne. rw (ne_eqb y x ne) (found_partner f own x (⊎_elim (λ e. absurd (ne e)) (λ k. k) h)))
    (cases_eq y x)

module _ (i : Synchronized) (is : IsSynchronized i) (pipe : ℕ) (p : Pipe) (live : pipe_named i pipe ≡ Some p)
    (end : ℕ) (shape : Shape) (fits : IsFitting i p end shape) where
  -- the pipe is one of the instance
  here : Contains i.pipes p
  here = found-Contains (λ q. eqb q.name pipe) i.pipes p live

  -- so its name is live
  pub live_pipe : Contains (pipe_names i) pipe
  live_pipe = subst (Contains (pipe_names i)) (own_name i pipe p live) (map_has (λ (q : Pipe). q.name) i.pipes p here)

  -- its ends are right
  right_ends : HasRightEnds i.verts p
  right_ends = All-contains (HasRightEnds i.verts) i.pipes p is.ends_free here

  -- and its pairs
  right_pairs : HasRightPairs (graph i) p
  right_pairs = All-contains (HasRightPairs (graph i)) i.pipes p is.pairs_right here

  -- both ends are live
  live_a : Contains (vert_names i) p.a
  live_a = map_has (λ (v : Vert). v.name) i.verts (free_vert p.a) (kind_free i.verts p.a right_ends.free_a)

  -- also the second
  live_b : Contains (vert_names i) p.b
  live_b = map_has (λ (v : Vert). v.name) i.verts (free_vert p.b) (kind_free i.verts p.b right_ends.free_b)

  -- the end of the step is live
  pub live_end : Contains (vert_names i) end
  live_end = ⊎_elim (λ e. subst (Contains (vert_names i)) e live_a) (λ e. subst (Contains (vert_names i)) e live_b) fits.end

  -- and the other one
  live_opposite : Contains (vert_names i) (opposite p end)
  live_opposite = by_test (eqb p.a end)
    where
      by_test : (t : Bool) → Contains (vert_names i) (cond t p.b p.a)
      by_test true = live_b
      by_test false = live_a

  -- what a board tells of the ends
  told_ends : pipe_ends_of i pipe ≡ (p.a, p.b)
  told_ends = ap (λ o. option_map_or (λ (q : Pipe). (q.a, q.b)) o (0, 0)) live

  -- and of the pairs
  told_pairs : pairs_of i pipe ≡ p.pairs
  told_pairs = ap (λ o. option_map_or (λ (q : Pipe). q.pairs) o []) live

  -- the other end by what is told
  pub told_other : (ends : ℕ × ℕ) → ends ≡ pipe_ends_of i pipe → cond (eqb ends.0 end) ends.1 ends.0 ≡ opposite p end
  told_other ends e = ap (λ (x : ℕ × ℕ). cond (eqb x.0 end) x.1 x.0) (e ∙ told_ends)

  -- so it is live
  pub live_other : (ends : ℕ × ℕ) (other : ℕ) → ends ≡ pipe_ends_of i pipe → other ≡ cond (eqb ends.0 end) ends.1 ends.0
      → Contains (vert_names i) other
  live_other ends other e o = subst (Contains (vert_names i)) (sym (o ∙ told_other ends e)) live_opposite

  -- as many edges as pairs
  edges_many : 4 ≤ length (edges_of i end)
  edges_many = ⊎_elim
      (λ (e : p.a ≡ end). omega (
        arith,
        fits.large,
        length-map p.pairs (λ (x : ℕ × ℕ). x.0),
        ap length right_pairs.first,
        ap (λ v. length (edges_of i v)) e,
      ))
      (λ (e : p.b ≡ end). omega (
        arith,
        fits.large,
        length-map p.pairs (λ (x : ℕ × ℕ). x.1),
        length_permutation (edges_of i p.b) (map (λ (x : ℕ × ℕ). x.1) p.pairs) right_pairs.second,
        ap (λ v. length (edges_of i v)) e,
      ))
      fits.end

  -- so the body is no leaf
  pub inner_some : (n : ℕ) → (n ≡ 0 → (x : ℕ) × (shape.body ≡ Leaf x)) → 1 ≤ n
  inner_some zero leaf =
      let l = leaf refl in
      absurd (omega (
        arith,
        edges_many,
        length_permutation (edges_of i end) (shape.root ∷ leaves shape.body)
            (arranged (edges_of i end) (shape.root ∷ leaves shape.body) fits.leaves),
        ap length (ap leaves l.1 ∙ leaves_Leaf l.0),
      ))
  inner_some (suc n) leaf = omega arith

  -- the root and the leaves are edges of the end
  leaf_edge : (x : ℕ) → Has x (shape.root ∷ leaves shape.body) → Has x (edges_of i end)
  leaf_edge x h = Has-IsPermutation x (shape.root ∷ leaves shape.body) (edges_of i end)
      (IsPermutation-sym (edges_of i end) (shape.root ∷ leaves shape.body)
      (arranged (edges_of i end) (shape.root ∷ leaves shape.body) fits.leaves)) h

  -- the shape is planted at both ends
  pub told_planted : (ends : ℕ × ℕ) (pairs : List (ℕ × ℕ)) (own : List ℕ) (other : ℕ) (own_other : List ℕ)
      (partners : List (ℕ × ℕ)) (top n m : ℕ) (vs es vu vw eu ew : List ℕ) (u w : PlantedEnd)
      → ends ≡ pipe_ends_of i pipe
      → pairs ≡ pairs_of i pipe
      → other ≡ cond (eqb ends.0 end) ends.1 ends.0
      → own ≡ edges_of i end
      → own_other ≡ edges_of i other
      → partners ≡ map (λ x. (x, partner_by pairs (eqb ends.0 end) x)) own
      → top ≡ partner_in partners shape.root
      → vs ≡ new_names (vert_names i) n
      → es ≡ new_names (edge_names i) m
      → vu ++ vw ≡ vs
      → eu ++ ew ≡ es
      → length vs < 2 ^ 60
      → length es < 2 ^ 60
      → (u.end ≡ end) × (u.own ≡ own) × (u.edges ≡ eu)
      → (w.end ≡ other) × (w.own ≡ own_other) × (w.edges ≡ ew)
      → Plants (partner_in []) shape.body shape.root vu (shape.root ∷ eu) u.rows
      → Plants (partner_in partners) shape.body top vw (top ∷ ew) w.rows
      → ArePlanted i p end shape u w
  told_planted ends pairs own other own_other partners top n m vs es vu vw eu ew u w e_ends e_pairs e_other e_own e_own_other
      e_partners e_top e_vs e_es both_v both_e few_v few_e tu tw plants_u plants_w =
      let same_other : other ≡ opposite p end = e_other ∙ told_other ends e_ends in
      let by_pairs : partners ≡ map (λ x. (x, partner p end x)) (edges_of i end) =
      e_partners ∙ ap₂ (λ (x : ℕ × ℕ) (xs : List (ℕ × ℕ)). map (λ y. (y, partner_by xs (eqb x.0 end) y)) own)
      (e_ends ∙ told_ends) (e_pairs ∙ told_pairs)
      ∙ ap (map (λ y. (y, partner_by p.pairs (eqb p.a end) y))) e_own in
      let mate : (x : ℕ) → Has x (shape.root ∷ leaves shape.body) → partner_in partners x ≡ partner p end x =
      λ x h. ap (λ xs. partner_in xs x) by_pairs ∙ found_partner (partner p end) (edges_of i end) x (leaf_edge x h) in
      let above : top ≡ partner p end shape.root = e_top ∙ mate shape.root (inl refl) in
      record {
        at_u = vu;
        at_w = vw;
        new_verts = subst (AreNew (vert_names i)) (sym (both_v ∙ e_vs)) (asked (vert_names i) n);
        new_edges = subst (AreNew (edge_names i)) (sym (ap₂ (λ xs ys. xs ++ ys) tu.2 tw.2 ∙ both_e ∙ e_es))
            (asked (edge_names i) m);
        end_u = tu.0;
        end_w = tw.0 ∙ same_other;
        own_u = tu.1 ∙ e_own;
        own_w = tw.1 ∙ e_own_other ∙ ap (edges_of i) same_other;
        planted_u = subst (λ xs. Plants (λ x. x) shape.body shape.root vu (shape.root ∷ xs) u.rows) (sym tu.2) plants_u;
        planted_w = subst₂ (λ t xs. Plants (partner p end) shape.body t vw (t ∷ xs) w.rows) above (sym tw.2)
            (plants_agree (partner_in partners) (partner p end) shape.body top vw (top ∷ ew) w.rows plants_w
            (λ x h. mate x (inr h)));
        few_new_verts = omega (arith, ap length both_v, few_v);
        few_new_edges = omega (arith, ap length (ap₂ (λ xs ys. xs ++ ys) tu.2 tw.2 ∙ both_e), few_e);
      }
    where
      asked : (names : List ℕ) (k : ℕ) → AreNew names (new_names names k)
      asked names k = ap (new_names names) (sym (length-new_names names k))
