-- After Small at a pipe of three pairs the five rules hold.
use Rattle.std.proofs.Common.{◌≡◌, ◌≢◌, ℕ, ◌+◌, ◌^◌, ◌<◌, ◌≤◌, Bool, true, false, not, cond, eqb, List, [], ◌∷◌, length, map, take, drop, reverse, slice_index, slice_index_or, sym, refl, ap, ◌∙◌, subst, arith, IsPermutation, inl}
use Rattle.std.specs.Prelude.{Some, find}
use Rattle.std.specs.List.{All, Contains, flat_map}
use Rattle.std.specs.Option.{option_map}
use Rattle.std.proofs.lemmas.Bool.{cond-false, ne_eqb}
use Rattle.std.proofs.lemmas.List.{take-append-drop, length-append}
use Rattle.std.proofs.Math.ListN.{get_or-append}
use Rattle.std.proofs.lemmas.List.{get_or-append-add}
use Rattle.std.proofs.lemmas.List.Elements.{All-nil, All-cons, All-head, All-tail, All-append, All-map}
use Rattle.std.proofs.lemmas.List.Sorted.{IsPermutation-refl, IsPermutation-sym, IsPermutation-trans, IsPermutation-reverse, IsPermutation-append_comm}
use Rattle.std.proofs.lemmas.List.Kept.{IsStrictlyIncreasing-filter}
use Rattle.cp_lists.specs.CyclicLists.{Has}
use Rattle.cp_lists.specs.Turns.{turned_to_least, least_place}
use Rattle.cp_lists.proofs.DistinctLists.{Has-place}
use Rattle.cp_lists.proofs.LeastItems.{turned_to_least-head}
use Rattle.cp_board.specs.declared.parts.Vert.{Vert}
use Rattle.cp_board.specs.declared.parts.Pipe.{Pipe}
use Rattle.cp_board.specs.Names.{has}
use Rattle.cp_board.specs.Instances.{Synchronized, IsSynchronized, AreNames, HasRightEnds, HasRightPairs, IsRightKind, graph, cell_of, edges_of, edge_names, kind_in, pipe_named, vert_names}
use Rattle.cp_board.specs.Changes.{other_pipes}
use Rattle.cp_board.proofs.DroppedPipes.{IsSynchronized-fewer_pipes}
use Rattle.cp_board.proofs.ListTests.{rises}
use Rattle.cp_board.proofs.NamedLists.{rises_from, place_order}
use Rattle.cp_poles.proofs.ApartEnds.{others_apart}
use Rattle.cp_poles.proofs.FixedEnds.{fixed, fixed_vert, fixed_a, fixed_b, fixed_cases, graph_fixed, names_fixed}
use Rattle.cp_lists.proofs.PermutedLists.{Has-IsPermutation}
use Rattle.cp_poles.proofs.SmallPipes.{right_ends, right_pairs, own_name}

-- what holds of all values holds of those of each item
All-by_item : {A B : Type 0} (holds : B → Type 0) (f : A → List B) (xs : List A) → All holds (flat_map f xs)
    → All (λ x. All holds (f x)) xs
All-by_item holds f [] all = All-nil (λ x. All holds (f x))
All-by_item holds f (x ∷ xs) all = All-cons (λ y. All holds (f y)) x xs here (All-by_item holds f xs later)
  where
    here : All holds (f x)
    here k d lt = subst holds (get_or-append (f x) (flat_map f xs) d k lt)
        (all k d (omega (arith, lt, length-append (f x) (flat_map f xs))))

    later : All holds (flat_map f xs)
    later k d lt = subst holds (get_or-append-add (f x) (flat_map f xs) k d)
        (all (length (f x) + k) d (omega (arith, lt, length-append (f x) (flat_map f xs))))

-- and the other way round
All-values : {A B : Type 0} (holds : B → Type 0) (f : A → List B) (xs : List A) → All (λ x. All holds (f x)) xs
    → All holds (flat_map f xs)
All-values holds f [] all = All-nil holds
All-values holds f (x ∷ xs) all =
    All-append holds (f x) (flat_map f xs) (All-head (λ y. All holds (f y)) x xs all)
    (All-values holds f xs (All-tail (λ y. All holds (f y)) x xs all))

-- a turn to the least item arranges the items
turned_arranges : (es xs : List ℕ) → IsPermutation es xs → IsPermutation es (turned_to_least xs)
turned_arranges es xs p =
    IsPermutation-trans es xs (turned_to_least xs) p
    (subst (λ zs. IsPermutation zs (turned_to_least xs)) (take-append-drop (least_place xs) xs)
    (IsPermutation-append_comm (take (least_place xs) xs) (drop (least_place xs) xs)))

-- the first of items that rise is the least
first_least : (e : ℕ) (es : List ℕ) (y : ℕ) → rises (e ∷ es) ≡ true → Has y (e ∷ es) → e ≤ y
first_least e es y up has =
    let w = Has-place y (e ∷ es) has in
    let le : e ≤ slice_index (e ∷ es) w.0 = place_order (λ x. x) (e ∷ es) 0 w.0 0
    (subst (λ zs. rises zs ≡ true) (sym (map_self (e ∷ es))) up) (omega arith) w.1 in
    omega (arith, le, w.2)
  where
    map_self : (xs : List ℕ) → map (λ x. x) xs ≡ xs
    map_self [] = refl
    map_self (x ∷ xs) = ap (λ zs. x ∷ zs) (map_self xs)

-- it begins with the first of the items where they rise
turned_first : (es xs : List ℕ) → rises es ≡ true → IsPermutation es xs → take 1 (turned_to_least xs) ≡ take 1 es
turned_first [] xs up p = ap (λ zs. take 1 (turned_to_least zs))
    (nothing xs (λ d h. Has-IsPermutation d xs [] (IsPermutation-sym [] xs p) h))
  where
    nothing : (ys : List ℕ) → ((d : ℕ) → Has d ys → ⊥) → ys ≡ []
    nothing [] none = refl
    nothing (y ∷ ys) none = absurd (none y (inl refl))
turned_first (e ∷ es) xs up p =
    let here = Has-IsPermutation e (e ∷ es) xs p (inl refl) in
    let w = turned_to_least-head e xs here in
    let back : Has w.0 (e ∷ es) = Has-IsPermutation w.0 (turned_to_least xs) (e ∷ es)
    (IsPermutation-sym (e ∷ es) (turned_to_least xs) (turned_arranges (e ∷ es) xs p))
    (subst (Has w.0) (sym w.2) (inl refl)) in
    let below : w.0 ≤ e = w.3 e here in
    let above : e ≤ w.0 = first_least e es w.0 up back in
    let same : w.0 ≡ e = omega (arith, below, above) in
    ap (take 1) w.2 ∙ ap (λ z. z ∷ []) same

-- the kind under a name is that behind a vertex of another name
kind_behind : (v : Vert) (vs : List Vert) (n : ℕ) → v.name ≢ n → kind_in vs n ≡ kind_in (v ∷ vs) n
kind_behind v vs n ne =
    sym (ap (option_map (λ x. x.kind))
    (cond-false (eqb v.name n) (Some v) (find (λ x. eqb x.name n) vs) (ne_eqb v.name n ne)))

-- one vertex before two lists that agree
kind_before : (v : Vert) (vs ws : List Vert) (n : ℕ) → kind_in ws n ≡ kind_in vs n → (b : Bool)
    → option_map (λ (x : Vert). x.kind) (cond b (Some v) (find (λ x. eqb x.name n) ws)) ≡ option_map
    (λ (x : Vert). x.kind) (cond b (Some v) (find (λ x. eqb x.name n) vs))
kind_before v vs ws n rest true = refl
kind_before v vs ws n rest false = rest

-- a name that is no end keeps its kind
kind_fixed : (p : Pipe) (cell : ℕ) (n : ℕ) → p.a ≢ p.b → n ≢ p.a → n ≢ p.b → (vs : List Vert)
    → kind_in (map (fixed_vert p cell) vs) n ≡ kind_in vs n
kind_fixed p cell n differ na nb [] = refl
kind_fixed p cell n differ na nb (v ∷ vs) =
    let rest = kind_fixed p cell n differ na nb vs in
    fixed_cases p cell v
    (λ w. option_map (λ x. x.kind)
    (cond (eqb w.name n) (Some w) (find (λ x. eqb x.name n) (map (fixed_vert p cell) vs))) ≡ kind_in
    (v ∷ vs) n) differ
    (λ e. ap (option_map (λ x. x.kind))
    (cond-false (eqb p.a n) (Some (fixed_a p cell)) (find (λ x. eqb x.name n) (map (fixed_vert p cell) vs))
    (ne_eqb p.a n (λ h. na (sym h)))) ∙ rest ∙ kind_behind v vs n (λ h. na (sym h ∙ e)))
    (λ e. ap (option_map (λ x. x.kind))
    (cond-false (eqb p.b n) (Some (fixed_b p cell)) (find (λ x. eqb x.name n) (map (fixed_vert p cell) vs))
    (ne_eqb p.b n (λ h. nb (sym h)))) ∙ rest ∙ kind_behind v vs n (λ h. nb (sym h ∙ e)))
    (λ ma mb. kind_before v vs (map (fixed_vert p cell) vs) n rest (eqb v.name n))

-- the five rules after the step
module _ (i : Synchronized) (pipe : ℕ) (p : Pipe) (is : IsSynchronized i) (live : pipe_named i pipe ≡ Some p) (cell : ℕ)
    (fits : cell < 2 ^ 63) where
  -- the ends of the pipe are right
  ends : HasRightEnds i.verts p
  ends = right_ends i pipe p is live

  -- and so are its pairs
  pairs : HasRightPairs (graph i) p
  pairs = right_pairs i pipe p is live

  -- the instance without the pipe keeps the rules
  fewer : IsSynchronized record { verts = i.verts; edges = i.edges; pipes = other_pipes i (p.name ∷ []) }
  fewer = IsSynchronized-fewer_pipes i (λ q. not (has (p.name ∷ []) q.name)) is

  -- the step keeps the graph
  same_graph : graph (fixed i p cell) ≡ graph i
  same_graph = graph_fixed i p cell ends.differ

  -- and the names of the vertices
  same_names : vert_names (fixed i p cell) ≡ vert_names i
  same_names = names_fixed p cell ends.differ i.verts

  -- the edges of a vertex rise
  edges_rise : (v : ℕ) → rises (edges_of i v) ≡ true
  edges_rise v = rises_from (edges_of i v) (IsStrictlyIncreasing-filter _ (edge_names i) is.edges_named.rise)

  -- the cells of the vertices after the step are small
  cells_fit : All (λ v. All (λ c. c < 2 ^ 63) (cell_of (fixed_vert p cell v).kind)) i.verts
  cells_fit k d lt =
      let fit_one = All-cons (λ c. c < 2 ^ 63) cell [] fits (All-nil (λ c. c < 2 ^ 63)) in
      fixed_cases p cell (slice_index_or i.verts k d) (λ w. All (λ c. c < 2 ^ 63) (cell_of w.kind)) ends.differ
      (λ e. fit_one) (λ e. fit_one)
      (λ na nb. All-by_item (λ c. c < 2 ^ 63) (λ v. cell_of v.kind) i.verts is.cells_fit k d lt)

  -- the partners in reverse arrange the edges of the second end
  seconds_arranged : IsPermutation (edges_of i p.b) (reverse (map (λ x. x.1) p.pairs))
  seconds_arranged = IsPermutation-trans (edges_of i p.b) (map (λ x. x.1) p.pairs)
      (reverse (map (λ x. x.1) p.pairs)) pairs.second (IsPermutation-reverse (map (λ x. x.1) p.pairs))

  -- each vertex after the step has a right kind
  lists_right : All (λ v. IsRightKind (graph i) (fixed_vert p cell v).name (fixed_vert p cell v).kind) i.verts
  lists_right k d lt = fixed_cases p cell (slice_index_or i.verts k d)
      (λ w. IsRightKind (graph i) w.name w.kind) ends.differ
      (λ e. (
        subst (IsPermutation (edges_of i p.a)) (sym pairs.first) (IsPermutation-refl (edges_of i p.a)),
        ap
            (take 1) pairs.first,
      ))
      (λ e. (
        turned_arranges (edges_of i p.b) (reverse (map (λ x. x.1) p.pairs)) seconds_arranged,
        turned_first
            (edges_of i p.b) (reverse (map (λ x. x.1) p.pairs)) (edges_rise p.b) seconds_arranged,
      ))
      (λ na nb. is.lists_right k d lt)

  -- the pipe is found under its own name
  found : find (λ x. eqb x.name p.name) i.pipes ≡ Some p
  found = ap (λ n. find (λ x. eqb x.name n) i.pipes) (own_name i pipe p is live) ∙ live

  -- the ends of the other pipes are P-vertices still
  ends_free : All (HasRightEnds (map (fixed_vert p cell) i.verts)) (other_pipes i (p.name ∷ []))
  ends_free k d lt =
      let old = fewer.ends_free k d lt in
      let apart = others_apart p.name p i.pipes is.ends_apart found k d lt in
      let q = slice_index_or (other_pipes i (p.name ∷ [])) k d in
      record {
        differ = old.differ;
        free_a = kind_fixed p cell q.a ends.differ apart.0 apart.1 i.verts ∙ old.free_a;
        free_b = kind_fixed p cell q.b ends.differ apart.2 apart.3 i.verts ∙ old.free_b;
      }

  -- after the step the instance keeps the rules
  pub IsSynchronized-fixed : IsSynchronized (fixed i p cell)
  IsSynchronized-fixed = record {
    verts_named = subst AreNames (sym same_names) is.verts_named;
    edges_named = is.edges_named;
    pipes_named = fewer.pipes_named;
    cells_fit = All-values (λ c. c < 2 ^ 63) (λ (v : Vert). cell_of v.kind) (map (fixed_vert p cell) i.verts)
        (All-map (λ (v : Vert). All (λ c. c < 2 ^ 63) (cell_of v.kind)) (fixed_vert p cell) i.verts cells_fit);
    ends_live = subst (λ ns. All (λ e. Contains ns e.a × Contains ns e.b) i.edges) (sym same_names) is.ends_live;
    ends_differ = is.ends_differ;
    lists_right = subst (λ g. All (λ v. IsRightKind g v.name v.kind) (map (fixed_vert p cell) i.verts)) (sym same_graph)
        (All-map (λ v. IsRightKind (graph i) v.name v.kind) (fixed_vert p cell) i.verts lists_right);
    ends_free = ends_free;
    ends_apart = fewer.ends_apart;
    pairs_right = subst (λ g. All (HasRightPairs g) (other_pipes i (p.name ∷ []))) (sym same_graph) fewer.pairs_right;
  }
