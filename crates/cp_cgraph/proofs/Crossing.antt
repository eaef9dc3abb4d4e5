-- The borders along an edge: what a walk outward from both of its ends finds, and that these are
-- exactly the clusters which the edge leaves.
use Rattle.std.proofs.Common.{◌≡◌, ℕ, ◌+◌, ◌-◌, ◌<◌, ◌≤◌, Bool, true, false, not, List, [], ◌∷◌, ◌++◌, length, slice_index, sym, refl, ap, ap₂, ◌∙◌, subst, ⊎_elim, arith, length-append, append_assoc}
use Rattle.std.specs.Prelude.{◌==◌, ◌||◌, reverse, slice_index_or}
use Rattle.std.specs.List.{list_any, filter, All, AllPairs, Contains}
use Rattle.std.proofs.lemmas.Bool.{cases_lt, cases_eq, cases_order, cases_Bool, eq-eqb, ne_eqb, eqb-true, false≢true, or_right, or_left, cond-true, cond-false, not-true, not_from_true, not_from_false}
use Rattle.std.proofs.lemmas.List.{append-nil, get_or-reverse, length-reverse, get_or_append_left, get_or-append_right, get_or_default}
use Rattle.std.proofs.lemmas.List.Elements.{All-append, All-filter, filter_passes, Contains-append_left, Contains-append_right}
use Rattle.std.proofs.lemmas.List.Folds.{Any-from_list_any}
use Rattle.std.proofs.lemmas.List.Kept.{AllPairs-filter}
use Rattle.cp_lists.specs.Count.{Exactly}
use Rattle.cp_lists.proofs.ExactLists.{EachOnce}
use Rattle.cp_cgraph.specs.Clustered.{Clustered, IsClustered, edges, clusters, source, target, home, parent}
use Rattle.cp_cgraph.specs.Crossings.{contains, leaves, crossings}
use Rattle.cp_cgraph.proofs.Ancestors.{IsLower, IsLower-clustered, IsOnChain, chain, chain_more, chain_members, chain_falls, chain_none, encloses, encloses_step, encloses_higher}

-- the clusters of a list that do not enclose b
abbrev pub without_round : List ℕ → ℕ → List ℕ → List ℕ
without_round ps b xs = filter (λ c. not (encloses ps c b)) xs

-- two walks outward, from a_first and from b_first, stand at a and b. The lists hold what was left on
-- the way, and below where they stand the clusters enclose a start just as they enclose the place reached.
pub record HasWalked (ps : List ℕ) (a_first b_first a b : ℕ) (left entered : List ℕ) : Type 0 where
  -- a step outward from the first cluster leaves it
  pub from_first : without_round ps b_first (chain ps a_first) ≡ left ++ without_round ps b_first (chain ps a)
  -- a step outward from the second cluster enters it
  pub from_second : without_round ps a_first (chain ps b_first) ≡ entered ++ without_round ps a_first (chain ps b)
  -- clusters further out enclose the second cluster as before
  pub round_second : (c : ℕ) → c ≤ a → encloses ps c b_first ≡ encloses ps c b
  -- and the first
  pub round_first : (c : ℕ) → c ≤ b → encloses ps c a_first ≡ encloses ps c a

-- at the start nothing is left
pub HasWalked-start : (ps : List ℕ) (a b : ℕ) → HasWalked ps a b a b [] []
HasWalked-start ps a b = record {
  from_first = refl;
  from_second = refl;
  round_second = λ c le. refl;
  round_first =
      λ c le. refl;
}

-- a cluster that does not enclose b is kept, and those round it are looked at
pub kept_first : (ps : List ℕ) → IsLower ps → (a b : ℕ) → 0 < a → encloses ps a b ≡ false
    → without_round ps b (chain ps a) ≡ a ∷ without_round ps b (chain ps (slice_index ps (a - 1)))
kept_first ps low a b above out =
    ap (without_round ps b) (chain_more ps low a above)
    ∙ cond-true (not (encloses ps a b)) (a ∷ without_round ps b (chain ps (slice_index ps (a - 1))))
    (without_round ps b (chain ps (slice_index ps (a - 1)))) (not_from_false (encloses ps a b) out)

-- one cluster that is left: it does not enclose the other start
left_more : (ps : List ℕ) → IsLower ps → (a b_first : ℕ) (first left : List ℕ) → 0 < a → encloses ps a b_first ≡ false
    → first ≡ left ++ without_round ps b_first (chain ps a)
    → first ≡ (left ++ a ∷ []) ++ without_round ps b_first (chain ps (slice_index ps (a - 1)))
left_more ps low a b_first first left above out so_far =
    so_far ∙ ap (λ (xs : List ℕ). left ++ xs) (kept_first ps low a b_first above out)
    ∙ sym (append_assoc left (a ∷ []) (without_round ps b_first (chain ps (slice_index ps (a - 1)))))

-- the walk that stands at the higher number goes on
pub HasWalked-first : (ps : List ℕ) → IsLower ps → (a_first b_first a b : ℕ) (left entered : List ℕ)
    → HasWalked ps a_first b_first a b left entered → b < a
    → HasWalked ps a_first b_first (slice_index ps (a - 1)) b (left ++ a ∷ []) entered
HasWalked-first ps low a_first b_first a b left entered so lt =
    let less : slice_index ps (a - 1) < a = low.lower a (omega arith) in
    record {
      from_first = left_more ps low a b_first (without_round ps b_first (chain ps a_first)) left (omega arith)
          (so.round_second a (omega arith) ∙ encloses_higher ps low a b lt) so.from_first;
      from_second = so.from_second;
      round_second = λ c le. so.round_second c (omega arith);
      round_first = λ c le. so.round_first c le ∙ encloses_step ps low c a (omega arith);
    }

-- the walk goes on by a step outward from the second cluster
pub HasWalked-second : (ps : List ℕ) → IsLower ps → (a_first b_first a b : ℕ) (left entered : List ℕ)
    → HasWalked ps a_first b_first a b left entered → a < b
    → HasWalked ps a_first b_first a (slice_index ps (b - 1)) left (entered ++ b ∷ [])
HasWalked-second ps low a_first b_first a b left entered so lt =
    let less : slice_index ps (b - 1) < b = low.lower b (omega arith) in
    record {
      from_first = so.from_first;
      from_second = left_more ps low b a_first (without_round ps a_first (chain ps b_first)) entered (omega arith)
          (so.round_first b (omega arith) ∙ encloses_higher ps low b a lt) so.from_second;
      round_second = λ c le. so.round_second c le ∙ encloses_step ps low c b (omega arith);
      round_first = λ c le. so.round_first c (omega arith);
    }

-- where the walks meet, both lists are whole
pub HasWalked-end : (ps : List ℕ) → IsLower ps → (a_first b_first a b : ℕ) (left entered : List ℕ)
    → HasWalked ps a_first b_first a b left entered → a ≡ b
    → (left ≡ without_round ps b_first (chain ps a_first)) × (entered ≡ without_round ps a_first (chain ps b_first))
HasWalked-end ps low a_first b_first a b left entered so e =
    let none_first : without_round ps b_first (chain ps a) ≡ [] =
    chain_none ps low (λ c. not (encloses ps c b_first)) a a (omega arith)
    (λ c le en. not_from_true (encloses ps c b_first) (so.round_second c le ∙ ap (encloses ps c) (sym e) ∙ en)) in
    let none_second : without_round ps a_first (chain ps b) ≡ [] =
    chain_none ps low (λ c. not (encloses ps c a_first)) b b (omega arith)
    (λ c le en. not_from_true (encloses ps c a_first) (so.round_first c le ∙ ap (encloses ps c) e ∙ en)) in (
      sym (so.from_first ∙ ap (λ (xs : List ℕ). left ++ xs) none_first ∙ append-nil left),
      sym
          (so.from_second ∙ ap (λ (xs : List ℕ). entered ++ xs) none_second ∙ append-nil entered),
    )

-- numbers that fall stand apart
EachOnce-falls : (xs : List ℕ) → AllPairs (λ x y. y < x) xs → EachOnce xs
EachOnce-falls xs falls i j lti ltj e =
    ⊎_elim (λ same. same)
    (⊎_elim (λ lt. absurd (omega (arith, falls i j 0 lt ltj))) (λ gt. absurd (omega (arith, falls j i 0 gt lti))))
    (cases_order i j)

-- a list reversed has each item once where the list has
EachOnce-reverse : (xs : List ℕ) → EachOnce xs → EachOnce (reverse xs)
EachOnce-reverse xs once i j lti ltj e =
    let n : length (reverse xs) ≡ length xs = length-reverse xs in
    let same : length xs - 1 - i ≡ length xs - 1 - j =
    once (length xs - 1 - i) (length xs - 1 - j) (omega arith) (omega arith)
    (sym (get_or-reverse xs i 0 (omega arith)) ∙ e ∙ get_or-reverse xs j 0 (omega arith)) in
    omega arith

-- lists of distinct items, of which the ones pass a test and the others fail it
EachOnce-append : (p : ℕ → Bool) (xs ys : List ℕ) → EachOnce xs → EachOnce ys → All (λ x. p x ≡ false) xs
    → All (λ x. p x ≡ true) ys → EachOnce (xs ++ ys)
EachOnce-append p xs ys once_xs once_ys fail pass i j lti ltj e =
    let n : length (xs ++ ys) ≡ length xs + length ys = length-append xs ys in
    ⊎_elim
    (λ il. ⊎_elim
    (λ jl. once_xs i j il jl (sym (get_or_append_left xs ys 0 i il) ∙ e ∙ get_or_append_left xs ys 0 j jl))
    (λ jr. absurd (apart i j il jr (omega arith) e))
    (cases_lt j (length xs)))
    (λ ir. ⊎_elim
    (λ jl. absurd (apart j i jl ir (omega arith) (sym e)))
    (λ jr.
    let same : i - length xs ≡ j - length xs =
    once_ys (i - length xs) (j - length xs) (omega arith) (omega arith)
    (sym (get_or-append_right xs ys (length xs) i 0 refl ir) ∙ e
    ∙ get_or-append_right xs ys (length xs) j 0 refl jr) in
    omega arith)
    (cases_lt j (length xs)))
    (cases_lt i (length xs))
  where
    -- an item of the first list is none of the second
    apart : (k m : ℕ) → k < length xs → length xs ≤ m → m < length xs + length ys
        → slice_index (xs ++ ys) k ≡ slice_index (xs ++ ys) m → ⊥
    apart k m l r w f =
        let lower : slice_index (xs ++ ys) k ≡ slice_index xs k = get_or_append_left xs ys 0 k l in
        let upper : slice_index (xs ++ ys) m ≡ slice_index ys (m - length xs) =
        get_or-append_right xs ys (length xs) m 0 refl r in
        false≢true (sym (fail k 0 l) ∙ ap p (sym lower ∙ f ∙ upper) ∙ pass (m - length xs) 0 (omega arith))

-- what holds of all items holds of those of the list reversed
All-reverse : (P : ℕ → Type 0) (xs : List ℕ) → All P xs → All P (reverse xs)
All-reverse P xs all k d lt =
    let n : length (reverse xs) ≡ length xs = length-reverse xs in
    subst P (sym (get_or-reverse xs k d (omega arith))) (all (length xs - 1 - k) d (omega arith))

-- an item of a list is one of the list reversed
Contains-reverse : (xs : List ℕ) (x : ℕ) → Contains xs x → Contains (reverse xs) x
Contains-reverse xs x c =
    let n : length (reverse xs) ≡ length xs = length-reverse xs in
    let lt : c.0 < length xs = c.1 in (
      length xs - 1 - c.0,
      omega arith,
      get_or-reverse xs (length xs - 1 - c.0) x (omega arith)
          ∙ ap (λ (k : ℕ). slice_index_or xs k x)
          (let e : length xs - 1 - (length xs - 1 - c.0) ≡ c.0 = omega arith in e)
          ∙ c.2,
    )

-- what stands in a list and passes a test stays
filter_keeps : (p : ℕ → Bool) (c : ℕ) (xs : List ℕ) → p c ≡ true → list_any (λ x. x == c) xs ≡ true
    → list_any (λ x. x == c) (filter p xs) ≡ true
filter_keeps p c [] pc t = t
filter_keeps p c (x ∷ xs) pc t =
    ⊎_elim
    (λ e.
    ap (list_any (λ (y : ℕ). y == c)) (cond-true (p x) (x ∷ filter p xs) (filter p xs) (ap p e ∙ pc))
    ∙ or_left (x == c) (list_any (λ (y : ℕ). y == c) (filter p xs)) (eq-eqb x c e))
    (λ ne.
    let later : list_any (λ (y : ℕ). y == c) xs ≡ true =
    sym (ap (λ (b : Bool). b || list_any (λ (y : ℕ). y == c) xs) (ne_eqb x c ne)) ∙ t in
    let kept : list_any (λ (y : ℕ). y == c) (filter p xs) ≡ true = filter_keeps p c xs pc later in
    ⊎_elim
    (λ px. ap (list_any (λ (y : ℕ). y == c)) (cond-true (p x) (x ∷ filter p xs) (filter p xs) px)
    ∙ or_right (x == c) (list_any (λ (y : ℕ). y == c) (filter p xs)) kept)
    (λ px. ap (list_any (λ (y : ℕ). y == c)) (cond-false (p x) (x ∷ filter p xs) (filter p xs) px) ∙ kept)
    (cases_Bool (p x)))
    (cases_eq x c)

-- a number that is found in a list is in it
Contains-from_test : (c : ℕ) (xs : List ℕ) → list_any (λ x. x == c) xs ≡ true → Contains xs c
Contains-from_test c xs t =
    let found = Any-from_list_any (λ (x : ℕ). x == c) xs t in
    let same : found.1 ≡ c = eqb-true found.1 c found.4 in
    (found.0, found.2, get_or_default xs found.0 c found.1 found.2 ∙ found.3 ∙ same)

-- a cluster of the chain that does not enclose the other end is one of those left
left_contains : (ps : List ℕ) (a b c : ℕ) → 0 < c → encloses ps c a ≡ true → encloses ps c b ≡ false
    → Contains (without_round ps b (chain ps a)) c
left_contains ps a b c above en out =
    let in_chain : list_any (λ x. x == c) (chain ps a) ≡ true =
    sym (ap (λ (t : Bool). t || list_any (λ (x : ℕ). x == c) (chain ps a)) (ne_eqb c 0 (λ e. omega arith))) ∙ en in
    Contains-from_test c (without_round ps b (chain ps a)) (filter_keeps (λ x. not (encloses ps x b)) c (chain ps a)
    (not_from_false (encloses ps c b) out) in_chain)

-- what edge e leaves, by the two answers of containing
leaves_source : (g : Clustered) (c e : ℕ) → contains g c (source g e) ≡ true → contains g c (target g e) ≡ false
    → leaves g c e ≡ true
leaves_source g c e s t = cond-true (contains g c (source g e)) (not (contains g c (target g e)))
    (contains g c (target g e)) s ∙ not_from_false (contains g c (target g e)) t

-- an edge leaves a cluster that has its target and not its source
leaves_target : (g : Clustered) (c e : ℕ) → contains g c (source g e) ≡ false → contains g c (target g e) ≡ true
    → leaves g c e ≡ true
leaves_target g c e s t = cond-false (contains g c (source g e)) (not (contains g c (target g e)))
    (contains g c (target g e)) s ∙ t

-- what is left on the way encloses the one end and not the other
left_facts : (ps : List ℕ) → IsLower ps → (a b : ℕ)
    → All (λ c. (c ≤ a) × (encloses ps c a ≡ true) × (encloses ps c b ≡ false)) (without_round ps b (chain ps a))
left_facts ps low a b k d lt =
    let on = All-filter (λ (c : ℕ). not (encloses ps c b)) (IsOnChain ps a) (chain ps a)
    (chain_members ps low a a (omega arith)) k d lt in
    let out = filter_passes (λ (c : ℕ). not (encloses ps c b)) (chain ps a) k d lt in
    (on.within, on.around, not-true (encloses ps (slice_index_or (without_round ps b (chain ps a)) k d) b) out)

-- the clusters that are left are each left once
once_left : (ps : List ℕ) → IsLower ps → (a b : ℕ) → EachOnce (without_round ps b (chain ps a))
once_left ps low a b = EachOnce-falls (without_round ps b (chain ps a))
    (AllPairs-filter (λ (x y : ℕ). y < x) (λ (c : ℕ). not (encloses ps c b)) (chain ps a)
    (chain_falls ps low a a (omega arith)))

-- the crossings of an edge are exactly the clusters that it leaves, each once
pub crossings-Exactly : (g : Clustered) → IsClustered g → (e : ℕ) → e < edges g
    → Exactly (clusters g) (λ c. leaves g c e) (crossings g e)
crossings-Exactly g is e lt = record { each_passes = λ i within. passes i 0 within; each_once = once; all = whole }
  where
    -- parents have lower numbers
    low : IsLower g.parents
    low = IsLower-clustered g is

    -- the clusters round the source alone, from the innermost outward
    left : List ℕ
    left = without_round g.parents (home g (target g e)) (chain g.parents (home g (source g e)))

    -- the clusters round the target alone, from the innermost outward
    right : List ℕ
    right = without_round g.parents (home g (source g e)) (chain g.parents (home g (target g e)))

    -- those round the source alone contain it, and not the target
    left_is : All (λ c. (c ≤ home g (source g e)) × (contains g c (source g e) ≡ true)
        × (contains g c (target g e) ≡ false)) left
    left_is = left_facts g.parents low (home g (source g e)) (home g (target g e))

    -- those round the target alone contain it, and not the source
    right_is : All (λ c. (c ≤ home g (target g e)) × (contains g c (target g e) ≡ true)
        × (contains g c (source g e) ≡ false)) (reverse right)
    right_is = All-reverse (λ c. (c ≤ home g (target g e)) × (contains g c (target g e) ≡ true)
        × (contains g c (source g e) ≡ false)) right (left_facts g.parents low (home g (target g e))
        (home g (source g e)))

    -- each crossing is of a cluster that the edge leaves
    passes : All (λ c. (c < clusters g) × (leaves g c e ≡ true)) (crossings g e)
    passes =
        All-append (λ c. (c < clusters g) × (leaves g c e ≡ true)) left (reverse right)
        (λ k d within. let f = left_is k d within in
        (omega (arith, f.0, is.home_is_cluster (source g e) (is.source_is_node e lt)), leaves_source g _ e f.1 f.2))
        (λ k d within. let f = right_is k d within in
        (omega (arith, f.0, is.home_is_cluster (target g e) (is.target_is_node e lt)), leaves_target g _ e f.2 f.1))

    -- no cluster is crossed twice
    once : EachOnce (crossings g e)
    once =
        EachOnce-append (λ c. contains g c (target g e)) left (reverse right)
        (once_left g.parents low (home g (source g e)) (home g (target g e)))
        (EachOnce-reverse right (once_left g.parents low (home g (target g e)) (home g (source g e))))
        (λ k d within. (left_is k d within).2)
        (λ k d within. (right_is k d within).1)

    -- each cluster that the edge leaves is crossed
    found : (x : ℕ) → 0 < x → leaves g x e ≡ true → Contains (crossings g e) x
    found x above px =
        ⊎_elim
        (λ s.
        let t : contains g x (target g e) ≡ false =
        not-true (contains g x (target g e))
        (sym (cond-true (contains g x (source g e)) (not (contains g x (target g e))) (contains g x (target g e)) s)
        ∙ px) in
        Contains-append_left left (reverse right) x (left_contains g.parents (home g (source g e)) (home g (target g e))
        x above s t))
        (λ s.
        let t : contains g x (target g e) ≡ true =
        sym (cond-false (contains g x (source g e)) (not (contains g x (target g e))) (contains g x (target g e)) s)
        ∙ px in
        Contains-append_right left (reverse right) x (Contains-reverse right x
        (left_contains g.parents (home g (target g e)) (home g (source g e)) x above t s)))
        (cases_Bool (contains g x (source g e)))

    -- so is each below the number of clusters
    whole : (x : ℕ) → x < clusters g → leaves g x e ≡ true → Contains (crossings g e) x
    whole x within px =
        ⊎_elim
        (λ z. absurd (false≢true (ap (λ (c : ℕ). leaves g c e) (sym z) ∙ px)))
        (λ nz. found x (omega arith) px)
        (cases_eq x 0)

-- the walks outward from the two homes of edge e, as far as they have come
pub record IsBetween (g : Clustered) (e outer inner : ℕ) (left entered : List ℕ) : Type 0 where
  -- the outer end of the walk is a cluster
  pub outer_cluster : outer < clusters g
  -- so is the inner one
  pub inner_cluster : inner < clusters g
  -- the walk between the homes of the ends
  pub walked : HasWalked g.parents (home g (source g e)) (home g (target g e)) outer inner left entered

-- the walk begins at the homes of the two ends
pub IsBetween-start : (g : Clustered) (e : ℕ) → home g (source g e) < clusters g → home g (target g e) < clusters g
    → IsBetween g e (home g (source g e)) (home g (target g e)) [] []
IsBetween-start g e s t = record {
  outer_cluster = s;
  inner_cluster = t;
  walked = HasWalked-start g.parents
      (home g (source g e)) (home g (target g e));
}

-- it goes on outward from the higher number, which is left
pub IsBetween-left : (g : Clustered) → IsClustered g → (e outer inner : ℕ) (left entered : List ℕ)
    → IsBetween g e outer inner left entered → inner < outer
    → IsBetween g e (parent g outer) inner (left ++ outer ∷ []) entered
IsBetween-left g is e outer inner left entered so lt =
    let low : IsLower g.parents = IsLower-clustered g is in
    let less : parent g outer < outer = low.lower outer (omega arith) in
    record {
      outer_cluster = omega (arith, so.outer_cluster);
      inner_cluster = so.inner_cluster;
      walked =
          HasWalked-first g.parents low (home g (source g e)) (home g (target g e)) outer inner left entered
          so.walked lt;
    }

-- or from the higher number, which is entered
pub IsBetween-entered : (g : Clustered) → IsClustered g → (e outer inner : ℕ) (left entered : List ℕ)
    → IsBetween g e outer inner left entered → outer < inner
    → IsBetween g e outer (parent g inner) left (entered ++ inner ∷ [])
IsBetween-entered g is e outer inner left entered so lt =
    let low : IsLower g.parents = IsLower-clustered g is in
    let less : parent g inner < inner = low.lower inner (omega arith) in
    record {
      outer_cluster = so.outer_cluster;
      inner_cluster = omega (arith, so.inner_cluster);
      walked =
          HasWalked-second g.parents low (home g (source g e)) (home g (target g e)) outer inner left entered
          so.walked lt;
    }

-- where both ends meet, what was left and then what was entered, reversed, is crossed
pub IsBetween-end : (g : Clustered) → IsClustered g → (e outer inner : ℕ) (left entered : List ℕ)
    → IsBetween g e outer inner left entered → outer ≡ inner → left ++ reverse entered ≡ crossings g e
IsBetween-end g is e outer inner left entered so met =
    let whole = HasWalked-end g.parents (IsLower-clustered g is) (home g (source g e)) (home g (target g e)) outer inner
    left entered so.walked met in
    ap₂ (λ (xs ys : List ℕ). xs ++ reverse ys) whole.0 whole.1
