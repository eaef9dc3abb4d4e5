-- How clusters are nested, told by their numbers and depths.
use Rattle.std.proofs.Common.{◌≡◌, ℕ, zero, suc, ◌+◌, ◌-◌, ◌<◌, ◌≤◌, ◌*◌, Bool, true, false, List, [], ◌∷◌, ◌++◌, length, slice_index, get_or, set, sym, ap, ap₂, ◌∙◌, subst, ⊎_elim, arith, length-append}
use Rattle.std.specs.Prelude.{◌==◌, not, max, reverse}
use Rattle.std.proofs.Math.Dec.{leb}
use Rattle.std.specs.List.{filter, position_or_len}
use Rattle.std.proofs.lemmas.Bool.{cases_lt, cases_eq, cases_Bool, false≢true, not-true, cond-true, cond-false, le-leb, lt-leb}
use Rattle.std.proofs.lemmas.List.{get_or_append_left, get_or_at, get_or_default, get_or-set_same, get_or-set_other, length-set, length-reverse}
use Rattle.std.proofs.lemmas.List.Sums.{length-filter, count_by-le-length}
use Rattle.cp_cgraph.specs.Clustered.{Clustered, IsClustered, edges, nodes, clusters, source, target, parent, home}
use Rattle.cp_cgraph.specs.Crossings.{outward, contains, leaves, crossings, IsWithin, here, inner}
use Rattle.cp_cgraph.specs.LookUps.{IsNested, AreFromTo, AreLasts, IsTable, depth}
use Rattle.cp_cgraph.specs.Crossings.{crossed}
use Rattle.cp_cgraph.proofs.Ancestors.{IsLower, IsLower-clustered, chain, chain_more, outward_step, encloses, encloses_step, encloses_higher, within_from_encloses, encloses_from_within, contains-IsWithin}
use Rattle.cp_cgraph.proofs.Crossing.{without_round, kept_first, crossings-Exactly}
use Rattle.cp_cgraph.proofs.Counted.{place_front, place_back}

-- tables of functions
pub IsTable-more : (n : ℕ) (xs : List ℕ) (f : ℕ → ℕ) (y : ℕ) → IsTable n xs f → y ≡ f n
    → IsTable (n + 1) (xs ++ y ∷ []) f
IsTable-more n xs f y so is = record {
  size = omega (arith, so.size, length-append xs (y ∷ []));
  value = λ k less.
      ⊎_elim
      (λ l. get_or_append_left xs (y ∷ []) 0 k (omega (arith, so.size)) ∙ so.value k l)
      (λ ge. let e : k ≡ n = omega arith in get_or_at xs y [] 0 k (so.size ∙ sym e) ∙ is ∙ ap f (sym e))
      (cases_lt k n);
}

-- a cluster within one that is within another
pub IsWithin-trans : (g : Clustered) (a b c : ℕ) → IsWithin g a b → IsWithin g b c → IsWithin g a c
IsWithin-trans g a b _ ab here = ab
IsWithin-trans g a b _ ab (inner {b = c} above w) = inner above (IsWithin-trans g a b (parent g c) ab w)

-- a cluster within another has no lower number
within_le : (g : Clustered) → IsLower g.parents → (c b : ℕ) → IsWithin g c b → c ≤ b
within_le g low c _ here = omega arith
within_le g low c _ (inner {b = b} above w) =
    let less : parent g b < b = low.lower b above in
    let rest : c ≤ parent g b = within_le g low c (parent g b) w in
    omega arith

-- the cluster opened before one within c is within c, unless that is c itself
within_before : (g : Clustered) → IsNested g → (c b : ℕ) → IsWithin g c b → c < b → b < clusters g
    → IsWithin g c (b - 1)
within_before g nested c _ here less cluster = absurd (omega arith)
within_before g nested c _ (inner {b = b} above w) less cluster =
    IsWithin-trans g c (parent g b) (b - 1) w (nested b above cluster)

-- a cluster between one and the last within it is within it
within_between : (g : Clustered) → IsNested g → (n c b m : ℕ) → m ≤ n + b → c ≤ b → b ≤ m → m < clusters g
    → IsWithin g c m → IsWithin g c b
within_between g nested zero c b m near le less cluster w = let e : m ≡ b = omega arith in subst (IsWithin g c) e w
within_between g nested (suc n) c b m near le less cluster w =
    ⊎_elim
    (λ e. subst (IsWithin g c) e w)
    (λ ne. within_between g nested n c b (m - 1) (omega arith) le (omega arith) (omega arith)
    (within_before g nested c m w (omega arith) cluster))
    (cases_eq m b)

-- the greatest numbers so far: those of the clusters above c count for their parents
pub record IsRaised (g : Clustered) (lasts : List ℕ) (c : ℕ) : Type 0 where
  -- there is a last cluster for each
  pub size : length lasts ≡ clusters g
  -- each last is a cluster
  pub cluster : (b : ℕ) → b < clusters g → slice_index lasts b < clusters g
  -- the last lies within its cluster
  pub within : (b : ℕ) → b < clusters g → IsWithin g b (slice_index lasts b)
  -- where a cluster was seen, its parent has a last at least as high
  pub raised : (b : ℕ) → c < b → b < clusters g → slice_index lasts b ≤ slice_index lasts (parent g b)

-- before any cluster was seen each is its own last
pub IsRaised-start : (g : Clustered) (numbers : List ℕ) (c : ℕ) → IsTable (clusters g) numbers (λ k. k)
    → clusters g ≤ c + 1 → IsRaised g numbers c
IsRaised-start g numbers c are last = record {
  size = are.size;
  cluster = λ b less. omega (arith, are.value b less);
  within = λ b less. subst (IsWithin g b) (sym (are.value b less)) here;
  raised = λ b above less. absurd (omega arith);
}

-- one more cluster raises the last of its parent
pub IsRaised-more : (g : Clustered) → IsClustered g → (lasts : List ℕ) (c outer y : ℕ) → IsRaised g lasts c → 0 < c
    → c < clusters g → outer ≡ parent g c → y ≡ max (slice_index lasts outer) (slice_index lasts c)
    → IsRaised g (set lasts outer y) (c - 1)
IsRaised-more g is lasts c outer y so above less outer_is y_is = record {
  size = length-set lasts outer y ∙ so.size;
  cluster = λ b lt.
      ⊎_elim
      (λ e. let there : slice_index (set lasts outer y) b ≡ y =
      at b e in omega (arith, there, y_is, so.cluster outer inside, so.cluster c less))
      (λ ne. omega (arith, other b ne, so.cluster b lt))
      (cases_eq b outer);
  within = λ b lt.
      ⊎_elim
      (λ e. subst (IsWithin g b) (sym (at b e)) (subst (λ (x : ℕ). IsWithin g x y) (sym e) own))
      (λ ne. subst (IsWithin g b) (sym (other b ne)) (so.within b lt))
      (cases_eq b outer);
  raised = λ b gt lt.
      let below : parent g b < b = low.lower b (omega arith) in
      let same : slice_index (set lasts outer y) b ≡ slice_index lasts b = other b (λ e. omega (arith, lower)) in
      ⊎_elim
      (λ e.
      let there : slice_index (set lasts outer y) (parent g b) ≡ y = at (parent g b) (ap (parent g) e ∙ sym outer_is) in
      let known : slice_index lasts b ≡ slice_index lasts c = ap (slice_index lasts) e in
      omega (arith, there, known, same, y_is))
      (λ ne. let kept : slice_index lasts b ≤ slice_index lasts (parent g b) =
      so.raised b (omega arith) lt in omega (arith, kept, same, grown (parent g b)))
      (cases_eq b c);
}
  where
    -- parents have lower numbers
    low : IsLower g.parents
    low = IsLower-clustered g is

    -- the parent has a lower number
    lower : outer < c
    lower = omega (arith, outer_is, low.lower c above)

    -- the parent is a cluster
    inside : outer < clusters g
    inside = omega (arith, lower)

    -- at the parent the new last stands
    at : (b : ℕ) → b ≡ outer → slice_index (set lasts outer y) b ≡ y
    at b e = ap (slice_index (set lasts outer y)) e ∙ get_or-set_same lasts outer y 0 (omega (arith, inside, so.size))

    -- elsewhere the table is as it was
    other : (b : ℕ) → (b ≡ outer → ⊥) → slice_index (set lasts outer y) b ≡ slice_index lasts b
    other b ne = get_or-set_other lasts outer b y 0 ne

    -- no last falls
    grown : (b : ℕ) → slice_index lasts b ≤ slice_index (set lasts outer y) b
    grown b =
        ⊎_elim
        (λ e. let was : slice_index lasts b ≡ slice_index lasts outer =
        ap (slice_index lasts) e in omega (arith, at b e, was, y_is))
        (λ ne. omega (arith, other b ne))
        (cases_eq b outer)

    -- the new last lies within the parent
    own : IsWithin g outer y
    own =
        ⊎_elim
        (λ lt.
        let e : y ≡ slice_index lasts c = omega (arith, y_is) in
        subst (IsWithin g outer) (sym e) (IsWithin-trans g outer c (slice_index lasts c)
        (inner above (subst (IsWithin g outer) outer_is here)) (so.within c less)))
        (λ ge. let e : y ≡ slice_index lasts outer =
        omega (arith, y_is) in subst (IsWithin g outer) (sym e) (so.within outer inside))
        (cases_lt (slice_index lasts outer) (slice_index lasts c))

-- where all count, a number is no lower than that of any cluster inside
raised_along : (g : Clustered) → IsLower g.parents → (lasts : List ℕ) → IsRaised g lasts 0 → (c b : ℕ) → b < clusters g
    → IsWithin g c b → slice_index lasts b ≤ slice_index lasts c
raised_along g low lasts so c _ less here = omega arith
raised_along g low lasts so c _ less (inner {b = b} above w) =
    let lower : parent g b < b = low.lower b above in
    let rest : slice_index lasts (parent g b) ≤ slice_index lasts c =
    raised_along g low lasts so c (parent g b) (omega arith) w in
    omega (arith, so.raised b above less)

-- where all clusters were seen, the table holds the lasts
pub IsRaised-end : (g : Clustered) → IsClustered g → IsNested g → (lasts : List ℕ) → IsRaised g lasts 0
    → AreLasts g lasts
IsRaised-end g is nested lasts so = record {
  size = so.size;
  last = λ c less. record {
    inside = λ b from to. within_between g nested (slice_index lasts c) c b (slice_index lasts c) (omega arith) from to
        (so.cluster c less) (so.within c less);
    from = λ b lt w. within_le g low c b w;
    to = λ b lt w.
        let own : b ≤ slice_index lasts b = within_le g low b (slice_index lasts b) (so.within b lt) in
        let along : slice_index lasts b ≤ slice_index lasts c = raised_along g low lasts so c b lt w in
        omega arith;
  };
}
  where
    -- parents have lower numbers
    low : IsLower g.parents
    low = IsLower-clustered g is

-- containing, by the numbers
contains_between : (g : Clustered) → IsClustered g → (c v m : ℕ) → AreFromTo g c m → c ≤ home g v → home g v ≤ m
    → contains g c v ≡ true
contains_between g is c v m are from to = (contains-IsWithin g is c v).1 (are.inside (home g v) from to)

-- a cluster does not contain a node whose home is none of those from it to its last
contains_beside : (g : Clustered) → IsClustered g → (c v m : ℕ) → v < nodes g → AreFromTo g c m
    → (c ≤ home g v → home g v ≤ m → ⊥) → contains g c v ≡ false
contains_beside g is c v m node are out =
    ⊎_elim
    (λ t.
    let w : IsWithin g c (home g v) = (contains-IsWithin g is c v).0 t in
    let cluster : home g v < clusters g = is.home_is_cluster v node in
    absurd (out (are.from (home g v) cluster w) (are.to (home g v) cluster w)))
    (λ f. f)
    (cases_Bool (contains g c v))

-- from a cluster on, it contains a node exactly where the home is up to its last
pub contains_told : (g : Clustered) → IsClustered g → (c v h m : ℕ) → v < nodes g → h ≡ home g v → AreFromTo g c m
    → c ≤ h → leb h m ≡ contains g c v
contains_told g is c v h m node at are from =
    ⊎_elim
    (λ gt. lt-leb h m gt ∙ sym (contains_beside g is c v m node are (λ le to. omega arith)))
    (λ le. le-leb h m le ∙ sym (contains_between g is c v m are (omega arith) (omega arith)))
    (cases_lt m h)

-- before it, it contains none
pub contains_before : (g : Clustered) → IsClustered g → (c v h : ℕ) → v < nodes g → h ≡ home g v → h < c
    → leb c h ≡ contains g c v
contains_before g is c v h node at less =
    lt-leb c h less ∙ sym (ap (encloses g.parents c) (sym at)
    ∙ encloses_higher g.parents (IsLower-clustered g is) c h less)

-- a cluster is one deeper than its parent, and no deeper than its number
depth_more : (g : Clustered) → IsClustered g → (c : ℕ) → 0 < c → depth g c ≡ depth g (parent g c) + 1
depth_more g is c above =
    let more : depth g c ≡ suc (depth g (parent g c)) =
    ap length (chain_more g.parents (IsLower-clustered g is) c above) in
    omega arith

-- a walk outward is no longer than its bound
outward_le : (ps : List ℕ) (n c : ℕ) → length (outward ps n c) ≤ n
outward_le ps zero c = omega arith
outward_le ps (suc n) c =
    ⊎_elim
    (λ e. let none : length (outward ps (suc n) c) ≡ 0 = ap (λ (b : ℕ). length (outward ps (suc n) b)) e in omega arith)
    (λ ne.
    let one : length (outward ps (suc n) c) ≡ suc (length (outward ps n (slice_index ps (c - 1)))) =
    ap length (outward_step ps n c (omega arith)) in
    let rest : length (outward ps n (slice_index ps (c - 1))) ≤ n = outward_le ps n (slice_index ps (c - 1)) in
    omega arith)
    (cases_eq c 0)

-- no cluster is deeper than its number
depth_le : (g : Clustered) (c : ℕ) → depth g c ≤ c
depth_le g c = outward_le g.parents c c

-- the next depth, where those of lower numbers are counted
pub depth_next : (g : Clustered) → IsClustered g → (c p x : ℕ) (depths : List ℕ) → 0 < c → p ≡ parent g c
    → x ≡ get_or depths p x → IsTable c depths (depth g) → (x + 1 ≡ depth g c) × (x + 1 ≤ c)
depth_next g is c p x depths above p_is read are =
    let lower : parent g c < c = (IsLower-clustered g is).lower c above in
    let known : x ≡ depth g p = read ∙ get_or_default depths p x 0 (omega (arith, are.size))
    ∙ are.value p (omega arith) in
    let same : depth g p ≡ depth g (parent g c) = ap (depth g) p_is in
    let more : depth g c ≡ depth g (parent g c) + 1 = depth_more g is c above in
    let le : depth g c ≤ c = depth_le g c in
    (omega arith, omega arith)

-- what is filtered is no longer
filter_le : (p : ℕ → Bool) (xs : List ℕ) → length (filter p xs) ≤ length xs
filter_le p xs = omega (arith, length-filter p xs, count_by-le-length p xs)

-- an edge leaves no more clusters than lie round its two ends
pub crossed_le : (g : Clustered) → IsClustered g → (e n : ℕ) → e < edges g → clusters g ≤ n → crossed g e < 2 * n
crossed_le g is e n edge le =
    let s = home g (source g e) in
    let t = home g (target g e) in
    let left = without_round g.parents t (chain g.parents s) in
    let right = without_round g.parents s (chain g.parents t) in
    let whole : crossed g e ≡ length left + length (reverse right) = length-append left (reverse right) in
    let turned : length (reverse right) ≡ length right = length-reverse right in
    let left_le : length left ≤ depth g s = filter_le (λ c. not (encloses g.parents c t)) (chain g.parents s) in
    let right_le : length right ≤ depth g t = filter_le (λ c. not (encloses g.parents c s)) (chain g.parents t) in
    let s_le : depth g s ≤ s = depth_le g s in
    let t_le : depth g t ≤ t = depth_le g t in
    let s_in : s < clusters g = is.home_is_cluster (source g e) (is.source_is_node e edge) in
    let t_in : t < clusters g = is.home_is_cluster (target g e) (is.target_is_node e edge) in
    omega arith

-- round a cluster that is round a third is round the third
encloses_through : (g : Clustered) → IsLower g.parents → (a b c : ℕ) → encloses g.parents a b ≡ true
    → encloses g.parents b c ≡ true → encloses g.parents a c ≡ true
encloses_through g low a b c ab bc =
    encloses_from_within g low a c
    (IsWithin-trans g a b c (within_from_encloses g low b a b (omega arith) ab)
    (within_from_encloses g low c b c (omega arith) bc))

-- of the clusters round a that do not lie round b, those before c are as many as a is deeper than c
record IsSplit (g : Clustered) (a b c : ℕ) : Type 0 where
  front : List ℕ
  kept : without_round g.parents b (chain g.parents a) ≡ front ++ c ∷ without_round g.parents b
      (chain g.parents (parent g c))
  long : length front + depth g c ≡ depth g a

-- the walk outward from a cluster parts at one that is round it alone
IsSplit-at : (g : Clustered) → IsClustered g → (n a b c : ℕ) → a ≤ n → 0 < c → encloses g.parents c a ≡ true
    → encloses g.parents c b ≡ false → IsSplit g a b c
IsSplit-at g is zero a b c le above en out =
    absurd (false≢true (sym (encloses_higher g.parents (IsLower-clustered g is) c a (omega arith)) ∙ en))
IsSplit-at g is (suc n) a b c le above en out =
    ⊎_elim
    (λ e. subst (λ (x : ℕ). IsSplit g x b c) (sym e) record {
      front = [];
      kept = kept_first g.parents low c b above out;
      long = omega arith;
    })
    (λ ne.
    ⊎_elim
    (λ lt.
    let less : parent g a < a = low.lower a (omega arith) in
    let rest : IsSplit g (parent g a) b c =
    IsSplit-at g is n (parent g a) b c (omega arith) above (sym (encloses_step g.parents low c a lt) ∙ en) out in
    let deeper : depth g a ≡ depth g (parent g a) + 1 = depth_more g is a (omega arith) in
    record {
      front = a ∷ rest.front;
      kept = kept_first g.parents low a b (omega arith) not_round ∙ ap (λ (xs : List ℕ). a ∷ xs) rest.kept;
      long = omega (arith, rest.long);
    })
    (λ ge. absurd (false≢true (sym (encloses_higher g.parents low c a (omega arith)) ∙ en)))
    (cases_lt c a))
    (cases_eq a c)
  where
    -- parents have lower numbers
    low : IsLower g.parents
    low = IsLower-clustered g is

    -- the first cluster is not round the other
    not_round : encloses g.parents a b ≡ false
    not_round =
        ⊎_elim
        (λ t. absurd (false≢true (sym out ∙ encloses_through g low c a b en t)))
        (λ f. f)
        (cases_Bool (encloses g.parents a b))

-- what an edge leaves is not the root
left_above : (g : Clustered) (c e : ℕ) → leaves g c e ≡ true → 0 < c
left_above g c e left =
    ⊎_elim
    (λ z. absurd (false≢true (ap (λ (x : ℕ). leaves g x e) (sym z) ∙ left)))
    (λ nz. omega arith)
    (cases_eq c 0)

-- the place of a cluster round the source
place_source : (g : Clustered) → IsClustered g → (e c : ℕ) → e < edges g → leaves g c e ≡ true
    → contains g c (source g e) ≡ true → (depth g c ≤ depth g (home g (source g e)))
    × (position_or_len (λ x. x == c) (crossings g e) ≡ depth g (home g (source g e)) - depth g c)
place_source g is e c edge left_c s =
    let a = home g (source g e) in
    let b = home g (target g e) in
    let t : contains g c (target g e) ≡ false =
    not-true (contains g c (target g e))
    (sym (cond-true (contains g c (source g e)) (not (contains g c (target g e))) (contains g c (target g e)) s)
    ∙ left_c) in
    let split : IsSplit g a b c = IsSplit-at g is a a b c (omega arith) (left_above g c e left_c) s t in
    let long : length split.front + depth g c ≡ depth g a = split.long in (
      omega arith,
      place_front (without_round g.parents b (chain g.parents a)) (reverse
          (without_round g.parents a (chain g.parents b)))
          split.front (without_round g.parents b (chain g.parents (parent g c))) c (depth g a - depth g c)
          (crossings-Exactly g is e edge).each_once split.kept (omega arith),
    )

-- the place of a cluster round the target, from the end
record IsFromEnd (g : Clustered) (e c : ℕ) : Type 0 where
  deeper : depth g c ≤ depth g (home g (target g e))
  inside : depth g (home g (target g e)) - depth g c < crossed g e
  place : position_or_len (λ x. x == c) (crossings g e) ≡ crossed g e - 1 - (depth g (home g (target g e)) - depth g c)

-- a cluster round the target alone has its place from the end
place_target : (g : Clustered) → IsClustered g → (e c : ℕ) → e < edges g → leaves g c e ≡ true
    → contains g c (source g e) ≡ false → IsFromEnd g e c
place_target g is e c edge left_c s =
    let a = home g (target g e) in
    let b = home g (source g e) in
    let t : contains g c (target g e) ≡ true =
    sym (cond-false (contains g c (source g e)) (not (contains g c (target g e))) (contains g c (target g e)) s)
    ∙ left_c in
    let split : IsSplit g a b c = IsSplit-at g is a a b c (omega arith) (left_above g c e left_c) t s in
    let long : length split.front + depth g c ≡ depth g a = split.long in
    let back = place_back (without_round g.parents a (chain g.parents b))
    (without_round g.parents b (chain g.parents a))
    split.front (without_round g.parents b (chain g.parents (parent g c))) c (depth g a - depth g c)
    (crossings-Exactly g is e edge).each_once split.kept (omega arith) in
    record { deeper = omega arith; inside = back.0; place = back.1 }

-- the same of the numbers that are looked up
pub source_told : (g : Clustered) → IsClustered g → (e c : ℕ) (p : ℕ × ℕ) (t : Bool) (h a b : ℕ) → e < edges g
    → leaves g c e ≡ true → p ≡ (source g e, target g e) → t ≡ contains g c p.0 → t ≡ true → h ≡ home g p.0
    → a ≡ depth g h → b ≡ depth g c → (b ≤ a) × (a - b ≡ position_or_len (λ x. x == c) (crossings g e))
source_told g is e c p t h a b edge left_c p_is t_is yes_t h_is a_is b_is =
    let s : contains g c (source g e) ≡ true = ap (λ (q : ℕ × ℕ). contains g c q.0) (sym p_is) ∙ sym t_is ∙ yes_t in
    let deep : a ≡ depth g (home g (source g e)) = a_is ∙ ap (depth g) (h_is ∙ ap (λ (q : ℕ × ℕ). home g q.0) p_is) in
    let found = place_source g is e c edge left_c s in
    let le : depth g c ≤ depth g (home g (source g e)) = found.0 in
    (omega arith, ap₂ (λ (k m : ℕ). k - m) deep b_is ∙ sym found.1)

pub record IsToldFromEnd (g : Clustered) (e c n a b : ℕ) : Type 0 where
  pub some : 1 ≤ n
  pub deeper : b ≤ a
  pub inside : a - b ≤ n - 1
  pub place : n - 1 - (a - b) ≡ position_or_len (λ x. x == c) (crossings g e)

-- the place of a crossing on the target's side is told by depths
pub target_told : (g : Clustered) → IsClustered g → (e c : ℕ) (p : ℕ × ℕ) (t : Bool) (n h a b : ℕ) → e < edges g
    → leaves g c e ≡ true → p ≡ (source g e, target g e) → t ≡ contains g c p.0 → t ≡ false → n ≡ crossed g e
    → h ≡ home g p.1 → a ≡ depth g h → b ≡ depth g c → IsToldFromEnd g e c n a b
target_told g is e c p t n h a b edge left_c p_is t_is no_t n_is h_is a_is b_is =
    let s : contains g c (source g e) ≡ false = ap (λ (q : ℕ × ℕ). contains g c q.0) (sym p_is) ∙ sym t_is ∙ no_t in
    let deep : a ≡ depth g (home g (target g e)) = a_is ∙ ap (depth g) (h_is ∙ ap (λ (q : ℕ × ℕ). home g q.1) p_is) in
    let found = place_target g is e c edge left_c s in
    let le : depth g c ≤ depth g (home g (target g e)) = found.deeper in
    let lt : depth g (home g (target g e)) - depth g c < crossed g e = found.inside in
    record {
      some = omega arith;
      deeper = omega arith;
      inside = omega arith;
      place = ap₂ (λ (k m : ℕ). k - 1 - m) n_is (ap₂ (λ (k m : ℕ). k - m) deep b_is) ∙ sym found.place;
    }
