-- How often a number stands in a list, and how a walk outward counts an edge at the clusters it leaves.
use Rattle.std.proofs.Common.{◌≡◌, ◌≢◌, ℕ, zero, suc, ◌+◌, ◌*◌, ◌<◌, ◌≤◌, Bool, cond, List, [], ◌∷◌, ◌++◌, length, set, slice_index, sym, refl, ap, ap₂, ◌∙◌, subst, ⊎_elim, arith, length-set, length-append}
use mathlib.Core.List.{reverse_aux}
use Rattle.std.specs.Prelude.{◌==◌, reverse}
use Rattle.std.proofs.lemmas.Bool.{cases_eq, cases_Bool, eq-eqb, ne_eqb, false≢true}
use Rattle.std.proofs.lemmas.List.{get_or-set_same, get_or-set_other}
use Rattle.cp_lists.specs.Count.{count, Exactly}
use Rattle.cp_lists.proofs.ExactLists.{EachOnce, place_of}
use Rattle.cp_cgraph.specs.Clustered.{Clustered, IsClustered, edges, clusters, source, target, home, parent}
use Rattle.cp_cgraph.specs.Crossings.{leaves, crossings}
use Rattle.cp_cgraph.proofs.Crossing.{IsBetween, IsBetween-start, IsBetween-left, IsBetween-entered, IsBetween-end, crossings-Exactly}

-- how often c stands in a list
abbrev pub occurs : ℕ → List ℕ → ℕ
occurs c [] = 0
occurs c (x ∷ xs) = cond (x == c) 1 0 + occurs c xs

-- a number occurs in two lists together as often as in both
occurs-append : (c : ℕ) (xs ys : List ℕ) → occurs c (xs ++ ys) ≡ occurs c xs + occurs c ys
occurs-append c [] ys = omega arith
occurs-append c (x ∷ xs) ys = let rest : occurs c (xs ++ ys) ≡ occurs c xs + occurs c ys =
    occurs-append c xs ys in omega arith

-- a number occurs in a list reversed onto another as often as in both
occurs-reverse_onto : (c : ℕ) (xs ys : List ℕ) → occurs c (reverse_aux xs ys) ≡ occurs c xs + occurs c ys
occurs-reverse_onto c [] ys = omega arith
occurs-reverse_onto c (x ∷ xs) ys = let rest : occurs c (reverse_aux xs (x ∷ ys)) ≡ occurs c xs + occurs c (x ∷ ys) =
    occurs-reverse_onto c xs (x ∷ ys) in omega arith

-- a number occurs in a reversed list as often as in the list
occurs-reverse : (c : ℕ) (xs : List ℕ) → occurs c (reverse xs) ≡ occurs c xs
occurs-reverse c xs = let h : occurs c (reverse_aux xs []) ≡ occurs c xs + occurs c [] =
    occurs-reverse_onto c xs [] in omega arith

-- what is no item stands there never
occurs_none : (c : ℕ) (xs : List ℕ) → ((i : ℕ) → i < length xs → slice_index xs i ≢ c) → occurs c xs ≡ 0
occurs_none c [] none = refl
occurs_none c (x ∷ xs) none =
    let rest : occurs c xs ≡ 0 = occurs_none c xs (λ i lt. none (suc i) (omega arith)) in
    rw (ne_eqb x c (none 0 (omega arith))) (omega (arith, rest))

-- and an item of a list of distinct items once
occurs_once : (c : ℕ) (xs : List ℕ) (i : ℕ) → EachOnce xs → i < length xs → slice_index xs i ≡ c → occurs c xs ≡ 1
occurs_once c [] i once lt e = absurd (omega arith)
occurs_once c (x ∷ xs) zero once lt e =
    let rest : occurs c xs ≡ 0 =
    occurs_none c xs (λ j ltj f. let same : 0 ≡ suc j =
    once 0 (suc j) (omega arith) (omega arith) (e ∙ sym f) in omega arith) in
    rw (eq-eqb x c e) (omega (arith, rest))
occurs_once c (x ∷ xs) (suc i) once lt e =
    let other : x ≢ c = λ f. let same : 0 ≡ suc i = once 0 (suc i) (omega arith) lt (f ∙ sym e) in omega arith in
    let rest : occurs c xs ≡ 1 =
    occurs_once c xs i (λ j k ltj ltk f. let same : suc j ≡ suc k =
    once (suc j) (suc k) (omega arith) (omega arith) f in omega arith) (omega arith) e in
    rw (ne_eqb x c other) (omega (arith, rest))

-- an exact list has what passes once, and what fails never
occurs_exact : (n : ℕ) (p : ℕ → Bool) (xs : List ℕ) (c : ℕ) → Exactly n p xs → c < n → occurs c xs ≡ cond (p c) 1 0
occurs_exact n p xs c ex lt =
    ⊎_elim
    (λ t. let at = place_of xs c (ex.all c lt t) in occurs_once c xs at.0 ex.each_once at.1 at.2
    ∙ ap (λ (b : Bool). cond b 1 0) (sym t))
    (λ f. occurs_none c xs (λ i within e. false≢true (sym f ∙ ap p (sym e) ∙ (ex.each_passes i within).1))
    ∙ ap (λ (b : Bool). cond b 1 0) (sym f))
    (cases_Bool (p c))

-- a number occurs in a list at most as often as it has items
occurs-le : (c : ℕ) (xs : List ℕ) → occurs c xs ≤ length xs
occurs-le c [] = omega arith
occurs-le c (x ∷ xs) =
    let rest : occurs c xs ≤ length xs = occurs-le c xs in
    ⊎_elim (λ e. rw (eq-eqb x c e) (omega arith)) (λ ne. rw (ne_eqb x c ne) (omega arith)) (cases_eq x c)

-- one item more
occurs_more : (c x : ℕ) (xs : List ℕ) → occurs c (xs ++ x ∷ []) ≡ occurs c xs + cond (x == c) 1 0
occurs_more c x xs = let h : occurs c (xs ++ x ∷ []) ≡ occurs c xs + occurs c (x ∷ []) =
    occurs-append c xs (x ∷ []) in omega arith

-- counts that have risen by one for each cluster that the walks outward from the ends of edge e have left
pub record HasRisen (g : Clustered) (e outer inner : ℕ) (before counts : List ℕ) : Type 0 where
  -- the clusters that were left so far
  pub left : List ℕ
  -- the clusters that were entered so far
  pub entered : List ℕ
  -- they are those between the homes and the two clusters that are reached
  pub between : IsBetween g e outer inner left entered
  -- the numbers of the two clusters fall with each step
  pub fallen : length left + length entered + outer + inner ≤ home g (source g e) + home g (target g e)
  -- the table keeps its length
  pub size : length counts ≡ length before
  -- each count has risen by the places of its cluster
  pub risen : (c : ℕ) → slice_index counts c ≡ slice_index before c + (occurs c left + occurs c entered)

-- nothing has risen at the start
HasRisen-start : (g : Clustered) (e : ℕ) (before : List ℕ) → IsClustered g → e < edges g →
    HasRisen g e (home g (source g e)) (home g (target g e)) before before
HasRisen-start g e before is lt = record {
  left = [];
  entered = [];
  between = IsBetween-start g e (is.home_is_cluster (source g e) (is.source_is_node e lt))
      (is.home_is_cluster (target g e) (is.target_is_node e lt));
  fallen = omega arith;
  size = refl;
  risen = λ c. omega arith;
}

-- the same, where the two homes go by other names
pub HasRisen-begin : (g : Clustered) (e outer inner : ℕ) (before : List ℕ) → IsClustered g → e < edges g →
    outer ≡ home g (source g e) → inner ≡ home g (target g e) → HasRisen g e outer inner before before
HasRisen-begin g e outer inner before is lt out into =
    subst (λ n. HasRisen g e n inner before before) (sym out)
    (subst (λ n. HasRisen g e (home g (source g e)) n before before) (sym into) (HasRisen-start g e before is lt))

-- one count more
pub one_more : (counts : List ℕ) (a c : ℕ) → a < length counts →
    slice_index (set counts a (slice_index counts a + 1)) c ≡ slice_index counts c + cond (a == c) 1 0
one_more counts a c lt =
    ⊎_elim
    (λ e. ap (slice_index (set counts a (slice_index counts a + 1))) (sym e)
    ∙ get_or-set_same counts a (slice_index counts a + 1) 0 lt
    ∙ ap₂ (λ (n : ℕ) (b : Bool). slice_index counts n + cond b 1 0) e (sym (eq-eqb a c e)))
    (λ ne. get_or-set_other counts a c (slice_index counts a + 1) 0 (λ f. ne (sym f))
    ∙ (let h : slice_index counts c ≡ slice_index counts c + 0 = omega arith in h)
    ∙ ap (λ (b : Bool). slice_index counts c + cond b 1 0) (sym (ne_eqb a c ne)))
    (cases_eq a c)

-- the walk that stands at the higher number counts there, and goes on
pub HasRisen-left : (g : Clustered) → IsClustered g → (e outer inner : ℕ) (before counts : List ℕ) →
    HasRisen g e outer inner before counts → inner < outer → clusters g ≤ length before →
    HasRisen g e (parent g outer) inner before (set counts outer (slice_index counts outer + 1))
HasRisen-left g is e outer inner before counts so lt room =
    let lower : parent g outer < outer = is.inside_a_lower outer (omega arith) so.between.outer_cluster in
    record {
      left = so.left ++ outer ∷ [];
      entered = so.entered;
      between = IsBetween-left g is e outer inner so.left so.entered so.between lt;
      fallen = omega (arith, so.fallen, length-append so.left (outer ∷ []));
      size = length-set counts outer (slice_index counts outer + 1) ∙ so.size;
      risen = λ c. omega (
        arith,
        one_more counts outer c (omega (arith, so.size, so.between.outer_cluster)),
        so.risen c,
        occurs_more c outer so.left,
      );
    }

-- the count rises at a cluster that the edge enters
pub HasRisen-entered : (g : Clustered) → IsClustered g → (e outer inner : ℕ) (before counts : List ℕ) →
    HasRisen g e outer inner before counts → outer < inner → clusters g ≤ length before →
    HasRisen g e outer (parent g inner) before (set counts inner (slice_index counts inner + 1))
HasRisen-entered g is e outer inner before counts so lt room =
    let lower : parent g inner < inner = is.inside_a_lower inner (omega arith) so.between.inner_cluster in
    record {
      left = so.left;
      entered = so.entered ++ inner ∷ [];
      between = IsBetween-entered g is e outer inner so.left so.entered so.between lt;
      fallen = omega (arith, so.fallen, length-append so.entered (inner ∷ []));
      size = length-set counts inner (slice_index counts inner + 1) ∙ so.size;
      risen = λ c. omega (
        arith,
        one_more counts inner c (omega (arith, so.size, so.between.inner_cluster)),
        so.risen c,
        occurs_more c inner so.entered,
      );
    }

-- no count has risen far
pub HasRisen-le : (g : Clustered) → IsClustered g → (e outer inner c : ℕ) (before counts : List ℕ) → e < edges g →
    HasRisen g e outer inner before counts → slice_index before c ≤ e → slice_index counts c ≤ e + 2 * clusters g
HasRisen-le g is e outer inner c before counts lt so few =
    let s : home g (source g e) < clusters g = is.home_is_cluster (source g e) (is.source_is_node e lt) in
    let t : home g (target g e) < clusters g = is.home_is_cluster (target g e) (is.target_is_node e lt) in
    omega (arith, so.risen c, so.fallen, occurs-le c so.left, occurs-le c so.entered)

-- where the walks meet, the edge is counted at each cluster that it leaves
pub HasRisen-end : (g : Clustered) → IsClustered g → (e outer inner : ℕ) (before counts : List ℕ) → e < edges g →
    HasRisen g e outer inner before counts → outer ≡ inner → (c : ℕ) → c < clusters g →
    slice_index before c ≡ count e (leaves g c) → slice_index counts c ≡ count (e + 1) (leaves g c)
HasRisen-end g is e outer inner before counts lt so met c within counted =
    let whole : so.left ++ reverse so.entered ≡ crossings g e =
    IsBetween-end g is e outer inner so.left so.entered so.between met in
    let here : occurs c so.left + occurs c so.entered ≡ cond (leaves g c e) 1 0 =
    ap (λ (n : ℕ). occurs c so.left + n) (sym (occurs-reverse c so.entered))
    ∙ sym (occurs-append c so.left (reverse so.entered)) ∙ ap (occurs c) whole
    ∙ occurs_exact (clusters g) (λ b. leaves g b e) (crossings g e) c (crossings-Exactly g is e lt) within in
    let next : count (suc e) (leaves g c) ≡ count (e + 1) (leaves g c) =
    ap (λ (n : ℕ). count n (leaves g c)) (let h : suc e ≡ e + 1 = omega arith in h) in
    omega (arith, so.risen c, here, counted, next)
