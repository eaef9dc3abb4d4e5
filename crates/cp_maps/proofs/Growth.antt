-- Lists that grow from one as far as it goes: its component.
use Rattle.std.proofs.Common.{◌≡◌, ℕ, ◌<◌, true, false, ◌||◌, List, [], ◌∷◌, ◌++◌, append_assoc, sym, refl, ap, ◌∙◌, subst, inl, inr, ⊎_elim, suc, ◌+◌, ◌*◌, Bool, arith, zero, ◌⊎◌, length, length-append, ap₂}
use Rattle.std.proofs.lemmas.Bool.{false≢true, or_left, or_right, cases_Bool}
use Rattle.std.proofs.lemmas.List.{append-nil}
use Rattle.cp_lists.specs.CyclicLists.{Distinct, Has, Lacks}
use Rattle.cp_lists.specs.Rows.{flat}
use Rattle.cp_lists.proofs.DistinctLists.{Distinct-apart_right, Has-append_cases, Has-append_left, Has-append_right, has_cases}
use Rattle.cp_lists.proofs.FlatLists.{flat-append}
use Rattle.cp_orbits.specs.Orbits.{Permutes}
use Rattle.cp_faces.specs.Twins.{twin}
use Rattle.cp_faces.proofs.Twins.{twin-twin}
use Rattle.cp_maps.specs.Genus.{Evenly, OnePart}
use Rattle.cp_maps.specs.Gluings.{Grown, Grows}
use Rattle.cp_maps.specs.Maps.{IsMapOf, Rings, has}
use Rattle.cp_maps.proofs.Edges.{twin-OnePart}
use Rattle.cp_maps.proofs.ListFacts.{below_item, has_no, has_yes}
use Rattle.cp_maps.proofs.MapLists.{IsMapOf-Permutes, IsMapOf-among, IsMapOf-front}
use Rattle.cp_maps.proofs.Parts.{Evenly-two_parts, Ring-OnePart}
use Rattle.cp_maps.proofs.Rings.{Rings-append_left}

-- a dart of the list whose twin is in all, if there is one
twin_in : (all ys : List ℕ) → ((x : ℕ) × Has x all × Has (twin x) ys) ⊎ ((d : ℕ) → Has d ys → Lacks (twin d) all)
twin_in all [] = inr (λ d h. absurd h)
twin_in all (y ∷ ys) = ⊎_elim
    (λ h. inl (twin y, h, inl (sym (twin-twin y))))
    (λ l. ⊎_elim
    (λ w. inl (w.0, w.1, inr w.2))
    (λ none. inr (λ d h. ⊎_elim (λ e. subst (λ z. Lacks (twin z) all) e l) (λ k. none d k) h))
    (twin_in all ys))
    (has_cases (twin y) all)

-- a list of the group with such a dart, if there is one
list_in : (all : List ℕ) (group : List (List ℕ))
    → ((before : List (List ℕ)) × (ys : List ℕ) × (behind : List (List ℕ)) × (group ≡ before ++ ys ∷ behind) × (x : ℕ)
    × Has x all × Has (twin x) ys) ⊎ ((d : ℕ) → Has d (flat group) → Lacks (twin d) all)
list_in all [] = inr (λ d h. absurd h)
list_in all (ys ∷ group) = ⊎_elim
    (λ w. inl ([], ys, group, refl, w.0, w.1, w.2))
    (λ none. ⊎_elim
    (λ w. inl (ys ∷ w.0, w.1, w.2, ap (λ zs. ys ∷ zs) w.3, w.4, w.5, w.6))
    (λ others. inr (λ d h. ⊎_elim (none d) (others d) (Has-append_cases d ys (flat group) h)))
    (list_in all group))
    (twin_in all ys)

-- an item of a list among others, or of the others
pub middle_cases : (d : ℕ) (before : List (List ℕ)) (ys : List ℕ) (behind : List (List ℕ))
    → Has d (flat (before ++ ys ∷ behind)) → Has d ys ⊎ Has d (flat (before ++ behind))
middle_cases d before ys behind h = ⊎_elim
    (λ k. inr (subst (Has d) (sym (flat-append before behind)) (Has-append_left d (flat before) (flat behind) k)))
    (λ k. ⊎_elim (λ q. inl q) (λ q. inr
    (subst (Has d) (sym (flat-append before behind)) (Has-append_right d (flat before) (flat behind) q)))
    (Has-append_cases d ys (flat behind) k))
    (Has-append_cases d (flat before) (ys ++ flat behind) (subst (Has d) (flat-append before (ys ∷ behind)) h))

-- an item of a list among others, or of the others, is one of all of them
pub middle_item : (d : ℕ) (before : List (List ℕ)) (ys : List ℕ) (behind : List (List ℕ))
    → Has d ys ⊎ Has d (flat (before ++ behind)) → Has d (flat (before ++ ys ∷ behind))
middle_item d before ys behind h = subst (Has d) (sym (flat-append before (ys ∷ behind))) (⊎_elim
    (λ k. Has-append_right d (flat before) (ys ++ flat behind) (Has-append_left d ys (flat behind) k))
    (λ k. ⊎_elim
    (λ q. Has-append_left d (flat before) (ys ++ flat behind) q)
    (λ q. Has-append_right d (flat before) (ys ++ flat behind) (Has-append_right d ys (flat behind) q))
    (Has-append_cases d (flat before) (flat behind) (subst (Has d) (flat-append before behind) k)))
    h)

-- of some lists those that grow from one as far as it goes can be taken
pub grown : (n : ℕ) (zs : List ℕ) (group : List (List ℕ)) → length group < n → Grown zs group
grown zero zs group lt = absurd (omega arith)
grown (suc n) zs group lt = ⊎_elim
    (λ w.
    let before : List (List ℕ) = w.0 in
    let ys : List ℕ = w.1 in
    let behind : List (List ℕ) = w.2 in
    let size : length group ≡ length before + suc (length behind) = ap length w.3
    ∙ length-append before (ys ∷ behind) in
    let less : length (before ++ behind) < n = omega (arith, size, length-append before behind, lt) in
    let rest : Grown (zs ++ ys) (before ++ behind) = grown n (zs ++ ys) (before ++ behind) less in
    record {
      taken = ys ∷ rest.taken;
      left = rest.left;
      grows = ((w.4, w.5, w.6), rest.grows);
      closed = λ d h. subst (Lacks (twin d)) (append_assoc zs ys (flat rest.taken)) (rest.closed d h);
      taken_item =
          λ d h. subst (λ g. Has d (flat g)) (sym w.3)
          (middle_item d before ys behind
          (⊎_elim (λ k. inl k) (λ k. inr (rest.taken_item d k)) (Has-append_cases d ys (flat rest.taken) h)));
      left_item =
          λ d h. subst (λ g. Has d (flat g)) (sym w.3) (middle_item d before ys behind (inr (rest.left_item d h)));
      each = λ d h. ⊎_elim
          (λ k. inl (Has-append_left d ys (flat rest.taken) k))
          (λ k. ⊎_elim (λ q. inl (Has-append_right d ys (flat rest.taken) q)) (λ q. inr q) (rest.each d k))
          (middle_cases d before ys behind (subst (λ g. Has d (flat g)) w.3 h));
      order = λ k f first is.
          let start : IsMapOf k f ((first ++ before) ++ ys ∷ behind) =
          subst (IsMapOf k f) (sym (append_assoc first before (ys ∷ behind)))
          (subst (λ g. IsMapOf k f (first ++ g)) w.3 is) in
          let front : IsMapOf k f (ys ∷ (first ++ (before ++ behind))) =
          subst (λ g. IsMapOf k f (ys ∷ g)) (append_assoc first before behind)
          (IsMapOf-front k f ys (first ++ before) behind start) in
          let among : IsMapOf k f ((first ++ ys ∷ []) ++ (before ++ behind)) =
          subst (IsMapOf k f) (sym (append_assoc first (ys ∷ []) (before ++ behind)))
          (IsMapOf-among k f ys first (before ++ behind) front) in
          subst (IsMapOf k f) (append_assoc first (ys ∷ []) (rest.taken ++ rest.left))
          (rest.order k f (first ++ ys ∷ []) among);
    })
    (λ none. record {
      taken = [];
      left = group;
      grows = tt;
      closed = λ d h. subst (Lacks (twin d)) (sym (append-nil zs)) (none d h);
      taken_item = λ d h. absurd h;
      left_item = λ d h. h;
      each = λ d h. inr h;
      order = λ k f first is. is;
    })
    (list_in zs group)

-- a test with one value on all items has one on each list
pub Evenly-same : (p : ℕ → Bool) (b : Bool) (rows : List (List ℕ)) → ((d : ℕ) → Has d (flat rows) → p d ≡ b)
    → Evenly p rows
Evenly-same p b [] same = tt
Evenly-same p b (xs ∷ rows) same = (
  (λ c d hc hd. same c (Has-append_left c xs (flat rows) hc) ∙ sym (same d (Has-append_left d xs (flat rows) hd))),
  Evenly-same p b rows (λ d h. same d (Has-append_right d xs (flat rows) h)),
)

-- a test with one value on each of some lists and on each of others has one on each of both
pub Evenly-append : (p : ℕ → Bool) (rows others : List (List ℕ)) → Evenly p rows → Evenly p others
    → Evenly p (rows ++ others)
Evenly-append p [] others one two = two
Evenly-append p (xs ∷ rows) others one two = (one.0, Evenly-append p rows others one.1 two)

-- a test with one value on each of both has one on each of the first lists
pub Evenly-append_left : (p : ℕ → Bool) (rows others : List (List ℕ)) → Evenly p (rows ++ others) → Evenly p rows
Evenly-append_left p [] others even = tt
Evenly-append_left p (xs ∷ rows) others even = (even.0, Evenly-append_left p rows others even.1)

-- a test with one value on each of both has one on each of the others
pub Evenly-append_right : (p : ℕ → Bool) (rows others : List (List ℕ)) → Evenly p (rows ++ others) → Evenly p others
Evenly-append_right p [] others even = even
Evenly-append_right p (xs ∷ rows) others even = Evenly-append_right p rows others even.1

-- the darts of lists that grow from one are of its component
grown-OnePart : (e : ℕ) (g : ℕ → ℕ) → Permutes (2 * e) g → (x : ℕ) (all : List ℕ) (group : List (List ℕ))
    → ((d : ℕ) → Has d all → (d < 2 * e) × OnePart e g x d) → Rings g group
    → ((d : ℕ) → Has d (flat group) → d < 2 * e) → Grows all group → (d : ℕ) → Has d (all ++ flat group)
    → OnePart e g x d
grown-OnePart e g perm x all [] old rings below grows d h = (old d (subst (Has d) (append-nil all) h)).1
grown-OnePart e g perm x all (ys ∷ group) old rings below grows d h = grown-OnePart e g perm x (all ++ ys) group
    (λ c hc. ⊎_elim
    (λ k. old c k)
    (λ k. let w = grows.0 in let o = old w.0 w.1 in (
      below c (Has-append_left c ys (flat group) k),
      o.1 ∙ sym (twin-OnePart e g perm w.0 o.0)
          ∙ Ring-OnePart e g perm ys rings.0 (λ z l. below z (Has-append_left z ys (flat group) l)) (twin w.0) c w.2 k,
    ))
    (Has-append_cases c all ys hc))
    rings.1 (λ c k. below c (Has-append_right c ys (flat group) k)) grows.1 d
    (subst (Has d) (sym (append_assoc all ys (flat group))) h)

-- a map with lists that have grown from one as far as it goes
module _ (e : ℕ) (g : ℕ → ℕ) (zs : List ℕ) (taken left : List (List ℕ))
    (is : IsMapOf (2 * e) g (zs ∷ (taken ++ left))) (grows : Grows zs taken)
    (closed : (d : ℕ) → Has d (flat left) → Lacks (twin d) (zs ++ flat taken)) where
  -- the darts of the component
  abbrev inner : List ℕ
  inner = zs ++ flat taken

  -- a dart of it, or one whose twin is
  abbrev near : ℕ → Bool
  near d = has d inner || has (twin d) inner

  -- all items
  regroup : zs ++ flat (taken ++ left) ≡ inner ++ flat left
  regroup = ap (λ us. zs ++ us) (flat-append taken left) ∙ sym (append_assoc zs (flat taken) (flat left))

  -- they are distinct
  once : Distinct (inner ++ flat left)
  once = subst Distinct regroup is.once

  -- a dart of the component passes
  near_in : (d : ℕ) → Has d inner → near d ≡ true
  near_in d h = or_left (has d inner) (has (twin d) inner) (has_yes d inner h)

  -- a dart that is left does not
  near_left : (d : ℕ) → Has d (flat left) → near d ≡ false
  near_left d h =
      ap₂ (λ a b. a || b) (has_no d inner (Distinct-apart_right d inner (flat left) once h))
      (has_no (twin d) inner (closed d h))

  -- the test has one value on each list
  near_even : Evenly near (zs ∷ (taken ++ left))
  near_even = (
    (λ c d hc hd. near_in c (Has-append_left c zs (flat taken) hc)
        ∙ sym (near_in d (Has-append_left d zs (flat taken) hd))),
    Evenly-append near taken left
        (Evenly-same near true taken (λ d h. near_in d (Has-append_right d zs (flat taken) h)))
        (Evenly-same near false left near_left),
  )

  -- and on twins
  near_twins : (d : ℕ) → d < 2 * e → near d ≡ near (twin d)
  near_twins d lt = ⊎_elim
      (λ t. or_left (has d inner) (has (twin d) inner) t
      ∙ sym (or_right (has (twin d) inner) (has (twin (twin d)) inner) (ap (λ y. has y inner) (twin-twin d) ∙ t)))
      (λ u. ⊎_elim
      (λ t. or_right (has d inner) (has (twin d) inner) t
      ∙ sym (or_left (has (twin d) inner) (has (twin (twin d)) inner) t))
      (λ v. ap₂ (λ a b. a || b) u v ∙ sym (ap₂ (λ a b. a || b) v (ap (λ y. has y inner) (twin-twin d) ∙ u)))
      (cases_Bool (has (twin d) inner)))
      (cases_Bool (has d inner))

  -- an item of a component that has one of the darts is one of them
  pub OnePart-grown : (x y : ℕ) → Has x inner → Has y (zs ++ flat (taken ++ left)) → OnePart e g x y → Has y inner
  OnePart-grown x y hx hy one = ⊎_elim
      (λ k. k)
      (λ k. absurd (Evenly-two_parts e g (zs ∷ (taken ++ left)) near x y is near_even near_twins
      (λ s. false≢true (sym (near_left y k) ∙ sym s ∙ near_in x hx)) one))
      (Has-append_cases y inner (flat left) (subst (Has y) regroup hy))

  -- a dart of the first list and one of those that have grown from it are of one component
  pub grown_two-OnePart : (x y : ℕ) → Has x zs → Has y inner → OnePart e g x y
  grown_two-OnePart x y hx hy =
      let perm : Permutes (2 * e) g = IsMapOf-Permutes (2 * e) g (zs ∷ (taken ++ left)) is in
      let below : (d : ℕ) → Has d (inner ++ flat left)
      → d < 2 * e = λ d h. below_item (2 * e) d (zs ++ flat (taken ++ left)) is.below (subst (Has d) (sym regroup) h) in
      let first : (d : ℕ) → Has d zs
      → d < 2 * e = λ d h. below d (Has-append_left d inner (flat left) (Has-append_left d zs (flat taken) h)) in
      grown-OnePart e g perm x zs taken (λ d h. (first d h, Ring-OnePart e g perm zs is.rings.0 first x d hx h))
      (Rings-append_left g taken left is.rings.1)
      (λ d h. below d (Has-append_left d inner (flat left) (Has-append_right d zs (flat taken) h))) grows y hy
