-- Components of a map whose lists have names, by connection of names along edges.
use Rattle.std.proofs.Common.{◌≡◌, ℕ, ◌<◌, List, [], ◌∷◌, sym, refl, ap, ◌∙◌, subst, inl, inr, ⊎_elim, suc, ◌*◌, arith, map, ◌%◌, cond}
use Rattle.std.proofs.lemmas.Bool.{cond-true, cond-false}
use Rattle.std.specs.List.{Contains}
use Rattle.cp_lists.specs.CyclicLists.{Distinct, Has, Lacks, but}
use Rattle.cp_lists.specs.Rows.{flat}
use Rattle.cp_lists.proofs.CyclicLists.{follow-Has}
use Rattle.cp_lists.proofs.DistinctLists.{Has-append_cases, Has-append_left, has_cases}
use Rattle.cp_orbits.specs.Classes.{labels}
use Rattle.cp_orbits.specs.Connected.{Connected, here, step}
use Rattle.cp_orbits.specs.Orbits.{Permutes}
use Rattle.cp_orbits.proofs.ClassLabels.{connected_labels, labels_connected, same_labels}
use Rattle.cp_orbits.proofs.OrbitLaws.{Respects-graph}
use Rattle.cp_faces.specs.Twins.{twin}
use Rattle.cp_faces.proofs.Twins.{twin-twin, twin_even}
use Rattle.cp_maps.specs.Genus.{OnePart, linked}
use Rattle.cp_maps.specs.Maps.{IsMapOf, Ring, Rings, has}
use Rattle.cp_maps.proofs.Edges.{twin-OnePart}
use Rattle.cp_maps.proofs.FlatMaps.{linked-from}
use Rattle.cp_maps.proofs.ListFacts.{below_item, has_no, has_yes}
use Rattle.cp_maps.proofs.MapLists.{IsMapOf-Permutes}
use Rattle.cp_maps.proofs.NamedLists.{named_front, named_item}
use Rattle.cp_maps.proofs.Parts.{Ring-OnePart}
use Rattle.cp_maps.proofs.Rings.{rings_stay}

-- a map whose lists have names, and pairs of names
module _ (e : ℕ) (f : ℕ → ℕ) (lists : ℕ → List ℕ) (names : List ℕ) (es : List (ℕ × ℕ))
    (is : IsMapOf (2 * e) f (map lists names)) (once : Distinct names) where
  -- it is a permutation
  perm : Permutes (2 * e) f
  perm = IsMapOf-Permutes (2 * e) f (map lists names) is

  -- the list of a name is a ring of darts
  named_ring : (u : ℕ) → Has u names → Ring f (lists u) × ((d : ℕ) → Has d (lists u) → d < 2 * e)
  named_ring u h =
      let front : IsMapOf (2 * e) f (lists u ∷ map lists (but u names)) =
      named_front (2 * e) f lists u names once h is in (
        front.rings.0,
        λ d k. below_item (2 * e) d (flat (lists u ∷ map lists (but u names))) front.below
            (Has-append_left d (lists u) (flat (map lists (but u names))) k),
      )

  -- two darts of one name are of one component
  pub one_name-OnePart : (u c d : ℕ) → Has u names → Has c (lists u) → Has d (lists u) → OnePart e f c d
  one_name-OnePart u c d h hc hd = let r = named_ring u h in Ring-OnePart e f perm (lists u) r.0 r.1 c d hc hd

  -- where each pair is an edge, darts of connected names are of one component
  pub Connected-OnePart : ((p : ℕ × ℕ) → Contains es p
      → (x : ℕ) × Has p.0 names × Has p.1 names × Has x (lists p.0) × Has (twin x) (lists p.1)) → (u v : ℕ)
      → Connected es u v → (c d : ℕ) → Has u names → Has c (lists u) → Has d (lists v) → OnePart e f c d
  Connected-OnePart edge u v here c d h hc hd = one_name-OnePart u c d h hc hd
  Connected-OnePart edge u v (step {y = y} q p cont joins) c d h hc hd =
      let x = edge p cont in
      let lt : x.0 < 2 * e = (named_ring p.0 x.1).1 x.0 x.3 in
      ⊎_elim
      (λ j. Connected-OnePart edge u y q c x.0 h hc (subst (λ w. Has x.0 (lists w)) j.0 x.3)
      ∙ sym (twin-OnePart e f perm x.0 lt)
      ∙ one_name-OnePart v (twin x.0) d (subst (λ w. Has w names) j.1 x.2)
      (subst (λ w. Has (twin x.0) (lists w)) j.1 x.4) hd)
      (λ j. Connected-OnePart edge u y q c (twin x.0) h hc (subst (λ w. Has (twin x.0) (lists w)) j.1 x.4)
      ∙ twin-OnePart e f perm x.0 lt
      ∙ one_name-OnePart v x.0 d (subst (λ w. Has w names) j.0 x.1) (subst (λ w. Has x.0 (lists w)) j.0 x.3) hd)
      joins

  -- the name of each dart, and edges whose ends are connected
  module _ (at : ℕ → ℕ) (placed : (u d : ℕ) → Has u names → Has d (lists u) → at d ≡ u)
      (joined : (d : ℕ) → Has d (flat (map lists names)) → Has (twin d) (flat (map lists names))
      → Connected es (at d) (at (twin d))) where
    -- the items of all lists
    abbrev all : List ℕ
    all = flat (map lists names)

    -- the class of a dart: that of its name, for a dart in no list that of its twin, and one for all loose edges
    abbrev class : ℕ → ℕ
    class d = cond (has d all) (suc (labels es (at d))) (cond (has (twin d) all) (suc (labels es (at (twin d)))) 0)

    -- of a dart in a list
    class_in : (d : ℕ) → Has d all → class d ≡ suc (labels es (at d))
    class_in d h =
        cond-true (has d all) (suc (labels es (at d))) (cond (has (twin d) all) (suc (labels es (at (twin d)))) 0)
        (has_yes d all h)

    -- of a dart in none
    class_out : (d : ℕ) → Lacks d all → class d ≡ cond (has (twin d) all) (suc (labels es (at (twin d)))) 0
    class_out d l =
        cond-false (has d all) (suc (labels es (at d))) (cond (has (twin d) all) (suc (labels es (at (twin d)))) 0)
        (has_no d all l)

    -- it is one for twins
    class_twin : (d : ℕ) → class d ≡ class (twin d)
    class_twin d = ⊎_elim
        (λ h. ⊎_elim
        (λ k. class_in d h ∙ ap suc (labels_connected es (at d) (at (twin d)) (joined d h k))
        ∙ sym (class_in (twin d) k))
        (λ l. class_in d h ∙ sym (class_out (twin d) l
        ∙ ap (λ y. cond (has y all) (suc (labels es (at y))) 0) (twin-twin d)
        ∙ cond-true (has d all) (suc (labels es (at d))) 0 (has_yes d all h)))
        (has_cases (twin d) all))
        (λ m. ⊎_elim
        (λ k. class_out d m ∙ cond-true (has (twin d) all) (suc (labels es (at (twin d)))) 0 (has_yes (twin d) all k)
        ∙ sym (class_in (twin d) k))
        (λ l. class_out d m ∙ cond-false (has (twin d) all) (suc (labels es (at (twin d)))) 0 (has_no (twin d) all l)
        ∙ sym (class_out (twin d) l ∙ ap (λ y. cond (has y all) (suc (labels es (at y))) 0) (twin-twin d)
        ∙ cond-false (has d all) (suc (labels es (at d))) 0 (has_no d all m)))
        (has_cases (twin d) all))
        (has_cases d all)

    -- darts that follow each other have one name
    at_kept : (us : List ℕ) → ((u : ℕ) → Has u us → Has u names) → Rings f (map lists us) → (d : ℕ)
        → Has d (flat (map lists us)) → at (f d) ≡ at d
    at_kept [] sub rings d h = absurd h
    at_kept (u ∷ us) sub rings d h = ⊎_elim
        (λ k. placed u (f d) (sub u (inl refl))
        (subst (λ y. Has y (lists u)) (sym (rings.0.along d k)) (follow-Has d (lists u) k))
        ∙ sym (placed u d (sub u (inl refl)) k))
        (λ k. at_kept us (λ w hw. sub w (inr hw)) rings.1 d k)
        (Has-append_cases d (lists u) (flat (map lists us)) h)

    -- and one class
    class_kept : (d : ℕ) → d < 2 * e → class d ≡ class (f d)
    class_kept d lt = ⊎_elim
        (λ h. class_in d h ∙ ap (λ y. suc (labels es y)) (sym (at_kept names (λ u k. k) is.rings d h))
        ∙ sym (class_in (f d) (rings_stay f (map lists names) d is.rings h)))
        (λ l. ap class (sym (is.loose d lt l)))
        (has_cases d all)

    -- darts of one component have connected names
    pub OnePart-Connected_names : (u v c d : ℕ) → Has u names → Has v names → Has c (lists u) → Has d (lists v)
        → OnePart e f c d → Connected es u v
    OnePart-Connected_names u v c d hu hv hc hd one =
        let inside : (w x : ℕ) → Has w names → Has x (lists w)
        → Has x all = λ w x hw hx. named_item lists names w x hw hx in
        let same : class c ≡ class d =
        same_labels class (linked f (2 * e) e) c d
        (linked-from class f (2 * e) e (Respects-graph class f (2 * e) class_kept)
        (λ k lt. let even : 2 * k % 2 ≡ 0 = omega arith in class_twin (2 * k) ∙ ap class (twin_even (2 * k) even)))
        one in
        let labelled : suc (labels es (at c)) ≡ suc (labels es (at d)) = sym (class_in c (inside u c hu hc)) ∙ same
        ∙ class_in d (inside v d hv hd) in
        let equal : labels es (at c) ≡ labels es (at d) = omega (arith, labelled) in
        connected_labels es u v (ap (labels es) (sym (placed u c hu hc)) ∙ equal ∙ ap (labels es) (placed v d hv hd))
