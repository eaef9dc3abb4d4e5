-- Two vertices of a flat map that the rest joins dart by dart mirror each other.
use Rattle.std.proofs.Common.{◌≡◌, ℕ, ◌≢◌, eqb, List, [], ◌∷◌, ◌++◌, append_assoc, sym, refl, ap, ◌∙◌, subst, inl, inr, ⊎_elim, suc, ◌*◌, Bool, lt-suc_self, ◌⊎◌, length, map, ap₂, cond, reverse}
use Rattle.std.proofs.lemmas.Bool.{cases_eq, eq-eqb, ne_eqb, false≢true, cond-true, cond-false, cases_Bool}
use Rattle.std.proofs.lemmas.List.{append-nil}
use Rattle.std.specs.List.{filter}
use Rattle.cp_lists.specs.CyclicLists.{Distinct, Has, Lacks}
use Rattle.cp_lists.specs.Rows.{flat}
use Rattle.cp_lists.specs.Turns.{IsTurn}
use Rattle.cp_lists.proofs.DistinctLists.{Distinct-apart, Distinct-append_left, Distinct-append_right, Has-append_cases, Has-append_left, Has-append_right, Lacks-append, Lacks-append_left, Lacks-append_right, Lacks-from, has_lacks, has_other}
use Rattle.cp_lists.proofs.FilteredLists.{Has-filter, filter-Distinct, filter-Has}
use Rattle.cp_lists.proofs.FlatLists.{flat-append}
use Rattle.cp_lists.proofs.MappedLists.{Has-map_on, map_agree_on, map_on-Has}
use Rattle.cp_lists.proofs.TurnedLists.{Has-of_turn, turn-Distinct, turn-Has, turn-refl, turn-sym, turn-trans, turn_reverse_head, turn_to_item}
use Rattle.cp_faces.specs.Twins.{twin}
use Rattle.cp_faces.proofs.Twins.{twin-twin}
use Rattle.cp_maps.specs.Bonds.{AreBonded, Leads}
use Rattle.cp_maps.specs.Genus.{Becomes, CanBeFlat, IsFlat, OnePart}
use Rattle.cp_maps.specs.Gluings.{Grown, HoldsLeaving, in_place}
use Rattle.cp_maps.specs.Maps.{IsMapOf, has, next_by}
use Rattle.cp_maps.specs.Mirrors.{mirror}
use Rattle.cp_maps.proofs.CollapsedVertices.{collapsed-Becomes}
use Rattle.cp_maps.proofs.Dipoles.{flat_dipole-mirror}
use Rattle.cp_maps.proofs.FewerDarts.{first_lists-CanBeFlat, two_kept-CanBeFlat}
use Rattle.cp_maps.proofs.Genus.{SameGenus-IsFlat}
use Rattle.cp_maps.proofs.GluedVertices.{flat-split, in_place_other, lists_stay, maps_agree, rows_stay, straightened-Becomes}
use Rattle.cp_maps.proofs.Growth.{OnePart-grown, grown, grown_two-OnePart, middle_cases, middle_item}
use Rattle.cp_maps.proofs.ListFacts.{has_true, has_yes}
use Rattle.cp_maps.proofs.MapLists.{IsMapOf-among, IsMapOf-exchanged, IsMapOf-front, IsMapOf-some, IsMapOf-swap, IsMapOf-third, IsMapOf-turn}

-- the dart in place of d, where each dart of the list gives way to the twin of its partner
abbrev passed : (ℕ → ℕ) → List ℕ → ℕ → ℕ
passed along [] d = d
passed along (x ∷ todo) d = cond (eqb d x) (twin (along x)) (passed along todo d)

-- a dart that is not in the list stays
passed_other : (along : ℕ → ℕ) (todo : List ℕ) (d : ℕ) → Lacks d todo → passed along todo d ≡ d
passed_other along [] d l = refl
passed_other along (x ∷ todo) d l =
    cond-false (eqb d x) (twin (along x)) (passed along todo d) (ne_eqb d x (λ s. l.0 (sym s)))
    ∙ passed_other along todo d l.1

-- and one that is gives way
passed_in : (along : ℕ → ℕ) (todo : List ℕ) (d : ℕ) → Has d todo → passed along todo d ≡ twin (along d)
passed_in along [] d h = absurd h
passed_in along (x ∷ todo) d h = ⊎_elim
    (λ s. cond-true (eqb d x) (twin (along x)) (passed along todo d) (eq-eqb d x s) ∙ ap (λ y. twin (along y)) (sym s))
    (λ n. cond-false (eqb d x) (twin (along x)) (passed along todo d) (ne_eqb d x n)
    ∙ passed_in along todo d (⊎_elim (λ s. absurd (n (sym s))) (λ k. k) h))
    (cases_eq d x)

-- the part of the rest into which a dart of u leads, made one vertex, and the dart continued through it
module _ (e : ℕ) (h along : ℕ → ℕ) (us vs : List ℕ) (left handled : List (List ℕ)) (x : ℕ) (todo : List ℕ)
    (is_h : IsMapOf (2 * e) h (left ++ handled))
    (closed : (d : ℕ) → Has d (flat left) → Lacks (twin d) (flat handled))
    (leads : Leads e h along us vs left (x ∷ todo)) (fresh : Lacks x todo) (can : CanBeFlat e (us ∷ vs ∷ left)) where
  -- the list that has the twin of x
  at : (before : List (List ℕ)) × (ps : List ℕ) × (qs : List ℕ) × (behind : List (List ℕ))
      × (left ≡ before ++ (ps ++ twin x ∷ qs) ∷ behind)
  at = flat-split (twin x) left (leads.inside x (inl refl))

  -- it
  abbrev first : List ℕ
  first = at.1 ++ twin x ∷ at.2

  -- it has the twin of x
  first_x : Has (twin x) first
  first_x = Has-append_right (twin x) at.1 (twin x ∷ at.2) (inl refl)

  -- the others
  abbrev rest : List (List ℕ)
  rest = at.0 ++ at.3

  -- what grows from it
  grow : Grown first rest
  grow = grown (suc (length rest)) first rest (lt-suc_self (length rest))

  -- its part
  abbrev inner : List ℕ
  inner = first ++ flat grow.taken

  -- a dart of the part was left
  inner_left : (d : ℕ) → Has d inner → Has d (flat left)
  inner_left d k =
      subst (λ g. Has d (flat g)) (sym at.4)
      (middle_item d at.0 first at.3
      (⊎_elim (λ q. inl q) (λ q. inr (grow.taken_item d q)) (Has-append_cases d first (flat grow.taken) k)))

  -- a dart that stays left was left
  still_left : (d : ℕ) → Has d (flat grow.left) → Has d (flat left)
  still_left d k = subst (λ g. Has d (flat g)) (sym at.4) (middle_item d at.0 first at.3 (inr (grow.left_item d k)))

  -- a dart that was left is of the part, or stays left
  left_cases : (d : ℕ) → Has d (flat left) → Has d inner ⊎ Has d (flat grow.left)
  left_cases d k = ⊎_elim
      (λ q. inl (Has-append_left d first (flat grow.taken) q))
      (λ q. ⊎_elim (λ r. inl (Has-append_right d first (flat grow.taken) r)) (λ r. inr r) (grow.each d q))
      (middle_cases d at.0 first at.3 (subst (λ g. Has d (flat g)) at.4 k))

  -- the lists that do not belong to the part
  abbrev behind : List (List ℕ)
  behind = grow.left ++ handled

  -- the lists of h, in this order
  h_lists : IsMapOf (2 * e) h (first ∷ (grow.taken ++ behind))
  h_lists =
      let turned : IsMapOf (2 * e) h ((handled ++ at.0) ++ first ∷ at.3) =
      subst (IsMapOf (2 * e) h) (sym (append_assoc handled at.0 (first ∷ at.3)))
      (subst (λ g. IsMapOf (2 * e) h (handled ++ g)) at.4 (IsMapOf-exchanged (2 * e) h [] left handled is_h)) in
      let front : IsMapOf (2 * e) h ((first ∷ handled) ++ rest) =
      subst (λ g. IsMapOf (2 * e) h (first ∷ g)) (append_assoc handled at.0 at.3)
      (IsMapOf-front (2 * e) h first (handled ++ at.0) at.3 turned) in
      subst (λ g. IsMapOf (2 * e) h (first ∷ g)) (append_assoc grow.taken grow.left handled)
      (IsMapOf-exchanged (2 * e) h (first ∷ []) handled (grow.taken ++ grow.left)
      (grow.order (2 * e) h (first ∷ handled) front))

  -- no dart behind has its twin in the part
  closed_behind : (d : ℕ) → Has d (flat behind) → Lacks (twin d) inner
  closed_behind d k = ⊎_elim
      (λ q. grow.closed d q)
      (λ q. Lacks-from (twin d) inner
      (λ r. has_lacks d (flat handled) q
      (subst (λ y. Lacks y (flat handled)) (twin-twin d) (closed (twin d) (inner_left (twin d) r)))))
      (Has-append_cases d (flat grow.left) (flat handled) (subst (Has d) (flat-append grow.left handled) k))

  -- an item of the part is of one component with the twin of x
  inner_one : (d : ℕ) → Has d inner → OnePart e h (twin x) d
  inner_one d k = grown_two-OnePart e h first grow.taken behind h_lists grow.grows closed_behind (twin x) d first_x k

  -- the twin of the partner of x is of the part
  inner_partner : Has (twin (along x)) inner
  inner_partner =
      OnePart-grown e h first grow.taken behind h_lists grow.grows closed_behind (twin x) (twin (along x))
      (Has-append_left (twin x) first (flat grow.taken) first_x)
      (⊎_elim
      (λ k. in_taken (twin (along x)) k)
      (λ k. Has-append_right (twin (along x)) first (flat (grow.taken ++ behind))
      (subst (Has (twin (along x))) (sym (flat-append grow.taken behind))
      (Has-append_right (twin (along x)) (flat grow.taken) (flat behind)
      (subst (Has (twin (along x))) (sym (flat-append grow.left handled))
      (Has-append_left (twin (along x)) (flat grow.left) (flat handled) k)))))
      (left_cases (twin (along x)) (leads.partner x (inl refl))))
      (leads.joined x (inl refl))
    where
      in_taken : (d : ℕ) → Has d inner → Has d (first ++ flat (grow.taken ++ behind))
      in_taken d k = ⊎_elim
          (λ q. Has-append_left d first (flat (grow.taken ++ behind)) q)
          (λ q. Has-append_right d first (flat (grow.taken ++ behind))
          (subst (Has d) (sym (flat-append grow.taken behind)) (Has-append_left d (flat grow.taken) (flat behind) q)))
          (Has-append_cases d first (flat grow.taken) k)

  -- another dart leads into what stays left
  other_inside : (y : ℕ) → Has y todo → Has (twin y) (flat grow.left)
  other_inside y k = ⊎_elim
      (λ q. absurd (has_other y x todo k fresh (sym (leads.apart x y (inl refl) (inr k) (inner_one (twin y) q)))))
      (λ q. q)
      (left_cases (twin y) (leads.inside y (inr k)))

  -- so does its partner
  other_partner : (y : ℕ) → Has y todo → Has (twin (along y)) (flat grow.left)
  other_partner y k = ⊎_elim
      (λ q. absurd (has_other y x todo k fresh
      (sym (leads.apart x y (inl refl) (inr k) (inner_one (twin (along y)) q ∙ sym (leads.joined y (inr k)))))))
      (λ q. q)
      (left_cases (twin (along y)) (leads.partner y (inr k)))

  -- the lists of the flat map, with the part in front
  f_lists : IsMapOf (2 * e) can.0 (first ∷ (grow.taken ++ us ∷ vs ∷ grow.left))
  f_lists =
      let front : IsMapOf (2 * e) can.0 (first ∷ us ∷ vs ∷ rest) =
      IsMapOf-front (2 * e) can.0 first (us ∷ vs ∷ at.0) at.3
      (subst (λ g. IsMapOf (2 * e) can.0 (us ∷ vs ∷ g)) at.4 can.1) in
      let ordered : IsMapOf (2 * e) can.0 (first ∷ us ∷ vs ∷ (grow.taken ++ grow.left)) =
      grow.order (2 * e) can.0 (first ∷ us ∷ vs ∷ []) front in
      let moved : IsMapOf (2 * e) can.0 (first ∷ us ∷ (grow.taken ++ vs ∷ grow.left)) =
      IsMapOf-among (2 * e) can.0 vs (first ∷ us ∷ grow.taken) grow.left
      (IsMapOf-third (2 * e) can.0 first us vs (grow.taken ++ grow.left) ordered) in
      IsMapOf-among (2 * e) can.0 us (first ∷ grow.taken) (vs ∷ grow.left)
      (IsMapOf-swap (2 * e) can.0 first us (grow.taken ++ vs ∷ grow.left) moved)

  -- the part is distinct
  inner_once : Distinct inner
  inner_once =
      Distinct-append_left inner (flat behind)
      (subst Distinct (ap (λ g. first ++ g) (flat-append grow.taken behind)
      ∙ sym (append_assoc first (flat grow.taken) (flat behind))) h_lists.once)

  -- the part made one vertex
  one : (ws : List ℕ) × Becomes e can.0 (ws ∷ us ∷ vs ∷ grow.left) × HoldsLeaving ws inner
  one = collapsed-Becomes e can.0 first first grow.taken (us ∷ vs ∷ grow.left) f_lists
      (record { within = λ d k. k; outward = λ d k l. k })
      (λ d k. Distinct-apart d first (flat grow.taken) inner_once k)
      (Distinct-append_right first (flat grow.taken) inner_once) grow.grows

  -- a dart of u is in no list of the rest
  us_far : (d : ℕ) → Has d us → Lacks d (flat left)
  us_far d k = Lacks-append_right d vs (flat left) (Distinct-apart d us (vs ++ flat left) can.1.once k)

  -- nor is a dart of v
  vs_far : (d : ℕ) → Has d vs → Lacks d (flat left)
  vs_far d k = Distinct-apart d vs (flat left) (Distinct-append_right us (vs ++ flat left) can.1.once) k

  -- so the twins of x and of its partner lead out of the part
  held : (d : ℕ) → Has (twin d) inner → Lacks d (flat left) → Has (twin d) one.0
  held d k l =
      one.2.outward (twin d) k (subst (λ y. Lacks y inner) (sym (twin-twin d))
      (Lacks-from d inner (λ q. has_lacks d (flat left) (inner_left d q) l)))

  -- x is at u
  x_us : Has x us
  x_us = leads.start x (inl refl)

  -- its partner is at v
  partner_vs : Has (along x) vs
  partner_vs = leads.finish x (inl refl)

  -- they are two
  two_darts : twin (along x) ≢ twin x
  two_darts s =
      has_lacks x vs (subst (λ y. Has y vs) (sym (twin-twin (along x)) ∙ ap twin s ∙ twin-twin x) partner_vs)
      (Lacks-append_left x vs (flat left) (Distinct-apart x us (vs ++ flat left) can.1.once x_us))

  -- the vertex with these two darts alone
  alone : CanBeFlat e ((twin (along x) ∷ twin x ∷ []) ∷ us ∷ vs ∷ grow.left)
  alone =
      two_kept-CanBeFlat e (twin (along x)) (twin x) one.0 (us ∷ vs ∷ grow.left) two_darts
      (held (along x) inner_partner (vs_far (along x) partner_vs))
      (held x (Has-append_left (twin x) first (flat grow.taken) first_x) (us_far x x_us))
      (one.1.0, one.1.1, SameGenus-IsFlat e can.0 one.1.0 one.1.2 can.2)

  -- the twin of the partner in place of x
  abbrev put : ℕ → ℕ
  put = in_place x (twin (along x))

  -- x continued through the part
  continued : CanBeFlat e (map put us ∷ vs ∷ grow.left)
  continued =
      let r : Becomes e alone.0 (map (map (in_place (twin (twin x)) (twin (along x)))) (us ∷ vs ∷ grow.left)) =
      straightened-Becomes e alone.0 (twin (along x)) (twin x) (us ∷ vs ∷ grow.left) alone.1
      (subst (λ y. Has y (us ++ (vs ++ flat grow.left))) (sym (twin-twin x))
      (Has-append_left x us (vs ++ flat grow.left) x_us)) in
      let same : map (map (in_place (twin (twin x)) (twin (along x))))
      (us ∷ vs ∷ grow.left) ≡ map put us ∷ vs ∷ grow.left =
      ap (λ t. map (map (in_place t (twin (along x)))) (us ∷ vs ∷ grow.left)) (twin-twin x)
      ∙ ap₂ (λ ys zs. map put us ∷ ys ∷ zs)
      (lists_stay x (twin (along x)) vs
      (Lacks-append_left x vs (flat left) (Distinct-apart x us (vs ++ flat left) can.1.once x_us)))
      (rows_stay x (twin (along x)) grow.left
      (Lacks-from x (flat grow.left) (λ k. has_lacks x (flat left) (still_left x k) (us_far x x_us)))) in
      (r.0, subst (IsMapOf (2 * e) r.0) same r.1, SameGenus-IsFlat e alone.0 r.0 r.2 alone.2)

  -- the other darts lead on as before
  leads_on : Leads e h along (map put us) vs grow.left todo
  leads_on = record {
    inside = other_inside;
    partner = other_partner;
    start =
        λ y k. subst (λ z. Has z (map put us)) (in_place_other x (twin (along x)) y (has_other y x todo k fresh))
        (Has-map_on put y us (leads.start y (inr k)));
    finish = λ y k. leads.finish y (inr k);
    joined = λ y k. leads.joined y (inr k);
    apart = λ y z ky kz one'. leads.apart y z (inr ky) (inr kz) one';
  }

  -- the lists of h, with the part behind
  h_on : IsMapOf (2 * e) h (grow.left ++ (handled ++ first ∷ grow.taken))
  h_on = subst (IsMapOf (2 * e) h) (append_assoc grow.left handled (first ∷ grow.taken))
      (IsMapOf-exchanged (2 * e) h [] (first ∷ grow.taken) behind h_lists)

  -- what stays left has no twins there
  closed_on : (d : ℕ) → Has d (flat grow.left) → Lacks (twin d) (flat (handled ++ first ∷ grow.taken))
  closed_on d k =
      subst (Lacks (twin d)) (sym (flat-append handled (first ∷ grow.taken)))
      (Lacks-append (twin d) (flat handled) inner (closed d (still_left d k)) (grow.closed d k))

  -- the twin of the partner is none of the other darts
  partner_new : Lacks (twin (along x)) todo
  partner_new =
      Lacks-from (twin (along x)) todo
      (λ k. has_lacks (twin (along x)) (flat left) (leads.partner x (inl refl))
      (us_far (twin (along x)) (leads.start (twin (along x)) (inr k))))

-- without darts to pass nothing changes
passed_none : (along : ℕ → ℕ) (xs : List ℕ) → map (passed along []) xs ≡ xs
passed_none along [] = refl
passed_none along (x ∷ xs) = ap (λ ys. x ∷ ys) (passed_none along xs)

-- all darts continued through the rest, and the rest dropped
passed-CanBeFlat : (e : ℕ) (h along : ℕ → ℕ) (us vs : List ℕ) (left handled : List (List ℕ)) (todo : List ℕ)
    → IsMapOf (2 * e) h (left ++ handled) → ((d : ℕ) → Has d (flat left) → Lacks (twin d) (flat handled))
    → Leads e h along us vs left todo → Distinct todo → CanBeFlat e (us ∷ vs ∷ left)
    → CanBeFlat e (map (passed along todo) us ∷ vs ∷ [])
passed-CanBeFlat e h along us vs left handled [] is closed leads dis can =
    subst (λ zs. CanBeFlat e (zs ∷ vs ∷ [])) (sym (passed_none along us))
    (first_lists-CanBeFlat e (us ∷ vs ∷ []) left can)
passed-CanBeFlat e h along us vs left handled (x ∷ todo) is closed leads dis can =
    let q : ℕ = twin (along x) in
    let g : Grown (first e h along us vs left handled x todo is closed leads dis.0 can)
    (rest e h along us vs left handled x todo is closed leads dis.0 can) =
    grow e h along us vs left handled x todo is closed leads dis.0 can in
    let again : CanBeFlat e (map (passed along todo) (map (in_place x q) us) ∷ vs ∷ []) =
    passed-CanBeFlat e h along (map (in_place x q) us) vs g.left
    (handled ++ first e h along us vs left handled x todo is closed leads dis.0 can ∷ g.taken) todo
    (h_on e h along us vs left handled x todo is closed leads dis.0 can)
    (closed_on e h along us vs left handled x todo is closed leads dis.0 can)
    (leads_on e h along us vs left handled x todo is closed leads dis.0 can) dis.1
    (continued e h along us vs left handled x todo is closed leads dis.0 can) in
    subst (λ zs. CanBeFlat e (zs ∷ vs ∷ []))
    (maps_agree (in_place x q) (passed along todo) (passed along (x ∷ todo)) us (λ d k. ⊎_elim
    (λ s. ap (passed along todo) (cond-true (eqb d x) q d (eq-eqb d x s))
    ∙ passed_other along todo q (partner_new e h along us vs left handled x todo is closed leads dis.0 can)
    ∙ sym (cond-true (eqb d x) q (passed along todo d) (eq-eqb d x s)))
    (λ n. ap (passed along todo) (in_place_other x q d n)
    ∙ sym (cond-false (eqb d x) q (passed along todo d) (ne_eqb d x n)))
    (cases_eq d x))) again

-- two vertices alone with edges that lead from each dart of the one to its partner at the other
mirrored_partners : (e : ℕ) (along : ℕ → ℕ) (us vs : List ℕ) → CanBeFlat e (map (λ x. twin (along x)) us ∷ vs ∷ [])
    → ((x : ℕ) → Has x us → Has (along x) vs) → ((y : ℕ) → Has y vs → (x : ℕ) × Has x us × (along x ≡ y))
    → IsTurn (reverse (map along us)) vs
mirrored_partners e along [] [] can there back = turn-refl []
mirrored_partners e along [] (y ∷ vs) can there back = absurd (back y (inl refl)).1
mirrored_partners e along (x ∷ us) vs can there back =
    let y : ℕ = along x in
    let t : (ys : List ℕ) × IsTurn vs (y ∷ ys) = turn_to_item y vs (there x (inl refl)) in
    let g : ℕ → ℕ = λ (z : ℕ). twin (along z) in
    let is : IsMapOf (2 * e) can.0 ((twin y ∷ map g us) ∷ (y ∷ t.0) ∷ []) =
    IsMapOf-swap (2 * e) can.0 (y ∷ t.0) (twin y ∷ map g us) []
    (IsMapOf-turn (2 * e) can.0 vs (y ∷ t.0) ((twin y ∷ map g us) ∷ []) t.1
    (IsMapOf-swap (2 * e) can.0 (twin y ∷ map g us) vs [] can.1)) in
    let is' : IsMapOf (2 * e) can.0 ((twin y ∷ map g us) ∷ (twin (twin y) ∷ t.0) ∷ []) =
    subst (λ z. IsMapOf (2 * e) can.0 ((twin y ∷ map g us) ∷ (z ∷ t.0) ∷ [])) (sym (twin-twin y)) is in
    let once : Distinct (y ∷ t.0) =
    turn-Distinct vs (y ∷ t.0) t.1 (IsMapOf-swap (2 * e) can.0 (twin y ∷ map g us) vs [] can.1).rings.0.distinct in
    let mirrored : t.0 ≡ mirror (map g us) = flat_dipole-mirror e can.0 (twin y) (map g us) t.0 is'
    (λ d k.
    let w : (z : ℕ) × Has z us × (g z ≡ d) = map_on-Has g d us k in
    let d' : along w.0 ≡ twin d = sym (twin-twin (along w.0)) ∙ ap twin w.2 in
    subst (λ z. Has z t.0) d' (⊎_elim
    (λ s. absurd (has_lacks (g w.0) (map g us) (Has-map_on g w.0 us w.1)
    (subst (λ z. Lacks z (map g us)) (ap twin s) is.rings.0.distinct.0)))
    (λ q. q)
    (turn-Has vs (y ∷ t.0) (along w.0) t.1 (there w.0 (inr w.1)))))
    (λ d k.
    let w : (z : ℕ) × Has z (x ∷ us) × (along z ≡ d) = back d (Has-of_turn vs (y ∷ t.0) d t.1 (inr k)) in
    ⊎_elim
    (λ s. absurd (has_lacks d t.0 k (subst (λ z. Lacks z t.0) (ap along s ∙ w.2) once.0)))
    (λ q. subst (λ z. Has z (map g us)) (ap twin w.2) (Has-map_on g w.0 us q))
    w.1)
    can.2 in
    let plain : t.0 ≡ reverse (map along us) = mirrored
    ∙ ap reverse (maps_agree g twin along us (λ d k. twin-twin (along d))) in
    turn-trans (reverse (y ∷ map along us)) (y ∷ reverse (map along us)) vs (turn_reverse_head y (map along us))
    (turn-sym vs (y ∷ reverse (map along us)) (subst (λ zs. IsTurn vs (y ∷ zs)) plain t.1))

-- the two poles of a bond in a flat map mirror each other: each dart of the one goes on, along its edge or through a
-- part of its own of the rest, as a dart of the other, and these stand in the reverse order
pub bonded_vertices-IsTurn : (e : ℕ) (f along : ℕ → ℕ) (us vs : List ℕ) (rows : List (List ℕ))
    → IsMapOf (2 * e) f (us ∷ vs ∷ rows) → IsFlat e f → AreBonded e along us vs rows
    → IsTurn (reverse (map along us)) vs
bonded_vertices-IsTurn e f along us vs rows is z bond =
    let leading : ℕ → Bool = λ (x : ℕ). has (twin x) (flat rows) in
    let todo : List ℕ = filter leading us in
    let rest : IsMapOf (2 * e) (next_by rows) rows =
    IsMapOf-some (2 * e) f (us ∷ vs ∷ rows) rows is
    (Distinct-append_right vs (flat rows) (Distinct-append_right us (vs ++ flat rows) is.once))
    (λ d h. Has-append_right d us (vs ++ flat rows) (Has-append_right d vs (flat rows) h)) in
    let inside : (x : ℕ) → Has x todo
    → Has x us × Has (twin x) (flat rows) = λ x h. let w = filter-Has leading x us h in
    (w.0, has_true (twin x) (flat rows) w.1) in
    let through : (x : ℕ) → Has x todo
    → Has (twin (along x)) (flat rows) × OnePart e (next_by rows) (twin x) (twin (along x)) = λ x h.
    let w = inside x h in
    ⊎_elim
    (λ s. absurd (has_lacks (twin x) (flat rows) w.1
    (Distinct-apart (twin x) vs (flat rows) (Distinct-append_right us (vs ++ flat rows) is.once)
    (subst (λ y. Has y vs) s (bond.within x w.0)))))
    (λ q. (q.1, q.2))
    (bond.onward x w.0) in
    let leads : Leads e (next_by rows) along us vs rows todo = record {
      inside = λ x h. (inside x h).1;
      partner = λ x h. (through x h).0;
      start = λ x h. (inside x h).0;
      finish = λ x h. bond.within x (inside x h).0;
      joined = λ x h. (through x h).1;
      apart = λ x y hx hy one. bond.one_each x y (inside x hx).0 (inside y hy).0 (inside x hx).1 (inside y hy).1 one;
    } in
    let passed_all : CanBeFlat e (map (passed along todo) us ∷ vs ∷ []) =
    passed-CanBeFlat e (next_by rows) along us vs rows [] todo
    (subst (IsMapOf (2 * e) (next_by rows)) (sym (append-nil rows)) rest) (λ d h. tt) leads
    (filter-Distinct leading us is.rings.0.distinct) (f, is, z) in
    mirrored_partners e along us vs
    (subst (λ zs. CanBeFlat e (zs ∷ vs ∷ [])) (map_agree_on (passed along todo) (λ x. twin (along x)) us (λ x h. ⊎_elim
    (λ t. passed_in along todo x (Has-filter leading x us h t))
    (λ u. passed_other along todo x (Lacks-from x todo (λ k. false≢true (sym u ∙ (filter-Has leading x us k).1)))
    ∙ sym (⊎_elim
    (λ s. ap twin s ∙ twin-twin x)
    (λ q. absurd (false≢true (sym u ∙ has_yes (twin x) (flat rows) q.0)))
    (bond.onward x h)))
    (cases_Bool (leading x)))) passed_all) bond.within bond.onto
