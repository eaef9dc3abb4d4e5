-- New numbers for the vertices and edges of a rotation change no count.
use Rattle.std.proofs.Common.{◌≡◌, ℕ, zero, suc, ◌+◌, ◌*◌, ◌/◌, ◌%◌, ◌<◌, ◌≤◌, false, not, sym, refl, ap, ap₂, ◌∙◌, subst, ⊎_elim, arith, lt-suc_self}
use Rattle.std.proofs.lemmas.Bool.{cases_eq, not-true, not_from_false, false≢true}
use Rattle.cp_orbits.specs.Classes.{labels, Respects}
use Rattle.cp_orbits.specs.Orbits.{Reaches, exchange, Renumbers}
use Rattle.cp_faces.specs.Faces.{Turns, ends_upto, face_upto, stands, bare, faces, components, partner, Renames, on_edges}
use Rattle.cp_lists.proofs.Counting.{count_inject}
use Rattle.cp_orbits.proofs.ClassLabels.{labels-respects}
use Rattle.cp_orbits.proofs.OrbitLaws.{Permutes-same, exchange_case, exchange_comm}
use Rattle.cp_orbits.proofs.Exchanges.{Renumbers-sym, Renumbers-exchange, Reaches-renumbered, orbits_renumbered, classes_renumbered-le}
use Rattle.cp_faces.proofs.Faces.{face_upto-Permutes, stands_at, stands_none}
use Rattle.cp_faces.proofs.Merges.{exchange_conjugate, face_upto-partner, partner-partner, partner_even, partner_odd}

-- what has one value at the ends of each edge has it at a dart and its partner
pub ends_upto-partner : {A : Type 0} (g : ℕ → A) (at : ℕ → ℕ) (i d : ℕ) → Respects g (ends_upto at i)
    → g (at (partner i d)) ≡ g (at d)
ends_upto-partner g at zero d r = refl
ends_upto-partner g at (suc i) d r =
    ends_upto-partner g at i (exchange (2 * i) (2 * i + 1) d) r.1
    ∙ exchange_case (λ y. g (at y) ≡ g (at d)) (2 * i) (2 * i + 1) d (λ e. sym r.0 ∙ ap (λ (y : ℕ). g (at y)) (sym e)) (λ na e. r.0 ∙ ap (λ (y : ℕ). g (at y)) (sym e)) (λ na nb. refl)

-- what has one value at each dart of the first i edges and its partner has it at the ends of each edge
pub Respects-ends : {A : Type 0} (g : ℕ → A) (at : ℕ → ℕ) (i : ℕ)
    → ((k : ℕ) → k < i → g (at (2 * k)) ≡ g (at (2 * k + 1))) → Respects g (ends_upto at i)
Respects-ends g at zero same = tt
Respects-ends g at (suc i) same = (same i (lt-suc_self i), Respects-ends g at i (λ k lt. same k (omega arith)))

-- what has one value at the ends of each edge has it at the two darts of an edge
pub ends-respects : {A : Type 0} (g : ℕ → A) (at : ℕ → ℕ) (i k : ℕ) → Respects g (ends_upto at i) → k < i
    → g (at (2 * k)) ≡ g (at (2 * k + 1))
ends-respects g at i k r lt = sym (ends_upto-partner g at i (2 * k) r) ∙ ap (λ (y : ℕ). g (at y)) (partner_even i k lt)

-- partners stay below the number of darts
pub partner-within : (e d : ℕ) → d < 2 * e → partner e d < 2 * e
partner-within e d lt = (face_upto-Permutes (2 * e) e (λ x. x) (Permutes-same (2 * e)) (omega arith)).below d lt

-- the other way round it is a renaming too
pub Renames-sym : (v e : ℕ) (h back k undo at next at' next' : ℕ → ℕ) → Turns v e at next
    → Renames v e h back k undo at next at' next' → Renames v e back h undo k at' next' at next
Renames-sym v e h back k undo at next at' next' rot ren = record {
  vertices = Renumbers-sym v h back ren.vertices;
  darts = Renumbers-sym (2 * e) k undo ren.darts;
  pairs = λ d lt.
      let l : undo d < 2 * e = ren.darts.back d lt in
      let p : partner e (undo d) < 2 * e = partner-within e (undo d) l in
      sym (ren.darts.there_back (partner e (undo d)) p) ∙ ap undo (sym (ren.pairs (undo d) l) ∙ ap (partner e) (ren.darts.back_there d lt));
  stand = λ d lt.
      let l : undo d < 2 * e = ren.darts.back d lt in
      sym (ren.vertices.there_back (at (undo d)) (rot.placed (undo d) l)) ∙ ap back (sym (ren.stand (undo d) l) ∙ ap at' (ren.darts.back_there d lt));
  follow = λ d lt.
      let l : undo d < 2 * e = ren.darts.back d lt in
      sym (ren.darts.there_back (next (undo d)) (rot.permutes.below (undo d) l)) ∙ ap undo (sym (ren.follow (undo d) l) ∙ ap next' (ren.darts.back_there d lt));
}

-- the renamed rotation is a rotation
pub Renames-Turns : (v e : ℕ) (h back k undo at next at' next' : ℕ → ℕ) → Turns v e at next
    → Renames v e h back k undo at next at' next' → Turns v e at' next'
Renames-Turns v e h back k undo at next at' next' rot ren = record {
  permutes = record {
    below = λ d lt. subst (λ y. y < 2 * e) (sym (moved d lt)) (ren.darts.there (next (undo d)) (rot.permutes.below (undo d) (ren.darts.back d lt)));
    apart = λ c d ltc ltd same.
        let one : next (undo c) ≡ next (undo d) = sym (ren.darts.there_back (next (undo c)) (rot.permutes.below (undo c) (ren.darts.back c ltc))) ∙ ap undo (sym (moved c ltc) ∙ same ∙ moved d ltd) ∙ ren.darts.there_back (next (undo d)) (rot.permutes.below (undo d) (ren.darts.back d ltd)) in
        sym (ren.darts.back_there c ltc) ∙ ap k (rot.permutes.apart (undo c) (undo d) (ren.darts.back c ltc) (ren.darts.back d ltd) one) ∙ ren.darts.back_there d ltd;
  };
  placed = λ d lt. subst (λ y. y < v) (sym (stood d lt)) (ren.vertices.there (at (undo d)) (rot.placed (undo d) (ren.darts.back d lt)));
  kept = λ d lt.
      let l : undo d < 2 * e = ren.darts.back d lt in
      ap at' (moved d lt) ∙ ren.stand (next (undo d)) (rot.permutes.below (undo d) l) ∙ ap h (rot.kept (undo d) l) ∙ sym (stood d lt);
  around = λ c d ltc ltd same.
      let lc : undo c < 2 * e = ren.darts.back c ltc in
      let ld : undo d < 2 * e = ren.darts.back d ltd in
      let one : at (undo c) ≡ at (undo d) = sym (ren.vertices.there_back (at (undo c)) (rot.placed (undo c) lc)) ∙ ap back (sym (stood c ltc) ∙ same ∙ stood d ltd) ∙ ren.vertices.there_back (at (undo d)) (rot.placed (undo d) ld) in
      let r : Reaches next' (k (undo c)) (k (undo d)) = Reaches-renumbered (2 * e) k next next' rot.permutes ren.follow (undo c) (undo d) lc (rot.around (undo c) (undo d) lc ld one) in
      subst (λ y. Reaches next' c y) (ren.darts.back_there d ltd) (subst (λ x. Reaches next' x (k (undo d))) (ren.darts.back_there c ltc) r);
}
  where
    moved : (d : ℕ) → d < 2 * e → next' d ≡ k (next (undo d))
    moved d lt = ap next' (sym (ren.darts.back_there d lt)) ∙ ren.follow (undo d) (ren.darts.back d lt)

    stood : (d : ℕ) → d < 2 * e → at' d ≡ h (at (undo d))
    stood d lt = ap at' (sym (ren.darts.back_there d lt)) ∙ ren.stand (undo d) (ren.darts.back d lt)

-- the step round the faces is renamed
pub Renames-face : (v e : ℕ) (h back k undo at next at' next' : ℕ → ℕ) → Renames v e h back k undo at next at' next'
    → (d : ℕ) → d < 2 * e → face_upto next' e (k d) ≡ k (face_upto next e d)
Renames-face v e h back k undo at next at' next' ren d lt =
    face_upto-partner e next' (k d) ∙ ap next' (ren.pairs d lt) ∙ ren.follow (partner e d) (partner-within e d lt) ∙ ap k (sym (face_upto-partner e next d))

-- the old vertex of a renamed dart
renamed_stand : (v e : ℕ) (h back k undo at next at' next' : ℕ → ℕ) → Turns v e at next
    → Renames v e h back k undo at next at' next' → (d : ℕ) → d < 2 * e → back (at' d) ≡ at (undo d)
renamed_stand v e h back k undo at next at' next' rot ren d lt =
    ap back (ap at' (sym (ren.darts.back_there d lt)) ∙ ren.stand (undo d) (ren.darts.back d lt)) ∙ ren.vertices.there_back (at (undo d)) (rot.placed (undo d) (ren.darts.back d lt))

-- renaming leaves no fewer bare vertices
bare_renamed-le : (v e : ℕ) (h back k undo at next at' next' : ℕ → ℕ) → Turns v e at next
    → Renames v e h back k undo at next at' next' → bare v (2 * e) at ≤ bare v (2 * e) at'
bare_renamed-le v e h back k undo at next at' next' rot ren = count_inject v v (λ x. not (stands at (2 * e) x)) (λ x. not (stands at' (2 * e) x)) h
    (λ x lt t. (ren.vertices.there x lt, not_from_false (stands at' (2 * e) (h x)) (free x lt (not-true (stands at (2 * e) x) t))))
    (λ x y ltx lty tx ty same. sym (ren.vertices.there_back x ltx) ∙ ap back same ∙ ren.vertices.there_back y lty)
  where
    free : (x : ℕ) → x < v → stands at (2 * e) x ≡ false → stands at' (2 * e) (h x) ≡ false
    free x lt vacant = stands_none at' (2 * e) (h x) (λ d l w.
        let one : at (undo d) ≡ x = sym (renamed_stand v e h back k undo at next at' next' rot ren d l) ∙ ap back w ∙ ren.vertices.there_back x lt in
        false≢true (sym vacant ∙ stands_at at (2 * e) (undo d) x (ren.darts.back d l) one))

-- renaming leaves no fewer components
components_renamed-le : (v e : ℕ) (h back k undo at next at' next' : ℕ → ℕ) → Turns v e at next
    → Renames v e h back k undo at next at' next' → components v e at ≤ components v e at'
components_renamed-le v e h back k undo at next at' next' rot ren = classes_renumbered-le v h back (ends_upto at e) (ends_upto at' e) ren.vertices (Respects-ends (λ x. label (back x)) at' e same)
  where
    label : ℕ → ℕ
    label = labels (ends_upto at e)

    same : (i : ℕ) → i < e → label (back (at' (2 * i))) ≡ label (back (at' (2 * i + 1)))
    same i lt =
        let old : back (at' (2 * i)) ≡ at (undo (2 * i)) = renamed_stand v e h back k undo at next at' next' rot ren (2 * i) (omega arith) in
        let new : back (at' (2 * i + 1)) ≡ at (undo (2 * i + 1)) = renamed_stand v e h back k undo at next at' next' rot ren (2 * i + 1) (omega arith) in
        let pair : undo (2 * i + 1) ≡ partner e (undo (2 * i)) = ap undo (sym (partner_even e i lt)) ∙ sym ((Renames-sym v e h back k undo at next at' next' rot ren).pairs (2 * i) (omega arith)) in
        ap label old ∙ sym (ends_upto-partner label at e (undo (2 * i)) (labels-respects (ends_upto at e))) ∙ sym (ap label (new ∙ ap at pair))

-- renaming changes no number of faces
pub faces-renamed : (v e : ℕ) (h back k undo at next at' next' : ℕ → ℕ) → Turns v e at next
    → Renames v e h back k undo at next at' next' → faces v e at' next' ≡ faces v e at next
faces-renamed v e h back k undo at next at' next' rot ren =
    let ren' : Renames v e back h undo k at' next' at next = Renames-sym v e h back k undo at next at' next' rot ren in
    let rot' : Turns v e at' next' = Renames-Turns v e h back k undo at next at' next' rot ren in
    omega (
      arith,
      orbits_renumbered (2 * e) k undo (face_upto next e) (face_upto next' e) ren.darts (face_upto-Permutes (2 * e) e next rot.permutes (omega arith)) (face_upto-Permutes (2 * e) e next' rot'.permutes (omega arith)) (Renames-face v e h back k undo at next at' next' ren),
      bare_renamed-le v e h back k undo at next at' next' rot ren,
      bare_renamed-le v e back h undo k at' next' at next rot' ren',
    )

-- renaming changes no number of components
pub components-renamed : (v e : ℕ) (h back k undo at next at' next' : ℕ → ℕ) → Turns v e at next
    → Renames v e h back k undo at next at' next' → components v e at' ≡ components v e at
components-renamed v e h back k undo at next at' next' rot ren = omega (
  arith,
  components_renamed-le v e h back k undo at next at' next' rot ren,
  components_renamed-le v e back h undo k at' next' at next (Renames-Turns v e h back k undo at next at' next' rot ren) (Renames-sym v e h back k undo at next at' next' rot ren),
)

-- two darts of one face are two darts of one face after the renaming
pub faces-renamed_reach : (v e : ℕ) (h back k undo at next at' next' : ℕ → ℕ) → Turns v e at next
    → Renames v e h back k undo at next at' next' → (c d : ℕ) → c < 2 * e → Reaches (face_upto next e) c d
    → Reaches (face_upto next' e) (k c) (k d)
faces-renamed_reach v e h back k undo at next at' next' rot ren c d lt r =
    Reaches-renumbered (2 * e) k (face_upto next e) (face_upto next' e) (face_upto-Permutes (2 * e) e next rot.permutes (omega arith)) (Renames-face v e h back k undo at next at' next' ren) c d lt r

-- vertices with new numbers, darts with their old ones
pub Renames-vertices : (v e : ℕ) (h back at next : ℕ → ℕ) → Turns v e at next → Renumbers v h back
    → Renames v e h back (λ d. d) (λ d. d) at next (λ d. h (at d)) next
Renames-vertices v e h back at next rot ren = record {
  vertices = ren;
  darts = record { there = λ d lt. lt; back = λ d lt. lt; there_back = λ d lt. refl; back_there = λ d lt. refl };
  pairs = λ d lt. refl;
  stand = λ d lt. refl;
  follow = λ d lt. refl;
}

-- darts with new numbers that keep the edges, vertices with their old ones
pub Renames-darts : (v e : ℕ) (k undo at next : ℕ → ℕ) → Turns v e at next → Renumbers (2 * e) k undo
    → ((d : ℕ) → d < 2 * e → partner e (k d) ≡ k (partner e d))
    → Renames v e (λ x. x) (λ x. x) k undo at next (λ d. at (undo d)) (λ d. k (next (undo d)))
Renames-darts v e k undo at next rot ren pairs = record {
  vertices = record { there = λ x lt. lt; back = λ x lt. lt; there_back = λ x lt. refl; back_there = λ x lt. refl };
  darts = ren;
  pairs = pairs;
  stand = λ d lt. ap at (ren.there_back d lt);
  follow = λ d lt. ap (λ (y : ℕ). k (next y)) (ren.there_back d lt);
}

-- the first dart of an edge
pub on_edges_even : (p : ℕ → ℕ) (k : ℕ) → on_edges p (2 * k) ≡ 2 * p k
on_edges_even p k =
    let half : 2 * k / 2 ≡ k = omega arith in
    let bit : 2 * k % 2 ≡ 0 = omega arith in
    ap₂ (λ (x y : ℕ). 2 * p x + y) half bit ∙ omega arith

-- the second dart of an edge
pub on_edges_odd : (p : ℕ → ℕ) (k : ℕ) → on_edges p (2 * k + 1) ≡ 2 * p k + 1
on_edges_odd p k =
    let half : (2 * k + 1) / 2 ≡ k = omega arith in
    let bit : (2 * k + 1) % 2 ≡ 1 = omega arith in
    ap₂ (λ (x y : ℕ). 2 * p x + y) half bit

-- what holds of both darts of each edge holds of all darts
pub each_dart : (P : ℕ → Type 0) (e : ℕ) → ((k : ℕ) → k < e → P (2 * k)) → ((k : ℕ) → k < e → P (2 * k + 1)) → (d : ℕ)
    → d < 2 * e → P d
each_dart P e even odd d lt =
    ⊎_elim
    (λ h. let whole : 2 * (d / 2) ≡ d = omega arith in subst P whole (even (d / 2) (omega arith)))
    (λ nh. let whole : 2 * (d / 2) + 1 ≡ d = omega arith in subst P whole (odd (d / 2) (omega arith)))
    (cases_eq (d % 2) 0)

-- new numbers of the edges give new numbers of the darts
pub Renumbers-on_edges : (e : ℕ) (p q : ℕ → ℕ) → Renumbers e p q → Renumbers (2 * e) (on_edges p) (on_edges q)
Renumbers-on_edges e p q ren = record {
  there = within p ren.there;
  back = within q ren.back;
  there_back = undone p q ren.there_back;
  back_there = undone q p ren.back_there;
}
  where
    within : (f : ℕ → ℕ) → ((x : ℕ) → x < e → f x < e) → (d : ℕ) → d < 2 * e → on_edges f d < 2 * e
    within f below = each_dart (λ d. on_edges f d < 2 * e) e (λ k l. omega (arith, on_edges_even f k, below k l)) (λ k l. omega (arith, on_edges_odd f k, below k l))

    undone : (f g : ℕ → ℕ) → ((x : ℕ) → x < e → g (f x) ≡ x) → (d : ℕ) → d < 2 * e → on_edges g (on_edges f d) ≡ d
    undone f g back = each_dart (λ d. on_edges g (on_edges f d) ≡ d) e
        (λ k l. ap (on_edges g) (on_edges_even f k) ∙ on_edges_even g (f k) ∙ ap (λ (x : ℕ). 2 * x) (back k l))
        (λ k l. ap (on_edges g) (on_edges_odd f k) ∙ on_edges_odd g (f k) ∙ ap (λ (x : ℕ). 2 * x + 1) (back k l))

-- the darts of an edge stay the darts of an edge
pub partner-on_edges : (e : ℕ) (p : ℕ → ℕ) → ((x : ℕ) → x < e → p x < e) → (d : ℕ) → d < 2 * e
    → partner e (on_edges p d) ≡ on_edges p (partner e d)
partner-on_edges e p below = each_dart (λ d. partner e (on_edges p d) ≡ on_edges p (partner e d)) e
    (λ k l. ap (partner e) (on_edges_even p k) ∙ partner_even e (p k) (below k l) ∙ sym (ap (on_edges p) (partner_even e k l) ∙ on_edges_odd p k))
    (λ k l. ap (partner e) (on_edges_odd p k) ∙ partner_odd e (p k) (below k l) ∙ sym (ap (on_edges p) (partner_odd e k l) ∙ on_edges_even p k))

-- the two darts of an edge exchanged stay the darts of the edge
pub partner-exchange : (e i d : ℕ) → i < e → partner e (exchange (2 * i) (2 * i + 1) d) ≡ exchange (2 * i) (2 * i + 1)
    (partner e d)
partner-exchange e i d lt = sym (
    exchange_conjugate (partner e) (2 * i) (2 * i + 1) d (partner-partner e)
    ∙ ap₂ (λ (x y : ℕ). partner e (exchange x y d)) (partner_even e i lt) (partner_odd e i lt)
    ∙ ap (partner e) (exchange_comm (2 * i + 1) (2 * i) d)
    )

-- edges with new numbers, vertices with their old ones
pub Renames-edges : (v e : ℕ) (p q at next : ℕ → ℕ) → Turns v e at next → Renumbers e p q
    → Renames v e (λ x. x) (λ x. x) (on_edges p) (on_edges q) at next (λ d. at (on_edges q d))
    (λ d. on_edges p (next (on_edges q d)))
Renames-edges v e p q at next rot ren = Renames-darts v e (on_edges p) (on_edges q) at next rot (Renumbers-on_edges e p q ren) (partner-on_edges e p ren.there)

-- an edge turned round
pub Renames-turned_edge : (v e i : ℕ) (at next : ℕ → ℕ) → Turns v e at next → i < e
    → Renames v e (λ x. x) (λ x. x) (exchange (2 * i) (2 * i + 1))
    (exchange (2 * i) (2 * i + 1)) at next (λ d. at (exchange (2 * i) (2 * i + 1) d))
    (λ d. exchange (2 * i) (2 * i + 1) (next (exchange (2 * i) (2 * i + 1) d)))
Renames-turned_edge v e i at next rot lt = Renames-darts v e (exchange (2 * i) (2 * i + 1)) (exchange (2 * i) (2 * i + 1)) at next rot (Renumbers-exchange (2 * e) (2 * i) (2 * i + 1) (omega arith) (omega arith)) (λ d l. partner-exchange e i d lt)
