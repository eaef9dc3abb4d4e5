-- Two parts that are joined to a vertex do not cross there in a flat map.
use Rattle.std.proofs.Common.{◌≡◌, ℕ, ◌≢◌, List, [], ◌∷◌, ◌++◌, append_assoc, sym, refl, ap, ◌∙◌, subst, inl, inr, ⊎_elim, suc, ◌*◌, lt-suc_self, length}
use Rattle.cp_lists.specs.CyclicLists.{Distinct, Has, Lacks}
use Rattle.cp_lists.specs.Rows.{flat}
use Rattle.cp_lists.proofs.DistinctLists.{Distinct-apart, Distinct-append_left, Distinct-append_right, Has-append_cases, Has-append_left, Has-append_right, Lacks-from, has_lacks, has_other}
use Rattle.cp_lists.proofs.FlatLists.{flat-append}
use Rattle.cp_faces.specs.Twins.{twin}
use Rattle.cp_faces.proofs.Twins.{twin-twin}
use Rattle.cp_maps.specs.Genus.{Becomes, IsFlat, OnePart}
use Rattle.cp_maps.specs.Gluings.{Grown, HoldsLeaving}
use Rattle.cp_maps.specs.Maps.{IsMapOf}
use Rattle.cp_maps.proofs.CollapsedVertices.{collapsed-Becomes}
use Rattle.cp_maps.proofs.CrossedVertices.{flat-no_crossing}
use Rattle.cp_maps.proofs.Genus.{SameGenus-IsFlat, SameGenus-trans}
use Rattle.cp_maps.proofs.GluedVertices.{flat-split}
use Rattle.cp_maps.proofs.Growth.{OnePart-grown, grown, grown_two-OnePart, middle_cases, middle_item}
use Rattle.cp_maps.proofs.MapLists.{IsMapOf-among, IsMapOf-exchanged, IsMapOf-front, IsMapOf-swap, IsMapOf-third}

-- a vertex of a flat map with four darts, and the map of all other lists
module _ (e : ℕ) (f g : ℕ → ℕ) (a b c d : ℕ) (ps bs cs ds : List ℕ) (rows : List (List ℕ))
    (is_f : IsMapOf (2 * e) f ((a ∷ (ps ++ b ∷ (bs ++ c ∷ (cs ++ d ∷ ds)))) ∷ rows)) (is_g : IsMapOf (2 * e) g rows)
    (ha : Has (twin a) (flat rows)) (hb : Has (twin b) (flat rows)) (hc : Has (twin c) (flat rows))
    (hd : Has (twin d) (flat rows)) (ac : OnePart e g (twin a) (twin c)) (bd : OnePart e g (twin b) (twin d))
    (ab : OnePart e g (twin a) (twin b) → ⊥) (z : IsFlat e f) where
  -- the list of the vertex
  abbrev row : List ℕ
  row = a ∷ (ps ++ b ∷ (bs ++ c ∷ (cs ++ d ∷ ds)))

  -- its items are in no other list
  far : (x : ℕ) → Has x row → Lacks x (flat rows)
  far x h = Distinct-apart x row (flat rows) is_f.once h

  -- b is an item
  b_row : Has b row
  b_row = inr (Has-append_right b ps (b ∷ (bs ++ c ∷ (cs ++ d ∷ ds))) (inl refl))

  -- c too
  c_row : Has c row
  c_row =
      inr (Has-append_right c ps (b ∷ (bs ++ c ∷ (cs ++ d ∷ ds)))
      (inr (Has-append_right c bs (c ∷ (cs ++ d ∷ ds)) (inl refl))))

  -- and d
  d_row : Has d row
  d_row =
      inr (Has-append_right d ps (b ∷ (bs ++ c ∷ (cs ++ d ∷ ds)))
      (inr (Has-append_right d bs (c ∷ (cs ++ d ∷ ds)) (inr (Has-append_right d cs (d ∷ ds) (inl refl))))))

  -- a is not c
  a_not_c : a ≢ c
  a_not_c s =
      has_other c a (ps ++ b ∷ (bs ++ c ∷ (cs ++ d ∷ ds)))
      (Has-append_right c ps (b ∷ (bs ++ c ∷ (cs ++ d ∷ ds)))
      (inr (Has-append_right c bs (c ∷ (cs ++ d ∷ ds)) (inl refl)))) is_f.rings.0.distinct.0 (sym s)

  -- b is not d
  b_not_d : b ≢ d
  b_not_d s =
      has_other d b (bs ++ c ∷ (cs ++ d ∷ ds))
      (Has-append_right d bs (c ∷ (cs ++ d ∷ ds)) (inr (Has-append_right d cs (d ∷ ds) (inl refl))))
      (Distinct-append_right (a ∷ ps) (b ∷ (bs ++ c ∷ (cs ++ d ∷ ds))) is_f.rings.0.distinct).0 (sym s)

  -- the list of the twin of a
  at_a : (before : List (List ℕ)) × (us : List ℕ) × (vs : List ℕ) × (behind : List (List ℕ))
      × (rows ≡ before ++ (us ++ twin a ∷ vs) ∷ behind)
  at_a = flat-split (twin a) rows ha

  -- it
  abbrev first : List ℕ
  first = at_a.1 ++ twin a ∷ at_a.2

  -- it has the twin of a
  first_a : Has (twin a) first
  first_a = Has-append_right (twin a) at_a.1 (twin a ∷ at_a.2) (inl refl)

  -- the others
  abbrev others : List (List ℕ)
  others = at_a.0 ++ at_a.3

  -- what grows from it
  grow_a : Grown first others
  grow_a = grown (suc (length others)) first others (lt-suc_self (length others))

  -- its component
  abbrev inner : List ℕ
  inner = first ++ flat grow_a.taken

  -- the lists of g, in this order
  g_lists : IsMapOf (2 * e) g (first ∷ (grow_a.taken ++ grow_a.left))
  g_lists =
      grow_a.order (2 * e) g (first ∷ [])
      (IsMapOf-front (2 * e) g first at_a.0 at_a.3 (subst (IsMapOf (2 * e) g) at_a.4 is_g))

  -- an item of the lists is one of these
  item_a : (x : ℕ) → Has x (flat rows) → Has x (first ++ flat (grow_a.taken ++ grow_a.left))
  item_a x h = ⊎_elim
      (λ k. Has-append_left x first (flat (grow_a.taken ++ grow_a.left)) k)
      (λ k. Has-append_right x first (flat (grow_a.taken ++ grow_a.left))
      (subst (Has x) (sym (flat-append grow_a.taken grow_a.left))
      (⊎_elim (λ q. Has-append_left x (flat grow_a.taken) (flat grow_a.left) q)
      (λ q. Has-append_right x (flat grow_a.taken) (flat grow_a.left) q) (grow_a.each x k))))
      (middle_cases x at_a.0 first at_a.3 (subst (λ g. Has x (flat g)) at_a.4 h))

  -- and back
  item_rows : (x : ℕ) → Has x (first ++ flat (grow_a.taken ++ grow_a.left)) → Has x (flat rows)
  item_rows x h = subst (λ g. Has x (flat g)) (sym at_a.4) (middle_item x at_a.0 first at_a.3 (⊎_elim
      (λ k. inl k)
      (λ k. inr (⊎_elim (λ q. grow_a.taken_item x q) (λ q. grow_a.left_item x q)
      (Has-append_cases x (flat grow_a.taken) (flat grow_a.left)
      (subst (Has x) (flat-append grow_a.taken grow_a.left) k))))
      (Has-append_cases x first (flat (grow_a.taken ++ grow_a.left)) h)))

  -- the twin of c is of the component
  inner_c : Has (twin c) inner
  inner_c =
      OnePart-grown e g first grow_a.taken grow_a.left g_lists grow_a.grows grow_a.closed (twin a) (twin c)
      (Has-append_left (twin a) first (flat grow_a.taken) first_a) (item_a (twin c) hc) ac

  -- the twin of b is left
  left_b : Has (twin b) (flat grow_a.left)
  left_b = ⊎_elim
      (λ k. absurd (ab (grown_two-OnePart e g first grow_a.taken grow_a.left g_lists grow_a.grows grow_a.closed
      (twin a) (twin b) first_a k)))
      (λ k. k)
      (Has-append_cases (twin b) inner (flat grow_a.left)
      (subst (Has (twin b)) (ap (λ us. first ++ us) (flat-append grow_a.taken grow_a.left)
      ∙ sym (append_assoc first (flat grow_a.taken) (flat grow_a.left))) (item_a (twin b) hb)))

  -- its list
  at_b : (before : List (List ℕ)) × (us : List ℕ) × (vs : List ℕ) × (behind : List (List ℕ))
      × (grow_a.left ≡ before ++ (us ++ twin b ∷ vs) ∷ behind)
  at_b = flat-split (twin b) grow_a.left left_b

  -- it
  abbrev second : List ℕ
  second = at_b.1 ++ twin b ∷ at_b.2

  -- it has the twin of b
  second_b : Has (twin b) second
  second_b = Has-append_right (twin b) at_b.1 (twin b ∷ at_b.2) (inl refl)

  -- the others that are left
  abbrev rest : List (List ℕ)
  rest = at_b.0 ++ at_b.3

  -- what grows from it
  grow_b : Grown second rest
  grow_b = grown (suc (length rest)) second rest (lt-suc_self (length rest))

  -- its component
  abbrev outer : List ℕ
  outer = second ++ flat grow_b.taken

  -- its darts were left
  outer_left : (x : ℕ) → Has x outer → Has x (flat grow_a.left)
  outer_left x h =
      subst (λ g. Has x (flat g)) (sym at_b.4)
      (middle_item x at_b.0 second at_b.3
      (⊎_elim (λ k. inl k) (λ k. inr (grow_b.taken_item x k)) (Has-append_cases x second (flat grow_b.taken) h)))

  -- the lists that are left with those of the first component behind
  abbrev behind_b : List (List ℕ)
  behind_b = grow_b.left ++ first ∷ grow_a.taken

  -- the lists of g, in this order
  g_lists_b : IsMapOf (2 * e) g (second ∷ (grow_b.taken ++ behind_b))
  g_lists_b =
      let whole : IsMapOf (2 * e) g ((first ∷ (grow_a.taken ++ at_b.0)) ++ second ∷ at_b.3) =
      subst (λ us. IsMapOf (2 * e) g (first ∷ us)) (sym (append_assoc grow_a.taken at_b.0 (second ∷ at_b.3)))
      (subst (λ g'. IsMapOf (2 * e) g (first ∷ (grow_a.taken ++ g'))) at_b.4 g_lists) in
      let front : IsMapOf (2 * e) g ((second ∷ first ∷ grow_a.taken) ++ rest) =
      subst (λ us. IsMapOf (2 * e) g (second ∷ first ∷ us)) (append_assoc grow_a.taken at_b.0 at_b.3)
      (IsMapOf-front (2 * e) g second (first ∷ (grow_a.taken ++ at_b.0)) at_b.3 whole) in
      let grown_too : IsMapOf (2 * e) g (second ∷ ((first ∷ grow_a.taken) ++ (grow_b.taken ++ grow_b.left))) =
      grow_b.order (2 * e) g (second ∷ first ∷ grow_a.taken) front in
      subst (λ us. IsMapOf (2 * e) g (second ∷ us)) (append_assoc grow_b.taken grow_b.left (first ∷ grow_a.taken))
      (IsMapOf-exchanged (2 * e) g (second ∷ []) (first ∷ grow_a.taken) (grow_b.taken ++ grow_b.left) grown_too)

  -- no dart behind has its twin in the second component
  closed_b : (x : ℕ) → Has x (flat behind_b) → Lacks (twin x) outer
  closed_b x h = ⊎_elim
      (λ k. grow_b.closed x k)
      (λ k. Lacks-from (twin x) outer
      (λ q. has_lacks x inner k (subst (λ y. Lacks y inner) (twin-twin x)
      (grow_a.closed (twin x) (outer_left (twin x) q)))))
      (Has-append_cases x (flat grow_b.left) inner (subst (Has x) (flat-append grow_b.left (first ∷ grow_a.taken)) h))

  -- an item of the lists is in these
  item_b : (x : ℕ) → Has x (flat rows) → Has x (second ++ flat (grow_b.taken ++ behind_b))
  item_b x h = ⊎_elim
      (λ k. behind (subst (Has x) (sym (flat-append grow_b.left (first ∷ grow_a.taken)))
      (Has-append_right x (flat grow_b.left) inner k)))
      (λ k. ⊎_elim
      (λ q. Has-append_left x second (flat (grow_b.taken ++ behind_b)) q)
      (λ q. ⊎_elim
      (λ r. Has-append_right x second (flat (grow_b.taken ++ behind_b))
      (subst (Has x) (sym (flat-append grow_b.taken behind_b))
      (Has-append_left x (flat grow_b.taken) (flat behind_b) r)))
      (λ r. behind (subst (Has x) (sym (flat-append grow_b.left (first ∷ grow_a.taken)))
      (Has-append_left x (flat grow_b.left) inner r)))
      (grow_b.each x q))
      (middle_cases x at_b.0 second at_b.3 (subst (λ g'. Has x (flat g')) at_b.4 k)))
      (Has-append_cases x inner (flat grow_a.left)
      (subst (Has x) (ap (λ us. first ++ us) (flat-append grow_a.taken grow_a.left)
      ∙ sym (append_assoc first (flat grow_a.taken) (flat grow_a.left))) (item_a x h)))
    where
      behind : Has x (flat behind_b) → Has x (second ++ flat (grow_b.taken ++ behind_b))
      behind k =
          Has-append_right x second (flat (grow_b.taken ++ behind_b))
          (subst (Has x) (sym (flat-append grow_b.taken behind_b))
          (Has-append_right x (flat grow_b.taken) (flat behind_b) k))

  -- the twin of d is of the second component
  outer_d : Has (twin d) outer
  outer_d =
      OnePart-grown e g second grow_b.taken behind_b g_lists_b grow_b.grows closed_b (twin b) (twin d)
      (Has-append_left (twin b) second (flat grow_b.taken) second_b) (item_b (twin d) hd) bd

  -- no dart of the vertex is of the first component
  row_inner : (x : ℕ) → Has x row → Lacks x inner
  row_inner x h =
      Lacks-from x inner (λ k. has_lacks x (flat rows)
      (item_rows x (subst (Has x) (append_assoc first (flat grow_a.taken) (flat grow_a.left)
      ∙ ap (λ us. first ++ us) (sym (flat-append grow_a.taken grow_a.left)))
      (Has-append_left x inner (flat grow_a.left) k))) (far x h))

  -- nor of the second
  row_outer : (x : ℕ) → Has x row → Lacks x outer
  row_outer x h =
      Lacks-from x outer (λ k. has_lacks x (flat rows)
      (item_rows x (subst (Has x) (append_assoc first (flat grow_a.taken) (flat grow_a.left)
      ∙ ap (λ us. first ++ us) (sym (flat-append grow_a.taken grow_a.left)))
      (Has-append_right x inner (flat grow_a.left) (outer_left x k)))) (far x h))

  -- the first component is distinct
  inner_once : Distinct inner
  inner_once =
      Distinct-append_left inner (flat grow_a.left)
      (subst Distinct (ap (λ us. first ++ us) (flat-append grow_a.taken grow_a.left)
      ∙ sym (append_assoc first (flat grow_a.taken) (flat grow_a.left))) g_lists.once)

  -- the second too
  outer_once : Distinct outer
  outer_once =
      Distinct-append_left outer (flat behind_b)
      (subst Distinct (ap (λ us. second ++ us) (flat-append grow_b.taken behind_b)
      ∙ sym (append_assoc second (flat grow_b.taken) (flat behind_b))) g_lists_b.once)

  -- the lists of f, with the first component in front
  f_lists : IsMapOf (2 * e) f (first ∷ (grow_a.taken ++ row ∷ grow_a.left))
  f_lists =
      let front : IsMapOf (2 * e) f (row ∷ first ∷ others) =
      IsMapOf-swap (2 * e) f first row others
      (IsMapOf-front (2 * e) f first (row ∷ at_a.0) at_a.3 (subst (λ us. IsMapOf (2 * e) f (row ∷ us)) at_a.4 is_f)) in
      IsMapOf-among (2 * e) f row (first ∷ grow_a.taken) grow_a.left (grow_a.order (2 * e) f (row ∷ first ∷ []) front)

  -- the first component made one vertex
  one : (ws : List ℕ) × Becomes e f (ws ∷ row ∷ grow_a.left) × HoldsLeaving ws inner
  one = collapsed-Becomes e f first first grow_a.taken (row ∷ grow_a.left) f_lists
      (record { within = λ x h. h; outward = λ x h l. h })
      (λ x h. Distinct-apart x first (flat grow_a.taken) inner_once h)
      (Distinct-append_right first (flat grow_a.taken) inner_once) grow_a.grows

  -- the lists with the second component in front
  next_lists : IsMapOf (2 * e) one.1.0 (second ∷ (grow_b.taken ++ one.0 ∷ row ∷ grow_b.left))
  next_lists =
      let front : IsMapOf (2 * e) one.1.0 (second ∷ one.0 ∷ row ∷ rest) =
      IsMapOf-front (2 * e) one.1.0 second (one.0 ∷ row ∷ at_b.0) at_b.3
      (subst (λ us. IsMapOf (2 * e) one.1.0 (one.0 ∷ row ∷ us)) at_b.4 one.1.1) in
      let ordered : IsMapOf (2 * e) one.1.0 (second ∷ one.0 ∷ row ∷ (grow_b.taken ++ grow_b.left)) =
      grow_b.order (2 * e) one.1.0 (second ∷ one.0 ∷ row ∷ []) front in
      let moved : IsMapOf (2 * e) one.1.0 (second ∷ one.0 ∷ (grow_b.taken ++ row ∷ grow_b.left)) =
      IsMapOf-among (2 * e) one.1.0 row (second ∷ one.0 ∷ grow_b.taken) grow_b.left
      (IsMapOf-third (2 * e) one.1.0 second one.0 row (grow_b.taken ++ grow_b.left) ordered) in
      IsMapOf-among (2 * e) one.1.0 one.0 (second ∷ grow_b.taken) (row ∷ grow_b.left)
      (IsMapOf-swap (2 * e) one.1.0 second one.0 (grow_b.taken ++ row ∷ grow_b.left) moved)

  -- the second component made one vertex
  two : (ws : List ℕ) × Becomes e one.1.0 (ws ∷ one.0 ∷ row ∷ grow_b.left) × HoldsLeaving ws outer
  two = collapsed-Becomes e one.1.0 second second grow_b.taken (one.0 ∷ row ∷ grow_b.left) next_lists
      (record { within = λ x h. h; outward = λ x h l. h })
      (λ x h. Distinct-apart x second (flat grow_b.taken) outer_once h)
      (Distinct-append_right second (flat grow_b.taken) outer_once) grow_b.grows

  -- the twin of a dart of the vertex, if it is of the first component, is held
  held_a : (x : ℕ) → Has x row → Has (twin x) inner → Has (twin x) one.0
  held_a x h k = one.2.outward (twin x) k (subst (λ y. Lacks y inner) (sym (twin-twin x)) (row_inner x h))

  -- or of the second
  held_b : (x : ℕ) → Has x row → Has (twin x) outer → Has (twin x) two.0
  held_b x h k = two.2.outward (twin x) k (subst (λ y. Lacks y outer) (sym (twin-twin x)) (row_outer x h))

  -- a vertex of a flat map: the edges into one component of the rest and those into another do not stand crosswise
  pub flat-no_crossing_parts : ⊥
  flat-no_crossing_parts = flat-no_crossing e two.1.0 a b c d ps bs cs ds one.0 two.0 grow_b.left
      (IsMapOf-third (2 * e) two.1.0 one.0 two.0 row grow_b.left
      (IsMapOf-swap (2 * e) two.1.0 two.0 one.0 (row ∷ grow_b.left) two.1.1))
      (held_a a (inl refl) (Has-append_left (twin a) first (flat grow_a.taken) first_a)) (held_a c c_row inner_c)
      (held_b b b_row (Has-append_left (twin b) second (flat grow_b.taken) second_b)) (held_b d d_row outer_d)
      a_not_c b_not_d
      (SameGenus-IsFlat e f two.1.0 (SameGenus-trans e f one.1.0 two.1.0 one.1.2 two.1.2) z)
