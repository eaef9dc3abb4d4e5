-- A list put into another, and the two vertices of the lists made one.
use Rattle.std.proofs.Common.{◌≡◌, ℕ, suc, ◌<◌, ◌⊎◌, ◌≢◌, cond, List, [], ◌∷◌, ◌++◌, eqb, sym, refl, ap, ◌∙◌, subst, inl, inr, ⊎_elim, arith, append_assoc}
use Rattle.std.proofs.lemmas.Bool.{cases_eq, eq-eqb, ne_eqb, cond-true, cond-false}
use Rattle.cp_orbits.specs.Classes.{joined}
use Rattle.cp_orbits.specs.Orbits.{exchange}
use Rattle.cp_lists.specs.CyclicLists.{Has, Lacks, Distinct, follow, MergesAt}
use Rattle.cp_lists.proofs.DistinctLists.{Has-append_left, Has-append_right, Has-append_cases, Has-turn, Distinct-turn, Distinct-append, Lacks-from, has_lacks}
use Rattle.cp_lists.proofs.CyclicLists.{follow-turn, follow-merge}
use Rattle.cp_orbits.proofs.OrbitLaws.{exchange_left, exchange_right, exchange_other}
use Rattle.cp_orbits.proofs.Exchanges.{joined_at, joined_other, joined-below}
use Rattle.cp_rot.specs.Rewrites.{before, behind, spliced}
use Rattle.cp_rot.proofs.ListEdits.{around_item}
use Rattle.cp_rot.proofs.ListSystems.{Listed, turn}

-- the list ys, turned so that its item b is the last
abbrev pub turned : ℕ → List ℕ → List ℕ
turned b ys = (behind b ys ++ before b ys) ++ b ∷ []

-- two lists without a common item, a in the first and b in the second
module _ (a b : ℕ) (xs ys : List ℕ) (dx : Distinct xs) (dy : Distinct ys) (ha : Has a xs) (hb : Has b ys)
    (apart : (d : ℕ) → Has d xs → Lacks d ys) where
  -- the first list up to a
  abbrev front : List ℕ
  front = before a xs ++ a ∷ []

  -- the first list in two parts
  first_parts : xs ≡ front ++ behind a xs
  first_parts = around_item a xs ha ∙ sym (append_assoc (before a xs) (a ∷ []) (behind a xs))

  -- the second list in two parts
  second_parts : ys ≡ (before b ys ++ b ∷ []) ++ behind b ys
  second_parts = around_item b ys hb ∙ sym (append_assoc (before b ys) (b ∷ []) (behind b ys))

  -- and turned
  turned_parts : behind b ys ++ (before b ys ++ b ∷ []) ≡ turned b ys
  turned_parts = sym (append_assoc (behind b ys) (before b ys) (b ∷ []))

  -- the turned list has the items of the second
  to_turned : (d : ℕ) → Has d ys → Has d (turned b ys)
  to_turned d h = subst (Has d) turned_parts (Has-turn d (before b ys ++ b ∷ []) (behind b ys) (subst (Has d) second_parts h))

  -- and no others
  from_turned : (d : ℕ) → Has d (turned b ys) → Has d ys
  from_turned d h = subst (Has d) (sym second_parts) (Has-turn d (behind b ys) (before b ys ++ b ∷ []) (subst (Has d) (sym turned_parts) h))

  -- the turned list has the same item behind each
  turned_follow : (d : ℕ) → Has d ys → follow (turned b ys) d ≡ follow ys d
  turned_follow d h =
      ap (λ zs. follow zs d) (sym turned_parts)
      ∙ follow-turn d (before b ys ++ b ∷ []) (behind b ys) (subst Distinct second_parts dy) (subst (Has d) second_parts h)
      ∙ ap (λ zs. follow zs d) (sym second_parts)

  -- the whole in three parts
  whole_parts : spliced a b xs ys ≡ (front ++ turned b ys) ++ behind a xs
  whole_parts = sym (
      append_assoc front (turned b ys) (behind a xs)
      ∙ append_assoc (before a xs) (a ∷ []) (turned b ys ++ behind a xs)
      ∙ ap (λ zs. before a xs ++ a ∷ zs) (append_assoc (behind b ys ++ before b ys) (b ∷ []) (behind a xs)))

  -- the items of the first list
  pub spliced_first : (d : ℕ) → Has d xs → Has d (spliced a b xs ys)
  spliced_first d h = subst (Has d) (sym whole_parts) (⊎_elim
      (λ k. Has-append_left d (front ++ turned b ys) (behind a xs) (Has-append_left d front (turned b ys) k))
      (λ k. Has-append_right d (front ++ turned b ys) (behind a xs) k)
      (Has-append_cases d front (behind a xs) (subst (Has d) first_parts h)))

  -- the items of the second
  pub spliced_second : (d : ℕ) → Has d ys → Has d (spliced a b xs ys)
  spliced_second d h = subst (Has d) (sym whole_parts) (Has-append_left d (front ++ turned b ys) (behind a xs) (Has-append_right d front (turned b ys) (to_turned d h)))

  -- no others
  pub spliced_cases : (d : ℕ) → Has d (spliced a b xs ys) → Has d xs ⊎ Has d ys
  spliced_cases d h = ⊎_elim
      (λ k. ⊎_elim
      (λ m. inl (subst (Has d) (sym first_parts) (Has-append_left d front (behind a xs) m)))
      (λ m. inr (from_turned d m))
      (Has-append_cases d front (turned b ys) k))
      (λ k. inl (subst (Has d) (sym first_parts) (Has-append_right d front (behind a xs) k)))
      (Has-append_cases d (front ++ turned b ys) (behind a xs) (subst (Has d) whole_parts h))

  -- the items are distinct
  pub Distinct-spliced : Distinct (spliced a b xs ys)
  Distinct-spliced =
      let both : Distinct ((behind a xs ++ front) ++ turned b ys) = Distinct-append (behind a xs ++ front) (turned b ys)
      (Distinct-turn front (behind a xs) (subst Distinct first_parts dx))
      (subst Distinct turned_parts (Distinct-turn (before b ys ++ b ∷ []) (behind b ys) (subst Distinct second_parts dy)))
      (λ d h. Lacks-from d (turned b ys) (λ k. has_lacks d ys (from_turned d k) (apart d (subst (Has d) (sym first_parts) (Has-turn d (behind a xs) front h))))) in
      subst Distinct (sym whole_parts) (Distinct-turn (behind a xs) (front ++ turned b ys) (subst Distinct (append_assoc (behind a xs) front (turned b ys)) both))

  -- what comes behind the items
  merge_law : MergesAt (before a xs ++ a ∷ behind a xs) (turned b ys) (spliced a b xs ys) a b
  merge_law = follow-merge a b (before a xs) (behind a xs) (behind b ys ++ before b ys) Distinct-spliced

  -- behind a comes what was behind b
  pub spliced_at_first : follow (spliced a b xs ys) a ≡ follow ys b
  spliced_at_first = merge_law.behind_first ∙ turned_follow b hb

  -- behind b comes what was behind a
  pub spliced_at_second : follow (spliced a b xs ys) b ≡ follow xs a
  spliced_at_second = merge_law.behind_second ∙ ap (λ zs. follow zs a) (sym (around_item a xs ha))

  -- behind the other items of the first list comes what was there
  pub spliced_in_first : (d : ℕ) → Has d xs → d ≢ a → follow (spliced a b xs ys) d ≡ follow xs d
  spliced_in_first d h ne = merge_law.in_first d (subst (Has d) (around_item a xs ha) h) ne ∙ ap (λ zs. follow zs d) (sym (around_item a xs ha))

  -- and behind those of the second
  pub spliced_in_second : (d : ℕ) → Has d ys → d ≢ b → follow (spliced a b xs ys) d ≡ follow ys d
  spliced_in_second d h ne = merge_law.in_second d (to_turned d h) ne ∙ turned_follow d h

-- vertex v, the last, made one with u, where dart a stands at u and dart b at v
module _ (v n : ℕ) (at : ℕ → ℕ) (lists : ℕ → List ℕ) (l : Listed (suc v) n at lists) (a b u : ℕ) (lta : a < n)
    (ltb : b < n) (ea : at a ≡ u) (eb : at b ≡ v) (lt : u < v) where
  -- the new lists
  abbrev pub new_list : ℕ → List ℕ
  new_list x = cond (eqb x u) (spliced a b (lists x) (lists v)) (lists x)

  -- the list of u holds a
  has_a : Has a (lists u)
  has_a = subst (λ x. Has a (lists x)) ea (l.own a lta)

  -- that of v holds b
  has_b : Has b (lists v)
  has_b = subst (λ x. Has b (lists x)) eb (l.own b ltb)

  -- they have no common item
  no_common : (d : ℕ) → Has d (lists u) → Lacks d (lists v)
  no_common d h = Lacks-from d (lists v) (λ k. let e : u ≡ v = sym (l.item u d (omega arith) h).1 ∙ (l.item v d (omega arith) k).1 in omega arith)

  -- their items are distinct
  dis_u : Distinct (lists u)
  dis_u = l.distinct u (omega arith)

  -- their items are distinct
  dis_v : Distinct (lists v)
  dis_v = l.distinct v (omega arith)

  -- the list of u
  list_u : new_list u ≡ spliced a b (lists u) (lists v)
  list_u = cond-true (eqb u u) (spliced a b (lists u) (lists v)) (lists u) (eq-eqb u u refl)

  -- the list of another vertex
  list_other : (x : ℕ) → (x ≡ u → ⊥) → new_list x ≡ lists x
  list_other x ne = cond-false (eqb x u) (spliced a b (lists x) (lists v)) (lists x) (ne_eqb x u ne)

  -- a dart stood at v, at u, or at another vertex, where its list is the old one
  stand_cases : (P : ℕ → List ℕ → Type 0) (d : ℕ) → (at d ≡ v → P u (spliced a b (lists u) (lists v)))
      → (at d ≡ u → P u (spliced a b (lists u) (lists v))) → ((at d ≡ u → ⊥) → P (at d) (lists (at d)))
      → P (joined u v (at d)) (new_list (joined u v (at d)))
  stand_cases P d last first other =
      ⊎_elim
      (λ e. subst (λ x. P x (new_list x)) (sym (joined_at u v (at d) e)) (subst (P u) (sym list_u) (last e)))
      (λ ne. subst (λ x. P x (new_list x)) (sym (joined_other u v (at d) ne)) (⊎_elim
      (λ e. subst (λ x. P x (new_list x)) (sym e) (subst (P u) (sym list_u) (first e)))
      (λ nu. subst (P (at d)) (sym (list_other (at d) nu)) (other nu))
      (cases_eq (at d) u)))
      (cases_eq (at d) v)

  -- vertices and lists are given
  pub Listed-joined : Listed v n (λ d. joined u v (at d)) new_list
  Listed-joined = record {
    placed = λ d ltd. joined-below u v (at d) lt (l.placed d ltd);
    distinct = λ x ltx. ⊎_elim
        (λ e. subst (λ y. Distinct (new_list y)) (sym e) (subst Distinct (sym list_u) (Distinct-spliced a b (lists u) (lists v) dis_u dis_v has_a has_b no_common)))
        (λ ne. subst Distinct (sym (list_other x ne)) (l.distinct x (omega arith)))
        (cases_eq x u);
    own = λ d ltd. stand_cases (λ x xs. Has d xs) d
        (λ e. spliced_second a b (lists u) (lists v) dis_u dis_v has_a has_b no_common d (subst (λ x. Has d (lists x)) e (l.own d ltd)))
        (λ e. spliced_first a b (lists u) (lists v) dis_u dis_v has_a has_b no_common d (subst (λ x. Has d (lists x)) e (l.own d ltd)))
        (λ nu. l.own d ltd);
    item = λ x d ltx h. ⊎_elim
        (λ e. ⊎_elim
        (λ k. let w = l.item u d (omega arith) k in (w.0, joined_other u v (at d) (λ f. let g : u ≡ v = sym w.1 ∙ f in omega arith) ∙ w.1 ∙ sym e))
        (λ k. let w = l.item v d (omega arith) k in (w.0, joined_at u v (at d) w.1 ∙ sym e))
        (spliced_cases a b (lists u) (lists v) dis_u dis_v has_a has_b no_common d (subst (Has d) list_u (subst (λ y. Has d (new_list y)) e h))))
        (λ ne. let w = l.item x d (omega arith) (subst (Has d) (list_other x ne) h) in (w.0, joined_other u v (at d) (λ f. let g : x ≡ v = sym w.1 ∙ f in omega arith) ∙ w.1))
        (cases_eq x u);
  }

  -- what comes behind a and b is exchanged
  pub turn-joined : (d : ℕ) → d < n → turn (λ y. joined u v (at y)) new_list d ≡ turn at lists (exchange a b d)
  turn-joined d ltd =
      ⊎_elim
      (λ e. ap (turn (λ y. joined u v (at y)) new_list) e ∙ at_first ∙ ap (turn at lists) (sym (exchange_left a b d e)))
      (λ na. ⊎_elim
      (λ e. ap (turn (λ y. joined u v (at y)) new_list) e ∙ at_second ∙ ap (turn at lists) (sym (exchange_right a b d e)))
      (λ nb. stand_cases (λ x xs. follow xs d ≡ turn at lists d) d
      (λ e. spliced_in_second a b (lists u) (lists v) dis_u dis_v has_a has_b no_common d (subst (λ x. Has d (lists x)) e (l.own d ltd)) nb ∙ ap (λ x. follow (lists x) d) (sym e))
      (λ e. spliced_in_first a b (lists u) (lists v) dis_u dis_v has_a has_b no_common d (subst (λ x. Has d (lists x)) e (l.own d ltd)) na ∙ ap (λ x. follow (lists x) d) (sym e))
      (λ nu. refl)
      ∙ ap (turn at lists) (sym (exchange_other a b d na nb)))
      (cases_eq d b))
      (cases_eq d a)
    where
      at_first : turn (λ y. joined u v (at y)) new_list a ≡ turn at lists b
      at_first = ap (λ x. follow (new_list x) a) (joined_other u v (at a) (λ f. let g : u ≡ v = sym ea ∙ f in omega arith) ∙ ea) ∙ ap (λ xs. follow xs a) list_u
          ∙ spliced_at_first a b (lists u) (lists v) dis_u dis_v has_a has_b no_common ∙ ap (λ x. follow (lists x) b) (sym eb)

      at_second : turn (λ y. joined u v (at y)) new_list b ≡ turn at lists a
      at_second = ap (λ x. follow (new_list x) b) (joined_at u v (at b) eb) ∙ ap (λ xs. follow xs b) list_u
          ∙ spliced_at_second a b (lists u) (lists v) dis_u dis_v has_a has_b no_common ∙ ap (λ x. follow (lists x) a) (sym ea)
