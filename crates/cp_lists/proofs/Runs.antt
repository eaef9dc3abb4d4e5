-- A run of one class in a list whose classes do not cross.
use Rattle.std.proofs.Common.{◌≡◌, ℕ, zero, suc, ◌+◌, ◌<◌, ◌⊎◌, ◌≢◌, Bool, true, false, not, eqb, List, [], ◌∷◌, ◌++◌, length, length-append, append_assoc, sym, refl, ap, ◌∙◌, subst, inl, inr, ⊎_elim, arith}
use Rattle.std.proofs.lemmas.Bool.{cases_Bool, eq-eqb, eqb-true, eqb-false, false≢true}
use Rattle.std.proofs.lemmas.List.{append-nil}
use Rattle.cp_lists.specs.CyclicLists.{Has}
use Rattle.cp_lists.specs.Crossings.{InOrder, NoCross}
use Rattle.cp_lists.proofs.DistinctLists.{Has-append_cases, Has-append_right}
use Rattle.cp_lists.proofs.Orders.{order_right, order_append, order_one}

-- a run of a class that stands nowhere else
pub record Run (class : ℕ → ℕ) (l : List ℕ) : Type 0 where
  pub before : List ℕ
  pub first : ℕ
  pub others : List ℕ
  pub behind : List ℕ
  pub whole : l ≡ before ++ ((first ∷ others) ++ behind)
  pub one : (d : ℕ) → Has d others → class d ≡ class first
  pub none_before : (d : ℕ) → Has d before → class d ≢ class first
  pub none_behind : (d : ℕ) → Has d behind → class d ≢ class first

-- up to the first item that passes a test
first_passing : (p : ℕ → Bool) (l : List ℕ) →
    (g : List ℕ) × (s : List ℕ) × (l ≡ g ++ s) × ((d : ℕ) → Has d g → p d ≡ false) × ((s ≡ []) ⊎ ((z : ℕ) × (t : List ℕ) × (s ≡ z ∷ t) × (p z ≡ true)))
first_passing p [] = ([], [], refl, (λ d h. absurd h), inl refl)
first_passing p (x ∷ l) = ⊎_elim
    (λ t. ([], x ∷ l, refl, (λ d h. absurd h), inr (x, l, refl, t)))
    (λ u. let r = first_passing p l in (x ∷ r.0, r.1, ap (λ ws. x ∷ ws) r.2, (λ d h. ⊎_elim (λ e. ap p (sym e) ∙ u) (λ k. r.3 d k) h), r.4))
    (cases_Bool (p x))

-- the other class
other_class : (a b : ℕ) → not (eqb a b) ≡ false → a ≡ b
other_class a b h = ⊎_elim (λ t. eqb-true a b t) (λ u. absurd (false≢true (sym h ∙ ap not u))) (cases_Bool (eqb a b))

-- in a list of fewer than n others
run_below : (n : ℕ) (class : ℕ → ℕ) (x : ℕ) (l : List ℕ) → length l < n → NoCross class (x ∷ l) → Run class (x ∷ l)
run_below zero class x l lt apart = absurd (omega arith)
run_below (suc n) class x l lt apart =
    let s : (g : List ℕ) × (s : List ℕ) × (l ≡ g ++ s) × ((d : ℕ) → Has d g → not (eqb (class d) (class x)) ≡ false) × ((s ≡ []) ⊎ ((z : ℕ) × (t : List ℕ) × (s ≡ z ∷ t) × (not (eqb (class z) (class x)) ≡ true))) = first_passing (λ d. not (eqb (class d) (class x))) l in
    ⊎_elim
    (λ (e : s.1 ≡ []). record {
      before = [];
      first = x;
      others = s.0;
      behind = [];
      whole = ap (λ ws. x ∷ ws) (s.2 ∙ ap (λ ws. s.0 ++ ws) e);
      one = λ d h. other_class (class d) (class x) (s.3 d h);
      none_before = λ d h. absurd h;
      none_behind = λ d h. absurd h;
    })
    (λ (w : (z : ℕ) × (t : List ℕ) × (s.1 ≡ z ∷ t) × (not (eqb (class z) (class x)) ≡ true)).
    gap (λ y g lt' no'. run_below n class y g lt' no') s.0 w.0 w.1 (s.2 ∙ ap (λ ws. s.0 ++ ws) w.2) (λ d h. other_class (class d) (class x) (s.3 d h)) (λ h. false≢true (sym (ap not (eq-eqb (class w.0) (class x) h)) ∙ w.3)))
    s.4
  where
    gap : ((y : ℕ) (g : List ℕ) → length g < n → NoCross class (y ∷ g) → Run class (y ∷ g)) →
        (p : List ℕ) (y : ℕ) (r : List ℕ) → l ≡ p ++ y ∷ r → ((d : ℕ) → Has d p → class d ≡ class x) →
        class y ≢ class x → Run class (x ∷ l)
    gap again p y r whole same differ =
        let s : (g : List ℕ) × (s : List ℕ) × (r ≡ g ++ s) × ((d : ℕ) → Has d g → eqb (class d) (class x) ≡ false) × ((s ≡ []) ⊎ ((z : ℕ) × (t : List ℕ) × (s ≡ z ∷ t) × (eqb (class z) (class x) ≡ true))) = first_passing (λ d. eqb (class d) (class x)) r in
        ⊎_elim
        (λ (e : s.1 ≡ []). record {
          before = [];
          first = x;
          others = p;
          behind = y ∷ r;
          whole = ap (λ ws. x ∷ ws) whole;
          one = same;
          none_before = λ d h. absurd h;
          none_behind = λ d h. ⊎_elim (λ q. subst (λ v. class v ≢ class x) q differ) (λ k. eqb-false (class d) (class x) (s.3 d (subst (Has d) (s.2 ∙ ap (λ ws. s.0 ++ ws) e ∙ append-nil s.0) k))) h;
        })
        (λ (w : (z : ℕ) × (t : List ℕ) × (s.1 ≡ z ∷ t) × (eqb (class z) (class x) ≡ true)).
        let parts : x ∷ l ≡ (x ∷ p) ++ ((y ∷ s.0) ++ w.0 ∷ w.1) = ap (λ ws. x ∷ ws) (whole ∙ ap (λ ws. p ++ y ∷ ws) (s.2 ∙ ap (λ ws. s.0 ++ ws) w.2)) in
        let size : length l ≡ length p + (suc (length s.0 + suc (length w.1))) = ap length (whole ∙ ap (λ ws. p ++ y ∷ ws) (s.2 ∙ ap (λ ws. s.0 ++ ws) w.2)) ∙ length-append p (y ∷ (s.0 ++ w.0 ∷ w.1)) ∙ ap (λ k. length p + suc k) (length-append s.0 (w.0 ∷ w.1)) in
        let inner : Run class (y ∷ s.0) = again y s.0 (omega arith) (λ a b c d h. apart a b c d (subst (InOrder (a ∷ b ∷ c ∷ d ∷ [])) (sym parts)
        (order_right (a ∷ b ∷ c ∷ d ∷ []) (x ∷ p) ((y ∷ s.0) ++ w.0 ∷ w.1) (order_append (a ∷ b ∷ c ∷ d ∷ []) [] (y ∷ s.0) (w.0 ∷ w.1) h tt)))) in
        outer p y s.0 w.0 w.1 parts same differ (λ d h. eqb-false (class d) (class x) (s.3 d h)) (eqb-true (class w.0) (class x) w.3) inner)
        s.4
      where
        outer : (p : List ℕ) (y : ℕ) (g : List ℕ) (z : ℕ) (t : List ℕ) → x ∷ l ≡ (x ∷ p) ++ ((y ∷ g) ++ z ∷ t) →
            ((d : ℕ) → Has d p → class d ≡ class x) → class y ≢ class x → ((d : ℕ) → Has d g → class d ≢ class x) →
            class z ≡ class x → Run class (y ∷ g) → Run class (x ∷ l)
        outer p y g z t parts same differ far back run = record {
          before = (x ∷ p) ++ run.before;
          first = run.first;
          others = run.others;
          behind = run.behind ++ z ∷ t;
          whole = parts ∙ ap (λ ws. (x ∷ p) ++ (ws ++ z ∷ t)) run.whole
              ∙ ap (λ ws. (x ∷ p) ++ ws) (append_assoc run.before ((run.first ∷ run.others) ++ run.behind) (z ∷ t) ∙ ap (λ ws. run.before ++ ws) (append_assoc (run.first ∷ run.others) run.behind (z ∷ t)))
              ∙ sym (append_assoc (x ∷ p) run.before ((run.first ∷ run.others) ++ (run.behind ++ z ∷ t)));
          one = run.one;
          none_before = λ d h. ⊎_elim
              (λ k e. inside (sym e ∙ ⊎_elim (λ q. ap class (sym q)) (λ q. same d q) k))
              (λ k. run.none_before d k)
              (Has-append_cases d (x ∷ p) run.before h);
          none_behind = λ d h. ⊎_elim
              (λ k. run.none_behind d k)
              (λ k. ⊎_elim (λ q e. inside (sym e ∙ ap class (sym q) ∙ back)) (λ q e. inside (sym (apart x run.first z d (subst (InOrder (x ∷ run.first ∷ z ∷ d ∷ [])) (sym parts)
              (order_append (x ∷ []) (run.first ∷ z ∷ d ∷ []) (x ∷ p) ((y ∷ g) ++ z ∷ t) (inl (refl, tt))
              (order_append (run.first ∷ []) (z ∷ d ∷ []) (y ∷ g) (z ∷ t) (order_one run.first (y ∷ g) in_gap) (inl (refl, order_one d t q))))) (sym back) (sym e)))) k)
              (Has-append_cases d run.behind (z ∷ t) h);
        }
          where
            in_gap : Has run.first (y ∷ g)
            in_gap = subst (Has run.first) (sym run.whole) (Has-append_right run.first run.before ((run.first ∷ run.others) ++ run.behind) (inl refl))

            inside : class run.first ≢ class x
            inside = ⊎_elim (λ q. subst (λ v. class v ≢ class x) q differ) (λ k. far run.first k) in_gap

-- a list whose classes do not cross has a run of a class that stands nowhere else
pub least_run : (class : ℕ → ℕ) (x : ℕ) (l : List ℕ) → NoCross class (x ∷ l) → Run class (x ∷ l)
least_run class x l apart = run_below (suc (length l)) class x l (omega arith) apart
