-- Trees with a hole: what stands in it is exchanged for something else.
use Rattle.std.proofs.Common.{◌≡◌, ℕ, ◌≤◌, Bool, true, false, List, [], ◌∷◌, ◌++◌, length, length-append, reverse, refl}
use Rattle.std.proofs.Common.{sym, ap, ◌∙◌, subst, ⊎_elim, append_assoc, append-nil, arith, IsPermutation}
use Rattle.std.proofs.lemmas.List.{reverse-append}
use Rattle.std.proofs.lemmas.List.Sorted.{IsPermutation-sym, IsPermutation-trans, IsPermutation-cons}
use Rattle.std.proofs.lemmas.List.Sorted.{IsPermutation-middle}
use Rattle.cp_pq.specs.declared.node.Node.{Node}
use Rattle.cp_pq.specs.declared.node.Node.TheVariants.{P, Q}
use Rattle.cp_pq.specs.declared.frame.Label.{Label}
use Rattle.cp_pq.specs.declared.frame.Frame.{Frame}
use Rattle.cp_pq.specs.Readings.{Reads, ReadsAll, any_order, forward, backward, more}
use Rattle.cp_pq.specs.Keeping.{Keeps}
use Rattle.cp_pq.specs.Frames.{node_of, fill}
use Rattle.cp_pq.specs.Holes.{IsInQ}
use Rattle.cp_pq.specs.Promises.{in_direction}
use Rattle.cp_pq.proofs.ReadingLaws.{ReadsAll_cons, ReadsAll_join, ReadsAll_cut, Reads_P, Reads_Q}
use Rattle.cp_pq.proofs.Tops.{find_in}
use Rattle.cp_pq.proofs.KeepingLaws.{Keeps_refl, Keeps_append, Keeps_Q}
use Rattle.cp_pq.proofs.FilledChanges.{keeps_filled}

-- a word of one kind: words round a run, in whose place each other run of its kind gives a word of this kind, and each
-- run of the other kind a word of the other; d is the direction in which the place is read
pub record Around (allows : Bool → Type 0) (one other : List ℕ → Type 0) (run_of run_for : Bool → List ℕ → Type 0)
    (word : List ℕ) : Type 0 where
  pub d : Bool
  pub allowed : allows d
  pub before : List ℕ
  pub run : List ℕ
  pub after : List ℕ
  pub is : word ≡ before ++ (run ++ after)
  pub reads : run_of d run
  pub again : (u : List ℕ) → run_of d u → one (before ++ (u ++ after))
  pub exchanged : (u : List ℕ) → run_for d u → other (before ++ (u ++ after))

module _ (may : ℕ → Bool → Bool) (G : Bool → Type 0) (K J : Bool → List ℕ → Type 0) where
  -- each reading of the one node is words round what stands in it, which may be exchanged
  abbrev Exchanges : Node → Node → Type 0
  Exchanges n m = (word : List ℕ) → Reads may n word → Around G (Reads may n) (Reads may m) K J word

  -- words round words round a run
  glue : (p0 p u q q0 : List ℕ) → p0 ++ ((p ++ (u ++ q)) ++ q0) ≡ (p0 ++ p) ++ (u ++ (q ++ q0))
  glue p0 p u q q0 = ap (λ z. p0 ++ z) (append_assoc p (u ++ q) q0 ∙ ap (λ z. p ++ z) (append_assoc u q q0))
      ∙ sym (append_assoc p0 p (u ++ (q ++ q0)))

  -- a row with the node in it
  in_row : (n m : Node) (a b : List Node) → Exchanges n m → (word : List ℕ) → ReadsAll may (a ++ n ∷ b) word
      → Around G (ReadsAll may (a ++ n ∷ b)) (ReadsAll may (a ++ m ∷ b)) K J word
  in_row n m a b one word r =
      let c = ReadsAll_cut may a (n ∷ b) word r in
      let e = ReadsAll_cons may n b c.1 c.4 in
      let g = one e.0 e.3 in
      record {
        d = g.d;
        allowed = g.allowed;
        before = c.0 ++ g.before;
        run = g.run;
        after = g.after ++ e.1;
        is = c.2 ∙ ap (λ z. c.0 ++ z) (e.2 ∙ ap (λ z. z ++ e.1) g.is) ∙ glue c.0 g.before g.run g.after e.1;
        reads = g.reads;
        again = λ u h. subst (ReadsAll may (a ++ n ∷ b)) (glue c.0 g.before u g.after e.1)
            (ReadsAll_join may a (n ∷ b) c.0 _ c.3 (more n b (g.before ++ (u ++ g.after)) e.1 (g.again u h) e.4));
        exchanged = λ u h. subst (ReadsAll may (a ++ m ∷ b)) (glue c.0 g.before u g.after e.1)
            (ReadsAll_join may a (m ∷ b) c.0 _ c.3 (more m b (g.before ++ (u ++ g.after)) e.1 (g.exchanged u h) e.4));
      }

  -- other words of which each is one of these
  wrap : (R S V W : List ℕ → Type 0) (word : List ℕ) → ((w : List ℕ) → R w → V w) → ((w : List ℕ) → S w → W w)
      → Around G R S K J word → Around G V W K J word
  wrap R S V W word f g h = record {
    d = h.d;
    allowed = h.allowed;
    before = h.before;
    run = h.run;
    after = h.after;
    is = h.is;
    reads = h.reads;
    again = λ u x. f _ (h.again u x);
    exchanged = λ u x. g _ (h.exchanged u x);
  }

  -- a row with a node in it, from its end
  turn : (a b : List Node) (n : Node) → reverse (a ++ n ∷ b) ≡ reverse b ++ n ∷ reverse a
  turn a b n = reverse-append a (n ∷ b) ∙ ap (λ z. z ++ reverse a) (reverse-append (n ∷ []) b)
      ∙ append_assoc (reverse b) (n ∷ []) (reverse a)

  -- a Q-node with the node as a kid
  in_Q : (n m : Node) (v : ℕ) (a b : List Node) → Exchanges n m → Exchanges (Q v (a ++ n ∷ b)) (Q v (a ++ m ∷ b))
  in_Q n m v a b one word r =
      ⊎_elim
      (λ h. wrap (ReadsAll may (a ++ n ∷ b)) (ReadsAll may (a ++ m ∷ b)) (Reads may (Q v (a ++ n ∷ b)))
      (Reads may (Q v (a ++ m ∷ b))) word (λ w x. forward v (a ++ n ∷ b) w h.0 x)
      (λ w x. forward v (a ++ m ∷ b) w h.0 x) (in_row n m a b one word h.1))
      (λ h. wrap (ReadsAll may (reverse b ++ n ∷ reverse a)) (ReadsAll may (reverse b ++ m ∷ reverse a))
      (Reads may (Q v (a ++ n ∷ b))) (Reads may (Q v (a ++ m ∷ b))) word
      (λ w x. backward v (a ++ n ∷ b) w h.0 (subst (λ z. ReadsAll may z w) (sym (turn a b n)) x))
      (λ w x. backward v (a ++ m ∷ b) w h.0 (subst (λ z. ReadsAll may z w) (sym (turn a b m)) x))
      (in_row n m (reverse b) (reverse a) one word (subst (λ z. ReadsAll may z word) (turn a b n) h.1)))
      (Reads_Q may v (a ++ n ∷ b) word r)

  -- the node in another order of the kids
  put : (a b before after : List Node) (n : Node) → IsPermutation (a ++ b) (before ++ after)
      → IsPermutation (a ++ n ∷ b) (before ++ n ∷ after)
  put a b before after n h =
      IsPermutation-trans _ _ _ (IsPermutation-middle a n b)
      (IsPermutation-trans _ _ _ (IsPermutation-cons n _ _ h)
      (IsPermutation-sym _ _ (IsPermutation-middle before n after)))

  -- a P-node with the node as a kid
  in_P : (n m : Node) (o : ℕ) (a b : List Node) → Exchanges n m → Exchanges (P o (a ++ n ∷ b)) (P o (a ++ m ∷ b))
  in_P n m o a b one word r =
      let s = Reads_P may o (a ++ n ∷ b) word r in
      let f = find_in (a ++ n ∷ b) s.0 s.1 n a b refl in
      wrap (ReadsAll may (f.before ++ n ∷ f.after)) (ReadsAll may (f.before ++ m ∷ f.after))
      (Reads may (P o (a ++ n ∷ b))) (Reads may (P o (a ++ m ∷ b))) word
      (λ w x. any_order o (a ++ n ∷ b) (f.before ++ n ∷ f.after) w (put a b f.before f.after n f.rest) x)
      (λ w x. any_order o (a ++ m ∷ b) (f.before ++ m ∷ f.after) w (put a b f.before f.after m f.rest) x)
      (in_row n m f.before f.after one word (subst (λ z. ReadsAll may z word) f.is s.2))

  -- an inner node with the node as a kid
  in_frame : (label : Label) (n m : Node) (a b : List Node) → Exchanges n m
      → Exchanges (node_of label (a ++ n ∷ b)) (node_of label (a ++ m ∷ b))
  in_frame (Label.P o) n m a b one = in_P n m o a b one
  in_frame (Label.Q v) n m a b one = in_Q n m v a b one

  -- what holds of the node that was changed holds of the whole
  in_frames : (fs : List Frame) (x y n m : Node) → n ∷ [] ≡ fill fs (x ∷ []) → m ∷ [] ≡ fill fs (y ∷ [])
      → Exchanges x y → Exchanges n m
  in_frames [] x y n m e1 e2 one =
      let a : n ≡ x = cc in let b : m ≡ y = cc in
      subst (λ z. Exchanges z m) (sym a) (subst (λ z. Exchanges x z) (sym b) one)
  in_frames (f ∷ fs) x y n m e1 e2 one =
      in_frames fs (node_of f.label (f.before ++ x ∷ f.after)) (node_of f.label (f.before ++ y ∷ f.after)) n m e1 e2
      (in_frame f.label x y f.before f.after one)

module _ (may : ℕ → Bool → Bool) where
  -- one node in the hole is exchanged for another
  pub filled_node : (fs : List Frame) (k j n m : Node) → n ∷ [] ≡ fill fs (k ∷ []) → m ∷ [] ≡ fill fs (j ∷ [])
      → (word : List ℕ) → Reads may n word
      → Around (λ d. Unit {0}) (Reads may n) (Reads may m) (λ d. Reads may k) (λ d. Reads may j) word
  filled_node fs k j n m e1 e2 =
      in_frames may (λ d. Unit {0}) (λ d. Reads may k) (λ d. Reads may j) fs k j n m e1 e2 here
    where
      here : (w : List ℕ) → Reads may k w
          → Around (λ d. Unit {0}) (Reads may k) (Reads may j) (λ d. Reads may k) (λ d. Reads may j) w
      here w r = record {
        d = false;
        allowed = tt;
        before = [];
        run = w;
        after = [];
        is = sym (append-nil w);
        reads = r;
        again = λ u h. subst (Reads may k) (sym (append-nil u)) h;
        exchanged = λ u h. subst (Reads may j) (sym (append-nil u)) h;
      }

  module _ (v : ℕ) (ks js : List Node) where
    -- a word round a run of the kids ks, in whose place the row js may stand
    abbrev RunIsExchanged : (one other : List ℕ → Type 0) → List ℕ → Type 0
    RunIsExchanged one other word =
        Around (λ d. may v d ≡ true) one other (λ d. ReadsAll may (in_direction d ks)) (λ d. ReadsAll may (in_direction d js))
        word

    -- a row with a run in it, from its end
    turn_run : (a b row : List Node) → reverse (a ++ (row ++ b)) ≡ reverse b ++ (reverse row ++ reverse a)
    turn_run a b row = reverse-append a (row ++ b) ∙ ap (λ z. z ++ reverse a) (reverse-append row b)
        ∙ append_assoc (reverse b) (reverse row) (reverse a)

    -- a run with rows round it
    row : (a ls b : List Node) (x u z : List ℕ) → ReadsAll may a x → ReadsAll may ls u → ReadsAll may b z
        → ReadsAll may (a ++ (ls ++ b)) (x ++ (u ++ z))
    row a ls b x u z f g h = ReadsAll_join may a (ls ++ b) x (u ++ z) f (ReadsAll_join may ls b u z g h)

    -- a Q-node with the run among its kids
    run_in_Q : (a b : List Node) (w : List ℕ) → Reads may (Q v (a ++ (ks ++ b))) w
        → RunIsExchanged (Reads may (Q v (a ++ (ks ++ b)))) (Reads may (Q v (a ++ (js ++ b)))) w
    run_in_Q a b w r = ⊎_elim
        (λ h. let c = ReadsAll_cut may a (ks ++ b) w h.1 in let e = ReadsAll_cut may ks b c.1 c.4 in
        record {
          d = false;
          allowed = h.0;
          before = c.0;
          run = e.0;
          after = e.1;
          is = c.2 ∙ ap (λ z. c.0 ++ z) e.2;
          reads = e.3;
          again = λ u x. forward v (a ++ (ks ++ b)) _ h.0 (row a ks b c.0 u e.1 c.3 x e.4);
          exchanged = λ u x. forward v (a ++ (js ++ b)) _ h.0 (row a js b c.0 u e.1 c.3 x e.4);
        })
        (λ h. let c = ReadsAll_cut may (reverse b) (reverse ks ++ reverse a) w
        (subst (λ z. ReadsAll may z w) (turn_run a b ks) h.1) in
        let e = ReadsAll_cut may (reverse ks) (reverse a) c.1 c.4 in
        record {
          d = true;
          allowed = h.0;
          before = c.0;
          run = e.0;
          after = e.1;
          is = c.2 ∙ ap (λ z. c.0 ++ z) e.2;
          reads = e.3;
          again = λ u x. backward v (a ++ (ks ++ b)) _ h.0
              (subst (λ z. ReadsAll may z (c.0 ++ (u ++ e.1))) (sym (turn_run a b ks))
              (row (reverse b) (reverse ks) (reverse a) c.0 u e.1 c.3 x e.4));
          exchanged = λ u x. backward v (a ++ (js ++ b)) _ h.0
              (subst (λ z. ReadsAll may z (c.0 ++ (u ++ e.1))) (sym (turn_run a b js))
              (row (reverse b) (reverse js) (reverse a) c.0 u e.1 c.3 x e.4));
        })
        (Reads_Q may v (a ++ (ks ++ b)) w r)

    -- a run of kids of a Q-node is exchanged for another row, which is read in the direction of the Q-node
    pub filled_run : (fs : List Frame) → IsInQ v fs → (n m : Node) → n ∷ [] ≡ fill fs ks → m ∷ [] ≡ fill fs js
        → (word : List ℕ) → Reads may n word → RunIsExchanged (Reads may n) (Reads may m) word
    filled_run [] h n m e1 e2 = absurd h
    filled_run (f ∷ fs) h n m e1 e2 =
        in_frames may (λ d. may v d ≡ true) (λ d. ReadsAll may (in_direction d ks)) (λ d. ReadsAll may (in_direction d js)) fs
        (node_of f.label (f.before ++ (ks ++ f.after))) (node_of f.label (f.before ++ (js ++ f.after))) n m e1 e2
        (subst (λ l. (w : List ℕ) → Reads may (node_of l (f.before ++ (ks ++ f.after))) w
        → RunIsExchanged (Reads may (node_of l (f.before ++ (ks ++ f.after))))
        (Reads may (node_of l (f.before ++ (js ++ f.after)))) w) (sym h.0) (run_in_Q f.before f.after))

module _ (V : ℕ → Type 0) where
  -- what a node in the hole keeps, the whole keeps
  pub filled_node_keeps : (fs : List Frame) (k m : Node) → Keeps V (k ∷ []) (m ∷ [])
      → Keeps V (fill fs (k ∷ [])) (fill fs (m ∷ []))
  filled_node_keeps = keeps_filled V

  -- what a run of kids of a Q-node keeps, the whole keeps
  pub filled_run_keeps : (v : ℕ) (fs : List Frame) → IsInQ v fs → (ks js : List Node) → Keeps V ks js → 1 ≤ length js
      → Keeps V (fill fs ks) (fill fs js)
  filled_run_keeps v [] h ks js k one = absurd h
  filled_run_keeps v (f ∷ fs) h ks js k one =
      keeps_filled V fs (node_of f.label (f.before ++ (ks ++ f.after))) (node_of f.label (f.before ++ (js ++ f.after)))
      (subst (λ l. Keeps V (node_of l (f.before ++ (ks ++ f.after)) ∷ [])
      (node_of l (f.before ++ (js ++ f.after)) ∷ [])) (sym h.0)
      (Keeps_Q V v (f.before ++ (ks ++ f.after)) (f.before ++ (js ++ f.after)) kids (λ x. long)))
    where
      kids : Keeps V (f.before ++ (ks ++ f.after)) (f.before ++ (js ++ f.after))
      kids = Keeps_append V f.before f.before (ks ++ f.after) (js ++ f.after) (Keeps_refl V f.before)
          (Keeps_append V ks js f.after f.after k (Keeps_refl V f.after))

      long : 2 ≤ length (f.before ++ (js ++ f.after))
      long = let a = length-append f.before (js ++ f.after) in let b = length-append js f.after in let c =
          length-append f.before f.after in
          let some = h.1 in omega (arith, a, b, c, some, one)
