-- What the links of pipes tell: the pipe of greatest degree and least name, and the pipe of a vertex.
use Rattle.std.proofs.Common.{◌≡◌, ◌⊎◌, ℕ, suc, zero, ◌-◌, ◌<◌, ◌≤◌, ◌^◌, Bool, true, false, ◌&&◌, ◌||◌, eqb, List, [], ◌∷◌, ◌++◌, length, map, slice_index_or, sym, refl, ap, ◌∙◌, subst, inl, inr, arith, ⊎_elim}
use Rattle.std.specs.Prelude.{Option, Some, None, MatchOption, filter}
use Rattle.std.specs.Option.{option_map}
use Rattle.std.specs.List.Sorted.{IsStrictlyIncreasing}
use Rattle.std.specs.List.{All, Contains, flat_map}
use Rattle.std.proofs.lemmas.Bool.{false≢true, and_parts, or_parts, cond-true, cond-false, cases_lt, eq-eqb, ne_eqb, eqb-true, ltb-true}
use Rattle.std.proofs.lemmas.List.Elements.{All-head, All-tail, All-filter}
use Rattle.cp_lists.specs.CyclicLists.{Has, Lacks, Distinct}
use Rattle.cp_lists.proofs.DistinctLists.{has_lacks}
use Rattle.cp_board.specs.declared.parts.Pipe.{Pipe}
use Rattle.cp_board.specs.Names.{has}
use Rattle.cp_board.specs.Instances.{Synchronized, IsSynchronized, pipe_with}
use Rattle.cp_board.proofs.ListTests.{Contains-from_has}
use Rattle.cp_board.proofs.NamedLists.{rises_from}
use Rattle.cp_sync.proofs.EqualOrders.{eqb_comm}
use Rattle.cp_store.specs.declared.links.Link.{Link}
use Rattle.cp_store.specs.Ranks.{rank}
use Rattle.cp_store.specs.Forests.{items_at}
use Rattle.cp_store.specs.Links.{link_number, HasLinks, down, names_under}
use Rattle.cp_store.specs.PipeLinks.{has_degree, has_pole, pipe_links}
use Rattle.cp_store.specs.BestPipe.{IsBestOf}
use Rattle.cp_store.proofs.Sides.{below, HasSides-rises}
use Rattle.cp_store.proofs.Indexes.{has-names_under, All-values, All-items}

-- one of two truth values holds where either holds
either : (a b : Bool) → (a || b) ≡ true → (a ≡ true) ⊎ (b ≡ true)
either true b e = inl refl
either false b e = inr e

-- where a pipe has a key there is one that has it
linked-pipe : (has_key : Pipe → ℕ → Bool) (ps : List Pipe) (k n : ℕ) → pipe_links has_key ps k n ≡ true
    → (p : Pipe) × Contains ps p × (n ≡ p.name) × (has_key p k ≡ true)
linked-pipe has_key [] k n e = absurd (false≢true e)
linked-pipe has_key (p ∷ ps) k n e =
    ⊎_elim
    (λ t. let h = and_parts (eqb n p.name) (has_key p k) t in
    (p, (0, omega arith, refl), eqb-true n p.name h.0, h.1))
    (λ t. let r = linked-pipe has_key ps k n t in
    (r.0, (suc r.1.0, omega (arith, r.1.1), r.1.2), r.2, r.3))
    (either (eqb n p.name && has_key p k) (pipe_links has_key ps k n) e)

-- a pipe among some pipes has its keys
links-at : (has_key : Pipe → ℕ → Bool) (ps : List Pipe) (k : ℕ) (d : Pipe) (key : ℕ) → k < length ps
    → has_key (slice_index_or ps k d) key ≡ true
    → pipe_links has_key ps key (slice_index_or ps k d).name ≡ true
links-at has_key [] k d key lt e = absurd (omega (arith, lt))
links-at has_key (p ∷ ps) zero d key lt e =
    ap (λ b. (b && has_key p key) || pipe_links has_key ps key p.name) (eq-eqb p.name p.name refl)
    ∙ ap (λ b. b || pipe_links has_key ps key p.name) e
links-at has_key (p ∷ ps) (suc k) d key lt e =
    ap (λ b. (eqb (slice_index_or ps k d).name p.name && has_key p key) || b)
    (links-at has_key ps k d key (omega (arith, lt)) e)
    ∙ or_true (eqb (slice_index_or ps k d).name p.name && has_key p key)
  where
    or_true : (b : Bool) → (b || true) ≡ true
    or_true true = refl
    or_true false = refl

-- no link is greater than the last one
at_most : (ys : List Link) (x : Link) (r : ℕ) → below link_number (link_number x) ys ≡ true
    → has (map link_number (ys ++ x ∷ [])) r ≡ true
    → r ≤ link_number x
at_most [] x r b h =
    ⊎_elim
    (λ t. let e = eqb-true r (link_number x) t in omega (arith, e))
    (λ f. absurd (false≢true f))
    (either (eqb r (link_number x)) false h)
at_most (y ∷ ys) x r b h =
    let parts = and_parts _ (below link_number (link_number x) ys) b in
    let lt = ltb-true (link_number y) (link_number x) parts.0 in
    ⊎_elim
    (λ t. let e = eqb-true r (link_number y) t in omega (arith, e, lt))
    (λ t. at_most ys x r parts.1 t)
    (either (eqb r (link_number y)) (has (map link_number (ys ++ x ∷ [])) r) h)

-- the last link is one of the links
has-last : (ys : List Link) (x : Link) → has (map link_number (ys ++ x ∷ [])) (link_number x) ≡ true
has-last [] x = ap (λ b. b || false) (eq-eqb (link_number x) (link_number x) refl)
has-last (y ∷ ys) x =
    ap (λ b. eqb (link_number x) (link_number y) || b) (has-last ys x) ∙ or_true (eqb (link_number x) (link_number y))
  where
    or_true : (b : Bool) → (b || true) ≡ true
    or_true true = refl
    or_true false = refl

-- the name of the last link fits
fits-last : (ys : List Link) (x : Link) → All (λ y. y.name < 18446744073709551616) (ys ++ x ∷ [])
    → x.name < 18446744073709551616
fits-last [] x all = All-head (λ (y : Link). y.name < 18446744073709551616) x [] all
fits-last (y ∷ ys) x all = fits-last ys x (All-tail (λ (z : Link). z.name < 18446744073709551616) y (ys ++ x ∷ []) all)

-- of a tree without links there are no pipes
pub no_pipes : (ls : List (List Link)) (root : ℕ) (ps : List Pipe)
    → All (λ p. p.name < 18446744073709551616) ps
    → HasLinks ls root (down (pipe_links has_degree ps))
    → items_at ls root ≡ []
    → ps ≡ []
no_pipes ls root [] fits has_links none = refl
no_pipes ls root (p ∷ ps) fits has_links none =
    let m = 18446744073709551615 - p.name in
    let lt = All-head (λ (q : Pipe). q.name < 18446744073709551616) p ps fits in
    let here : pipe_links has_degree (p ∷ ps) (length p.pairs) p.name ≡ true =
    links-at has_degree (p ∷ ps) 0 p (length p.pairs) (omega arith)
    (eq-eqb (length p.pairs) (length p.pairs) refl) in
    let back : 18446744073709551615 - m ≡ p.name = omega (arith, lt) in
    absurd (false≢true
    (sym (ap (λ xs. has (map link_number xs) (rank (length p.pairs, m))) none)
    ∙ has_links.links.each (length p.pairs) m (omega (arith, lt))
    ∙ ap (pipe_links has_degree (p ∷ ps) (length p.pairs)) back ∙ here))

-- the last link tells the best pipe
pub best_of-last : (ls : List (List Link)) (root : ℕ) (ps : List Pipe) (ys : List Link) (x : Link)
    → All (λ p. p.name < 18446744073709551616) ps
    → HasLinks ls root (down (pipe_links has_degree ps))
    → items_at ls root ≡ ys ++ x ∷ []
    → IsBestOf ps x.key (18446744073709551615 - x.name)
best_of-last ls root ps ys x fits has_links last =
    let small = fits-last ys x (subst (All (λ (y : Link). y.name < 18446744073709551616)) last has_links.links.fit) in
    let m = 18446744073709551615 - x.name in
    let told : pipe_links has_degree ps x.key m ≡ true =
    sym (has_links.links.each x.key x.name small)
    ∙ ap (λ xs. has (map link_number xs) (link_number x)) last ∙ has-last ys x in
    let found = linked-pipe has_degree ps x.key m told in
    let sides = HasSides-rises link_number ys x []
    (rises_from _ (subst (λ xs. IsStrictlyIncreasing (map link_number xs)) last has_links.links.rise)) in
    record {
      pipe = found.0;
      live = found.1;
      has_degree = sym (eqb-true x.key (length found.0.pairs) found.3);
      has_name = sym found.2;
      others = λ k d lt.
          let q = slice_index_or ps k d in
          let lt_name : q.name < 18446744073709551616 = fits k d lt in
          let n = 18446744073709551615 - q.name in
          let back : 18446744073709551615 - n ≡ q.name = omega (arith, lt_name) in
          let listed : has (map link_number (ys ++ x ∷ [])) (rank (length q.pairs, n)) ≡ true =
          sym (ap (λ xs. has (map link_number xs) (rank (length q.pairs, n))) last)
          ∙ has_links.links.each (length q.pairs) n (omega (arith, lt_name))
          ∙ ap (pipe_links has_degree ps (length q.pairs)) back
          ∙ links-at has_degree ps k d (length q.pairs) lt (eq-eqb (length q.pairs) (length q.pairs) refl) in
          let le : rank (length q.pairs, n) ≤ rank (x.key, x.name) =
          at_most ys x (rank (length q.pairs, n)) sides.below_item listed in
          ⊎_elim
          (λ (l : length q.pairs < x.key). inl l)
          (λ (g : x.key ≤ length q.pairs).
          inr (omega (arith, le, g, small, lt_name), omega (arith, le, g, small, lt_name)))
          (cases_lt (length q.pairs) x.key);
    }

-- the ends of pipes, in one list
abbrev poles_of : List Pipe → List ℕ
poles_of ps = flat_map (λ p. p.a ∷ p.b ∷ []) ps

-- a vertex that is linked is an end
poled : (ps : List Pipe) (v n : ℕ) → pipe_links has_pole ps v n ≡ true → Has v (poles_of ps)
poled [] v n e = absurd (false≢true e)
poled (p ∷ ps) v n e =
    ⊎_elim
    (λ t. let h = and_parts (eqb n p.name) (has_pole p v) t in
    ⊎_elim
    (λ a. inl (sym (eqb-true v p.a a)))
    (λ b. inr (inl (sym (eqb-true v p.b b))))
    (either (eqb v p.a) (eqb v p.b) h.1))
    (λ t. inr (inr (poled ps v n t)))
    (either (eqb n p.name && has_pole p v) (pipe_links has_pole ps v n) e)

-- an end of a pipe, either way round
turned : (p : Pipe) (v : ℕ) → (eqb p.a v || eqb p.b v) ≡ has_pole p v
turned p v = ap (λ b. b || eqb p.b v) (eqb_comm p.a v) ∙ ap (λ b. eqb v p.a || b) (eqb_comm p.b v)

-- the pipe of a vertex is the one that is linked
pole-some : (ps : List Pipe) (v n : ℕ) → Distinct (poles_of ps) → pipe_links has_pole ps v n ≡ true
    → option_map (λ p. p.name) (pipe_with ps v) ≡ Some n
pole-some [] v n d e = absurd (false≢true e)
pole-some (p ∷ ps) v n d e =
    ⊎_elim
    (λ t. let h = and_parts (eqb n p.name) (has_pole p v) t in
    ap (option_map (λ (q : Pipe). q.name))
    (cond-true (eqb p.a v || eqb p.b v) (Some p) (pipe_with ps v) (turned p v ∙ h.1))
    ∙ ap Some (sym (eqb-true n p.name h.0)))
    (λ t. let at = poled ps v n t in
    ap (option_map (λ (q : Pipe). q.name))
    (cond-false (eqb p.a v || eqb p.b v) (Some p) (pipe_with ps v)
    (ap (λ b. b || eqb p.b v) (ne_eqb p.a v (λ s. has_lacks v (poles_of ps) at
    (subst (λ u. Lacks u (poles_of ps)) s d.0.1)))
    ∙ ne_eqb p.b v (λ s. has_lacks v (poles_of ps) at (subst (λ u. Lacks u (poles_of ps)) s d.1.0))))
    ∙ pole-some ps v n d.1.1 t)
    (either (eqb n p.name && has_pole p v) (pipe_links has_pole ps v n) e)

-- a vertex that is not linked has no pipe
pole-none : (ps : List Pipe) (v : ℕ) → All (λ p. p.name < 18446744073709551616) ps
    → ((n : ℕ) → n < 18446744073709551616 → pipe_links has_pole ps v n ≡ false)
    → pipe_with ps v ≡ None
pole-none [] v fits none = refl
pole-none (p ∷ ps) v fits none =
    let lt = All-head (λ (q : Pipe). q.name < 18446744073709551616) p ps fits in
    let here = or_parts (eqb p.name p.name && has_pole p v) (pipe_links has_pole ps v p.name) (none p.name lt) in
    let off : has_pole p v ≡ false =
    sym (ap (λ b. b && has_pole p v) (eq-eqb p.name p.name refl)) ∙ here.0 in
    cond-false (eqb p.a v || eqb p.b v) (Some p) (pipe_with ps v) (turned p v ∙ off)
    ∙ pole-none ps v (All-tail (λ (q : Pipe). q.name < 18446744073709551616) p ps fits)
    (λ n l. (or_parts (eqb n p.name && has_pole p v) (pipe_links has_pole ps v n) (none n l)).1)

-- the names of the pipes of an instance fit
pub pipes-fit : (i : Synchronized) → IsSynchronized i → All (λ p. p.name < 18446744073709551616) i.pipes
pipes-fit i is k d lt =
    let less = All-items (λ (p : Pipe). p.name) (λ n. n < 2 ^ 63) i.pipes is.pipes_named.fit k d lt in
    omega (arith, less)

-- the pipe of a vertex of an instance is told by its links
pub pole-told : (i : Synchronized) (ls : List (List Link)) (root v : ℕ) (o : Option ℕ) → IsSynchronized i
    → HasLinks ls root (pipe_links has_pole i.pipes)
    → MatchOption o (names_under v (items_at ls root) ≡ []) (λ n. has (names_under v (items_at ls root)) n ≡ true)
    → o ≡ option_map (λ p. p.name) (pipe_with i.pipes v)
pole-told i ls root v None is has_links told =
    sym (ap (option_map (λ (p : Pipe). p.name)) (pole-none i.pipes v (pipes-fit i is)
    (λ n lt. sym (has_links.links.each v n lt)
    ∙ sym (has-names_under v n (items_at ls root) lt has_links.links.fit)
    ∙ ap (λ ns. has ns n) told)))
pole-told i ls root v (Some n) is has_links told =
    let xs : List Link = items_at ls root in
    let fits : ℕ → Type 0 = λ m. m < 18446744073709551616 in
    let all : All fits (names_under v xs) =
    All-values (λ (x : Link). x.name) fits (filter (λ (x : Link). eqb x.key v) xs)
    (All-filter (λ (x : Link). eqb x.key v) (λ (x : Link). fits x.name) xs has_links.links.fit) in
    let c = Contains-from_has (names_under v xs) n told in
    let lt : n < 18446744073709551616 = subst fits c.2 (all c.0 n c.1) in
    sym (pole-some i.pipes v n is.ends_apart
    (sym (has_links.links.each v n lt) ∙ sym (has-names_under v n xs lt has_links.links.fit) ∙ told))

-- a number stands between two lists
pub has-between : (xs ys : List ℕ) (n : ℕ) → has (xs ++ n ∷ ys) n ≡ true
has-between [] ys n = ap (λ b. b || has ys n) (eq-eqb n n refl)
has-between (x ∷ xs) ys n = ap (λ b. eqb n x || b) (has-between xs ys n) ∙ or_true (eqb n x)
  where
    or_true : (b : Bool) → (b || true) ≡ true
    or_true true = refl
    or_true false = refl
