-- Nodes fitted to places: what a row of them reads, and the closing of P-nodes and Q-nodes.
use Rattle.std.proofs.Common.{◌≡◌, ℕ, ◌<◌, ◌≤◌, Bool, true, false, List, [], ◌∷◌, ◌++◌, length, reverse, refl, sym, ap, ◌∙◌, subst, inl, ⊎_elim, arith, IsPermutation}
use Rattle.std.specs.Prelude.{nat_lt}
use Rattle.std.specs.List.{list_all, AllZip, AllByRecursion}
use Rattle.std.specs.List.Sorted.{IsNonDecreasingBy}
use Rattle.std.proofs.lemmas.Bool.{and_parts, lt-ltb, le-ltb, ltb-true}
use Rattle.std.proofs.lemmas.List.{reverse-append}
use Rattle.std.proofs.lemmas.List.Sorted.{IsPermutation-sym, IsPermutation-trans}
use Rattle.cp_lists.specs.CyclicLists.{Has}
use Rattle.cp_lists.proofs.DistinctLists.{Has-append_left, Has-append_right}
use Rattle.cp_pq.specs.declared.node.Node.{Node}
use Rattle.cp_pq.specs.declared.node.Node.TheVariants.{P, Q, Leaf}
use Rattle.cp_pq.specs.Nodes.{leaves, all_leaves, is_branching, has_vars_below}
use Rattle.cp_pq.specs.Readings.{Reads, ReadsAll, leaf, any_order, forward, backward, none, more}
use Rattle.cp_pq.specs.Words.{Licensed}
use Rattle.cp_pq.proofs.NodeLayers.{leaves_P, leaves_Q, leaves_Leaf, all_leaves_cons, Leaf_P, Leaf_Q}
use Rattle.cp_pq.proofs.PermutedLists.{Has-IsPermutation}
use Rattle.cp_pq.proofs.ReadingLaws.{ReadsAll_nil, ReadsAll_cons, ReadsAll_cut, Reads_P, Reads_Q, read_leaves}
use Rattle.cp_force.specs.declared.fitting.Fitted.{Fitted}
use Rattle.cp_pq.specs.Promises.{in_direction}
use Rattle.cp_force.specs.Fits.{Rises, AreBelow, IsFitted, IsFittedRow, IsTiedReading, IsTiedRow, words_of, ties_of, first_key, is_turned}
use Rattle.cp_pq.proofs.NodeTests.{below_P, below_Q, branching_P, branching_Q}
use Rattle.cp_force.proofs.PermutedRows.{zip_permuted, zip_flipped, all_permuted, zip_join, zip_reversed}
use Rattle.cp_force.proofs.RisingRows.{KeysRise, sorted_is_rising}
use Rattle.cp_force.proofs.Words.{Reads-turned}
use Rattle.cp_lists.proofs.EachItem.{all-append, all-reverse}

-- ties of both parts
pub Licensed-join : (d : Bool) (may : ℕ → Bool → Bool) (ts us : List (ℕ × Bool)) → Licensed d may ts
    → Licensed d may us → Licensed d may (ts ++ us)
Licensed-join d may [] us a b = b
Licensed-join d may (t ∷ ts) us a b = (a.0, Licensed-join d may ts us a.1 b)

-- and cut again
pub Licensed-cut : (d : Bool) (may : ℕ → Bool → Bool) (ts us : List (ℕ × Bool)) → Licensed d may (ts ++ us)
    → Licensed d may ts × Licensed d may us
Licensed-cut d may [] us h = (tt, h)
Licensed-cut d may (t ∷ ts) us h = let r = Licensed-cut d may ts us h.1 in ((h.0, r.0), r.1)

-- what a leaf reads
leaf_word : (may : ℕ → Bool → Bool) (n : Node) (xs : List ℕ) → Reads may n xs → (x : ℕ) → n ≡ Leaf x → leaves n ≡ xs
leaf_word may _ _ (leaf y) x e = leaves_Leaf y
leaf_word may _ _ (any_order o ks turn xs p all) x e = absurd (Leaf_P x o ks (sym e))
leaf_word may _ _ (forward v ks xs m all) x e = absurd (Leaf_Q x v ks (sym e))
leaf_word may _ _ (backward v ks xs m all) x e = absurd (Leaf_Q x v ks (sym e))

-- a leaf reads itself alone
pub reads_Leaf : (may : ℕ → Bool → Bool) (x : ℕ) (xs : List ℕ) → Reads may (Leaf x) xs → xs ≡ x ∷ []
reads_Leaf may x xs r = sym (leaf_word may (Leaf x) xs r x refl) ∙ leaves_Leaf x

-- ties of vars below a number, one behind the other
flat_below : (vars : ℕ) (fs : List Fitted) → AllByRecursion (λ f. AreBelow vars f.ties) fs → AreBelow vars (ties_of fs)
flat_below vars [] h = tt
flat_below vars (f ∷ fs) h = all-append (λ (t : ℕ × Bool). t.0 < vars) f.ties (ties_of fs) h.0 (flat_below vars fs h.1)

-- the same in either direction
both_ways : (vars : ℕ) (b : Bool) (fs : List Fitted) → AllByRecursion (λ f. AreBelow vars f.ties) fs
    → AllByRecursion (λ f. AreBelow vars f.ties) (in_direction b fs)
both_ways vars true fs h = all-reverse (λ (f : Fitted). AreBelow vars f.ties) fs h
both_ways vars false fs h = h

-- the key of a fitted node
key_of : Fitted → ℕ
key_of f = f.key

module _ (place : ℕ → ℕ) where
  -- a part of a word that rises
  rises_left : (xs ys : List ℕ) → Rises place (xs ++ ys) → Rises place xs
  rises_left [] ys h = tt
  rises_left (x ∷ xs) ys h = (λ z has. h.0 z (Has-append_left z xs ys has), rises_left xs ys h.1)

  -- and the part behind it
  rises_right : (xs ys : List ℕ) → Rises place (xs ++ ys) → Rises place ys
  rises_right [] ys h = h
  rises_right (x ∷ xs) ys h = rises_right xs ys h.1

  -- items of the first part come before those of the second
  rises_across : (xs ys : List ℕ) → Rises place (xs ++ ys) → (x y : ℕ) → Has x xs → Has y ys → place x < place y
  rises_across [] ys h x y a b = absurd a
  rises_across (z ∷ xs) ys h x y a b =
      ⊎_elim (λ e. subst (λ w. place w < place y) e (h.0 y (Has-append_right y xs ys b)))
      (λ t. rises_across xs ys h.1 x y t b) a

  -- a leaf of a node stands in what it reads
  stands_in : (may : ℕ → Bool → Bool) (n : Node) (xs : List ℕ) → Reads may n xs → (x : ℕ) → Has x (leaves n) → Has x xs
  stands_in may n xs r x h = Has-IsPermutation x (leaves n) xs (read_leaves may n xs r) h

  -- the leaf that a fitted node has its key from stands in what it reads
  key_in : (may : ℕ → Bool → Bool) (n : Node) (f : Fitted) (xs : List ℕ) → IsFitted place n f → Reads may n xs
      → (x : ℕ) × Has x xs × (f.key ≡ place x)
  key_in may n f xs fit r = (fit.near.0, stands_in may n xs r fit.near.0 fit.near.1, fit.near.2)

  -- what a row of fitted nodes reads by rising places
  row_only : (may : ℕ → Bool → Bool) (ks : List Node) (fs : List Fitted) (xs : List ℕ) → AllZip (IsFitted place) ks fs
      → ReadsAll may ks xs → Rises place xs → (xs ≡ words_of fs) × Licensed false may (ties_of fs)
  row_only may [] [] xs z r rise = (ReadsAll_nil may xs r, tt)
  row_only may [] (f ∷ fs) xs z r rise = absurd z
  row_only may (k ∷ ks) [] xs z r rise = absurd z
  row_only may (k ∷ ks) (f ∷ fs) xs z r rise =
      let cut = ReadsAll_cons may k ks xs r in
      let up : Rises place (cut.0 ++ cut.1) = subst (Rises place) cut.2 rise in
      let one = z.0.only may cut.0 cut.3 (rises_left cut.0 cut.1 up) in
      let others = row_only may ks fs cut.1 z.1 cut.4 (rises_right cut.0 cut.1 up) in (
        cut.2 ∙ ap (λ w. w ++ cut.1) one.0 ∙ ap (λ w. f.word ++ w) others.0,
        Licensed-join false may f.ties (ties_of fs) one.1 others.1,
      )

  -- where its ties are licensed, a row of fitted nodes reads its words
  row_reads : (may : ℕ → Bool → Bool) (ks : List Node) (fs : List Fitted) → AllZip (IsFitted place) ks fs
      → Licensed false may (ties_of fs) → ReadsAll may ks (words_of fs)
  row_reads may [] [] z l = none
  row_reads may [] (f ∷ fs) z l = absurd z
  row_reads may (k ∷ ks) [] z l = absurd z
  row_reads may (k ∷ ks) (f ∷ fs) z l =
      let parts = Licensed-cut false may f.ties (ties_of fs) l in
      more k ks f.word (words_of fs) (z.0.reads may parts.0) (row_reads may ks fs z.1 parts.1)

  -- a key less than all places of what a row reads is less than its keys
  keys_behind : (may : ℕ → Bool → Bool) (n : ℕ) (ks : List Node) (fs : List Fitted) (xs : List ℕ)
      → AllZip (IsFitted place) ks fs → ReadsAll may ks xs → ((y : ℕ) → Has y xs → n < place y)
      → AllByRecursion (λ g. n < key_of g) fs
  unfolding key_of
  keys_behind may n [] [] xs z r low = tt
  keys_behind may n [] (f ∷ fs) xs z r low = absurd z
  keys_behind may n (k ∷ ks) [] xs z r low = absurd z
  keys_behind may n (k ∷ ks) (f ∷ fs) xs z r low =
      let cut = ReadsAll_cons may k ks xs r in
      let near = key_in may k f cut.0 z.0 cut.3 in
      let has : (y : ℕ) → Has y (cut.0 ++ cut.1) → n < place y = λ y h. low y (subst (Has y) (sym cut.2) h) in (
        subst (λ m. n < m) (sym near.2) (has near.0 (Has-append_left near.0 cut.0 cut.1 near.1)),
        keys_behind may n ks fs cut.1 z.1 cut.4 (λ y h. has y (Has-append_right y cut.0 cut.1 h)),
      )

  -- the keys of a row that reads by rising places rise
  row_keys : (may : ℕ → Bool → Bool) (ks : List Node) (fs : List Fitted) (xs : List ℕ) → AllZip (IsFitted place) ks fs
      → ReadsAll may ks xs → Rises place xs → KeysRise key_of fs
  unfolding key_of
  row_keys may [] [] xs z r rise = tt
  row_keys may [] (f ∷ fs) xs z r rise = absurd z
  row_keys may (k ∷ ks) [] xs z r rise = absurd z
  row_keys may (k ∷ ks) (f ∷ fs) xs z r rise =
      let cut = ReadsAll_cons may k ks xs r in
      let up : Rises place (cut.0 ++ cut.1) = subst (Rises place) cut.2 rise in
      let near = key_in may k f cut.0 z.0 cut.3 in (
        subst (λ m. AllByRecursion (λ g. m < key_of g) fs) (sym near.2)
            (keys_behind may (place near.0) ks fs cut.1 z.1 cut.4
            (λ y h. rises_across cut.0 cut.1 up near.0 y near.1 h)),
        row_keys may ks fs cut.1 z.1 cut.4 (rises_right cut.0 cut.1 up),
      )

  -- the key of a row of two nodes or more is the place of one of its leaves
  row_near : (ks : List Node) (fs : List Fitted) → AllZip (IsFitted place) ks fs → 2 ≤ length ks
      → (x : ℕ) × Has x (all_leaves ks) × (first_key fs ≡ place x)
  row_near [] fs z two = absurd (omega arith)
  row_near (k ∷ ks) [] z two = absurd z
  row_near (k ∷ ks) (f ∷ fs) z two = (
    z.0.near.0,
    subst (Has z.0.near.0) (sym (all_leaves_cons k ks)) (Has-append_left z.0.near.0 (leaves k)
        (all_leaves ks) z.0.near.1),
    z.0.near.2,
  )

  -- the ties of each node of a row are of its vars
  rows_below : (vars : ℕ) (ks : List Node) (fs : List Fitted) → AllZip (IsFitted place) ks fs
      → list_all (has_vars_below vars) ks ≡ true → AllByRecursion (λ f. AreBelow vars f.ties) fs
  rows_below vars [] [] z h = tt
  rows_below vars [] (f ∷ fs) z h = absurd z
  rows_below vars (k ∷ ks) [] z h = absurd z
  rows_below vars (k ∷ ks) (f ∷ fs) z h =
      let parts = and_parts (has_vars_below vars k) (list_all (has_vars_below vars) ks) h in
      (z.0.below vars parts.0, rows_below vars ks fs z.1 parts.1)

  -- a P-node whose kids are sorted by their keys
  pub fitted_P : (owner : ℕ) (ks : List Node) (row sorted : List Fitted) (f : Fitted) → AllZip (IsFitted place) ks row
      → 2 ≤ length ks → IsPermutation row sorted → IsNonDecreasingBy (λ g. g.key) sorted → f.key ≡ first_key row
      → f.word ≡ words_of sorted → f.ties ≡ ties_of sorted → IsFitted place (P owner ks) f
  unfolding key_of
  fitted_P owner ks row sorted f z two perm order key word ties = record {
    near = let near = row_near ks row z two in
        (near.0, subst (Has near.0) (sym (leaves_P owner ks)) near.1, key ∙ near.2);
    only = only;
    reads = reads;
    below = λ vars h. subst (AreBelow vars) (sym ties) (flat_below vars sorted
        (all_permuted (λ g. AreBelow vars g.ties) row sorted perm
        (rows_below vars ks row z (sym (below_P vars owner ks) ∙ h))));
  }
    where
      only : (may : ℕ → Bool → Bool) (xs : List ℕ) → Reads may (P owner ks) xs → Rises place xs
          → (xs ≡ f.word) × Licensed false may f.ties
      only may xs r rise =
          let turn = Reads_P may owner ks xs r in
          let zipped = zip_permuted (λ g k. IsFitted place k g) ks turn.0 turn.1 row (zip_flipped
          (IsFitted place) ks row z) in
          let zip : AllZip (IsFitted place) turn.0 zipped.0 =
          zip_flipped (λ g k. IsFitted place k g) zipped.0 turn.0 zipped.2 in
          let same : sorted ≡ zipped.0 =
          sorted_is_rising key_of zipped.0 sorted (row_keys may turn.0 zipped.0 xs zip turn.2 rise)
          (IsPermutation-trans zipped.0 row sorted (IsPermutation-sym row zipped.0 zipped.1) perm) order in
          let h = row_only may turn.0 zipped.0 xs zip turn.2 rise in (
            h.0 ∙ ap words_of (sym same) ∙ sym word,
            subst (Licensed false may) (ap ties_of (sym same) ∙ sym ties) h.1,
          )

      reads : (may : ℕ → Bool → Bool) → Licensed false may f.ties → Reads may (P owner ks) f.word
      reads may l =
          let zipped = zip_permuted (IsFitted place) row sorted perm ks z in
          any_order owner ks zipped.0 f.word zipped.1
          (subst (ReadsAll may zipped.0) (sym word) (row_reads may zipped.0 sorted zipped.2 (subst
          (Licensed false may) ties l)))

  -- a node more
  pub zip_more : (ks : List Node) (fs : List Fitted) (k : Node) (f : Fitted) → AllZip (IsFitted place) ks fs
      → IsFitted place k f → AllZip (IsFitted place) (ks ++ k ∷ []) (fs ++ f ∷ [])
  zip_more ks fs k f z fit = zip_join (IsFitted place) ks (k ∷ []) fs (f ∷ []) z (fit, tt)

  -- the rows turned or not
  zip_turned : (b : Bool) (ks : List Node) (fs : List Fitted) → AllZip (IsFitted place) ks fs
      → AllZip (IsFitted place) (in_direction b ks) (in_direction b fs)
  zip_turned true ks fs z = zip_reversed (IsFitted place) ks fs z
  zip_turned false ks fs z = z

  -- a row that reads forward by rising places is not turned
  forward_turn : (may : ℕ → Bool → Bool) (ks : List Node) (fs : List Fitted) (xs : List ℕ)
      → AllZip (IsFitted place) ks fs
      → 2 ≤ length ks → ReadsAll may ks xs → Rises place xs → is_turned fs ≡ false
  unfolding key_of
  forward_turn may [] fs xs z two r rise = absurd (omega arith)
  forward_turn may (k ∷ []) fs xs z two r rise = absurd (omega arith)
  forward_turn may (k ∷ j ∷ ks) [] xs z two r rise = absurd z
  forward_turn may (k ∷ j ∷ ks) (f ∷ []) xs z two r rise = absurd z.1
  forward_turn may (k ∷ j ∷ ks) (f ∷ g ∷ fs) xs z two r rise =
      let keys = row_keys may (k ∷ j ∷ ks) (f ∷ g ∷ fs) xs z r rise in
      let lt : f.key < g.key = keys.0.0 in le-ltb g.key f.key (omega (arith, lt))

  -- a row that reads backward by rising places is turned
  backward_turn : (may : ℕ → Bool → Bool) (ks : List Node) (fs : List Fitted) (xs : List ℕ)
      → AllZip (IsFitted place) ks fs → 2 ≤ length ks → ReadsAll may (reverse ks) xs → Rises place xs
      → is_turned fs ≡ true
  backward_turn may [] fs xs z two r rise = absurd (omega arith)
  backward_turn may (k ∷ []) fs xs z two r rise = absurd (omega arith)
  backward_turn may (k ∷ j ∷ ks) [] xs z two r rise = absurd z
  backward_turn may (k ∷ j ∷ ks) (f ∷ []) xs z two r rise = absurd z.1
  backward_turn may (k ∷ j ∷ ks) (f ∷ g ∷ fs) xs z two r rise =
      let back = subst (λ w. ReadsAll may w xs) (reverse-append (k ∷ []) (j ∷ ks)) r in
      let cut = ReadsAll_cut may (reverse (j ∷ ks)) (k ∷ []) xs back in
      let inner = ReadsAll_cut may (reverse ks) (j ∷ []) cut.0
      (subst (λ w. ReadsAll may w cut.0) (reverse-append (j ∷ []) ks) cut.3) in
      let last = ReadsAll_cons may k [] cut.1 cut.4 in
      let next = ReadsAll_cons may j [] inner.1 inner.4 in
      let a = key_in may k f last.0 z.0 last.3 in
      let b = key_in may j g next.0 z.1.0 next.3 in
      let up : Rises place (cut.0 ++ cut.1) = subst (Rises place) cut.2 rise in
      let in_last : Has a.0 cut.1 = subst (Has a.0) (sym last.2) (Has-append_left a.0 last.0 last.1 a.1) in
      let in_next : Has b.0 cut.0 =
      subst (Has b.0) (sym inner.2)
      (Has-append_right b.0 inner.0 inner.1 (subst (Has b.0) (sym next.2) (Has-append_left b.0 next.0 next.1 b.1))) in
      let lt : place b.0 < place a.0 = rises_across cut.0 cut.1 up b.0 a.0 in_next in_last in
      let one = a.2 in let two_key = b.2 in lt-ltb g.key f.key (omega (arith, lt, one, two_key))

  -- a row that is read in the direction of its first two nodes
  pub fitted_row : (ks : List Node) (row : List Fitted) (b : Bool) (f : Fitted) → AllZip (IsFitted place) ks row
      → 2 ≤ length ks → b ≡ is_turned row → f.key ≡ first_key row → f.word ≡ words_of (in_direction b row)
      → f.ties ≡ ties_of (in_direction b row) → IsFittedRow place ks b f
  fitted_row ks row b f z two turn key word ties = record {
    near = let near = row_near ks row z two in (near.0, near.1, key ∙ near.2);
    only = λ may way xs r rise. read_way may xs way r rise (sym (way_is may xs way r rise) ∙ sym turn);
    reads = λ may l. subst (ReadsAll may (in_direction b ks)) (sym word)
        (row_reads may (in_direction b ks) (in_direction b row) (zip_turned b ks row z) (subst
        (Licensed false may) ties l));
    below = λ vars h. subst (AreBelow vars) (sym ties) (flat_below vars (in_direction b row)
        (both_ways vars b row (rows_below vars ks row z h)));
  }
    where
      way_is : (may : ℕ → Bool → Bool) (xs : List ℕ) (way : Bool) → ReadsAll may (in_direction way ks) xs
          → Rises place xs
          → is_turned row ≡ way
      way_is may xs true r rise = backward_turn may ks row xs z two r rise
      way_is may xs false r rise = forward_turn may ks row xs z two r rise

      read_way : (may : ℕ → Bool → Bool) (xs : List ℕ) (way : Bool) → ReadsAll may (in_direction way ks) xs
          → Rises place xs → way ≡ b → (way ≡ b) × (xs ≡ f.word) × Licensed false may f.ties
      read_way may xs way all rise e =
          let h = row_only may (in_direction way ks) (in_direction way row) xs (zip_turned way ks row z) all rise in (
            e,
            h.0 ∙ ap (λ c. words_of (in_direction c row)) e ∙ sym word,
            subst (Licensed false may) (ap (λ c. ties_of (in_direction c row)) e ∙ sym ties) h.1,
          )

  -- a Q-node is tied to the direction in which its kids are read
  pub fitted_Q : (var : ℕ) (ks : List Node) (b : Bool) (g f : Fitted) → IsFittedRow place ks b g → f.key ≡ g.key
      → f.word ≡ g.word → f.ties ≡ g.ties ++ (var, b) ∷ [] → IsFitted place (Q var ks) f
  fitted_Q var ks b g f fit key word ties = record {
    near = (fit.near.0, subst (Has fit.near.0) (sym (leaves_Q var ks)) fit.near.1, key ∙ fit.near.2);
    only = λ may xs r rise. ⊎_elim
        (λ h. read_way may xs false h.0 (fit.only may false xs h.1 rise))
        (λ h. read_way may xs true h.0 (fit.only may true xs h.1 rise))
        (Reads_Q may var ks xs r);
    reads = reads;
    below = λ vars h.
        let parts = and_parts (nat_lt var vars) (list_all (has_vars_below vars) ks) (sym
        (below_Q vars var ks) ∙ h) in
        subst (AreBelow vars) (sym ties) (all-append (λ (t : ℕ × Bool). t.0 < vars) g.ties ((var, b) ∷ [])
        (fit.below vars parts.1) (ltb-true var vars parts.0, tt));
  }
    where
      read_way : (may : ℕ → Bool → Bool) (xs : List ℕ) (way : Bool) → may var way ≡ true
          → (way ≡ b) × (xs ≡ g.word) × Licensed false may g.ties → (xs ≡ f.word) × Licensed false may f.ties
      read_way may xs way may_be h = (
        h.1 ∙ sym word,
        subst (Licensed false may) (sym ties)
            (Licensed-join false may g.ties ((var, b) ∷ []) h.2 (subst (λ c. may var c ≡ true) h.0 may_be, tt)),
      )

      reads : (may : ℕ → Bool → Bool) → Licensed false may f.ties → Reads may (Q var ks) f.word
      reads may l =
          let parts = Licensed-cut false may g.ties ((var, b) ∷ []) (subst (Licensed false may) ties l) in
          Reads-turned may var ks b f.word parts.1.0
          (subst (ReadsAll may (in_direction b ks)) (sym word) (fit.reads may parts.0))

  -- a leaf
  pub fitted_Leaf : (x : ℕ) (f : Fitted) → f.key ≡ place x → f.word ≡ x ∷ [] → f.ties ≡ [] → IsFitted place (Leaf x) f
  fitted_Leaf x f key word ties = record {
    near = (x, subst (Has x) (sym (leaves_Leaf x)) (inl refl), key);
    only = λ may xs r rise. (
      reads_Leaf may x xs r ∙ sym word,
      subst (Licensed false may) (sym ties) tt,
    );
    reads = λ may l. subst (Reads may (Leaf x)) (sym word) (leaf x);
    below = λ vars h. subst (AreBelow vars) (sym ties) tt;
  }

-- a P-node that branches has two kids, which branch
pub branching_kids_P : (owner : ℕ) (ks : List Node) → is_branching (P owner ks) ≡ true
    → (2 ≤ length ks) × (list_all is_branching ks ≡ true)
branching_kids_P owner ks h =
    let parts = and_parts (nat_lt 1 (length ks)) (list_all is_branching ks) (sym (branching_P owner ks) ∙ h) in
    let lt : 1 < length ks = ltb-true 1 (length ks) parts.0 in (omega (arith, lt), parts.1)

-- and a Q-node too
pub branching_kids_Q : (var : ℕ) (ks : List Node) → is_branching (Q var ks) ≡ true
    → (2 ≤ length ks) × (list_all is_branching ks ≡ true)
branching_kids_Q var ks h =
    let parts = and_parts (nat_lt 1 (length ks)) (list_all is_branching ks) (sym (branching_Q var ks) ∙ h) in
    let lt : 1 < length ks = ltb-true 1 (length ks) parts.0 in (omega (arith, lt), parts.1)
