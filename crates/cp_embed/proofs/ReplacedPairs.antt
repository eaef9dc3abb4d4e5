-- What replacing a part of an order tree makes of its set of pairs.
use Rattle.std.proofs.Common.{◌≡◌, ◌≢◌, ℕ, ◌<◌, ◌↔◌, Bool, List, [], ◌∷◌, ◌++◌, length, drop, append-nil, sym, refl, ap, ap₂, ◌∙◌, subst, inl, ⊎_elim}
use Rattle.std.specs.List.Sorted.{IsPermutation}
use Rattle.std.proofs.lemmas.List.Sorted.{Contains-permutation, IsPermutation-sym}
use Rattle.cp_lists.specs.CyclicLists.{Has, Distinct, head_or}
use Rattle.cp_lists.proofs.DistinctLists.{has_lacks, Has-append_left, Has-append_right, Has-Contains, Distinct-apart, Distinct-append_left, Distinct-append_right}
use Rattle.cp_lists.proofs.TurnedLists.{cut_twice}
use Rattle.cp_pq.specs.declared.node.Node.{Node}
use Rattle.cp_pq.specs.declared.part.Part.{Part}
use Rattle.cp_pq.specs.Bits.{bit_of}
use Rattle.cp_pq.specs.Promises.{IsReplaced, IsPutIn, HasPart, ReadsPart}
use Rattle.cp_pq.specs.Readings.{Reads, given}
use Rattle.cp_pq.specs.Trees.{PQTree, IsPair}
use Rattle.cp_embed.specs.Arrangements.{IsArrangementOf}
use Rattle.cp_embed.specs.Directions.{directed}
use Rattle.cp_embed.specs.Pairs.{IsExchanged, HasRun, IsRunExchanged, SamePairs}
use Rattle.cp_embed.specs.TreePairs.{pairs_of}

-- of two lists that make one distinct list together with others the one with more items has one that the other has not
longer_none : (bs es : List ℕ) → Distinct (bs ++ es) → ((d : ℕ) → Has d (bs ++ es) → Has d bs) → es ≡ []
longer_none bs [] dis all = refl
longer_none bs (e ∷ es) dis all =
    absurd (has_lacks e (e ∷ es) (inl refl)
    (Distinct-apart e bs (e ∷ es) dis (all e (Has-append_right e bs (e ∷ es) (inl refl)))))

-- two starts of one list with the same items are equal
same_start : (bs cs ys zs : List ℕ) → Distinct (bs ++ cs) → bs ++ cs ≡ ys ++ zs → ((d : ℕ) → Has d bs ↔ Has d ys)
    → (bs ≡ ys) × (cs ≡ zs)
same_start bs cs ys zs dis whole same = ⊎_elim
    (λ w.
    let none : w.0 ≡ [] = longer_none ys w.0 (subst Distinct w.1 (Distinct-append_left bs cs dis))
    (λ d h. (same d).0 (subst (Has d) (sym w.1) h))
    in
    (w.1 ∙ ap (λ es. ys ++ es) none ∙ append-nil ys, sym (w.2 ∙ ap (λ es. es ++ cs) none)))
    (λ w.
    let none : w.0 ≡ [] = longer_none bs w.0
    (subst Distinct w.1 (Distinct-append_left ys zs (subst Distinct whole dis)))
    (λ d h. (same d).1 (subst (Has d) (sym w.1) h))
    in
    (sym (w.1 ∙ ap (λ es. bs ++ es) none ∙ append-nil bs), w.2 ∙ ap (λ es. es ++ zs) none))
    (cut_twice bs cs ys zs whole)

-- a list with an item is no empty one in front of which others stand
late_run : (es ys zs vs : List ℕ) (i : ℕ) → Has i ys → ys ++ zs ≡ es ++ vs → ((d : ℕ) → Has d es → Has d ys → ⊥)
    → es ≡ []
late_run [] ys zs vs i h whole apart = refl
late_run (e ∷ es) [] zs vs i h whole apart = absurd h
late_run (e ∷ es) (y ∷ ys) zs vs i h whole apart = absurd (apart e (inl refl) (inl (ap (head_or y) whole)))

-- two runs of one distinct list with the same items, at least one, are equal, and so is what stands round them
pub same_run : (fs bs cs xs ys zs : List ℕ) (i : ℕ) → Distinct (fs ++ (bs ++ cs)) → fs ++ (bs ++ cs) ≡ xs ++ (ys ++ zs)
    → Has i bs → ((d : ℕ) → Has d bs ↔ Has d ys) → (fs ≡ xs) × (bs ≡ ys) × (cs ≡ zs)
same_run fs bs cs xs ys zs i dis whole one same = ⊎_elim
    (λ w.
    let none : w.0 ≡ [] = late_run w.0 ys zs (bs ++ cs) i ((same i).0 one) w.2
    (λ d h k. has_lacks d (bs ++ cs) (Has-append_left d bs cs ((same d).1 k))
    (Distinct-apart d fs (bs ++ cs) dis (subst (Has d) (sym w.1) (Has-append_right d xs w.0 h))))
    in
    let rest = same_start bs cs ys zs (Distinct-append_right fs (bs ++ cs) dis)
    (sym (w.2 ∙ ap (λ es. es ++ (bs ++ cs)) none)) same in
    (w.1 ∙ ap (λ es. xs ++ es) none ∙ append-nil xs, rest.0, rest.1))
    (λ w.
    let dis' : Distinct (xs ++ (ys ++ zs)) = subst Distinct whole dis in
    let none : w.0 ≡ [] = late_run w.0 bs cs (ys ++ zs) i one w.2
    (λ d h k. has_lacks d (ys ++ zs) (Has-append_left d ys zs ((same d).0 k))
    (Distinct-apart d xs (ys ++ zs) dis' (subst (Has d) (sym w.1) (Has-append_right d fs w.0 h))))
    in
    let rest = same_start bs cs ys zs (Distinct-append_right fs (bs ++ cs) dis)
    (w.2 ∙ ap (λ es. es ++ (ys ++ zs)) none) same in
    (sym (w.1 ∙ ap (λ es. fs ++ es) none ∙ append-nil fs), rest.0, rest.1))
    (cut_twice fs (bs ++ cs) xs (ys ++ zs) whole)

-- a permutation has the same items
IsPermutation-Has : (xs ys : List ℕ) (d : ℕ) → IsPermutation xs ys → Has d xs ↔ Has d ys
IsPermutation-Has xs ys d p = (
  λ h. (Has-Contains d ys).1 (Contains-permutation xs ys d p ((Has-Contains d xs).0 h)),
  λ h. (Has-Contains d xs).1 (Contains-permutation ys xs d (IsPermutation-sym xs ys p) ((Has-Contains d ys).0 h)),
)

-- a tree of which the part that a set with an item fills is replaced by a node: all readings of the part by the same
-- bits
-- have the same items, and no old pair has an item twice
module _ (n : ℕ) (set : List ℕ) (node : Node) (old new : PQTree) (part : Part)
    (replaced : IsReplaced set node old new part)
    (i : ℕ) (one : Has i set) (root_out : Has old.root set → ⊥)
    (part_same : (bits : List Bool) (us vs : List ℕ) (d : ℕ) → ReadsPart (given bits) part us
    → ReadsPart (given bits) part vs → Has d us → Has d vs)
    (words : (word : List ℕ) (bit : ℕ → Bool) → pairs_of n old word bit → Distinct (old.root ∷ word)) where
  -- a new pair, with what was taken in place of the reading of the node
  pub record IsPutBack (word : List ℕ) (bit : ℕ → Bool) : Type 0 where
    pub front : List ℕ
    pub run : List ℕ
    pub taken : List ℕ
    pub behind : List ℕ
    pub bits : List Bool
    pub agree : (v : ℕ) → v < n → bit_of bits v ≡ bit v
    pub count : length bits ≡ old.vars
    pub word_is : word ≡ front ++ (run ++ behind)
    pub reads : Reads (given bits) node run
    pub taken_is : IsArrangementOf taken set
    pub pair : IsPair old (old.root ∷ (front ++ (taken ++ behind))) bits

  -- a reading of the part in an old pair is an arrangement of the set
  part_arranges : (front word behind : List ℕ) (bit : ℕ → Bool) → (p : pairs_of n old (front ++ (word ++ behind)) bit)
      → ReadsPart (given p.0) part word → IsArrangementOf word set
  part_arranges front word behind bit p reads =
      let h : HasPart set old new part node (old.root ∷ (front ++ (word ++ behind))) p.0 =
      replaced.keeps (old.root ∷ (front ++ (word ++ behind))) p.0 p.1
      in
      record {
        distinct = Distinct-append_left word behind (Distinct-append_right front (word ++ behind)
            (words (front ++ (word ++ behind)) bit p).1);
        items = λ d. (
          λ k. (IsPermutation-Has set h.run d h.run_is).1 (part_same p.0 word h.run d reads h.reads k),
          λ k. part_same p.0 h.run word d h.reads reads ((IsPermutation-Has set h.run d h.run_is).0 k),
        );
      }

  -- each new pair is of this kind, where the root is in no reading of the node, and none is empty
  put_back : ((bits : List Bool) (run : List ℕ) → Reads (given bits) node run → (Has old.root run → ⊥) × (run ≢ []))
      → (word : List ℕ) (bit : ℕ → Bool) → pairs_of n new word bit → IsPutBack word bit
  put_back out word bit p = at_front w.before w.run w.after w.order_is w.reads w.taken
    where
      w : IsPutIn old part node (new.root ∷ word) p.0
      w = replaced.only (new.root ∷ word) p.0 p.1

      at_front : (before run after : List ℕ) → new.root ∷ word ≡ before ++ (run ++ after) → Reads (given p.0) node run
          → ((u : List ℕ) × ReadsPart (given p.0) part u × IsPair old (before ++ (u ++ after)) p.0) → IsPutBack word bit
      at_front [] [] after whole reads taken = absurd ((out p.0 [] reads).1 refl)
      at_front [] (y ∷ run) after whole reads taken =
          absurd ((out p.0 (y ∷ run) reads).0 (inl (sym (ap (head_or y) whole) ∙ replaced.root)))
      at_front (b ∷ front) run after whole reads taken = record {
        front = front;
        run = run;
        taken = taken.0;
        behind = after;
        bits = p.0;
        agree = p.2;
        count = taken.2.bits_count;
        word_is = ap (drop 1) whole;
        reads = reads;
        taken_is = part_arranges front taken.0 after bit (p.0, old_pair, p.2) taken.1;
        pair = old_pair;
      }
        where
          old_pair : IsPair old (old.root ∷ (front ++ (taken.0 ++ after))) p.0
          old_pair = subst (λ root. IsPair old (root ∷ (front ++ (taken.0 ++ after))) p.0)
              (sym (ap (head_or b) whole) ∙ replaced.root) taken.2

  -- and in an old pair a run of the items of the set can be exchanged for a reading of the node
  put_in : (front taken behind run : List ℕ) (bit : ℕ → Bool) → (p : pairs_of n old (front ++ (taken ++ behind)) bit)
      → IsArrangementOf taken set → Reads (given p.0) node run → pairs_of n new (front ++ (run ++ behind)) bit
  put_in front taken behind run bit p taken_is reads =
      let h : HasPart set old new part node (old.root ∷ (front ++ (taken ++ behind))) p.0 =
      replaced.keeps (old.root ∷ (front ++ (taken ++ behind))) p.0 p.1
      in
      let same = same_run (old.root ∷ front) taken behind h.before h.run h.after i
      (words (front ++ (taken ++ behind)) bit p) h.order_is ((taken_is.items i).1 one)
      (λ d. (
        (λ k. (IsPermutation-Has set h.run d h.run_is).0 ((taken_is.items d).0 k)),
        (λ k. (taken_is.items d).1 ((IsPermutation-Has set h.run d h.run_is).1 k)),
      ))
      in (
        p.0,
        subst (λ root. IsPair new (root ∷ (front ++ (run ++ behind))) p.0) (sym replaced.root)
            (subst (λ ws. IsPair new ws p.0)
            (ap₂ (λ us vs. us ++ (run ++ vs)) (sym same.0) (sym same.2)) (h.exchanged run reads)),
        p.2,
      )

  -- a node that reads the new items in any order: the pairs with the set exchanged for these
  pub replaced-SamePairs : (new_items : List ℕ) (o : ℕ) → Has o new_items → (Has old.root new_items → ⊥)
      → ((bits : List Bool) (word : List ℕ) → Reads (given bits) node word ↔ IsArrangementOf word new_items)
      → SamePairs (pairs_of n new) (IsExchanged set new_items (pairs_of n old))
  replaced-SamePairs new_items o other new_out node_reads word bit = (
    λ p.
        let w : IsPutBack word bit = put_back (λ bits run reads.
        let a : IsArrangementOf run new_items = (node_reads bits run).0 reads in
        ((λ h. new_out ((a.items old.root).0 h)), (λ none. subst (Has o) none ((a.items o).1 other)))) word bit p
        in
        record {
          front = w.front;
          run = w.run;
          taken = w.taken;
          behind = w.behind;
          word_is = w.word_is;
          run_is = (node_reads w.bits w.run).0 w.reads;
          taken_is = w.taken_is;
          pair = (w.bits, w.pair, w.agree);
        },
    λ h. subst (λ ws. pairs_of n new ws bit) (sym h.word_is)
        (put_in h.front h.taken h.behind h.run bit h.pair h.taken_is ((node_reads h.pair.0 h.run).1 h.run_is)),
  )

  -- a node that reads the new row in the direction of the bit of v, in place of the row of the set in that direction:
  -- the
  -- pairs with the row exchanged for the new row
  pub replaced_run-SamePairs : (row new_row : List ℕ) (v : ℕ) → v < n
      → ((b : Bool) → IsArrangementOf (directed b row) set)
      → ((b : Bool) → (Has old.root (directed b new_row) → ⊥) × (directed b new_row ≢ []))
      → ((bits : List Bool) (word : List ℕ) → Reads (given bits) node word → word ≡ directed (bit_of bits v) new_row)
      → ((bits : List Bool) → length bits ≡ old.vars → Reads (given bits) node (directed (bit_of bits v) new_row))
      → ((word : List ℕ) (bit : ℕ → Bool) → pairs_of n old word bit → HasRun row v (pairs_of n old) word bit)
      → SamePairs (pairs_of n new) (IsRunExchanged row new_row v (pairs_of n old))
  replaced_run-SamePairs row new_row v lt row_is new_out reads_only reads_all runs word bit = (
    λ p.
        let w : IsPutBack word bit = put_back (λ bits run reads.
        let same : directed (bit_of bits v) new_row ≡ run = sym (reads_only bits run reads) in
        subst (λ ws. (Has old.root ws → ⊥) × (ws ≢ [])) same (new_out (bit_of bits v))) word bit p
        in
        let q : pairs_of n old (w.front ++ (w.taken ++ w.behind)) bit = (w.bits, w.pair, w.agree) in
        let r = runs (w.front ++ (w.taken ++ w.behind)) bit q in
        let a : IsArrangementOf (directed (bit v) row) set = row_is (bit v) in
        let same = same_run w.front w.taken w.behind r.front (directed (bit v) row) r.behind i
        (words (w.front ++ (w.taken ++ w.behind)) bit q).1 r.word_is ((w.taken_is.items i).1 one)
        (λ d. ((λ k. (a.items d).1 ((w.taken_is.items d).0 k)), (λ k. (w.taken_is.items d).1 ((a.items d).0 k))))
        in
        record {
          front = w.front;
          behind = w.behind;
          word_is = w.word_is ∙ ap (λ ws. w.front ++ (ws ++ w.behind))
              (reads_only w.bits w.run w.reads ∙ ap (λ b. directed b new_row) (w.agree v lt));
          pair = subst (λ ws. pairs_of n old (w.front ++ (ws ++ w.behind)) bit) same.1 q;
        },
    λ h.
        let way : directed (bit_of h.pair.0 v) new_row ≡ directed (bit v) new_row = ap (λ b. directed b new_row)
        (h.pair.2 v lt) in
        subst (λ ws. pairs_of n new ws bit) (sym h.word_is)
        (put_in h.front (directed (bit v) row) h.behind (directed (bit v) new_row) bit h.pair (row_is (bit v))
        (subst (Reads (given h.pair.0) node) way (reads_all h.pair.0 h.pair.1.bits_count))),
  )
