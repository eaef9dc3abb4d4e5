-- A step of the building of an order tree taken back for one of its pairs: the run of the vertex's edges to vertices
-- behind it is exchanged for a reading of the part that was taken out, and the two are the vertex's list.
use Rattle.std.proofs.Common.{◌≡◌, ◌≢◌, ℕ, ◌↔◌, Bool, true, false, Option, Some, None, List, [], ◌∷◌, ◌++◌, take, drop, reverse, sym, refl, ap, ap₂, ◌∙◌, subst, inl}
use Rattle.std.proofs.lemmas.List.{reverse-reverse}
use Rattle.std.proofs.lemmas.List.Sorted.{IsPermutation-sym}
use Rattle.cp_lists.specs.CyclicLists.{Has, Distinct, head_or}
use Rattle.cp_lists.specs.Turns.{IsTurn}
use Rattle.cp_lists.proofs.DistinctLists.{Distinct-append_left, Distinct-append_right}
use Rattle.cp_pq.specs.declared.node.Node.{Node}
use Rattle.cp_pq.specs.declared.part.Part.{Part}
use Rattle.cp_pq.specs.Bits.{bit_of}
use Rattle.cp_pq.specs.Promises.{IsReplaced, HasPart, ReadsPart, in_direction}
use Rattle.cp_pq.specs.Readings.{Reads, given}
use Rattle.cp_pq.specs.Trees.{PQTree, IsPair}
use Rattle.cp_pq.proofs.PermutedLists.{Has-IsPermutation}
use Rattle.cp_embed.specs.Arrangements.{IsArrangementOf}
use Rattle.cp_embed.specs.Directions.{directed, KeepsDirection}
use Rattle.cp_embed.specs.TreeSteps.{IsFreeStep, IsListedStep, IsTreeStep}
use Rattle.cp_embed.proofs.Arrangements.{IsArrangementOf-reverse}
use Rattle.cp_embed.proofs.DirectedSplits.{IsSplit-directed}
use Rattle.cp_embed.proofs.Directions.{directed-reverse, IsArrangementOf-directed}
use Rattle.cp_embed.proofs.ReplacedPairs.{same_run}
use Rattle.cp_embed.proofs.StageSteps.{part-same}

-- the pair of the old tree in which a reading of the part stands in the place of the run, and the vertex's list
pub record IsTakenBack (given_list : Option (List ℕ)) (x : ℕ) (ins outs : List ℕ) (old : PQTree) (part : Part)
    (bits : List Bool) (word : List ℕ) : Type 0 where
  pub front : List ℕ
  pub run : List ℕ
  pub behind : List ℕ
  pub word_is : word ≡ front ++ (run ++ behind)
  pub run_is : IsArrangementOf run outs
  pub some : (inc : List ℕ) × ReadsPart (given bits) part inc
  pub arranges : (inc : List ℕ) → ReadsPart (given bits) part inc → IsArrangementOf inc ins
  pub pair : (inc : List ℕ) → ReadsPart (given bits) part inc
      → IsPair old (old.root ∷ (front ++ (inc ++ behind))) (take old.vars bits)
  pub list_kept : (inc : List ℕ) → ReadsPart (given bits) part inc
      → KeepsDirection given_list (bit_of bits x) (inc ++ reverse run)

-- a part of a tree that a set fills, replaced by a node whose readings are not empty and have not the root, for a pair of
-- the new tree; the words of the old tree have no item twice
module _ (set : List ℕ) (node : Node) (mid new : PQTree) (part : Part) (replaced : IsReplaced set node mid new part)
    (i : ℕ) (one : Has i set) (root_out : Has mid.root set → ⊥)
    (words : (word : List ℕ) (bits : List Bool) → IsPair mid (mid.root ∷ word) bits → Distinct (mid.root ∷ word))
    (out : (bits : List Bool) (run : List ℕ) → Reads (given bits) node run → (Has mid.root run → ⊥) × (run ≢ []))
    (word : List ℕ) (bits : List Bool) (p : IsPair new (new.root ∷ word) bits) where
  -- where the node is read, and the pairs of the old tree with the readings of the part in its place
  pub record IsReadBack : Type 0 where
    pub front : List ℕ
    pub run : List ℕ
    pub behind : List ℕ
    pub word_is : word ≡ front ++ (run ++ behind)
    pub reads : Reads (given bits) node run
    pub some : (inc : List ℕ) × ReadsPart (given bits) part inc
    pub arranges : (inc : List ℕ) → ReadsPart (given bits) part inc → IsArrangementOf inc set
    pub pair : (inc : List ℕ) → ReadsPart (given bits) part inc
        → IsPair mid (mid.root ∷ (front ++ (inc ++ behind))) bits

  -- the pair is read so
  pub read_back : IsReadBack
  read_back =
      let w = replaced.only (new.root ∷ word) bits p in
      at_front w.before w.run w.after w.order_is w.reads w.taken
    where
      at_front : (before run after : List ℕ) → new.root ∷ word ≡ before ++ (run ++ after) → Reads (given bits) node run
          → ((u : List ℕ) × ReadsPart (given bits) part u × IsPair mid (before ++ (u ++ after)) bits) → IsReadBack
      at_front [] [] after whole reads taken = absurd ((out bits [] reads).1 refl)
      at_front [] (y ∷ run) after whole reads taken =
          absurd ((out bits (y ∷ run) reads).0 (inl (sym (ap (head_or y) whole) ∙ replaced.root)))
      at_front (b ∷ front) run after whole reads taken = record {
        front = front;
        run = run;
        behind = after;
        word_is = ap (drop 1) whole;
        reads = reads;
        some = (taken.0, taken.1);
        arranges = arranges;
        pair = λ inc h. subst (λ ws. IsPair mid ws bits)
            (ap₂ (λ us vs. us ++ (inc ++ vs)) (sym same.0) (sym same.2)) (part_in.again inc h);
      }
        where
          -- the pair with what was taken
          old_pair : IsPair mid (mid.root ∷ (front ++ (taken.0 ++ after))) bits
          old_pair = subst (λ root. IsPair mid (root ∷ (front ++ (taken.0 ++ after))) bits)
              (sym (ap (head_or b) whole) ∙ replaced.root) taken.2

          -- the part in it
          part_in : HasPart set mid new part node (mid.root ∷ (front ++ (taken.0 ++ after))) bits
          part_in = replaced.keeps (mid.root ∷ (front ++ (taken.0 ++ after))) bits old_pair

          -- its readings have the items of the set, each once
          run_set : (d : ℕ) → Has d part_in.run ↔ Has d set
          run_set d = (
            Has-IsPermutation d part_in.run set (IsPermutation-sym set part_in.run part_in.run_is),
            Has-IsPermutation d set part_in.run part_in.run_is,
          )

          -- what was taken has them
          taken_set : (d : ℕ) → Has d taken.0 ↔ Has d set
          taken_set d = (
            λ h. (run_set d).0 (part-same part bits taken.0 part_in.run d taken.1 part_in.reads h),
            λ h. part-same part bits part_in.run taken.0 d part_in.reads taken.1 ((run_set d).1 h),
          )

          -- so it is the part
          same : (mid.root ∷ front ≡ part_in.before) × (taken.0 ≡ part_in.run) × (after ≡ part_in.after)
          same = same_run (mid.root ∷ front) taken.0 after part_in.before part_in.run part_in.after i
              (words (front ++ (taken.0 ++ after)) bits old_pair) part_in.order_is ((taken_set i).1 one)
              (λ d. ((λ h. (run_set d).1 ((taken_set d).0 h)), (λ h. (taken_set d).1 ((run_set d).0 h))))

          -- each reading of the part has them
          arranges : (inc : List ℕ) → ReadsPart (given bits) part inc → IsArrangementOf inc set
          arranges inc h =
              let q : IsPair mid (mid.root ∷ (front ++ (inc ++ after))) bits =
              subst (λ ws. IsPair mid ws bits) (ap₂ (λ us vs. us ++ (inc ++ vs)) (sym same.0) (sym same.2))
              (part_in.again inc h)
              in
              record {
                distinct = Distinct-append_left inc after (Distinct-append_right front (inc ++ after)
                    (words (front ++ (inc ++ after)) bits q).1);
                items = λ d. (
                  λ k. (taken_set d).0 (part-same part bits inc taken.0 d h taken.1 k),
                  λ k. part-same part bits taken.0 inc d taken.1 h ((taken_set d).1 k),
                );
              }

-- a step with the edges of x to what is taken and its others, for a pair of the new tree; the words of the old tree have
-- no item twice, and the root is none of the edges of x
module _ (x : ℕ) (ins outs : List ℕ) (old new : PQTree) (part : Part) (i o : ℕ) (one : Has i ins) (other : Has o outs)
    (in_out : Has old.root ins → ⊥) (out_out : Has old.root outs → ⊥)
    (words : (word : List ℕ) (bits : List Bool) → IsPair old (old.root ∷ word) bits → Distinct (old.root ∷ word))
    (word : List ℕ) (bits : List Bool) (p : IsPair new (new.root ∷ word) bits) where
  -- a reading of a node that arranges the others
  run_out : (root : ℕ) → root ≡ old.root → (run : List ℕ) → IsArrangementOf run outs
      → (Has root run → ⊥) × (run ≢ [])
  run_out root same run a = (
    λ h. out_out (subst (λ k. Has k outs) same ((a.items root).0 h)),
    λ none. subst (Has o) none ((a.items o).1 other),
  )

  -- without a given list
  free_taken_back : IsFreeStep x ins outs old new part → IsTakenBack None x ins outs old part bits word
  free_taken_back s =
      let w : IsReadBack ins s.node s.mid new part s.replaced i one (λ h. in_out (subst (λ k. Has k ins) s.reduced.root h))
      mid_words outs_read word bits p =
      read_back ins s.node s.mid new part s.replaced i one (λ h. in_out (subst (λ k. Has k ins) s.reduced.root h))
      mid_words outs_read word bits p
      in
      record {
        front = w.front;
        run = w.run;
        behind = w.behind;
        word_is = w.word_is;
        run_is = (s.reads bits w.run).0 w.reads;
        some = w.some;
        arranges = w.arranges;
        pair = λ inc h. to_old (w.front ++ (inc ++ w.behind)) bits (w.pair inc h);
        list_kept = λ inc h. tt;
      }
    where
      -- a pair of the tree in between is one of the old tree
      to_old : (v : List ℕ) (bs : List Bool) → IsPair s.mid (s.mid.root ∷ v) bs
          → IsPair old (old.root ∷ v) (take old.vars bs)
      to_old v bs q = subst (λ root. IsPair old (root ∷ v) (take old.vars bs)) s.reduced.root
          (s.reduced.only (s.mid.root ∷ v) bs q).0

      -- its words have no item twice
      mid_words : (v : List ℕ) (bs : List Bool) → IsPair s.mid (s.mid.root ∷ v) bs → Distinct (s.mid.root ∷ v)
      mid_words v bs q = subst (λ root. Distinct (root ∷ v)) (sym s.reduced.root)
          (words v (take old.vars bs) (to_old v bs q))

      -- readings of the node
      outs_read : (bs : List Bool) (run : List ℕ) → Reads (given bs) s.node run → (Has s.mid.root run → ⊥) × (run ≢ [])
      outs_read bs run reads = run_out s.mid.root s.reduced.root run ((s.reads bs run).0 reads)

  -- with a given list
  listed_taken_back : (list : List ℕ) → Distinct list → IsListedStep x list ins outs old new part
      → IsTakenBack (Some list) x ins outs old part bits word
  listed_taken_back list once s =
      let w : IsReadBack ins s.node s.mid new part s.replaced i one (λ h. in_out (subst (λ k. Has k ins) s.forced.root h))
      mid_words outs_read word bits p =
      read_back ins s.node s.mid new part s.replaced i one (λ h. in_out (subst (λ k. Has k ins) s.forced.root h))
      mid_words outs_read word bits p
      in
      let run_is : w.run ≡ directed (bit_of bits x) (reverse s.second) = s.reads.only bits w.run w.reads in
      record {
        front = w.front;
        run = w.run;
        behind = w.behind;
        word_is = w.word_is;
        run_is = subst (λ us. IsArrangementOf us outs) (sym run_is) (row_outs bits);
        some = w.some;
        arranges = w.arranges;
        pair = λ inc h. to_old (w.front ++ (inc ++ w.behind)) bits (w.pair inc h);
        list_kept = λ inc h.
            let inc_is : inc ≡ directed (bit_of bits x) s.first =
            first_run w.front inc w.behind bits (w.pair inc h) (w.arranges inc h)
            in
            subst (IsTurn (directed (bit_of bits x) list)) (ap₂ (λ us vs. us ++ vs) (sym inc_is)
            (sym (ap reverse run_is ∙ ap reverse (directed-reverse (bit_of bits x) s.second) ∙ reverse-reverse (directed (bit_of bits x) s.second))))
            (IsSplit-directed (bit_of bits x) list ins outs s.first s.second s.split).turn;
      }
    where
      -- a pair of the tree in between is one of the old tree
      to_old : (v : List ℕ) (bs : List Bool) → IsPair s.mid (s.mid.root ∷ v) bs
          → IsPair old (old.root ∷ v) (take old.vars bs)
      to_old v bs q = subst (λ root. IsPair old (root ∷ v) (take old.vars bs)) s.forced.root
          (s.forced.only (s.mid.root ∷ v) bs q).0

      -- its words have no item twice
      mid_words : (v : List ℕ) (bs : List Bool) → IsPair s.mid (s.mid.root ∷ v) bs → Distinct (s.mid.root ∷ v)
      mid_words v bs q = subst (λ root. Distinct (root ∷ v)) (sym s.forced.root)
          (words v (take old.vars bs) (to_old v bs q))

      -- the row that is put in arranges the others
      row_outs : (bs : List Bool) → IsArrangementOf (directed (bit_of bs x) (reverse s.second)) outs
      row_outs bs = IsArrangementOf-directed (bit_of bs x) (reverse s.second) outs
          (IsArrangementOf-reverse s.second outs s.split.second_is)

      -- readings of the node
      outs_read : (bs : List Bool) (run : List ℕ) → Reads (given bs) s.node run → (Has s.mid.root run → ⊥) × (run ≢ [])
      outs_read bs run reads = run_out s.mid.root s.forced.root run
          (subst (λ us. IsArrangementOf us outs) (sym (s.reads.only bs run reads)) (row_outs bs))

      -- a run of the edges to what is taken is the first part of the list, by the bit of x
      first_run : (front inc behind : List ℕ) (bs : List Bool)
          → IsPair s.mid (s.mid.root ∷ (front ++ (inc ++ behind))) bs
          → IsArrangementOf inc ins → inc ≡ directed (bit_of bs x) s.first
      first_run front inc behind bs q a =
          let row = (s.forced.only (s.mid.root ∷ (front ++ (inc ++ behind))) bs q).1 in
          let f : IsArrangementOf (directed (bit_of bs x) s.first) ins =
          IsArrangementOf-directed (bit_of bs x) s.first ins s.split.first_is
          in
          let h : s.mid.root ∷ (front ++ (inc ++ behind)) ≡ row.0 ++ (directed (bit_of bs x) s.first ++ row.1) =
          row.2 ∙ ap (λ us. row.0 ++ (us ++ row.1)) (direction (bit_of bs x) s.first)
          in
          (same_run (s.mid.root ∷ front) inc behind row.0 (directed (bit_of bs x) s.first) row.1 i
          (mid_words (front ++ (inc ++ behind)) bs q) h ((a.items i).1 one)
          (λ d. ((λ k. (f.items d).1 ((a.items d).0 k)), (λ k. (a.items d).1 ((f.items d).0 k))))).1
        where
          direction : (c : Bool) (us : List ℕ) → in_direction c us ≡ directed c us
          direction false us = refl
          direction true us = refl

  -- a step is taken back
  pub step-IsTakenBack : (given_list : Option (List ℕ)) → ((list : List ℕ) → given_list ≡ Some list → Distinct list)
      → IsTreeStep given_list x ins outs old new part → IsTakenBack given_list x ins outs old part bits word
  step-IsTakenBack None once s = free_taken_back s
  step-IsTakenBack (Some list) once s = listed_taken_back list (once list refl) s
