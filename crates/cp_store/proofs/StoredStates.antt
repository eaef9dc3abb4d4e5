-- The instances of a store: the present one, those before it, and what a change more or less makes of them.
use Rattle.std.proofs.Common.{◌≡◌, suc, ◌+◌, true, false, ltb, List, [], ◌∷◌, ◌++◌, length, reverse, slice_index_or, sym, refl, ap, ◌∙◌, subst, arith}
use Rattle.std.specs.List.{All}
use Rattle.std.proofs.lemmas.Bool.{lt-ltb}
use Rattle.std.proofs.lemmas.List.{reverse-append}
use Rattle.std.proofs.lemmas.List.Elements.{All-append, All-cons, All-nil, All-head, All-tail}
use Rattle.cp_board.specs.declared.parts.Vert.{Vert}
use Rattle.cp_board.specs.declared.parts.EdgeRow.{EdgeRow}
use Rattle.cp_board.specs.declared.parts.Pipe.{Pipe}
use Rattle.cp_board.specs.Instances.{Synchronized, IsSynchronized}
use Rattle.cp_store.specs.declared.parts.Parts.{Parts}
use Rattle.cp_store.specs.declared.parts.Change.{Change}
use Rattle.cp_store.specs.Exchanges.{entry_names}
use Rattle.cp_store.specs.Histories.{present_of}
use Rattle.cp_store.specs.Parts.{told, AreTables, undone, HasRoom, HasMoreRoom, states, IsStore}
use Rattle.cp_store.proofs.Tables.{All-grown}
use Rattle.cp_store.proofs.ManyExchanges.{All-first, All-last}

-- the first of the instances is the present one
pub present-states : (cs : List Change) (i : Synchronized) → present_of (states cs i) ≡ i
present-states [] i = refl
present-states (c ∷ cs) i = refl

-- one instance more than changes
pub length-states : (cs : List Change) (i : Synchronized) → length (states cs i) ≡ length cs + 1
length-states [] i = refl
length-states (c ∷ cs) i = let h = length-states cs (undone c i) in omega (arith, h)

-- one change more at the end of the log
pub states-pushed : (log : List Change) (c : Change) (i j : Synchronized) → undone c i ≡ j
    → states (reverse (log ++ c ∷ [])) i ≡ i ∷ states (reverse log) j
states-pushed log c i j back =
    ap (λ cs. states cs i) (reverse-append log (c ∷ []))
    ∙ ap (λ k. i ∷ states (reverse log) k) back

-- more room has room for each change
pub HasRoom-more : (p q : Parts) (c : Change) → HasMoreRoom p q → HasRoom p c → HasRoom q c
HasRoom-more p q c more room = record {
  verts = All-grown (λ v. v.name) (entry_names p.verts.entries.items) (entry_names q.verts.entries.items) c.verts.items more.verts room.verts;
  moved = All-grown (λ e. e.name) (entry_names p.edges.entries.items) (entry_names q.edges.entries.items) c.moved.items more.edges room.moved;
  edges = All-grown (λ e. e.name) (entry_names p.edges.entries.items) (entry_names q.edges.entries.items) c.edges.items more.edges room.edges;
  pipes = All-grown (λ x. x.name) (entry_names p.pipes.entries.items) (entry_names q.pipes.entries.items) c.pipes.items more.pipes room.pipes;
}

-- and for all changes of a log
pub All-HasRoom-more : (p q : Parts) (log : List Change) → HasMoreRoom p q → All (HasRoom p) log → All (HasRoom q) log
All-HasRoom-more p q log more all k d lt = HasRoom-more p q (slice_index_or log k d) more (all k d lt)

-- more room, and more again, is more room
pub HasMoreRoom-next : (p q r : Parts) → HasMoreRoom p q → HasMoreRoom q r → HasMoreRoom p r
HasMoreRoom-next p q r a b = record {
  verts = λ n h. b.verts n (a.verts n h);
  edges = λ n h. b.edges n (a.edges n h);
  pipes = λ n h. b.pipes n (a.pipes n h);
}

-- a store whose log has room for more, and the same instance
pub IsStore-more : (p q : Parts) (log : List Change) → IsStore p log → AreTables q → HasMoreRoom p q → told q ≡ told p → IsStore q log
IsStore-more p q log is tables more same = record {
  tables = tables;
  room = All-HasRoom-more p q log more is.room;
  rules = subst (λ i. All IsSynchronized (states (reverse log) i)) (sym same) is.rules;
}

-- the present instance keeps the rules
pub IsStore-rules : (p : Parts) (log : List Change) → IsStore p log → IsSynchronized (told p)
IsStore-rules p log is = first (reverse log) is.rules
  where
    first : (cs : List Change) → All IsSynchronized (states cs (told p)) → IsSynchronized (told p)
    first [] all = All-head IsSynchronized (told p) [] all
    first (c ∷ cs) all = All-head IsSynchronized (told p) (states cs (undone c (told p))) all

-- a store after a change that leads back to the instance before it
pub IsStore-pushed : (p q : Parts) (log : List Change) (c : Change) → IsStore p log → AreTables q → HasMoreRoom p q → HasRoom q c
    → undone c (told q) ≡ told p
    → IsSynchronized (told q)
    → IsStore q (log ++ c ∷ [])
IsStore-pushed p q log c is tables more room back rules = record {
  tables = tables;
  room = All-append (HasRoom q) log (c ∷ []) (All-HasRoom-more p q log more is.room) (All-cons (HasRoom q) c [] room (All-nil (HasRoom q)));
  rules = subst (All IsSynchronized) (sym (states-pushed log c (told q) (told p) back)) (All-cons IsSynchronized (told q) (states (reverse log) (told p)) rules is.rules);
}

-- a store after the last change is taken back
pub IsStore-popped : (p q : Parts) (whole log : List Change) (c : Change) → IsStore p whole → whole ≡ log ++ c ∷ [] → AreTables q → HasMoreRoom p q
    → told q ≡ undone c (told p)
    → IsStore q log
IsStore-popped p q whole log c is last tables more same = record {
  tables = tables;
  room = All-first (HasRoom q) log (c ∷ []) (subst (All (HasRoom q)) last (All-HasRoom-more p q whole more is.room));
  rules = subst (λ i. All IsSynchronized (states (reverse log) i)) (sym same)
      (All-tail IsSynchronized (told p) (states (reverse log) (undone c (told p)))
      (subst (All IsSynchronized) (ap (λ cs. states (reverse cs) (told p)) last ∙ states-pushed log c (told p) (undone c (told p)) refl) is.rules));
}

-- there is room for the last change
pub HasRoom-popped : (p : Parts) (whole log : List Change) (c : Change) → IsStore p whole → whole ≡ log ++ c ∷ [] → HasRoom p c
HasRoom-popped p whole log c is last = All-last (HasRoom p) log c (subst (All (HasRoom p)) last is.room)

-- what stands after it is taken back
pub states-popped : (p q : Parts) (whole log : List Change) (c : Change) → whole ≡ log ++ c ∷ [] → told q ≡ undone c (told p)
    → states (reverse whole) (told p) ≡ told p ∷ states (reverse log) (told q)
states-popped p q whole log c last same =
    ap (λ cs. states (reverse cs) (told p)) last
    ∙ states-pushed log c (told p) (told q) (sym same)

-- more than one instance, and no more than one
pub more_than_one : (whole log : List Change) (c : Change) (i : Synchronized) → whole ≡ log ++ c ∷ [] → ltb 1 (length (states (reverse whole) i)) ≡ true
more_than_one whole log c i last =
    ap (λ cs. ltb 1 (length (states (reverse cs) i))) last
    ∙ ap (λ is. ltb 1 (length is)) (states-pushed log c i (undone c i) refl)
    ∙ lt-ltb 1 (suc (length (states (reverse log) (undone c i)))) (let h = length-states (reverse log) (undone c i) in omega (arith, h))

-- without a change there is one instance
pub no_more_than_one : (log : List Change) (i : Synchronized) → log ≡ [] → ltb 1 (length (states (reverse log) i)) ≡ false
no_more_than_one log i none = ap (λ cs. ltb 1 (length (states (reverse cs) i))) none

-- instances with the same parts are equal
pub same_parts : (i j : Synchronized) → i.verts ≡ j.verts → i.edges ≡ j.edges → i.pipes ≡ j.pipes → i ≡ j
same_parts i j vs es ps =
    ap (λ xs. parts_of xs i.edges i.pipes) vs ∙ ap (λ xs. parts_of j.verts xs i.pipes) es ∙ ap (λ xs. parts_of j.verts j.edges xs) ps
  where
    parts_of : List Vert → List EdgeRow → List Pipe → Synchronized
    parts_of v e p = record { verts = v; edges = e; pipes = p }

-- the parts tell the present instance
pub told-present : (p : Parts) (log : List Change) (s : List Synchronized) → states (reverse log) (told p) ≡ s → told p ≡ present_of s
told-present p log s view = sym (present-states (reverse log) (told p)) ∙ ap present_of view
