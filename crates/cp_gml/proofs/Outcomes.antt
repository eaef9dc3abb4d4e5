-- Every text has a list or a first fault.
use Rattle.std.proofs.Common.{◌≡◌, ℕ, zero, suc, ◌+◌, ◌<◌, ◌⊎◌, inl, inr, ⊎_elim, Bool, true, false, cond, List, [], ◌∷◌, length, drop, Option, None, Some, refl, sym, ap, ◌∙◌, subst, arith}
use Rattle.std.proofs.lemmas.List.{drop_all}
use Rattle.cp_gml.specs.declared.kind.GrammarKind.{GrammarKind}
use Rattle.cp_gml.specs.declared.kind.GrammarKind.TheVariants.{ValueExpected, ListOpen}
use Rattle.cp_gml.specs.declared.tree.GmlList.{GmlList, out-GmlList, out-roll-GmlList, roll-GmlList}
use Rattle.cp_gml.specs.declared.tree.GmlValue.{GmlValue}
use Rattle.cp_gml.specs.declared.tree.GmlValue.TheVariants.{Int, Number, Str, List as Nested}
use Rattle.cp_gml.specs.declared.tree.Entry.{Entry}
use Rattle.cp_gml.specs.Tokens.{Leaf, Chars, Whole, Other, Sign, Token, token, Piece, Found, Stops, Ends, Front, piece, place, next, start}
use Rattle.cp_gml.specs.Trees.{Tree, nil, leaf, node, tree, with_value}
use Rattle.cp_gml.specs.Lists.{kind_of, IsListOf, IsFaultOf}
use Rattle.cp_gml.specs.Machine.{State, state, step, run, is_done, StopsAt, Faults}
use Rattle.cp_gml.proofs.Fronts.{Faults_here, Faults_behind}
use Rattle.cp_gml.proofs.Laid.{found_longer}
use Rattle.cp_gml.proofs.Spelling.{with_list-tree}
use Rattle.cp_gml.proofs.Viable.{IsWhole-from_run, IsFaultOf-from_Faults}

-- a reader that begins here in this state comes to the end of the text and may end there, or it meets a fault
data Outcome (text : List ℕ) (from : ℕ) (s : State) : Type 0 where
  whole : (ts : List Token) (to : ℕ) (u : State) → Front text from ts to → run (Some s) ts ≡ Some u
      → next text to ≡ Ends
      → is_done u.due u.level ≡ true → Outcome text from s
  fault : (kind : GrammarKind) (at : ℕ) → Faults text from s kind at → Outcome text from s

module _ (text : List ℕ) (from : ℕ) (s : State) where
  -- a reader stops at what stands there
  stopped : (p : Piece) (kind : GrammarKind) (at : ℕ) → next text from ≡ p → StopsAt text (place text from) p s kind at
      → Outcome text from s
  stopped p kind at e stops =
      fault kind at (Faults_here text from s kind at (subst (λ (q : Piece). StopsAt text (place text from) q s kind at)
      (sym e) stops))

  -- at the end of the text
  at_end : next text from ≡ Ends → (b : Bool) → is_done s.due s.level ≡ b → Outcome text from s
  at_end e true done = whole [] from s refl refl e done
  at_end e false done = stopped Ends (cond s.due ValueExpected ListOpen) (length text) e (done, refl, refl)

  -- behind a token that fits
  behind : (sign : Sign) (len : ℕ) (u : State) → next text from ≡ Found sign len → step s.due sign s.level ≡ Some u
      → Outcome text (place text from + len) u → Outcome text from s
  behind sign len u e fits (whole ts to v cut runs ends done) =
      whole (token sign (place text from) ∷ ts) to v (len, refl, e, cut)
      (ap (λ (o : Option State). run o ts) fits ∙ runs) ends done
  behind sign len u e fits (fault kind at f) =
      fault kind at (Faults_behind text (token sign (place text from) ∷ []) from (place text from + len) s u kind at
      (len, refl, e, refl) fits f)

  -- at a token
  at_token : (sign : Sign) (len : ℕ) → next text from ≡ Found sign len
      → ((to : ℕ) (u : State) → from < to → Outcome text to u)
      → (o : Option State) → step s.due sign s.level ≡ o → Outcome text from s
  at_token sign len e more None stuck =
      stopped (Found sign len) (kind_of s.due sign) (place text from) e (stuck, refl, refl)
  at_token sign len e more (Some u) fits =
      let long = found_longer (drop (place text from) text) sign len e in
      behind sign len u e fits (more (place text from + len) u (omega (arith, long)))

  -- at whatever stands there
  at_piece : ((to : ℕ) (u : State) → from < to → Outcome text to u) → (p : Piece) → next text from ≡ p
      → Outcome text from s
  at_piece more (Found sign len) e = at_token sign len e more (step s.due sign s.level) refl
  at_piece more (Stops reason) e = stopped (Stops reason) reason (place text from) e (refl, refl)
  at_piece more Ends e = at_end e (is_done s.due s.level) refl

-- a reader comes to an outcome, as the text is finite
outcome : (turns : ℕ) (text : List ℕ) (from : ℕ) (s : State) → length text < from + turns → Outcome text from s
outcome zero text from s over =
    at_end text from s (ap piece (drop_all (place text from) text (omega (arith, over)))) (is_done s.due s.level) refl
outcome (suc turns) text from s over =
    at_piece text from s (λ to u further. outcome turns text to u (omega (arith, over, further))) (next text from) refl

-- the state in which a text may end
done_state : (due : Bool) (level : ℕ) → is_done due level ≡ true → state level due ≡ state 0 false
done_state true level e = cc
done_state false zero e = refl
done_state false (suc level) e = cc

-- the outcome of a reader tells a list or a first fault
told : (text : List ℕ) → Outcome text (start text) (state 0 false)
    → ((t : Tree) × IsListOf text t) ⊎ ((kind : GrammarKind) × (at : ℕ) × IsFaultOf text kind at)
told text (fault kind at f) = inr (kind, at, IsFaultOf-from_Faults text kind at f)
told text (whole ts to u cut runs ends done) =
    let w = IsWhole-from_run ts (runs ∙ ap Some (done_state u.due u.level done)) in
    inl (
      w.whole,
      record {
        to = to;
        cut =
            subst (λ (us : List Token). Front text (start text) us to) (sym w.spells) cut;
        ends = ends;
        shallow =
            w.shallow;
      },
    )

-- every text has a list or a first fault
pub some_outcome : (text : List ℕ) → ((t : Tree) × IsListOf text t) ⊎ ((kind : GrammarKind) × (at : ℕ)
    × IsFaultOf text kind at)
some_outcome text = told text (outcome (suc (length text)) text (start text) (state 0 false) (omega arith))

-- the value that a leaf is the tree of
abbrev value_of : Leaf → GmlValue
value_of (Chars text) = Str text
value_of (Whole n) = Int n
value_of Other = Number

-- the value of a leaf has that leaf as its tree
value_tree : (key : List ℕ) (key_at : ℕ) (value : Leaf) (at : ℕ) (rest : Tree)
    → with_value key key_at (value_of value) at rest ≡ leaf key key_at value at rest
value_tree key key_at (Chars text) at rest = refl
value_tree key key_at (Whole n) at rest = refl
value_tree key key_at Other at rest = refl

-- a list of these entries with this end
abbrev list_for : List Entry → ℕ → GmlList
list_for es end = roll-GmlList (record { entries = es; end = end })

-- the list of some entries has these entries
entries_of_list : (es : List Entry) (end : ℕ) → (out-GmlList (list_for es end)).entries ≡ es
entries_of_list es end = λ i. (out-roll-GmlList (record { entries = es; end = end }) i).entries

-- and has its end
end_of_list : (es : List Entry) (end : ℕ) → (out-GmlList (list_for es end)).end ≡ end
end_of_list es end = λ i. (out-roll-GmlList (record { entries = es; end = end }) i).end

-- entries that have a tree
abbrev entries_for : Tree → List Entry
entries_for nil = []
entries_for (leaf key key_at value at rest) =
    record { key = key; key_at = key_at; value = value_of value; value_at = at } ∷ entries_for rest
entries_for (node key key_at at inner end rest) =
    record { key = key; key_at = key_at; value = Nested (list_for (entries_for inner) end); value_at = at }
    ∷ entries_for rest

-- the entries for a tree have that tree
tree_entries_for : (t : Tree) → tree (entries_for t) ≡ t
tree_entries_for nil = refl
tree_entries_for (leaf key key_at value at rest) =
    value_tree key key_at value at (tree (entries_for rest))
    ∙ ap (λ (r : Tree). leaf key key_at value at r) (tree_entries_for rest)
tree_entries_for (node key key_at at inner end rest) =
    with_list-tree key key_at (list_for (entries_for inner) end) at (tree (entries_for rest))
    ∙ (λ i. node key key_at at (tree (entries_of_list (entries_for inner) end i))
    (end_of_list (entries_for inner) end i) (tree (entries_for rest)))
    ∙ (λ i. node key key_at at (tree_entries_for inner i) end (tree_entries_for rest i))

-- every text is a list of entries or has a first fault
pub some_entries : (text : List ℕ) → ((es : List Entry) × IsListOf text (tree es)) ⊎ ((kind : GrammarKind) × (at : ℕ)
    × IsFaultOf text kind at)
some_entries text =
    ⊎_elim
    (λ list. inl (entries_for list.0, subst (λ (t : Tree). IsListOf text t) (sym (tree_entries_for list.0)) list.1))
    (λ fault. inr fault)
    (some_outcome text)
