-- The rows of tokens that run are those that begin some list that is not too deep.
use Rattle.std.proofs.Common.{◌≡◌, ℕ, zero, suc, ◌+◌, ◌≤◌, Bool, true, false, cond, ltb, List, [], ◌∷◌, ◌++◌, Option, Some, None, refl, sym, ap, ◌∙◌, arith, subst, append_assoc, append-nil}
use Rattle.std.proofs.lemmas.Bool.{ltb-true}
use Rattle.cp_gml.specs.declared.kind.GrammarKind.{GrammarKind}
use Rattle.cp_gml.specs.declared.kind.GrammarKind.TheVariants.{ValueExpected, ListOpen}
use Rattle.cp_gml.specs.Tokens.{Leaf, Other, Token, token, Sign, Open, Close, Word, Value, Piece, Found, Stops, Ends, start, place, next}
use Rattle.cp_gml.specs.Trees.{Tree, nil, leaf, node, spelled, depth}
use Rattle.cp_gml.specs.Lists.{deepest, IsViable, IsWhole, is_word, is_value_due, kind_of, IsFaulty, IsFaultOf}
use Rattle.cp_gml.specs.Machine.{State, state, step, closed, run, is_done, StopsAt, Faults}
use Rattle.cp_gml.proofs.Fronts.{run-append}
use Rattle.cp_gml.proofs.Spelling.{run-spelled}

-- the rest of each open list, from the innermost outward, and the closing brackets between them
data Rest : Type 0 where
  last : Tree → Rest
  inside : Tree → ℕ → Rest → Rest

-- the tokens that close the open lists
abbrev spelled_rest : Rest → List Token
spelled_rest (last t) = spelled t
spelled_rest (inside t end r) = spelled t ++ token Close end ∷ spelled_rest r

-- the number of lists that are open
abbrev levels : Rest → ℕ
levels (last t) = 0
levels (inside t end r) = suc (levels r)

-- no list is too deep, where the open ones count
abbrev IsShallow : Rest → Type 0
IsShallow (last t) = depth t ≤ deepest
IsShallow (inside t end r) = (depth t + suc (levels r) ≤ deepest) × IsShallow r

-- the rest with an entry in front of the innermost list
abbrev prepend : (Tree → Tree) → Rest → Rest
prepend entry (last t) = last (entry t)
prepend entry (inside t end r) = inside (entry t) end r

-- an entry in front opens no list
levels-prepend : (entry : Tree → Tree) (r : Rest) → levels (prepend entry r) ≡ levels r
levels-prepend entry (last t) = refl
levels-prepend entry (inside t end r) = refl

module _ (key : List ℕ) (key_at at : ℕ) where
  -- a leaf in front is spelled in front
  spelled-prepend_leaf : (value : Leaf) (r : Rest)
      → spelled_rest (prepend (leaf key key_at value at) r)
      ≡ token (Word key) key_at ∷ token (Value value) at ∷ spelled_rest r
  spelled-prepend_leaf value (last t) = refl
  spelled-prepend_leaf value (inside t end r) = refl

  -- a leaf in front makes nothing deeper
  shallow_leaf : (value : Leaf) (r : Rest) → IsShallow r → IsShallow (prepend (leaf key key_at value at) r)
  shallow_leaf value (last t) s = s
  shallow_leaf value (inside t end r) s = s

  -- a list in front is spelled in front
  spelled-prepend_node : (inner : Tree) (end : ℕ) (r : Rest)
      → spelled_rest (prepend (node key key_at at inner end) r) ≡ token (Word key) key_at ∷ token Open at ∷ spelled
      inner ++ token Close end ∷ spelled_rest r
  spelled-prepend_node inner end (last t) = refl
  spelled-prepend_node inner end (inside t e r) =
      ap (λ (ts : List Token). token (Word key) key_at ∷ token Open at ∷ ts)
      (append_assoc (spelled inner) (token Close end ∷ spelled t) (token Close e ∷ spelled_rest r))

  -- a list in front is no deeper than inside an open list
  shallow_node : (inner : Tree) (end : ℕ) (r : Rest) → IsShallow (inside inner end r)
      → IsShallow (prepend (node key key_at at inner end) r)
  shallow_node inner end (last t) s = omega (arith, s.0, s.1)
  shallow_node inner end (inside t e r) s = (omega (arith, s.0, s.1.0), s.1.1)

-- the closing brackets of some lists
abbrev empties : ℕ → Rest
empties zero = last nil
empties (suc level) = inside nil 0 (empties level)

-- so many empty lists are open
levels-empties : (level : ℕ) → levels (empties level) ≡ level
levels-empties zero = refl
levels-empties (suc level) = ap suc (levels-empties level)

-- empty lists are not too deep up to the deepest level
shallow_empties : (level : ℕ) → level ≤ deepest → IsShallow (empties level)
shallow_empties zero h = omega arith
shallow_empties (suc level) h = (omega (arith, levels-empties level), shallow_empties level (omega arith))

-- the key that waits for its value
abbrev waiting : Bool → List ℕ → ℕ → List Token
waiting true key key_at = token (Word key) key_at ∷ []
waiting false key key_at = []

-- some rest goes on with these tokens, and ends with them where they end in the state s of a whole list
record Completes (s : State) (level : ℕ) (front ts : List Token) : Type 0 where
  rest : Rest
  more : List Token
  spells : spelled_rest rest ≡ front ++ (ts ++ more)
  levels_are : levels rest ≡ level
  shallow : IsShallow rest
  done : s ≡ state 0 false → more ≡ []

-- one state is one
some_same : (s u : State) → Some s ≡ Some u → s ≡ u
some_same s u e = cc

-- no state comes behind a token that does not fit
none_runs : (ts : List Token) (s : State) → run None ts ≡ Some s → ⊥
none_runs [] s e = cc
none_runs (t ∷ ts) s e = none_runs ts s e

-- a list at its end has no list open
no_level : (level : ℕ) → state level false ≡ state 0 false → spelled_rest (empties level) ≡ []
no_level zero e = refl
no_level (suc level) e = let same : suc level ≡ 0 = ap (λ (u : State). u.level) e in absurd (omega (arith, same))

-- no value is due at the end of a list
none_due : (level : ℕ) → state level true ≡ state 0 false → ⊥
none_due level e = let same : true ≡ false = ap (λ (u : State). u.due) e in cc

-- before any token what is open can be closed
no_tokens : (due : Bool) (level : ℕ) (key : List ℕ) (key_at : ℕ) → level ≤ deepest
    → Completes (state level due) level (waiting due key key_at) []
no_tokens false level key key_at h = record {
  rest = empties level;
  more = spelled_rest (empties level);
  spells = refl;
  levels_are = levels-empties level;
  shallow = shallow_empties level h;
  done = no_level level;
}
no_tokens true level key key_at h = record {
  rest = prepend (leaf key key_at Other 0) (empties level);
  more = token (Value Other) 0 ∷ spelled_rest (empties level);
  spells = spelled-prepend_leaf key key_at 0 Other (empties level);
  levels_are = levels-prepend (leaf key key_at Other 0) (empties level) ∙ levels-empties level;
  shallow = shallow_leaf key key_at 0 Other (empties level) (shallow_empties level h);
  done = λ e. absurd (none_due level e);
}

module _ (at : ℕ) (ts : List Token) (s : State) where
  -- the tokens behind this one can be completed, from each state
  abbrev Behind : Type 0
  Behind = (u : State) (key : List ℕ) (key_at : ℕ) → u.level ≤ deepest → run (Some u) ts ≡ Some s
      → Completes s u.level (waiting u.due key key_at) ts

  -- a closing bracket can be completed
  close_token : (level : ℕ) → level ≤ deepest → Behind → run (closed level) ts ≡ Some s
      → Completes s level [] (token Close at ∷ ts)
  close_token zero h behind e = absurd (none_runs ts s e)
  close_token (suc level) h behind e =
      let c = behind (state level false) [] 0 (omega arith) e in
      record {
        rest = inside nil at c.rest;
        more = c.more;
        spells = ap (λ (us : List Token). token Close at ∷ us) c.spells;
        levels_are = ap suc c.levels_are;
        shallow = (omega (arith, c.levels_are), c.shallow);
        done = c.done;
      }

  -- a value can be completed
  value_token : (value : Leaf) (level : ℕ) (key : List ℕ) (key_at : ℕ) → Completes s level [] ts
      → Completes s level (token (Word key) key_at ∷ []) (token (Value value) at ∷ ts)
  value_token value level key key_at c = record {
    rest = prepend (leaf key key_at value at) c.rest;
    more = c.more;
    spells = spelled-prepend_leaf key key_at at value c.rest
        ∙ ap (λ (us : List Token). token (Word key) key_at ∷ token (Value value) at ∷ us) c.spells;
    levels_are = levels-prepend (leaf key key_at value at) c.rest ∙ c.levels_are;
    shallow = shallow_leaf key key_at at value c.rest c.shallow;
    done = c.done;
  }

  -- what completes an inner list completes the outer one
  nested_rest : (level : ℕ) (key : List ℕ) (key_at : ℕ) (r : Rest) (more : List Token) → spelled_rest r ≡ ts ++ more
      → levels r ≡ suc level → IsShallow r → (s ≡ state 0 false → more ≡ [])
      → Completes s level (token (Word key) key_at ∷ []) (token Open at ∷ ts)
  nested_rest level key key_at (last t) more spells levels_are shallow done = absurd (omega (arith, levels_are))
  nested_rest level key key_at (inside t end r) more spells levels_are shallow done = record {
    rest = prepend (node key key_at at t end) r;
    more = more;
    spells = spelled-prepend_node key key_at at t end r
        ∙ ap (λ (us : List Token). token (Word key) key_at ∷ token Open at ∷ us) spells;
    levels_are = levels-prepend (node key key_at at t end) r ∙ omega (arith, levels_are);
    shallow = shallow_node key key_at at t end r shallow;
    done = done;
  }

  -- an opening bracket can be completed
  open_token : (level : ℕ) (key : List ℕ) (key_at : ℕ) → Behind → (b : Bool) → ltb level deepest ≡ b
      → run (cond b (Some (state (suc level) false)) None) ts ≡ Some s
      → Completes s level (token (Word key) key_at ∷ []) (token Open at ∷ ts)
  open_token level key key_at behind false below e = absurd (none_runs ts s e)
  open_token level key key_at behind true below e =
      let lt = ltb-true level deepest below in
      let c = behind (state (suc level) false) [] 0 (omega (arith, lt)) e in
      nested_rest level key key_at c.rest c.more c.spells c.levels_are c.shallow c.done

  -- a token that fits can be completed
  one_token : (due : Bool) (sign : Sign) (level : ℕ) (key : List ℕ) (key_at : ℕ) → level ≤ deepest → Behind
      → run (step due sign level) ts ≡ Some s
      → Completes s level (waiting due key key_at) (token sign at ∷ ts)
  one_token false Open level key key_at h behind e = absurd (none_runs ts s e)
  one_token false Close level key key_at h behind e = close_token level h behind e
  one_token false (Word k) level key key_at h behind e =
      let c = behind (state level true) k at h e in
      record {
        rest = c.rest;
        more = c.more;
        spells = c.spells;
        levels_are = c.levels_are;
        shallow = c.shallow;
        done =
            c.done;
      }
  one_token false (Value value) level key key_at h behind e = absurd (none_runs ts s e)
  one_token true Open level key key_at h behind e = open_token level key key_at behind (ltb level deepest) refl e
  one_token true Close level key key_at h behind e = absurd (none_runs ts s e)
  one_token true (Word k) level key key_at h behind e = absurd (none_runs ts s e)
  one_token true (Value value) level key key_at h behind e =
      value_token value level key key_at (behind (state level false) [] 0 h e)

-- tokens that all fit can be completed
completes : (ts : List Token) (s u : State) (key : List ℕ) (key_at : ℕ) → u.level ≤ deepest → run (Some u) ts ≡ Some s
    → Completes s u.level (waiting u.due key key_at) ts
completes [] s u key key_at h e =
    subst (λ (x : State). Completes x u.level (waiting u.due key key_at) []) (some_same u s e)
    (no_tokens u.due u.level key key_at h)
completes (t ∷ ts) s u key key_at h e = one_token t.at ts s u.due t.sign u.level key key_at h (completes ts s) e

-- tokens that can be completed begin a list
viable_rest : (ts : List Token) (r : Rest) (more : List Token) → spelled_rest r ≡ ts ++ more → levels r ≡ 0
    → IsShallow r → IsViable ts
viable_rest ts (last t) more spells levels_are shallow =
    record { whole = t; more = more; spells = spells; shallow = shallow }
viable_rest ts (inside t end r) more spells levels_are shallow = absurd (omega (arith, levels_are))

-- tokens that all fit begin a list
pub IsViable-from_run : (ts : List Token) (s : State) → run (Some (state 0 false)) ts ≡ Some s → IsViable ts
IsViable-from_run ts s e =
    let c = completes ts s (state 0 false) [] 0 (omega arith) e in
    viable_rest ts c.rest c.more c.spells c.levels_are c.shallow

-- tokens that nothing more completes are a list
whole_rest : (ts : List Token) (r : Rest) (more : List Token) → spelled_rest r ≡ ts ++ more → more ≡ [] → levels r ≡ 0
    → IsShallow r → IsWhole ts
whole_rest ts (last t) more spells none levels_are shallow =
    record { whole = t; spells = spells ∙ ap (λ (us : List Token). ts ++ us) none ∙ append-nil ts; shallow = shallow }
whole_rest ts (inside t end r) more spells none levels_are shallow = absurd (omega (arith, levels_are))

-- tokens that run to the state of a whole list are one
pub IsWhole-from_run : (ts : List Token) → run (Some (state 0 false)) ts ≡ Some (state 0 false) → IsWhole ts
IsWhole-from_run ts e =
    let c = completes ts (state 0 false) (state 0 false) [] 0 (omega arith) e in
    whole_rest ts c.rest c.more c.spells (c.done refl) c.levels_are c.shallow

-- the tokens of a list all fit, and leave nothing open
pub run_whole : (t : Tree) → depth t ≤ deepest → run (Some (state 0 false)) (spelled t) ≡ Some (state 0 false)
run_whole t shallow = run-spelled t 0 (omega (arith, shallow))

-- what is viable runs
pub not_viable : (ts : List Token) → run (Some (state 0 false)) ts ≡ None → IsViable ts → ⊥
not_viable ts e v =
    none_runs v.more (state 0 false)
    (sym (ap (λ (s : Option State). run s v.more) e) ∙ sym (run-append ts v.more (Some (state 0 false)))
    ∙ sym (ap (run (Some (state 0 false))) v.spells) ∙ run_whole v.whole v.shallow)

-- the tokens of a whole list all fit, and leave nothing open
pub run_IsWhole : (ts : List Token) → IsWhole ts → run (Some (state 0 false)) ts ≡ Some (state 0 false)
run_IsWhole ts w = sym (ap (run (Some (state 0 false))) w.spells) ∙ run_whole w.whole w.shallow

-- a value is due exactly behind a word
abbrev due_behind : Bool → List Token → Bool
due_behind due [] = due
due_behind due (t ∷ ts) = due_behind (is_word t.sign) ts

-- whether a value is due behind some tokens, from any state
due_behind-some : (due : Bool) (t : Token) (ts : List Token) → due_behind due (t ∷ ts) ≡ is_value_due (t ∷ ts)
due_behind-some due t [] = refl
due_behind-some due t (u ∷ us) = due_behind-some (is_word t.sign) u us

-- and behind any tokens, from the beginning
due_behind-none : (ts : List Token) → due_behind false ts ≡ is_value_due ts
due_behind-none [] = refl
due_behind-none (t ∷ ts) = due_behind-some false t ts

-- no value is due behind a closing bracket
due_closed : (level : ℕ) (s : State) → closed level ≡ Some s → s.due ≡ false
due_closed zero s e = cc
due_closed (suc level) s e = let f : state level false ≡ s = cc in sym (ap (λ (u : State). u.due) f)

-- nor behind an opening bracket
due_opened : (level : ℕ) (b : Bool) (s : State) → cond b (Some (state (suc level) false)) None ≡ Some s → s.due ≡ false
due_opened level true s e = let f : state (suc level) false ≡ s = cc in sym (ap (λ (u : State). u.due) f)
due_opened level false s e = cc

-- a value is due exactly behind a word
due_step : (due : Bool) (sign : Sign) (level : ℕ) (s : State) → step due sign level ≡ Some s → s.due ≡ is_word sign
due_step false Open level s e = cc
due_step false Close level s e = due_closed level s e
due_step false (Word key) level s e = let f : state level true ≡ s = cc in sym (ap (λ (u : State). u.due) f)
due_step false (Value value) level s e = cc
due_step true Open level s e = due_opened level (ltb level deepest) s e
due_step true Close level s e = cc
due_step true (Word key) level s e = cc
due_step true (Value value) level s e = let f : state level false ≡ s = cc in sym (ap (λ (u : State). u.due) f)

-- what is due behind a first token and more
due_first : (o : Option State) (due : Bool) (ts : List Token) (s : State) → ((u : State) → o ≡ Some u → u.due ≡ due)
    → ((u : State) → run (Some u) ts ≡ Some s → s.due ≡ due_behind u.due ts) → run o ts ≡ Some s
    → s.due ≡ due_behind due ts
due_first None due ts s first rest e = absurd (none_runs ts s e)
due_first (Some u) due ts s first rest e = rest u e ∙ ap (λ (d : Bool). due_behind d ts) (first u refl)

-- what is due behind tokens that all fit
due_run : (ts : List Token) (u s : State) → run (Some u) ts ≡ Some s → s.due ≡ due_behind u.due ts
due_run [] u s e = let f : u ≡ s = cc in sym (ap (λ (v : State). v.due) f)
due_run (t ∷ ts) u s e = due_first (step u.due t.sign u.level) (is_word t.sign) ts s (due_step u.due t.sign u.level)
    (λ v. due_run ts v s) e

-- a value is due as the last token tells
pub is_value_due-run : (ts : List Token) (s : State) → run (Some (state 0 false)) ts ≡ Some s → s.due ≡ is_value_due ts
is_value_due-run ts s e = due_run ts (state 0 false) s e ∙ due_behind-none ts

-- a text may end where nothing is open and nothing is due
not_done : (s : State) → s ≡ state 0 false → is_done s.due s.level ≡ false → ⊥
not_done s e unfinished = let done : is_done s.due s.level ≡ true = ap (λ (u : State). is_done u.due u.level) e in cc

-- where the reader stops is the fault of the text
faulty_piece : (text : List ℕ) (ts : List Token) (from : ℕ) (s : State) (p : Piece) (kind : GrammarKind) (at : ℕ)
    → run (Some (state 0 false)) ts ≡ Some s
    → StopsAt text (place text from) p s kind at → IsFaulty text ts from p kind at
faulty_piece text ts from s (Found sign len) kind at runs (stuck, kind_is, at_is) = (
  not_viable (ts ++ token sign (place text from) ∷ [])
      (run-append ts (token sign (place text from) ∷ []) (Some (state 0 false))
      ∙ ap (λ (o : Option State). run o (token sign (place text from) ∷ [])) runs ∙ stuck),
  kind_is ∙ ap (λ (d : Bool). kind_of d sign) (is_value_due-run ts s runs),
  at_is,
)
faulty_piece text ts from s (Stops reason) kind at runs stops = stops
faulty_piece text ts from s Ends kind at runs (unfinished, kind_is, at_is) = (
  (λ w. not_done s (some_same s (state 0 false) (sym runs ∙ run_IsWhole ts w)) unfinished),
  kind_is
      ∙ ap (λ (d : Bool). cond d ValueExpected ListOpen) (is_value_due-run ts s runs),
  at_is,
)

-- where a reader of the text stops is the first fault of the text
pub IsFaultOf-from_Faults : (text : List ℕ) (kind : GrammarKind) (at : ℕ)
    → Faults text (start text) (state 0 false) kind at → IsFaultOf text kind at
IsFaultOf-from_Faults text kind at f = record {
  tokens = f.tokens;
  to = f.to;
  cut = f.cut;
  viable = IsViable-from_run f.tokens f.reached f.runs;
  faulty = faulty_piece text f.tokens f.to f.reached (next text f.to) kind at f.runs f.stops;
}
