-- Rows of tokens that stand in a text join, and a fault behind some tokens is a fault before them.
use Rattle.std.proofs.Common.{◌≡◌, ℕ, suc, ◌+◌, ◌<◌, List, [], ◌∷◌, ◌++◌, Option, Some, false, refl, sym, ap, ◌∙◌, subst}
use Rattle.std.proofs.lemmas.Bool.{lt-ltb}
use Rattle.cp_gml.specs.declared.kind.GrammarKind.{GrammarKind}
use Rattle.cp_gml.specs.Lists.{deepest}
use Rattle.cp_gml.specs.Tokens.{Token, Front, place}
use Rattle.cp_gml.specs.Machine.{State, state, step_from, opened, run, StopsHere, Faults}

-- two rows of tokens, one behind the other, are one row
pub Front-append : (text : List ℕ) (ts us : List Token) (from mid to : ℕ) → Front text from ts mid
    → Front text mid us to → Front text from (ts ++ us) to
Front-append text [] us from mid to a b = subst (λ (x : ℕ). Front text x us to) (sym a) b
Front-append text (t ∷ ts) us from mid to a b =
    (a.0, a.1, a.2, Front-append text ts us (place text from + a.0) mid to a.3 b)

-- the state behind two rows of tokens is that of the second, run behind the first
pub run-append : (ts us : List Token) (s : Option State) → run s (ts ++ us) ≡ run (run s ts) us
run-append [] us s = refl
run-append (t ∷ ts) us s = run-append ts us (step_from s t.sign)

-- a reader that stops where it begins has the fault of that place
pub Faults_here : (text : List ℕ) (from : ℕ) (s : State) (kind : GrammarKind) (at : ℕ) → StopsHere text from s kind at
    → Faults text from s kind at
Faults_here text from s kind at stops =
    record { tokens = []; to = from; reached = s; cut = refl; runs = refl; stops = stops }

-- a fault behind tokens that fit is a fault of the reader before them
pub Faults_behind : (text : List ℕ) (ts : List Token) (from mid : ℕ) (s u : State) (kind : GrammarKind) (at : ℕ)
    → Front text from ts mid → run (Some s) ts ≡ Some u → Faults text mid u kind at → Faults text from s kind at
Faults_behind text ts from mid s u kind at cut runs f = record {
  tokens = ts ++ f.tokens;
  to = f.to;
  reached = f.reached;
  cut = Front-append text ts f.tokens from mid f.to cut f.cut;
  runs = run-append ts f.tokens (Some s) ∙ ap (λ (o : Option State). run o f.tokens) runs ∙ f.runs;
  stops = f.stops;
}

-- a list opens at each level below the deepest
pub opened_below : (level : ℕ) → level < deepest → opened level ≡ Some (state (suc level) false)
opened_below level below = rw lt-ltb
