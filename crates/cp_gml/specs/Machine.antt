-- What a token does to the state of a reader of lists, for the contracts within this crate.
use Rattle.std.specs.Prelude.{◌≡◌, ℕ, zero, suc, Bool, true, false, nat_lt, if◌then◌else◌, List, [], ◌∷◌, length, Option, Some, None}
use Rattle.cp_gml.specs.declared.kind.GrammarKind.{GrammarKind}
use Rattle.cp_gml.specs.declared.kind.GrammarKind.TheVariants.{ValueExpected, ListOpen}
use Rattle.cp_gml.specs.Tokens.{Sign, Open, Close, Word, Value, Token, Piece, Found, Stops, Ends, Front, place, next}
use Rattle.cp_gml.specs.Lists.{deepest, kind_of}

-- the number of open lists, and whether a value is due
pub record State : Type 0 where
  pub level : ℕ
  pub due : Bool

-- so many lists are open, and a value is due or not
abbrev pub state : ℕ → Bool → State
state level due = record { level = level; due = due }

-- the state behind a closing bracket, if a list is open
abbrev pub closed : ℕ → Option State
closed zero = None
closed (suc level) = Some (state level false)

-- the state behind an opening bracket, if the list is not too deep
abbrev pub opened : ℕ → Option State
opened level = if nat_lt level deepest then Some (state (suc level) false) else None

-- the state behind a token that fits
abbrev pub step : Bool → Sign → ℕ → Option State
step false Open level = None
step false Close level = closed level
step false (Word key) level = Some (state level true)
step false (Value leaf) level = None
step true Open level = opened level
step true Close level = None
step true (Word key) level = None
step true (Value leaf) level = Some (state level false)

-- the state behind a token, if the tokens before it fit
abbrev pub step_from : Option State → Sign → Option State
step_from None sign = None
step_from (Some s) sign = step s.due sign s.level

-- the state behind a row of tokens that all fit
abbrev pub run : Option State → List Token → Option State
run s [] = s
run s (t ∷ ts) = run (step_from s t.sign) ts

-- whether the text may end
abbrev pub is_done : Bool → ℕ → Bool
is_done true level = false
is_done false zero = true
is_done false (suc level) = false

-- a reader in this state stops at what stands there
abbrev pub StopsAt : List ℕ → ℕ → Piece → State → GrammarKind → ℕ → Type 0
StopsAt text here (Found sign len) s kind at =
    (step s.due sign s.level ≡ None) × (kind ≡ kind_of s.due sign) × (at ≡ here)
StopsAt text here (Stops reason) s kind at = (kind ≡ reason) × (at ≡ here)
StopsAt text here Ends s kind at =
    (is_done s.due s.level ≡ false) × (kind ≡ (if s.due then ValueExpected else ListOpen)) × (at ≡ length text)

-- a reader in this state stops at what stands behind the next gap
abbrev pub StopsHere : List ℕ → ℕ → State → GrammarKind → ℕ → Type 0
StopsHere text from s kind at = StopsAt text (place text from) (next text from) s kind at

-- a reader that begins here in this state stops somewhere behind with this fault
pub record Faults (text : List ℕ) (from : ℕ) (s : State) (kind : GrammarKind) (at : ℕ) : Type 0 where
  pub tokens : List Token
  pub to : ℕ
  pub reached : State
  pub cut : Front text from tokens to
  pub runs : run (Some s) tokens ≡ Some reached
  pub stops : StopsHere text to reached kind at
