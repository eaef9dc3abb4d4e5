-- A text has at most one list, at most one first fault, and never both.
use Rattle.std.proofs.Common.{◌≡◌, ℕ, ◌+◌, ◌≤◌, List, [], ◌∷◌, ◌++◌, refl, sym, ap, ◌∙◌, subst, append_assoc}
use Rattle.cp_gml.specs.declared.kind.GrammarKind.{GrammarKind}
use Rattle.cp_gml.specs.Tokens.{Leaf, Token, token, Sign, Open, Close, Word, Value, Piece, Found, Stops, Ends, Front, start, place, next}
use Rattle.cp_gml.specs.Trees.{Tree, nil, leaf, node, spelled, depth}
use Rattle.cp_gml.specs.Lists.{deepest, IsViable, IsWhole, IsListOf, IsFaulty, IsFaultOf}

-- two rows of tokens from one offset are the same, or one goes on where the other ends
data Compared (text : List ℕ) (ts us : List Token) (a b : ℕ) : Type 0 where
  -- the same tokens up to the same offset
  same : ts ≡ us → a ≡ b → Compared text ts us a b
  -- the second row goes on with a token behind the first
  shorter : (t : Token) (more : List Token) (len : ℕ) → us ≡ ts ++ t ∷ more → t.at ≡ place text a
      → next text a ≡ Found t.sign len → Compared text ts us a b
  -- the first row goes on with a token behind the second
  longer : (t : Token) (more : List Token) (len : ℕ) → ts ≡ us ++ t ∷ more → t.at ≡ place text b
      → next text b ≡ Found t.sign len → Compared text ts us a b

-- one token is found at a place
found_sign : (p : Piece) (r s : Sign) (m n : ℕ) → p ≡ Found r m → p ≡ Found s n → r ≡ s
found_sign p r s m n e f = cc

-- of one length
found_len : (p : Piece) (r s : Sign) (m n : ℕ) → p ≡ Found r m → p ≡ Found s n → m ≡ n
found_len p r s m n e f = cc

-- a token is its sign and its offset
same_token : (t u : Token) → t.sign ≡ u.sign → t.at ≡ u.at → t ≡ u
same_token t u e f = λ i. token (e i) (f i)

-- a token in front of both rows changes nothing
compared_behind : (text : List ℕ) (t u : Token) (ts us : List Token) (a b : ℕ) → t ≡ u → Compared text ts us a b
    → Compared text (t ∷ ts) (u ∷ us) a b
compared_behind text t u ts us a b e (same rest ends) = same (λ i. e i ∷ rest i) ends
compared_behind text t u ts us a b e (shorter v more len rest at found) =
    shorter v more len (λ i. sym e i ∷ rest i) at found
compared_behind text t u ts us a b e (longer v more len rest at found) = longer v more len (λ i. e i ∷ rest i) at found

-- two rows that a reader finds from one offset are the same, or one goes on where the other ends
Front_compared : (text : List ℕ) (ts us : List Token) (from a b : ℕ) → Front text from ts a → Front text from us b
    → Compared text ts us a b
Front_compared text [] [] from a b f g = same refl (sym f ∙ g)
Front_compared text [] (u ∷ us) from a b f g =
    shorter u us g.0 refl (subst (λ (x : ℕ). u.at ≡ place text x) f g.1)
    (subst (λ (x : ℕ). next text x ≡ Found u.sign g.0) f g.2)
Front_compared text (t ∷ ts) [] from a b f g =
    longer t ts f.0 refl (subst (λ (x : ℕ). t.at ≡ place text x) g f.1)
    (subst (λ (x : ℕ). next text x ≡ Found t.sign f.0) g f.2)
Front_compared text (t ∷ ts) (u ∷ us) from a b f g =
    let signs = found_sign (next text from) t.sign u.sign f.0 g.0 f.2 g.2 in
    let lens = found_len (next text from) t.sign u.sign f.0 g.0 f.2 g.2 in
    compared_behind text t u ts us a b (same_token t u signs (f.1 ∙ sym g.1))
    (Front_compared text ts us (place text from + f.0) a b f.3 (subst (λ (n : ℕ). Front text (place text from + n) us b)
    (sym lens) g.3))

-- what follows a list: nothing, or a closing bracket
abbrev IsEnd : List Token → Type 0
IsEnd [] = Unit {0}
IsEnd (t ∷ ts) = t.sign ≡ Close

-- equal rows begin with equal tokens
first_same : (t u : Token) (ts us : List Token) → t ∷ ts ≡ u ∷ us → t ≡ u
first_same t u ts us e = cc

-- and go on alike
rest_same : (t u : Token) (ts us : List Token) → t ∷ ts ≡ u ∷ us → ts ≡ us
rest_same t u ts us e = cc

-- their first tokens have one sign
signs_same : (t u : Token) (ts us : List Token) → t ∷ ts ≡ u ∷ us → t.sign ≡ u.sign
signs_same t u ts us e = ap (λ (v : Token). v.sign) (first_same t u ts us e)

-- and one offset
ats_same : (t u : Token) (ts us : List Token) → t ∷ ts ≡ u ∷ us → t.at ≡ u.at
ats_same t u ts us e = ap (λ (v : Token). v.at) (first_same t u ts us e)

-- no key follows a list
no_word : (key : List ℕ) (key_at : ℕ) (ts xs : List Token) → IsEnd xs → xs ≡ token (Word key) key_at ∷ ts → ⊥
no_word key key_at ts [] end e = cc
no_word key key_at ts (x ∷ xs) end e = let word : x.sign ≡ Word key =
    signs_same x (token (Word key) key_at) xs ts e in cc

-- one word has one key
words_same : (k l : List ℕ) → Word k ≡ Word l → k ≡ l
words_same k l e = cc

-- one value has one leaf
values_same : (v w : Leaf) → Value v ≡ Value w → v ≡ w
values_same v w e = cc

-- a spelling determines its list, whatever follows
spelled-same : (t u : Tree) (xs ys : List Token) → IsEnd xs → IsEnd ys → spelled t ++ xs ≡ spelled u ++ ys
    → (t ≡ u) × (xs ≡ ys)
spelled-same nil nil xs ys p q e = (refl, e)
spelled-same nil (leaf key key_at value at rest) xs ys p q e =
    absurd (no_word key key_at (token (Value value) at ∷ spelled rest ++ ys) xs p e)
spelled-same nil (node key key_at at inner end rest) xs ys p q e =
    absurd (no_word key key_at (token Open at ∷ (spelled inner ++ token Close end ∷ spelled rest) ++ ys) xs p e)
spelled-same (leaf key key_at value at rest) nil xs ys p q e =
    absurd (no_word key key_at (token (Value value) at ∷ spelled rest ++ xs) ys q (sym e))
spelled-same (node key key_at at inner end rest) nil xs ys p q e =
    absurd (no_word key key_at (token Open at ∷ (spelled inner ++ token Close end ∷ spelled rest) ++ xs) ys q (sym e))
spelled-same (leaf key key_at value at rest) (leaf k k_at v v_at r) xs ys p q e =
    let behind = rest_same (token (Word key) key_at) (token (Word k) k_at) (token (Value value) at ∷ spelled rest ++ xs)
    (token (Value v) v_at ∷ spelled r ++ ys) e in
    let keys = words_same key k (signs_same (token (Word key) key_at) (token (Word k) k_at)
    (token (Value value) at ∷ spelled rest ++ xs) (token (Value v) v_at ∷ spelled r ++ ys) e) in
    let key_ats = ats_same (token (Word key) key_at) (token (Word k) k_at) (token (Value value) at ∷ spelled rest ++ xs)
    (token (Value v) v_at ∷ spelled r ++ ys) e in
    let values = values_same value v (signs_same (token (Value value) at) (token (Value v) v_at) (spelled rest ++ xs)
    (spelled r ++ ys) behind) in
    let ats = ats_same (token (Value value) at) (token (Value v) v_at) (spelled rest ++ xs) (spelled r ++ ys) behind in
    let ends = spelled-same rest r xs ys p q (rest_same (token (Value value) at) (token (Value v) v_at)
    (spelled rest ++ xs) (spelled r ++ ys) behind) in
    ((λ i. leaf (keys i) (key_ats i) (values i) (ats i) (ends.0 i)), ends.1)
spelled-same (leaf key key_at value at rest) (node k k_at v_at inner end r) xs ys p q e =
    let behind = rest_same (token (Word key) key_at) (token (Word k) k_at) (token (Value value) at ∷ spelled rest ++ xs)
    (token Open v_at ∷ (spelled inner ++ token Close end ∷ spelled r) ++ ys) e in
    let signs : Value value ≡ Open =
    signs_same (token (Value value) at) (token Open v_at) (spelled rest ++ xs)
    ((spelled inner ++ token Close end ∷ spelled r) ++ ys) behind in
    cc
spelled-same (node key key_at at inner end rest) (leaf k k_at v v_at r) xs ys p q e =
    let behind = rest_same (token (Word key) key_at) (token (Word k) k_at)
    (token Open at ∷ (spelled inner ++ token Close end ∷ spelled rest) ++ xs)
    (token (Value v) v_at ∷ spelled r ++ ys) e in
    let signs : Open ≡ Value v =
    signs_same (token Open at) (token (Value v) v_at) ((spelled inner ++ token Close end ∷ spelled rest) ++ xs)
    (spelled r ++ ys) behind in
    cc
spelled-same (node key key_at at inner end rest) (node k k_at v_at i e' r) xs ys p q e =
    let tail : List Token = (spelled inner ++ token Close end ∷ spelled rest) ++ xs in
    let tail' : List Token = (spelled i ++ token Close e' ∷ spelled r) ++ ys in
    let behind = rest_same (token (Word key) key_at) (token (Word k) k_at) (token Open at ∷ tail)
    (token Open v_at ∷ tail') e in
    let keys = words_same key k (signs_same (token (Word key) key_at) (token (Word k) k_at) (token Open at ∷ tail)
    (token Open v_at ∷ tail') e) in
    let key_ats = ats_same (token (Word key) key_at) (token (Word k) k_at) (token Open at ∷ tail)
    (token Open v_at ∷ tail') e in
    let ats = ats_same (token Open at) (token Open v_at) tail tail' behind in
    let inside = spelled-same inner i (token Close end ∷ spelled rest ++ xs) (token Close e' ∷ spelled r ++ ys) refl
    refl
    (sym (append_assoc (spelled inner) (token Close end ∷ spelled rest) xs)
    ∙ rest_same (token Open at) (token Open v_at) tail tail' behind
    ∙ append_assoc (spelled i) (token Close e' ∷ spelled r) ys) in
    let ends = ats_same (token Close end) (token Close e') (spelled rest ++ xs) (spelled r ++ ys) inside.1 in
    let others = spelled-same rest r xs ys p q (rest_same (token Close end) (token Close e') (spelled rest ++ xs)
    (spelled r ++ ys) inside.1) in
    ((λ j. node (keys j) (key_ats j) (ats j) (inside.0 j) (ends j) (others.0 j)), others.1)

-- where the text ends no token stands
not_both : (p : Piece) (sign : Sign) (len : ℕ) → p ≡ Ends → p ≡ Found sign len → ⊥
not_both p sign len e f = cc

-- a text has at most one list
pub one_list : (text : List ℕ) (t u : Tree) → IsListOf text t → IsListOf text u → t ≡ u
one_list text t u a b =
    elim (Front_compared text (spelled t) (spelled u) (start text) a.to b.to a.cut b.cut) [
      | same e ends ↦ (spelled-same t u [] [] tt tt (ap (λ (ts : List Token). ts ++ []) e)).0
      | shorter v more len e at found ↦ absurd (not_both (next text a.to) v.sign len a.ends found)
      | longer v more len e at found ↦ absurd (not_both (next text b.to) v.sign len b.ends found)
    ]

-- the tokens before a fault are not viable with the one that follows
viable_front : (ts more : List Token) (t : Token) (whole : Tree) → spelled whole ≡ ts ++ t ∷ more
    → depth whole ≤ deepest → IsViable (ts ++ t ∷ [])
viable_front ts more t whole e shallow =
    record { whole = whole; more = more; spells = e ∙ sym (append_assoc ts (t ∷ []) more); shallow = shallow }

-- tokens before a fault do not go on to a list by the token that stands there
not_longer : (text : List ℕ) (f : List Token) (to : ℕ) (p : Piece) (kind : GrammarKind) (at : ℕ) (t : Token) (len : ℕ)
    → IsFaulty text f to p kind at → p ≡ Found t.sign len
    → t.at ≡ place text to → IsViable (f ++ t ∷ []) → ⊥
not_longer text f to (Found sign n) kind at t len faulty e t_at v =
    let signs : sign ≡ t.sign = found_sign (Found sign n) sign t.sign n len refl e in
    faulty.0 (subst (λ (u : Token). IsViable (f ++ u ∷ [])) (same_token t (token sign (place text to)) (sym signs) t_at)
    v)
not_longer text f to (Stops reason) kind at t len faulty e t_at v = cc
not_longer text f to Ends kind at t len faulty e t_at v = cc

-- tokens before the end of a text at fault are no list
not_whole : (text : List ℕ) (f : List Token) (to : ℕ) (p : Piece) (kind : GrammarKind) (at : ℕ)
    → IsFaulty text f to p kind at → p ≡ Ends → IsWhole f → ⊥
not_whole text f to (Found sign n) kind at faulty e w = cc
not_whole text f to (Stops reason) kind at faulty e w = cc
not_whole text f to Ends kind at faulty e w = faulty.0 w

-- a text that has a list has no fault
pub list_or_fault : (text : List ℕ) (t : Tree) (kind : GrammarKind) (at : ℕ) → IsListOf text t → IsFaultOf text kind at
    → ⊥
list_or_fault text t kind at a f =
    elim (Front_compared text (spelled t) f.tokens (start text) a.to f.to a.cut f.cut) [
      | same e ends ↦ not_whole text f.tokens f.to (next text f.to) kind at f.faulty
          (ap (next text) (sym ends) ∙ a.ends) (record { whole = t; spells = e; shallow = a.shallow })
      | shorter v more len e v_at found ↦ not_both (next text a.to) v.sign len a.ends found
      | longer v more len e v_at found ↦
          not_longer text f.tokens f.to (next text f.to) kind at v len f.faulty found v_at
          (viable_front f.tokens more v t e a.shallow)
    ]

-- one fault stands behind given tokens
faulty_same : (text : List ℕ) (ts : List Token) (from : ℕ) (p : Piece) (k : GrammarKind) (a : ℕ) (l : GrammarKind) (b :
    ℕ) → IsFaulty text ts from p k a → IsFaulty text ts from p l b → (k ≡ l) × (a ≡ b)
faulty_same text ts from (Found sign len) k a l b e f = (e.1 ∙ sym f.1, e.2 ∙ sym f.2)
faulty_same text ts from (Stops reason) k a l b e f = (e.0 ∙ sym f.0, e.1 ∙ sym f.1)
faulty_same text ts from Ends k a l b e f = (e.1 ∙ sym f.1, e.2 ∙ sym f.2)

-- a fault behind tokens is a fault behind equal ones
faulty_along : (text : List ℕ) (ts us : List Token) (a b : ℕ) (kind : GrammarKind) (at : ℕ) → ts ≡ us → a ≡ b
    → IsFaulty text us b (next text b) kind at → IsFaulty text ts a (next text a) kind at
faulty_along text ts us a b kind at e f g =
    subst (λ (x : ℕ). IsFaulty text ts x (next text x) kind at) (sym f)
    (subst (λ (xs : List Token). IsFaulty text xs b (next text b) kind at) (sym e) g)

-- a text has at most one first fault
pub one_fault : (text : List ℕ) (k : GrammarKind) (a : ℕ) (l : GrammarKind) (b : ℕ) → IsFaultOf text k a
    → IsFaultOf text l b → (k ≡ l) × (a ≡ b)
one_fault text k a l b f g =
    elim (Front_compared text f.tokens g.tokens (start text) f.to g.to f.cut g.cut) [
      | same e ends ↦ faulty_same text f.tokens f.to (next text f.to) k a l b f.faulty
          (faulty_along text f.tokens g.tokens f.to g.to l b e ends g.faulty)
      | shorter v more len e v_at found ↦
          absurd (not_longer text f.tokens f.to (next text f.to) k a v len f.faulty found v_at
          (viable_front f.tokens (more ++ g.viable.more) v g.viable.whole
          (g.viable.spells ∙ ap (λ (ts : List Token). ts ++ g.viable.more) e
          ∙ append_assoc f.tokens (v ∷ more) g.viable.more) g.viable.shallow))
      | longer v more len e v_at found ↦
          absurd (not_longer text g.tokens g.to (next text g.to) l b v len g.faulty found v_at
          (viable_front g.tokens (more ++ f.viable.more) v f.viable.whole
          (f.viable.spells ∙ ap (λ (ts : List Token). ts ++ f.viable.more) e
          ∙ append_assoc g.tokens (v ∷ more) f.viable.more) f.viable.shallow))
    ]
