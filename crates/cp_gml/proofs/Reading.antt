-- What the parts of the reader find makes up what the reader of a list finds.
use Rattle.std.proofs.Common.{◌≡◌, ℕ, ◌+◌, ◌-◌, ◌≤◌, max, List, [], ◌∷◌, ◌++◌, take, drop, true, false, refl, ap, ◌∙◌, arith, add-one}
use Rattle.cp_gml.specs.declared.kind.GrammarKind.{GrammarKind}
use Rattle.cp_gml.specs.declared.tree.GmlList.{GmlList, out-GmlList}
use Rattle.cp_gml.specs.declared.tree.GmlValue.{GmlValue}
use Rattle.cp_gml.specs.declared.tree.GmlValue.TheVariants.{List as Nested}
use Rattle.cp_gml.specs.declared.tree.Entry.{Entry}
use Rattle.cp_gml.specs.declared.fault.ListFault.{ListFault}
use Rattle.cp_gml.specs.declared.fault.ListFault.TheVariants.{Grammar, Memory}
use Rattle.cp_gml.specs.declared.scan.Plain.{Plain}
use Rattle.cp_gml.specs.Tokens.{Token, token, Sign, Open, Close, Word, Value, Front, Found, place, next}
use Rattle.cp_gml.specs.Scans.{leaf_over}
use Rattle.cp_gml.specs.Trees.{Tree, nil, leaf, node, spelled, depth, tree, with_value}
use Rattle.cp_gml.specs.Lists.{deepest, IfFault}
use Rattle.cp_gml.specs.Machine.{state, StopsHere, Faults}
use Rattle.cp_gml.specs.Moves.{IsKey, IsLeaf, OpensList, IsEntry, AreEntries, IsRead}
use Rattle.cp_gml.proofs.Fronts.{Front-append, opened_below, Faults_here, Faults_behind}
use Rattle.cp_gml.proofs.Spelling.{with_list-tree, spelled-tree-append, depth-tree-append, run-spelled}

-- where one property of a fault gives another
pub IfFault-weaker : (e : ListFault) (P Q : GrammarKind → ℕ → Type 0)
    → ((kind : GrammarKind) (at : ℕ) → P kind at → Q kind at) → IfFault e P → IfFault e Q
IfFault-weaker (Grammar kind at) P Q f p = f kind at p
IfFault-weaker Memory P Q f p = tt

-- a token that stands between two offsets
one_token : (text : List ℕ) (from at behind : ℕ) (sign : Sign) → at ≡ place text from
    → next text from ≡ Found sign (behind - at) → at ≤ behind → Front text from (token sign at ∷ []) behind
one_token text from at behind sign stands found order = (behind - at, stands, found, omega arith)

module _ (text : List ℕ) (level : ℕ) where
  -- a fault where the next key is due is one of the list
  pub Faults_in_entries : (es : List Entry) (from at : ℕ) (kind : GrammarKind) (fault_at : ℕ)
      → AreEntries text from level es at → StopsHere text at (state level false) kind fault_at
      → Faults text from (state level false) kind fault_at
  Faults_in_entries es from at kind fault_at read stops =
      Faults_behind text (spelled (tree es)) from at (state level false) (state level false) kind fault_at read.cut
      (run-spelled (tree es) level read.shallow) (Faults_here text at (state level false) kind fault_at stops)

  -- a fault in the value of an entry is one of the list
  pub Faults_in_value : (es : List Entry) (from at key_at behind : ℕ) (kind : GrammarKind) (fault_at : ℕ)
      → AreEntries text from level es at → IsKey text at key_at behind
      → Faults text behind (state level true) kind fault_at → Faults text from (state level false) kind fault_at
  Faults_in_value es from at key_at behind kind fault_at read key f =
      let word : Token = token (Word (take (behind - key_at) (drop key_at text))) key_at in
      Faults_behind text (spelled (tree es)) from at (state level false) (state level false) kind fault_at read.cut
      (run-spelled (tree es) level read.shallow)
      (Faults_behind text (word ∷ []) at behind (state level false) (state level true) kind fault_at
      (one_token text at key_at behind word.sign key.stands key.found (omega (arith, key.longer))) refl f)

  -- a fault in a list is one of the value that the list is
  pub Faults_in_list : (from at : ℕ) (kind : GrammarKind) (fault_at : ℕ)
      → OpensList text from level at → Faults text (at + 1) (state (level + 1) false) kind fault_at
      → Faults text from (state level true) kind fault_at
  Faults_in_list from at kind fault_at opens f =
      let one : (at + 1) - at ≡ 1 = omega arith in
      Faults_behind text (token Open at ∷ []) from (at + 1) (state level true) (state (level + 1) false) kind fault_at
      (one_token text from at (at + 1) Open opens.stands (rw one opens.found) (omega arith))
      (rw add-one (opened_below level opens.shallow)) f

  -- one more entry behind some entries
  pub AreEntries_more : (es : List Entry) (e : Entry) (from at key_at middle behind : ℕ)
      → AreEntries text from level es at → IsKey text at key_at middle → IsEntry text key_at middle level e behind
      → AreEntries text from level (es ++ e ∷ []) behind
  AreEntries_more es e from at key_at middle behind read key entry = record {
    cut =
        let word : Token = token (Word (take (middle - key_at) (drop key_at text))) key_at in
        rw (spelled-tree-append es (e ∷ []), entry.spells)
        (Front-append text (spelled (tree es)) (word ∷ entry.tokens) from at behind read.cut
        (Front-append text (word ∷ []) entry.tokens at middle behind (one_token text at key_at middle word.sign
        key.stands key.found (omega (arith, key.longer))) entry.cut));
    shallow = omega (arith, depth-tree-append es (e ∷ []), read.shallow, entry.shallow);
    forward = omega (arith, read.forward, key.forward, key.longer, entry.forward);
    within = entry.within;
  }

  -- a key and a value that is no list are an entry
  pub leaf_IsEntry : (e : Entry) (key_at from at behind : ℕ) (plain : Plain)
      → e.key ≡ take (from - key_at) (drop key_at text) → e.key_at ≡ key_at → e.value_at ≡ at
      → ((key : List ℕ) (key_at value_at : ℕ) (rest : Tree)
      → with_value key key_at e.value value_at rest ≡ leaf key key_at (leaf_over plain (drop at text)) value_at
      rest)
      → level ≤ deepest → IsLeaf text from at behind plain → IsEntry text key_at from level e behind
  leaf_IsEntry e key_at from at behind plain key_is key_at_is value_at_is value_is shallow found =
      let read = leaf_over plain (drop at text) in
      let whole : tree (e ∷ []) ≡ leaf e.key e.key_at (leaf_over plain (drop at text)) e.value_at nil =
      value_is e.key e.key_at e.value_at nil in
      let flat : depth (tree (e ∷ [])) ≡ 0 = ap depth whole in
      record {
        tokens = token (Value read) at ∷ [];
        cut = one_token text from at behind (Value read) found.stands found.found (omega (arith, found.longer));
        spells = ap spelled whole
            ∙ (λ i. token (Word (key_is i)) (key_at_is i) ∷ token (Value read) (value_at_is i) ∷ []);
        shallow = omega (arith, flat, shallow);
        forward = omega (arith, found.forward, found.longer);
        within = found.within;
      }

  -- a key and a list are an entry
  pub list_IsEntry : (e : Entry) (list : GmlList) (key_at from at : ℕ)
      → e.key ≡ take (from - key_at) (drop key_at text) → e.key_at ≡ key_at → e.value_at ≡ at → e.value ≡ Nested list
      → OpensList text from level at → IsRead text (at + 1) (level + 1) list
      → IsEntry text key_at from level e ((out-GmlList list).end + 1)
  list_IsEntry e list key_at from at key_is key_at_is value_at_is value_is opens read =
      let inner : Tree = tree (out-GmlList list).entries in
      let end : ℕ = (out-GmlList list).end in
      let stop : ℕ = read.stop in
      let closing = read.ends.inner (omega arith) in
      let before_end = read.ends.within (omega arith) in
      let whole : tree (e ∷ []) ≡ node e.key e.key_at e.value_at inner end nil
      = ap (λ (v : GmlValue). with_value e.key e.key_at v e.value_at nil) value_is
      ∙ with_list-tree e.key e.key_at list e.value_at nil in
      let deep : depth (tree (e ∷ [])) ≡ max (depth inner + 1) 0 = ap depth whole in
      let one_at : (at + 1) - at ≡ 1 = omega arith in
      let one_end : (end + 1) - end ≡ 1 = omega arith in
      record {
        tokens = token Open at ∷ spelled inner ++ token Close end ∷ [];
        cut = Front-append text (token Open at ∷ []) (spelled inner ++ token Close end ∷ []) from (at + 1) (end + 1)
            (one_token text from at (at + 1) Open opens.stands (rw one_at opens.found) (omega arith))
            (Front-append text (spelled inner) (token Close end ∷ []) (at + 1) stop (end + 1) read.entries.cut
            (one_token text stop end (end + 1) Close closing.1 (rw one_end closing.0) (omega arith)));
        spells = ap spelled whole
            ∙ (λ i. token (Word (key_is i)) (key_at_is i) ∷ token Open (value_at_is i) ∷ spelled inner ++ token Close
            end ∷ []);
        shallow = omega (arith, deep, read.entries.shallow);
        forward = omega (arith, opens.forward, read.entries.forward, read.ends.forward);
        within = omega (arith, before_end);
      }
