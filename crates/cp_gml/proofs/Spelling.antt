-- How the tree of what the code has made is spelled, and how deep it is.
use Rattle.std.proofs.Common.{◌≡◌, ℕ, suc, ◌+◌, ◌≤◌, max, List, [], ◌∷◌, ◌++◌, Option, Some, false, refl, sym, ap, ◌∙◌, arith, append_assoc}
use Rattle.cp_gml.specs.declared.tree.GmlList.{GmlList, GmlList', Row_of-Entry, end_of-Entry, more_of-Entry, out-GmlList, items-the_row-Entry, items_shown-the_row-Entry-0}
use Rattle.cp_gml.specs.declared.tree.GmlValue.{GmlValue}
use Rattle.cp_gml.specs.declared.tree.GmlValue.TheVariants.{Int, Number, Str, List as Nested}
use Rattle.cp_gml.specs.declared.tree.Entry.{Entry}
use denote.Hole.Carrier.{out}
use Rattle.cp_gml.specs.Tokens.{Token, token, Word, Open, Close}
use Rattle.cp_gml.specs.Trees.{Tree, nil, leaf, node, spelled, depth, tree, tree_of_row, with_value, with_list}
use Rattle.cp_gml.specs.Lists.{deepest}
use Rattle.cp_gml.specs.Machine.{State, state, run}
use Rattle.cp_gml.proofs.Fronts.{run-append, opened_below}

-- the tree of a row is that of its entries
pub tree_of_row-items : {m : _} (row : Row_of-Entry m) → tree_of_row row ≡ tree (items-the_row-Entry m row)
tree_of_row-items end_of-Entry = refl
tree_of_row-items (more_of-Entry key key_at value value_at rest) =
    ap (with_value key key_at value value_at) (tree_of_row-items rest)

-- a list with its key is a node of the tree
pub with_list-tree : (key : List ℕ) (key_at : ℕ) (list : GmlList) (at : ℕ) (rest : Tree)
    → with_list key key_at list at rest
    ≡ node key key_at at (tree (out-GmlList list).entries) (out-GmlList list).end rest
unfolding out-GmlList out
with_list-tree key key_at (GmlList' n row end) at rest =
    ap (λ (t : Tree). node key key_at at t end rest) (tree_of_row-items row ∙ ap tree
    (sym (items_shown-the_row-Entry-0 n row)))

-- a value with its key is spelled before the rest, and is as deep as itself and the rest
pub spelled-with_value : (key : List ℕ) (key_at : ℕ) (value : GmlValue) (at : ℕ) (rest : Tree)
    → spelled (with_value key key_at value at rest) ≡ spelled (with_value key key_at value at nil) ++ spelled rest
spelled-with_value key key_at (Int n) at rest = refl
spelled-with_value key key_at Number at rest = refl
spelled-with_value key key_at (Str text) at rest = refl
spelled-with_value key key_at (Nested inner) at rest =
    ap spelled (with_list-tree key key_at inner at rest)
    ∙ ap (λ (ts : List Token). token (Word key) key_at ∷ token Open at ∷ ts)
    (sym (append_assoc (spelled (tree (out-GmlList inner).entries)) (token Close (out-GmlList inner).end ∷ [])
    (spelled rest)))
    ∙ ap (λ (t : Tree). spelled t ++ spelled rest) (sym (with_list-tree key key_at inner at nil))

-- how deep a value with its key is, before a rest
pub depth-with_value : (key : List ℕ) (key_at : ℕ) (value : GmlValue) (at : ℕ) (rest : Tree)
    → depth (with_value key key_at value at rest) ≡ max (depth (with_value key key_at value at nil)) (depth rest)
depth-with_value key key_at (Int n) at rest = omega arith
depth-with_value key key_at Number at rest = omega arith
depth-with_value key key_at (Str text) at rest = omega arith
depth-with_value key key_at (Nested inner) at rest =
    rw (with_list-tree key key_at inner at rest, with_list-tree key key_at inner at nil) (omega arith)

-- entries one behind the other are spelled one behind the other
pub spelled-tree-append : (es fs : List Entry) → spelled (tree (es ++ fs)) ≡ spelled (tree es) ++ spelled (tree fs)
spelled-tree-append [] fs = refl
spelled-tree-append (e ∷ es) fs =
    spelled-with_value e.key e.key_at e.value e.value_at (tree (es ++ fs))
    ∙ ap (λ (ts : List Token). spelled (with_value e.key e.key_at e.value e.value_at nil) ++ ts)
    (spelled-tree-append es fs)
    ∙ sym (append_assoc (spelled (with_value e.key e.key_at e.value e.value_at nil)) (spelled (tree es))
    (spelled (tree fs)))
    ∙ ap (λ (ts : List Token). ts ++ spelled (tree fs))
    (sym (spelled-with_value e.key e.key_at e.value e.value_at (tree es)))

-- and are as deep as the deeper ones
pub depth-tree-append : (es fs : List Entry) → depth (tree (es ++ fs)) ≡ max (depth (tree es)) (depth (tree fs))
depth-tree-append [] fs = omega arith
depth-tree-append (e ∷ es) fs =
    let whole = depth-with_value e.key e.key_at e.value e.value_at (tree (es ++ fs)) in
    let part = depth-with_value e.key e.key_at e.value e.value_at (tree es) in
    omega (arith, whole, part, depth-tree-append es fs)

-- a list that is not too deep runs from its state back to this state
pub run-spelled : (t : Tree) (level : ℕ) → depth t + level ≤ deepest
    → run (Some (state level false)) (spelled t) ≡ Some (state level false)
run-spelled nil level h = refl
run-spelled (leaf key key_at value at rest) level h = run-spelled rest level h
run-spelled (node key key_at at inner end rest) level h =
    ap (λ (s : Option State). run s (spelled inner ++ token Close end ∷ spelled rest))
    (opened_below level (omega arith))
    ∙ run-append (spelled inner) (token Close end ∷ spelled rest) (Some (state (suc level) false))
    ∙ ap (λ (s : Option State). run s (token Close end ∷ spelled rest)) (run-spelled inner (suc level) (omega arith))
    ∙ run-spelled rest level (omega arith)
