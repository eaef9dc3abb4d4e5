-- The entries that may give the root list, in three parts.
use Rattle.std.proofs.Common.{◌≡◌, ℕ, suc, false, List, [], ◌∷◌, ◌++◌, take, drop, Option, Some, None, Bor, refl, sym, ap, ◌∙◌, ⊎_elim, append_assoc}
use Rattle.std.specs.Prelude.{codes}
use Rattle.std.specs.Option.{is_some, option_copied}
use Rattle.std.proofs.lemmas.Bool.{cases_Bool, cond-true, cond-false}
use Rattle.std.proofs.lemmas.List.{map-append}
use Rattle.std.proofs.lemmas.List.Elements.{filter-append}
use Rattle.cp_cgraph.specs.declared.kind.GraphKind.TheVariants.{SecondRoot}
use Rattle.cp_gml.specs.declared.tree.Entry.{Entry}
use Rattle.cp_cgraph.specs.Entries.{keyed, has_key}
use Rattle.cp_cgraph.specs.GraphFaults.{Fault, list_of_first, graph_list, spliced, roots, root_faults}
use Rattle.cp_cgraph.specs.Passes.{until, first_of, later_of, unlisted_of, list_in}

-- what is not found is none
pub unfound : (r : Option (Bor Entry)) → is_some r ≡ false → option_copied r ≡ None
unfound None e = refl
unfound (Some x) e = cc

-- the first of two rows is that of the first row, or else of the second
pub first_of-append : (o : Option Entry) (a b : List Entry) → first_of (first_of o a) b ≡ first_of o (a ++ b)
first_of-append (Some e) a b = refl
first_of-append None [] b = refl
first_of-append None (x ∷ a) b = refl

-- the later ones of two rows are those of both
pub later_of-append : (o : Option Entry) (a b : List Entry)
    → later_of o a ++ later_of (first_of o a) b ≡ later_of o (a ++ b)
later_of-append (Some e) a b = sym (map-append (λ (x : Entry). (x.key_at, SecondRoot)) a b)
later_of-append None [] b = refl
later_of-append None (x ∷ a) b = sym (map-append (λ (y : Entry). (y.key_at, SecondRoot)) a b)

-- the later root entries and the value of the first make up the faults
pub root_faults-parts : (es : List Entry) → later_of None es ++ unlisted_of (first_of None es) ≡ root_faults es
root_faults-parts [] = refl
root_faults-parts (e ∷ es) = refl

-- the list in the first entry is the list of the first
pub list_in-first : (es : List Entry) → list_in (first_of None es) ≡ list_of_first es
list_in-first [] = refl
list_in-first (e ∷ es) = refl

-- the entries before the graph list, in it and behind it
spliced-parts : (es : List Entry) → spliced es
    ≡ take (until (codes "graph") es) es ++ (graph_list es ++ drop 1 (drop (until (codes "graph") es) es))
spliced-parts [] = refl
spliced-parts (e ∷ es) =
    let b = has_key (codes "graph") e in
    let n = until (codes "graph") es in
    ⊎_elim
    (λ t.
    cond-true b (list_of_first (e ∷ []) ++ es) (e ∷ spliced es) t
    ∙ sym (ap (λ (ks : List Entry). list_of_first ks ++ es) (cond-true b (e ∷ keyed (codes "graph") es)
    (keyed (codes "graph") es) t))
    ∙ sym (ap (λ (k : ℕ). take k (e ∷ es) ++ (graph_list (e ∷ es) ++ drop 1 (drop k (e ∷ es))))
    (cond-true b 0 (suc n) t)))
    (λ f.
    cond-false b (list_of_first (e ∷ []) ++ es) (e ∷ spliced es) f
    ∙ ap (λ (xs : List Entry). e ∷ xs) (spliced-parts es)
    ∙ sym (ap (λ (ks : List Entry). e ∷ take n es ++ (list_of_first ks ++ drop 1 (drop n es)))
    (cond-false b (e ∷ keyed (codes "graph") es) (keyed (codes "graph") es) f))
    ∙ sym (ap (λ (k : ℕ). take k (e ∷ es) ++ (graph_list (e ∷ es) ++ drop 1 (drop k (e ∷ es))))
    (cond-false b 0 (suc n) f)))
    (cases_Bool b)

-- the key of the root list
abbrev pub root_key : List ℕ
root_key = codes "rootcluster"

-- the root entries before the graph list, in it and behind it
pub roots-parts : (es : List Entry) (n : ℕ) → n ≡ until (codes "graph") es
    → roots es ≡ keyed root_key (take n es) ++ (keyed root_key (graph_list es) ++ keyed root_key (drop 1 (drop n es)))
roots-parts es n is =
    ap (keyed root_key) (spliced-parts es ∙ sym (ap (λ (k : ℕ). take k es ++ (graph_list es ++ drop 1 (drop k es))) is))
    ∙ filter-append (has_key root_key) (take n es) (graph_list es ++ drop 1 (drop n es))
    ∙ ap (λ (xs : List Entry). keyed root_key (take n es) ++ xs) (filter-append (has_key root_key) (graph_list es)
    (drop 1 (drop n es)))

-- the first root entry is found in three parts
pub root_found : (es a g b : List Entry) (o1 o2 o3 : Option Entry) → roots es ≡ a ++ (g ++ b) → o1 ≡ first_of None a
    → o2 ≡ first_of o1 g → o3 ≡ first_of o2 b → o3 ≡ first_of None (roots es)
root_found es a g b o1 o2 o3 parts e1 e2 e3 =
    e3 ∙ ap (λ (o : Option Entry). first_of o b) (e2 ∙ ap (λ (o : Option Entry). first_of o g) e1)
    ∙ first_of-append (first_of None a) g b ∙ first_of-append None a (g ++ b) ∙ sym (ap (first_of None) parts)

-- the later ones are noted in three parts
pub roots_noted : (es a g b : List Entry) (o1 o2 o3 : Option Entry) (known f1 f2 f3 : List Fault)
    → roots es ≡ a ++ (g ++ b) → o1 ≡ first_of None a → o2 ≡ first_of o1 g → o3 ≡ first_of None (roots es)
    → f1 ≡ known ++ later_of None a → f2 ≡ f1 ++ later_of o1 g → f3 ≡ f2 ++ later_of o2 b
    → f3 ++ unlisted_of o3 ≡ known ++ root_faults (roots es)
roots_noted es a g b o1 o2 o3 known f1 f2 f3 parts e1 e2 e3 n1 n2 n3 =
    let first = first_of None a in
    let second = first_of first g in
    let chained : f3 ≡ ((known ++ later_of None a) ++ later_of first g) ++ later_of second b
    = n3 ∙ ap (λ (fs : List Fault). fs ++ later_of o2 b) (n2 ∙ ap (λ (fs : List Fault). fs ++ later_of o1 g) n1 ∙ ap
    (λ (o : Option Entry). (known ++ later_of None a) ++ later_of o g) e1)
    ∙ ap (λ (o : Option Entry). ((known ++ later_of None a) ++ later_of first g) ++ later_of o b)
    (e2 ∙ ap (λ (o : Option Entry). first_of o g) e1) in
    let whole : f3 ≡ known ++ later_of None (roots es)
    = chained ∙ append_assoc (known ++ later_of None a) (later_of first g) (later_of second b)
    ∙ ap (λ (fs : List Fault). (known ++ later_of None a) ++ fs) (later_of-append first g b)
    ∙ append_assoc known (later_of None a) (later_of first (g ++ b))
    ∙ ap (λ (fs : List Fault). known ++ fs) (later_of-append None a (g ++ b) ∙ sym (ap (later_of None) parts)) in
    ap (λ (fs : List Fault). fs ++ unlisted_of o3) whole
    ∙ append_assoc known (later_of None (roots es)) (unlisted_of o3)
    ∙ ap (λ (o : Option Entry). known ++ (later_of None (roots es) ++ unlisted_of o)) e3
    ∙ ap (λ (fs : List Fault). known ++ fs) (root_faults-parts (roots es))
