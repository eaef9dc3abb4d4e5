-- The trees of a list of nodes, when nodes are added and taken away.
use Rattle.std.proofs.Common.{◌≡◌, ℕ, zero, suc, ◌+◌, ◌-◌, ◌<◌, ◌≤◌, List, [], ◌∷◌, ◌++◌, length, take, slice_index_or, sym, refl, ap, ◌∙◌, subst, arith}
use Rattle.std.proofs.lemmas.List.{get_or_append_left, length-append, length-take}
use Rattle.std.proofs.Math.Seq.{get_or-append_seam}
use Rattle.cp_store.specs.declared.nodes.Node.{Node}
use Rattle.cp_store.specs.Forests.{items_at, node_items, grown, AreNodes, IsNodeOf, Keeps, IsTree}

-- lists behind the others leave the trees of those
pub items_at-append : {T : Type 0} (ls ms : List (List T)) (root : ℕ) → root ≤ length ls
    → items_at (ls ++ ms) root ≡ items_at ls root
items_at-append ls ms zero le = refl
items_at-append ls ms (suc k) le = get_or_append_left ls ms [] k (omega (arith, le))

-- the list behind some lists is that of the next root
items_at-last : {T : Type 0} (ls : List (List T)) (xs : List T) → items_at (ls ++ xs ∷ []) (length ls + 1) ≡ xs
items_at-last ls xs =
    ap (items_at (ls ++ xs ∷ [])) (let e : length ls + 1 ≡ suc (length ls) = omega arith in e)
    ∙ get_or-append_seam ls xs [] []

-- one list for each node
pub length-grown : {T : Type 0} (ls : List (List T)) (ns : List (Node T)) → length (grown ls ns) ≡ length ls + length ns
length-grown ls [] = omega arith
length-grown ls (n ∷ ns) =
    let h = length-grown (ls ++ node_items ls n ∷ []) ns in
    omega (arith, h, length-append ls (node_items ls n ∷ []))

-- more nodes leave the trees
pub items_at-grown : {T : Type 0} (ls : List (List T)) (ns : List (Node T)) (root : ℕ) → root ≤ length ls
    → items_at (grown ls ns) root ≡ items_at ls root
items_at-grown ls [] root le = refl
items_at-grown ls (n ∷ ns) root le =
    items_at-grown (ls ++ node_items ls n ∷ []) ns root (omega (arith, le, length-append ls (node_items ls n ∷ [])))
    ∙ items_at-append ls (node_items ls n ∷ []) root le

-- the lists of some nodes and more are those of the first, and behind them those of the others
pub grown-append : {T : Type 0} (ls : List (List T)) (ns ms : List (Node T))
    → grown ls (ns ++ ms) ≡ grown (grown ls ns) ms
grown-append ls [] ms = refl
grown-append ls (n ∷ ns) ms = grown-append (ls ++ node_items ls n ∷ []) ns ms

-- right nodes, and behind them right ones
pub AreNodes-append : {T : Type 0} (ls : List (List T)) (ns ms : List (Node T)) → AreNodes ls ns
    → AreNodes (grown ls ns) ms
    → AreNodes ls (ns ++ ms)
AreNodes-append ls [] ms a b = b
AreNodes-append ls (n ∷ ns) ms a b = (a.0, AreNodes-append (ls ++ node_items ls n ∷ []) ns ms a.1 b)

-- the first k of right nodes are right
pub AreNodes-take : {T : Type 0} (ls : List (List T)) (ns : List (Node T)) (k : ℕ) → AreNodes ls ns
    → AreNodes ls (take k ns)
AreNodes-take ls [] zero a = tt
AreNodes-take ls [] (suc k) a = tt
AreNodes-take ls (n ∷ ns) zero a = tt
AreNodes-take ls (n ∷ ns) (suc k) a = (a.0, AreNodes-take (ls ++ node_items ls n ∷ []) ns k a.1)

-- the first nodes tell what all nodes tell of their trees
pub items_at-take : {T : Type 0} (ls : List (List T)) (ns : List (Node T)) (k root : ℕ) → root ≤ length ls + k
    → k ≤ length ns
    → items_at (grown ls ns) root ≡ items_at (grown ls (take k ns)) root
items_at-take {T} ls ns zero root le within = items_at-grown ls ns root (omega (arith, le)) ∙ sym (none ns)
  where
    none : (ms : List (Node T)) → items_at (grown ls (take 0 ms)) root ≡ items_at ls root
    none [] = refl
    none (m ∷ ms) = refl
items_at-take ls [] (suc k) root le within = refl
items_at-take ls (n ∷ ns) (suc k) root le within =
    items_at-take (ls ++ node_items ls n ∷ []) ns k root (omega (arith, le, length-append ls (node_items ls n ∷ [])))
    (omega (arith, within))

-- what a node tells of its tree
pub node-told : {T : Type 0} (ls : List (List T)) (ns : List (Node T)) (k : ℕ) (n : Node T) → AreNodes ls ns
    → k < length ns
    → n ≡ slice_index_or ns k n
    → IsNodeOf (grown ls ns) (length ls + k + 1) n
node-told ls [] k n a lt is = absurd (omega (arith, lt))
node-told {T} ls (m ∷ ns) zero n a lt is =
    let more : List (List T) = ls ++ node_items ls m ∷ [] in
    let size = length-append ls (node_items ls m ∷ []) in
    let there : items_at (grown more ns) (length ls + 0 + 1) ≡ node_items ls m =
    ap (items_at (grown more ns)) (let e : length ls + 0 + 1 ≡ length ls + 1 = omega arith in e)
    ∙ items_at-grown more ns (length ls + 1) (omega (arith, size))
    ∙ items_at-last ls (node_items ls m) in
    let front : items_at (grown more ns) m.before ≡ items_at ls m.before =
    items_at-grown more ns m.before (omega (arith, size, a.0.before))
    ∙ items_at-append ls (node_items ls m ∷ []) m.before a.0.before in
    let back : items_at (grown more ns) m.behind ≡ items_at ls m.behind =
    items_at-grown more ns m.behind (omega (arith, size, a.0.behind))
    ∙ items_at-append ls (node_items ls m ∷ []) m.behind a.0.behind in
    let whole : IsNodeOf (grown more ns) (length ls + 0 + 1) m = record {
      items = there ∙ ap (λ xs. xs ++ m.item ∷ items_at ls m.behind) (sym front)
          ∙ ap (λ xs. items_at (grown more ns) m.before ++ m.item ∷ xs) (sym back);
      before = omega (arith, a.0.before);
      behind = omega (arith, a.0.behind);
      count = omega (arith, a.0.count, length-append (items_at ls m.before) (m.item ∷ items_at ls m.behind))
          ∙ ap length (sym there);
      small = a.0.small;
    } in
    subst (IsNodeOf (grown more ns) (length ls + 0 + 1)) (sym is) whole
node-told {T} ls (m ∷ ns) (suc k) n a lt is =
    let more : List (List T) = ls ++ node_items ls m ∷ [] in
    let e : length more + k + 1 ≡ length ls + suc k + 1 = omega (arith, length-append ls (node_items ls m ∷ [])) in
    subst (λ r. IsNodeOf (grown more ns) r n) e (node-told more ns k n a.1 (omega (arith, lt)) is)

-- the node of a root that is not 0
pub node-of : {T : Type 0} (ns : List (Node T)) (root : ℕ) (n : Node T) (v : List (List T)) → grown [] ns ≡ v
    → AreNodes [] ns
    → 0 < root → root ≤ length v → n ≡ slice_index_or ns (root - 1) n
    → IsNodeOf v root n
node-of ns root n v view a live within is =
    let size = length-grown [] ns in
    let lt : root - 1 < length ns = omega (arith, within, ap length view, size) in
    let e : 0 + (root - 1) + 1 ≡ root = omega (arith, live) in
    subst (λ ls. IsNodeOf ls root n) view
    (subst (λ r. IsNodeOf (grown [] ns) r n) e (node-told [] ns (root - 1) n a lt is))

-- nothing more keeps all trees
pub Keeps-same : {T : Type 0} (ls : List (List T)) → Keeps ls ls
Keeps-same ls = record { longer = omega arith; same = λ r le. refl }

-- what keeps the trees of lists that keep all trees keeps all trees
pub Keeps-next : {T : Type 0} (ls ms ns : List (List T)) → Keeps ls ms → Keeps ms ns → Keeps ls ns
Keeps-next ls ms ns a b = record {
  longer = omega (arith, a.longer, b.longer);
  same = λ r le. b.same r (omega (arith, le, a.longer)) ∙ a.same r le;
}

-- a tree by its root and its items
pub IsTree-at : {T : Type 0} (ls : List (List T)) (root other : ℕ) (xs : List T) → other ≡ root → IsTree ls root xs
    → IsTree ls other xs
IsTree-at ls root other xs e t = subst (λ r. IsTree ls r xs) (sym e) t

-- what is known after one node more: the nodes are right, keep the trees and have the new tree
pub record IsForked {T : Type 0} (ms : List (Node T)) (v w : List (List T)) (n : Node T) : Type 0 where
  pub good : AreNodes [] ms
  pub keeps : Keeps v w
  pub tree : IsTree w (length ms) (node_items v n)

-- one node more, with children that stand there and the count of its items, is such a fork
pub node-pushed : {T : Type 0} (ns ms : List (Node T)) (v : List (List T)) (n : Node T) → grown [] ns ≡ v
    → AreNodes [] ns
    → ms ≡ ns ++ n ∷ []
    → n.before ≤ length v → n.behind ≤ length v
    → n.count ≡ length (items_at v n.before) + length (items_at v n.behind) + 1
    → n.count ≤ 1152921504606846976
    → IsForked ms v (grown [] ms) n
node-pushed {T} ns ms v n view a is before behind count small =
    let size = length-grown [] ns in
    let all : List (Node T) = ns ++ n ∷ [] in
    let whole : IsForked all v (v ++ node_items v n ∷ []) n = record {
      good = AreNodes-append [] ns (n ∷ []) a
          (subst (λ ls. AreNodes ls (n ∷ [])) (sym view)
          (record { before = before; behind = behind; count = count; small = small }, tt));
      keeps = record {
        longer = omega (arith, length-append v (node_items v n ∷ []));
        same =
            λ r le. items_at-append v (node_items v n ∷ []) r le;
      };
      tree = record {
        within = omega (arith, size, ap length view, length-append v (node_items v n ∷ []), length-append ns (n ∷ []));
        items = ap (items_at (v ++ node_items v n ∷ []))
            (let e : length all ≡ length v + 1 = omega (arith, size, ap length view, length-append ns (n ∷ [])) in e)
            ∙ items_at-last v (node_items v n);
      };
    } in
    let e : v ++ node_items v n ∷ [] ≡ grown [] all =
    sym (grown-append [] ns (n ∷ []) ∙ ap (λ ls. ls ++ node_items ls n ∷ []) view) in
    subst (λ xs. IsForked xs v (grown [] xs) n) (sym is) (subst (λ w. IsForked all v w n) e whole)

-- what is known of the first nodes alone: they are right, and their trees are those of all nodes
pub record IsCut {T : Type 0} (v w : List (List T)) (k : ℕ) (ns : List (Node T)) : Type 0 where
  pub good : AreNodes [] ns
  pub size : length w ≡ k
  pub keeps : Keeps w v

-- the first k of right nodes are cut off so
pub nodes-cut : {T : Type 0} (ns ms : List (Node T)) (v : List (List T)) (k : ℕ) → grown [] ns ≡ v → AreNodes [] ns
    → ms ≡ take k ns → k ≤ length v
    → IsCut v (grown [] ms) k ms
nodes-cut {T} ns ms v k view a is le =
    let within : k ≤ length ns = omega (arith, le, ap length view, length-grown [] ns) in
    let size : length (grown [] (take k ns)) ≡ k =
    omega (arith, length-grown [] (take k ns), length-take k ns, within) in
    let whole : IsCut v (grown [] (take k ns)) k (take k ns) = record {
      good = AreNodes-take [] ns k a;
      size = size;
      keeps = record {
        longer = omega (arith, size, le);
        same = λ r h. ap (λ ls. items_at ls r) (sym view)
            ∙ items_at-take [] ns k r (omega (arith, h, size)) within;
      };
    } in
    subst (λ xs. IsCut v (grown [] xs) k xs) (sym is) whole
