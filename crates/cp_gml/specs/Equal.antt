-- Equal lists of keys and values (Himsolt's GML): with the same keys and values at the same offsets.
use Rattle.std.specs.Prelude.{◌≡◌, ℕ, Bool, true, false, ◌==◌, ◌&&◌, List, [], ◌∷◌}
use Rattle.std.specs.Bool.{Decides}
use Rattle.std.specs.Cmp.{IsEquivalence, on_equiv}
use Rattle.std.specs.Ordering.{int_eq}
use Rattle.std.specs.Str.{bytes_eq}
use Rattle.std.proofs.Common.{refl, sym, ap, ◌∙◌}
use Rattle.std.proofs.lemmas.Bool.{false≢true}
use Rattle.std.proofs.lemmas.Bool.Decides.{Decides-eqb, Decides-int_eq, Decides-and, Decides-like, same_from_decides}
use Rattle.std.proofs.lemmas.Cmp.{and_equiv, nat_eq_equiv}
use Rattle.std.proofs.lemmas.Slice.Eq.{bytes_eq-Decides}
use Rattle.cp_gml.specs.Tokens.{Leaf, Chars, Whole, Other}
use Rattle.cp_gml.specs.Trees.{Tree, nil, leaf, node, tree, with_value}
use Rattle.cp_gml.specs.declared.tree.Entry.{Entry}
use Rattle.cp_gml.specs.declared.tree.GmlList.{GmlList, out-GmlList}
use Rattle.cp_gml.specs.declared.tree.GmlValue.{GmlValue}

-- whether two leaves are equal
abbrev pub leaf_eq : Leaf → Leaf → Bool
leaf_eq (Chars s) (Chars t) = bytes_eq s t
leaf_eq (Chars s) (Whole n) = false
leaf_eq (Chars s) Other = false
leaf_eq (Whole m) (Chars t) = false
leaf_eq (Whole m) (Whole n) = int_eq m n
leaf_eq (Whole m) Other = false
leaf_eq Other (Chars t) = false
leaf_eq Other (Whole n) = false
leaf_eq Other Other = true

-- whether two trees are equal, offsets and all
abbrev pub tree_eq : Tree → Tree → Bool
tree_eq nil nil = true
tree_eq nil (leaf l j w b u) = false
tree_eq nil (node l j b y n u) = false
tree_eq (leaf k i v a t) nil = false
tree_eq (leaf k i v a t) (leaf l j w b u) = bytes_eq k l && ((i == j) && (leaf_eq v w && ((a == b) && tree_eq t u)))
tree_eq (leaf k i v a t) (node l j b y n u) = false
tree_eq (node k i a x m t) nil = false
tree_eq (node k i a x m t) (leaf l j w b u) = false
tree_eq (node k i a x m t) (node l j b y n u) =
    bytes_eq k l && ((i == j) && ((a == b) && (tree_eq x y && ((m == n) && tree_eq t u))))

-- whether two entries are equal
abbrev pub entry_eq : Entry → Entry → Bool
entry_eq e f = tree_eq (tree (e ∷ [])) (tree (f ∷ []))

-- whether two values are equal
abbrev pub value_eq : GmlValue → GmlValue → Bool
value_eq v w = tree_eq (with_value [] 0 v 0 nil) (with_value [] 0 w 0 nil)

-- whether two lists are equal
abbrev pub list_eq : GmlList → GmlList → Bool
list_eq l m = tree_eq (tree (out-GmlList l).entries) (tree (out-GmlList m).entries)
    && ((out-GmlList l).end == (out-GmlList m).end)

-- equal leaves and trees are the same
leaf_sound : (v w : Leaf) → leaf_eq v w ≡ true → v ≡ w
leaf_sound (Chars s) (Chars t) e = ap Chars ((bytes_eq-Decides s t).0 e)
leaf_sound (Chars s) (Whole n) e = absurd (false≢true e)
leaf_sound (Chars s) Other e = absurd (false≢true e)
leaf_sound (Whole m) (Chars t) e = absurd (false≢true e)
leaf_sound (Whole m) (Whole n) e = ap Whole ((Decides-int_eq m n).0 e)
leaf_sound (Whole m) Other e = absurd (false≢true e)
leaf_sound Other (Chars t) e = absurd (false≢true e)
leaf_sound Other (Whole n) e = absurd (false≢true e)
leaf_sound Other Other e = refl

-- each leaf is equal to itself
leaf_refl : (v : Leaf) → leaf_eq v v ≡ true
leaf_refl (Chars s) = (bytes_eq-Decides s s).1 refl
leaf_refl (Whole m) = (Decides-int_eq m m).1 refl
leaf_refl Other = refl

-- a test decides that it answers `true`
abbrev itself : (b : Bool) → Decides b (b ≡ true)
itself b = (λ e. e, λ e. e)

-- two trees that begin with a leaf are equal exactly where their parts are
leaf_parts : (k l : List ℕ) (i j : ℕ) (v w : Leaf) (a b : ℕ) (t u : Tree)
    → Decides (tree_eq (leaf k i v a t) (leaf l j w b u))
    ((k ≡ l) × ((i ≡ j) × ((leaf_eq v w ≡ true) × ((a ≡ b) × (tree_eq t u ≡ true)))))
leaf_parts k l i j v w a b t u =
    let rest = Decides-and (a == b) (tree_eq t u) (Decides-eqb a b) (itself (tree_eq t u)) in
    let value = Decides-and (leaf_eq v w) ((a == b) && tree_eq t u) (itself (leaf_eq v w)) rest in
    let at = Decides-and (i == j) (leaf_eq v w && ((a == b) && tree_eq t u)) (Decides-eqb i j) value in
    Decides-and (bytes_eq k l) ((i == j) && (leaf_eq v w && ((a == b) && tree_eq t u))) (bytes_eq-Decides k l) at

-- two trees that begin with a list are equal exactly where their parts are
node_parts : (k l : List ℕ) (i j a b : ℕ) (x y : Tree) (m n : ℕ) (t u : Tree)
    → Decides (tree_eq (node k i a x m t) (node l j b y n u))
    ((k ≡ l) × ((i ≡ j) × ((a ≡ b) × ((tree_eq x y ≡ true) × ((m ≡ n) × (tree_eq t u ≡ true))))))
node_parts k l i j a b x y m n t u =
    let rest = Decides-and (m == n) (tree_eq t u) (Decides-eqb m n) (itself (tree_eq t u)) in
    let inner = Decides-and (tree_eq x y) ((m == n) && tree_eq t u) (itself (tree_eq x y)) rest in
    let from = Decides-and (a == b) (tree_eq x y && ((m == n) && tree_eq t u)) (Decides-eqb a b) inner in
    let at = Decides-and (i == j) ((a == b) && (tree_eq x y && ((m == n) && tree_eq t u))) (Decides-eqb i j) from in
    Decides-and (bytes_eq k l) ((i == j) && ((a == b) && (tree_eq x y && ((m == n) && tree_eq t u))))
    (bytes_eq-Decides k l) at

-- trees that are told equal are one
tree_sound : (t u : Tree) → tree_eq t u ≡ true → t ≡ u
tree_sound nil nil e = refl
tree_sound nil (leaf l j w b u) e = absurd (false≢true e)
tree_sound nil (node l j b y n u) e = absurd (false≢true e)
tree_sound (leaf k i v a t) nil e = absurd (false≢true e)
tree_sound (leaf k i v a t) (leaf l j w b u) e =
    let p = (leaf_parts k l i j v w a b t u).0 e in
    λ z. leaf (p.0 z) (p.1.0 z) (leaf_sound v w p.1.1.0 z) (p.1.1.1.0 z) (tree_sound t u p.1.1.1.1 z)
tree_sound (leaf k i v a t) (node l j b y n u) e = absurd (false≢true e)
tree_sound (node k i a x m t) nil e = absurd (false≢true e)
tree_sound (node k i a x m t) (leaf l j w b u) e = absurd (false≢true e)
tree_sound (node k i a x m t) (node l j b y n u) e =
    let p = (node_parts k l i j a b x y m n t u).0 e in
    λ z. node (p.0 z) (p.1.0 z) (p.1.1.0 z) (tree_sound x y p.1.1.1.0 z) (p.1.1.1.1.0 z) (tree_sound t u p.1.1.1.1.1 z)

-- each tree is equal to itself
tree_refl : (t : Tree) → tree_eq t t ≡ true
tree_refl nil = refl
tree_refl (leaf k i v a t) = (leaf_parts k k i i v v a a t t).1 (refl, (refl, (leaf_refl v, (refl, tree_refl t))))
tree_refl (node k i a x m t) = (node_parts k k i i a a x x m m t t).1 (
  refl,
  (refl, (refl, (tree_refl x, (refl, tree_refl t)))),
)

-- the comparison tells whether two trees are one
pub tree_eq-Decides : (t u : Tree) → Decides (tree_eq t u) (t ≡ u)
tree_eq-Decides t u = (tree_sound t u, λ e. ap (tree_eq t) (sym e) ∙ tree_refl t)

-- so the tests are equivalences
tree_eq_equiv : IsEquivalence tree_eq
tree_eq_equiv = record {
  refl = tree_refl;
  symm = λ t u. same_from_decides (tree_eq t u) (tree_eq u t) (tree_eq-Decides t u)
      (Decides-like (tree_eq u t) sym sym (tree_eq-Decides u t));
  congr = λ t u w e. ap (λ (s : Tree). tree_eq s w) (tree_sound t u e);
}

-- the comparison of entries is an equivalence
pub entry_eq_equiv : IsEquivalence entry_eq
entry_eq_equiv = on_equiv (λ (e : Entry). tree (e ∷ [])) tree_eq_equiv

-- the comparison of values is an equivalence
pub value_eq_equiv : IsEquivalence value_eq
value_eq_equiv = on_equiv (λ (v : GmlValue). with_value [] 0 v 0 nil) tree_eq_equiv

-- the comparison of lists is an equivalence
pub list_eq_equiv : IsEquivalence list_eq
list_eq_equiv = and_equiv (on_equiv (λ (l : GmlList). tree (out-GmlList l).entries) tree_eq_equiv)
    (on_equiv (λ (l : GmlList). (out-GmlList l).end) nat_eq_equiv)
