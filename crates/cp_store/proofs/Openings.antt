-- What is done before the item of a root, to it, or behind it, is done to its tree.
use Rattle.std.proofs.Common.{◌≡◌, ℕ, ◌<◌, ◌≤◌, Bool, true, false, ltb, List, ◌∷◌, ◌++◌, length, map, sym, ap, ◌∙◌, subst, arith}
use Rattle.std.specs.Prelude.{Option, Some, None}
use Rattle.std.specs.List.Sorted.{IsStrictlyIncreasing}
use Rattle.std.proofs.lemmas.Bool.{ltb-true, ltb-false}
use Rattle.cp_board.proofs.ListTests.{IsStrictlyIncreasing-from_test}
use Rattle.cp_board.proofs.NamedLists.{rises_from}
use Rattle.cp_store.specs.Exchanges.{exchanged}
use Rattle.cp_store.specs.Forests.{items_at, Keeps, IsTree, IsOpened, IsNodeOf}
use Rattle.cp_store.specs.declared.nodes.Node.{Node}
use Rattle.cp_store.proofs.Sides.{HasSides, HasSides-rises, exchanged-first, exchanged-last, exchanged-here, others-here}

-- what a node tells, by its parts
pub IsOpened-node : {T : Type 0} (v : List (List T)) (root : ℕ) (n : Node T) → IsNodeOf v root n
    → IsOpened v root n.before n.item n.behind
IsOpened-node v root n is = record { items = is.items; before_less = is.before; behind_less = is.behind }

module _ {T : Type 0} (name : T → ℕ) (v : List (List T)) (root before : ℕ) (here : T) (behind : ℕ)
    (op : IsOpened v root before here behind) (within : root ≤ length v)
    (up : IsStrictlyIncreasing (map name (items_at v root))) where
  -- the items before the item are less, and those behind it greater
  pub sides : HasSides name (items_at v before) here (items_at v behind)
  sides = HasSides-rises name (items_at v before) here (items_at v behind)
      (rises_from (map name (items_at v before ++ here ∷ items_at v behind))
      (subst (λ xs. IsStrictlyIncreasing (map name xs)) op.items up))

  -- the items before it rise
  pub rise-before : IsStrictlyIncreasing (map name (items_at v before))
  rise-before = IsStrictlyIncreasing-from_test (map name (items_at v before)) sides.first

  -- the items behind it rise
  pub rise-behind : IsStrictlyIncreasing (map name (items_at v behind))
  rise-behind = IsStrictlyIncreasing-from_test (map name (items_at v behind)) sides.last

  -- an exchange in the tree before the item is one in the whole tree
  pub IsTree-first : (n : ℕ) (o : Option T) → ((x : T) → o ≡ Some x → name x ≡ n) → n < name here
      → (mid new : List (List T)) (first r : ℕ) → Keeps v mid
      → IsTree mid first (exchanged name n o (items_at v before))
      → IsTree new r (items_at mid first ++ here ∷ items_at mid behind)
      → IsTree new r (exchanged name n o (items_at v root))
  IsTree-first n o its lt mid new first r keeps t whole = record {
    within = whole.within;
    items = whole.items
        ∙ ap (λ xs. xs ++ here ∷ items_at mid behind) t.items
        ∙ ap (λ xs. exchanged name n o (items_at v before) ++ here ∷ xs)
        (keeps.same behind (omega (arith, within, op.behind_less)))
        ∙ sym (exchanged-first name (items_at v before) here (items_at v behind) sides n o its lt)
        ∙ sym (ap (exchanged name n o) op.items);
  }

  -- an exchange in the tree behind the item is one in the whole tree
  pub IsTree-last : (n : ℕ) (o : Option T) → ((x : T) → o ≡ Some x → name x ≡ n) → name here < n
      → (mid new : List (List T)) (last r : ℕ) → Keeps v mid
      → IsTree mid last (exchanged name n o (items_at v behind))
      → IsTree new r (items_at mid before ++ here ∷ items_at mid last)
      → IsTree new r (exchanged name n o (items_at v root))
  IsTree-last n o its lt mid new last r keeps t whole = record {
    within = whole.within;
    items = whole.items
        ∙ ap (λ xs. xs ++ here ∷ items_at mid last) (keeps.same before (omega (arith, within, op.before_less)))
        ∙ ap (λ xs. items_at v before ++ here ∷ xs) t.items
        ∙ sym (exchanged-last name (items_at v before) here (items_at v behind) sides n o its lt)
        ∙ sym (ap (exchanged name n o) op.items);
  }

  -- another item in place of the item is an exchange under its name
  pub IsTree-here : (n : ℕ) (x : T) → name x ≡ n → name here ≡ n → (new : List (List T)) (r : ℕ)
      → IsTree new r (items_at v before ++ x ∷ items_at v behind)
      → IsTree new r (exchanged name n (Some x) (items_at v root))
  IsTree-here n x same e new r whole = record {
    within = whole.within;
    items = whole.items
        ∙ sym (exchanged-here name (items_at v before) here (items_at v behind) sides n x same e)
        ∙ sym (ap (exchanged name n (Some x)) op.items);
  }

  -- the items on both sides are an exchange of the item for none
  pub IsTree-gone : (n : ℕ) → name here ≡ n → (new : List (List T)) (r : ℕ)
      → IsTree new r (items_at v before ++ items_at v behind)
      → IsTree new r (exchanged name n None (items_at v root))
  IsTree-gone n e new r whole = record {
    within = whole.within;
    items = whole.items
        ∙ sym (others-here name (items_at v before) here (items_at v behind) sides n e)
        ∙ sym (ap (exchanged name n None) op.items);
  }

-- where a comparison tells that one number is less, it is less
pub less-told : (r : Bool) (m n x y : ℕ) → r ≡ ltb m n → r ≡ true → m ≡ x → n ≡ y → x < y
less-told r m n x y e t p q = let h = ltb-true m n (sym e ∙ t) in omega (arith, h, p, q)

-- where it tells that it is not less, the other is at most as great
pub not_less-told : (r : Bool) (m n x y : ℕ) → r ≡ ltb m n → r ≡ false → m ≡ x → n ≡ y → y ≤ x
not_less-told r m n x y e t p q = let h = ltb-false m n (sym e ∙ t) in omega (arith, h, p, q)
