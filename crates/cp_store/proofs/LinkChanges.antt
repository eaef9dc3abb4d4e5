-- One link more or fewer.
use Rattle.std.proofs.Common.{◌≡◌, ℕ, ◌<◌, ◌≤◌, Bool, true, false, not, ◌&&◌, ◌||◌, eqb, List, [], ◌∷◌, map, sym, refl, ap, ◌∙◌, subst, arith, ⊎_elim}
use Rattle.std.specs.Prelude.{filter, Some, None}
use Rattle.std.proofs.lemmas.Bool.{cond_both, cases_lt, eq-eqb, ne_eqb, eqb-true, eqb-false}
use Rattle.std.proofs.lemmas.List.Elements.{All-cons, All-filter}
use Rattle.std.proofs.lemmas.List.Sorted.{All-permutation}
use Rattle.cp_board.specs.Names.{has, put}
use Rattle.cp_board.proofs.ListTests.{IsStrictlyIncreasing-from_test}
use Rattle.cp_board.proofs.NamedLists.{rises_from, rises-filter, rises-put, has-put, put_keeps}
use Rattle.cp_store.specs.declared.links.Link.{Link}
use Rattle.cp_store.specs.Ranks.{rank}
use Rattle.cp_store.specs.Exchanges.{exchanged}
use Rattle.cp_store.specs.Forests.{IsTree, items_at}
use Rattle.cp_store.specs.Links.{link_number, AreLinks, HasLinks, IsLinkTree, with_link, without_link}

-- two numbers of one rank are the same two, where the second ones fit
pub rank-same : (a b c d : ℕ) → b < 18446744073709551616 → d < 18446744073709551616 → rank (a, b) ≡ rank (c, d)
    → (a ≡ c) × (b ≡ d)
rank-same a b c d fb fd e =
    ⊎_elim
    (λ (l : a < c). absurd (omega (arith, e, l, fb, fd)))
    (λ (g : c ≤ a).
    ⊎_elim
    (λ (l : c < a). absurd (omega (arith, e, l, fb, fd)))
    (λ (h : a ≤ c). (omega (arith, g, h), omega (arith, e, g, h)))
    (cases_lt c a))
    (cases_lt a c)

-- the test whether two ranks are one
pub eqb-rank : (a b c d : ℕ) → b < 18446744073709551616 → d < 18446744073709551616
    → eqb (rank (a, b)) (rank (c, d)) ≡ (eqb a c && eqb b d)
eqb-rank a b c d fb fd = by_first (eqb a c) refl (eqb b d) refl
  where
    by_first : (p : Bool) → eqb a c ≡ p → (q : Bool) → eqb b d ≡ q
        → eqb (rank (a, b)) (rank (c, d)) ≡ (eqb a c && eqb b d)
    by_first true e true f =
        let ac = eqb-true a c e in
        let bd = eqb-true b d f in
        eq-eqb (rank (a, b)) (rank (c, d)) (omega (arith, ac, bd)) ∙ sym (ap (λ p. p && eqb b d) e ∙ f)
    by_first true e false f =
        ne_eqb (rank (a, b)) (rank (c, d)) (λ h. eqb-false b d f (rank-same a b c d fb fd h).1)
        ∙ sym (ap (λ p. p && eqb b d) e ∙ f)
    by_first false e q f =
        ne_eqb (rank (a, b)) (rank (c, d)) (λ h. eqb-false a c e (rank-same a b c d fb fd h).0)
        ∙ sym (ap (λ p. p && eqb b d) e)

module _ {A : Type 0} (name : A → ℕ) where
  -- items of other names have no name that is taken out
  has-others : (n q : ℕ) (xs : List A)
      → has (map name (filter (λ x. not (eqb (name x) n)) xs)) q ≡ (not (eqb q n) && has (map name xs) q)
  has-others n q [] = none (eqb q n)
    where
      none : (b : Bool) → false ≡ (not b && false)
      none true = refl
      none false = refl
  has-others n q (x ∷ xs) =
      cond_both (not (eqb (name x) n)) (x ∷ filter (λ y. not (eqb (name y) n)) xs)
      (filter (λ y. not (eqb (name y) n)) xs)
      (λ ys. has (map name ys) q ≡ (not (eqb q n) && (eqb q (name x) || has (map name xs) q)))
      (λ t. ap (λ b. eqb q (name x) || b) (has-others n q xs) ∙ stays (not_true (eqb (name x) n) t))
      (λ f. has-others n q xs ∙ goes (eqb-true (name x) n (not_false (eqb (name x) n) f)))
    where
      not_true : (b : Bool) → not b ≡ true → b ≡ false
      not_true false e = refl
      not_true true e = sym e

      not_false : (b : Bool) → not b ≡ false → b ≡ true
      not_false true e = refl
      not_false false e = sym e

      apart : (p q r : Bool) → (p ≡ true → q ≡ false) → (p || (not q && r)) ≡ (not q && (p || r))
      apart true true r h = h refl
      apart true false r h = refl
      apart false q r h = refl

      stays : eqb (name x) n ≡ false
          → (eqb q (name x) || (not (eqb q n) && has (map name xs) q))
          ≡ (not (eqb q n) && (eqb q (name x) || has (map name xs) q))
      stays f = apart (eqb q (name x)) (eqb q n) (has (map name xs) q)
          (λ t. ne_eqb q n (λ e. eqb-false (name x) n f (sym (eqb-true q (name x) t) ∙ e)))

      hidden : (p r : Bool) → (not p && r) ≡ (not p && (p || r))
      hidden true r = refl
      hidden false r = refl

      goes : name x ≡ n → (not (eqb q n) && has (map name xs) q)
          ≡ (not (eqb q n) && (eqb q (name x) || has (map name xs) q))
      goes e = hidden (eqb q n) (has (map name xs) q)
          ∙ ap (λ m. not (eqb q n) && (eqb q m || has (map name xs) q)) (sym e)

-- an item of its own rank that is taken out first is put in
or_hidden : (p r : Bool) → (p || (not p && r)) ≡ (p || r)
or_hidden true r = refl
or_hidden false r = refl

-- one link more
pub AreLinks-with : (test : ℕ → ℕ → Bool) (xs : List Link) (x : Link) → x.name < 18446744073709551616 → AreLinks test xs
    → AreLinks (with_link test x.key x.name) (exchanged link_number (link_number x) (Some x) xs)
AreLinks-with test xs x fits are =
    let n = link_number x in
    let others : List Link = filter (λ y. not (eqb (link_number y) n)) xs in
    let up = rises_from (map link_number xs) are.rise in
    let free : has (map link_number others) n ≡ false = has-others link_number n n xs
    ∙ ap (λ b. not b && has (map link_number xs) n) (eq-eqb n n refl) in
    record {
      rise = IsStrictlyIncreasing-from_test (map link_number (put link_number x others))
          (rises-put link_number x others free (rises-filter link_number (λ y. not (eqb (link_number y) n)) xs up));
      fit = All-permutation (λ (y : Link). y.name < 18446744073709551616) (x ∷ others) (put link_number x others)
          (put_keeps link_number x others)
          (All-cons (λ (y : Link). y.name < 18446744073709551616) x others fits
          (All-filter (λ y. not (eqb (link_number y) n)) (λ (y : Link). y.name < 18446744073709551616) xs are.fit));
      each = λ key name lt.
          has-put link_number (rank (key, name)) x others
          ∙ ap (λ b. eqb (rank (key, name)) n || b) (has-others link_number n (rank (key, name)) xs)
          ∙ or_hidden (eqb (rank (key, name)) n) (has (map link_number xs) (rank (key, name)))
          ∙ ap (λ b. b || has (map link_number xs) (rank (key, name))) (eqb-rank key name x.key x.name lt fits)
          ∙ ap (λ b. (eqb key x.key && eqb name x.name) || b) (are.each key name lt);
    }

-- one link fewer
pub AreLinks-without : (test : ℕ → ℕ → Bool) (xs : List Link) (key name : ℕ) → name < 18446744073709551616
    → AreLinks test xs
    → AreLinks (without_link test key name) (exchanged link_number (rank (key, name)) None xs)
AreLinks-without test xs key name fits are = record {
  rise = IsStrictlyIncreasing-from_test
      (map link_number (filter (λ y. not (eqb (link_number y) (rank (key, name)))) xs))
      (rises-filter link_number (λ y. not (eqb (link_number y) (rank (key, name)))) xs
      (rises_from (map link_number xs) are.rise));
  fit = All-filter (λ y. not (eqb (link_number y) (rank (key, name))))
      (λ (y : Link). y.name < 18446744073709551616) xs are.fit;
  each = λ k n lt.
      has-others link_number (rank (key, name)) (rank (k, n)) xs
      ∙ ap (λ b. not b && has (map link_number xs) (rank (k, n))) (eqb-rank k n key name lt fits)
      ∙ ap (λ b. not (eqb k key && eqb n name) && b) (are.each k n lt);
}

-- the same for a tree
pub HasLinks-with : (old new : List (List Link)) (root other : ℕ) (test : ℕ → ℕ → Bool) (x : Link)
    → x.name < 18446744073709551616
    → HasLinks old root test
    → IsTree new other (exchanged link_number (link_number x) (Some x) (items_at old root))
    → HasLinks new other (with_link test x.key x.name)
HasLinks-with old new root other test x fits has t = record {
  within = t.within;
  links = subst (AreLinks (with_link test x.key x.name)) (sym t.items)
      (AreLinks-with test (items_at old root) x fits has.links);
}

-- the tree without the link from a key to a name has the links without that one
pub HasLinks-without : (old new : List (List Link)) (root other : ℕ) (test : ℕ → ℕ → Bool) (key name : ℕ)
    → name < 18446744073709551616
    → HasLinks old root test
    → IsTree new other (exchanged link_number (rank (key, name)) None (items_at old root))
    → HasLinks new other (without_link test key name)
HasLinks-without old new root other test key name fits has t = record {
  within = t.within;
  links = subst (AreLinks (without_link test key name)) (sym t.items)
      (AreLinks-without test (items_at old root) key name fits has.links);
}

-- a tree with the links of a test is one of links
pub IsLinkTree-links : (ls : List (List Link)) (root : ℕ) (test : ℕ → ℕ → Bool) → HasLinks ls root test
    → IsLinkTree ls root
IsLinkTree-links ls root test has = record { within = has.within; rise = has.links.rise; fit = has.links.fit }

-- the links that a tree has
abbrev pub own_test : List (List Link) → ℕ → ℕ → ℕ → Bool
own_test ls root key name = has (map link_number (items_at ls root)) (rank (key, name))

-- a tree of links has the links that it has
pub HasLinks-own : (ls : List (List Link)) (root : ℕ) → IsLinkTree ls root → HasLinks ls root (own_test ls root)
HasLinks-own ls root is = record {
  within = is.within;
  links =
      record { rise = is.rise; fit = is.fit; each = λ key name lt. refl };
}
