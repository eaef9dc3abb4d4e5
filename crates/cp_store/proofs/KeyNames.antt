-- The names that have a key, on both sides of a link.
use Rattle.std.proofs.Common.{◌≡◌, ℕ, ◌<◌, true, eqb, ltb, List, [], ◌∷◌, ◌++◌, map, refl, ap, ◌∙◌, subst, arith}
use Rattle.std.specs.Prelude.{filter}
use Rattle.std.specs.List.{All}
use Rattle.std.proofs.lemmas.Bool.{and_parts, cond-true, cond-false, eq-eqb, ne_eqb, ltb-true}
use Rattle.std.proofs.lemmas.List.{map-append, append-nil}
use Rattle.std.proofs.lemmas.List.Elements.{filter-append, All-head, All-tail}
use Rattle.cp_board.proofs.NamedLists.{under_all}
use Rattle.cp_board.proofs.Rules.{All-first, All-second}
use Rattle.cp_store.specs.declared.links.Link.{Link}
use Rattle.cp_store.specs.Forests.{items_at, IsOpened}
use Rattle.cp_store.specs.Links.{link_number, IsLinkTree, names_under}
use Rattle.cp_store.proofs.Sides.{below, HasSides}
use Rattle.cp_store.proofs.Openings.{sides, rise-before, rise-behind}

-- the names that have a key in two lists of links
names_under-append : (key : ℕ) (xs ys : List Link)
    → names_under key (xs ++ ys) ≡ names_under key xs ++ names_under key ys
names_under-append key xs ys =
    ap (map (λ x. x.name)) (filter-append (λ (x : Link). eqb x.key key) xs ys)
    ∙ map-append (λ x. x.name) (filter (λ (x : Link). eqb x.key key) xs) (filter (λ (x : Link). eqb x.key key) ys)

-- links before one of a lesser key do not have the key
none-before : (key : ℕ) (x : Link) (xs : List Link) → x.name < 18446744073709551616 → x.key < key
    → below link_number (link_number x) xs ≡ true
    → names_under key xs ≡ []
none-before key x [] fits lt b = refl
none-before key x (y ∷ ys) fits lt b =
    let h = and_parts (ltb (link_number y) (link_number x)) (below link_number (link_number x) ys) b in
    let l = ltb-true (link_number y) (link_number x) h.0 in
    ap (map (λ z. z.name)) (cond-false (eqb y.key key) (y ∷ filter (λ (z : Link). eqb z.key key) ys)
    (filter (λ (z : Link). eqb z.key key) ys) (ne_eqb y.key key (λ e. omega (arith, e, l, lt, fits))))
    ∙ none-before key x ys fits lt h.1

-- nor do links behind one of a greater key
none-behind : (key : ℕ) (x : Link) (xs : List Link) → All (λ y. y.name < 18446744073709551616) xs → key < x.key
    → under_all link_number (link_number x) xs ≡ true
    → names_under key xs ≡ []
none-behind key x [] fits lt b = refl
none-behind key x (y ∷ ys) fits lt b =
    let h = and_parts (ltb (link_number x) (link_number y)) (under_all link_number (link_number x) ys) b in
    let l = ltb-true (link_number x) (link_number y) h.0 in
    let f = All-head (λ (z : Link). z.name < 18446744073709551616) y ys fits in
    ap (map (λ z. z.name)) (cond-false (eqb y.key key) (y ∷ filter (λ (z : Link). eqb z.key key) ys)
    (filter (λ (z : Link). eqb z.key key) ys) (ne_eqb y.key key (λ e. omega (arith, e, l, lt, f))))
    ∙ none-behind key x ys (All-tail (λ (z : Link). z.name < 18446744073709551616) y ys fits) lt h.1

module _ (v : List (List Link)) (root before : ℕ) (here : Link) (behind : ℕ) (op : IsOpened v root before here behind)
    (is : IsLinkTree v root) where
  -- all names of the tree fit
  all_fit : All (λ (x : Link). x.name < 18446744073709551616) (items_at v before ++ here ∷ items_at v behind)
  all_fit = subst (All (λ (x : Link). x.name < 18446744073709551616)) op.items is.fit

  -- the names of its item and of the tree behind it fit
  behind_fit : All (λ (x : Link). x.name < 18446744073709551616) (here ∷ items_at v behind)
  behind_fit = All-second (λ (x : Link). x.name < 18446744073709551616) (items_at v before)
      (here ∷ items_at v behind) all_fit

  -- the name of its item fits
  here_fits : here.name < 18446744073709551616
  here_fits = All-head (λ (x : Link). x.name < 18446744073709551616) here (items_at v behind) behind_fit

  -- the tree before the item is a tree of links
  pub IsLinkTree-before : IsLinkTree v before
  IsLinkTree-before = record {
    within = omega (arith, is.within, op.before_less);
    rise = rise-before link_number v root before here behind op is.within is.rise;
    fit = All-first (λ (x : Link). x.name < 18446744073709551616) (items_at v before)
        (here ∷ items_at v behind) all_fit;
  }

  -- the tree behind the item is a tree of links
  pub IsLinkTree-behind : IsLinkTree v behind
  IsLinkTree-behind = record {
    within = omega (arith, is.within, op.behind_less);
    rise = rise-behind link_number v root before here behind op is.within is.rise;
    fit = All-tail (λ (x : Link). x.name < 18446744073709551616) here (items_at v behind) behind_fit;
  }

  -- the links before the item are less, and those behind it greater
  on_sides : HasSides link_number (items_at v before) here (items_at v behind)
  on_sides = sides link_number v root before here behind op is.within is.rise

  -- the names that have a key, before the item and from it on
  split : (key : ℕ) → names_under key (items_at v root) ≡ names_under key (items_at v before)
      ++ names_under key (here ∷ items_at v behind)
  split key = ap (names_under key) op.items ∙ names_under-append key (items_at v before) (here ∷ items_at v behind)

  -- the names of a key stand behind a link of a lesser one
  pub names-behind : (key : ℕ) → here.key < key
      → names_under key (items_at v root) ≡ names_under key (items_at v behind)
  names-behind key lt =
      split key
      ∙ ap (λ ns. ns ++ names_under key (here ∷ items_at v behind))
      (none-before key here (items_at v before) here_fits lt on_sides.below_item)
      ∙ ap (map (λ x. x.name)) (cond-false (eqb here.key key) _ _ (ne_eqb here.key key (λ e. omega (arith, e, lt))))

  -- the names of a key stand before a link of a greater one
  pub names-before : (key : ℕ) → key < here.key
      → names_under key (items_at v root) ≡ names_under key (items_at v before)
  names-before key lt =
      split key
      ∙ ap (λ ns. names_under key (items_at v before) ++ ns)
      (ap (map (λ x. x.name)) (cond-false (eqb here.key key) _ _ (ne_eqb here.key key (λ e. omega (arith, e, lt))))
      ∙ none-behind key here (items_at v behind)
      (All-tail (λ (x : Link). x.name < 18446744073709551616) here (items_at v behind) behind_fit) lt
      on_sides.above_item)
      ∙ append-nil (names_under key (items_at v before))

  -- the names of the key of a link stand on both sides of it, and its own between them
  pub names-here : (key : ℕ) → here.key ≡ key
      → names_under key (items_at v root) ≡ names_under key (items_at v before) ++ here.name
      ∷ names_under key (items_at v behind)
  names-here key e =
      split key
      ∙ ap (λ ns. names_under key (items_at v before) ++ ns)
      (ap (map (λ x. x.name)) (cond-true (eqb here.key key) _ _ (eq-eqb here.key key e)))
