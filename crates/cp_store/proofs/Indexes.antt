-- Links that are kept, links by equal tests, and those of the edges of an instance.
use Rattle.std.proofs.Common.{◌≡◌, ℕ, ◌+◌, ◌^◌, ◌<◌, Bool, true, false, ◌||◌, ◌&&◌, eqb, ltb, List, [], ◌∷◌, ◌++◌, length, map, take, slice_index_or, sym, refl, ap, ◌∙◌, subst, arith}
use Rattle.std.specs.Prelude.{filter}
use Rattle.std.specs.List.{All}
use Rattle.std.proofs.lemmas.Bool.{and_parts, and_from, cond_both, eqb-true, ltb-true, lt-ltb}
use Rattle.std.proofs.lemmas.List.{take_more}
use Rattle.std.proofs.lemmas.List.Elements.{All-nil, All-cons, All-head, All-tail, All-filter}
use Rattle.cp_board.specs.declared.parts.EdgeRow.{EdgeRow}
use Rattle.cp_board.specs.declared.rewrite.EdgeMove.{EdgeMove}
use Rattle.cp_board.specs.Names.{has}
use Rattle.cp_board.specs.Instances.{Synchronized, IsSynchronized, names_of_edges, names_at}
use Rattle.cp_board.proofs.ListTests.{rises, IsStrictlyIncreasing-from_test, Contains-from_has}
use Rattle.cp_board.proofs.NamedLists.{rises_from, rises-filter}
use Rattle.cp_sync.proofs.EqualOrders.{rising_same, eqb_comm}
use Rattle.cp_store.specs.declared.links.Link.{Link}
use Rattle.cp_store.specs.Ranks.{rank}
use Rattle.cp_store.specs.Forests.{items_at, Keeps}
use Rattle.cp_store.specs.Links.{link_number, AreLinks, HasLinks, with_link, without_link}
use Rattle.cp_store.specs.EdgeLinks.{has_end, joins, moved_links, added_links}
use Rattle.cp_store.proofs.LinkChanges.{eqb-rank}
use Rattle.cp_store.specs.Links.{names_under}
use Rattle.cp_store.proofs.EdgeMoves.{row_name}
use Rattle.cp_store.proofs.EdgeTests.{edges-links}
use Rattle.cp_store.proofs.StoredRewrites.{has-Contains}

-- one move more
moved_links-append : (ms : List EdgeMove) (m : EdgeMove) (test : ℕ → ℕ → Bool)
    → moved_links (ms ++ m ∷ []) test ≡ with_link (without_link (moved_links ms test) m.from m.edge) m.to m.edge
moved_links-append [] m test = refl
moved_links-append (n ∷ ms) m test = moved_links-append ms m (with_link (without_link test n.from n.edge) n.to n.edge)

-- one move more of a list of moves
pub moved_links-more : (ms : List EdgeMove) (k : ℕ) (m : EdgeMove) (test : ℕ → ℕ → Bool) → k < length ms
    → m ≡ slice_index_or ms k m
    → with_link (without_link (moved_links (take k ms) test) m.from m.edge) m.to m.edge
    ≡ moved_links (take (k + 1) ms) test
moved_links-more ms k m test lt is =
    sym (moved_links-append (take k ms) m test)
    ∙ ap (λ ns. moved_links ns test) (sym (take_more ms k m lt ∙ ap (λ x. take k ms ++ x ∷ []) (sym is)))

-- one edge more
added_links-append : (es : List EdgeRow) (e : EdgeRow) (test : ℕ → ℕ → Bool)
    → added_links (es ++ e ∷ []) test ≡ with_link (with_link (added_links es test) e.a e.name) e.b e.name
added_links-append [] e test = refl
added_links-append (d ∷ es) e test = added_links-append es e (with_link (with_link test d.a d.name) d.b d.name)

-- one edge more of a list of edges
pub added_links-more : (es : List EdgeRow) (k : ℕ) (e : EdgeRow) (test : ℕ → ℕ → Bool) → k < length es
    → e ≡ slice_index_or es k e
    → with_link (with_link (added_links (take k es) test) e.a e.name) e.b e.name ≡ added_links (take (k + 1) es) test
added_links-more es k e test lt is =
    sym (added_links-append (take k es) e test)
    ∙ ap (λ ns. added_links ns test) (sym (take_more es k e lt ∙ ap (λ x. take k es ++ x ∷ []) (sym is)))

-- trees that are kept have their links
pub HasLinks-keeps : (ls ms : List (List Link)) (root : ℕ) (test : ℕ → ℕ → Bool) → Keeps ls ms → HasLinks ls root test
    → HasLinks ms root test
HasLinks-keeps ls ms root test keeps has = record {
  within = omega (arith, has.within, keeps.longer);
  links = subst (AreLinks test) (sym (keeps.same root has.within)) has.links;
}

-- links by another test that takes the same
pub HasLinks-same : (ls : List (List Link)) (root : ℕ) (test other : ℕ → ℕ → Bool)
    → ((v n : ℕ) → n < 18446744073709551616 → test v n ≡ other v n)
    → HasLinks ls root test → HasLinks ls root other
HasLinks-same ls root test other same has = record {
  within = has.within;
  links = record { rise = has.links.rise; fit = has.links.fit; each = λ v n lt. has.links.each v n lt ∙ same v n lt };
}

-- a forest without nodes has a tree without links
pub HasLinks-none : HasLinks [] 0 (λ v n. false)
HasLinks-none = record {
  within = omega arith;
  links = record {
    rise = λ k lt. absurd (omega (arith, lt));
    fit =
        All-nil (λ (x : Link). x.name < 18446744073709551616);
    each = λ v n lt. refl;
  };
}

-- the links of some edges alone
pub HasLinks-edges : (ls : List (List Link)) (root : ℕ) (es : List EdgeRow)
    → HasLinks ls root (added_links es (λ v n. false)) → HasLinks ls root (joins es)
HasLinks-edges ls root es = HasLinks-same ls root (added_links es (λ v n. false)) (joins es)
    (λ v n lt. edges-links es [] (λ v n. false) (λ v n. refl) v n)

-- names of links of one key rise
names-rise : (key : ℕ) (xs : List Link) → All (λ x. x.key ≡ key) xs → rises (map link_number xs) ≡ true
    → rises (map (λ x. x.name) xs) ≡ true
names-rise key [] all up = refl
names-rise key (x ∷ []) all up = refl
names-rise key (x ∷ y ∷ ys) all up =
    let h = and_parts (ltb (link_number x) (link_number y)) (rises (map link_number (y ∷ ys))) up in
    let rest = All-tail (λ (z : Link). z.key ≡ key) x (y ∷ ys) all in
    let l = ltb-true (link_number x) (link_number y) h.0 in
    let ex : x.key ≡ key = All-head (λ (z : Link). z.key ≡ key) x (y ∷ ys) all in
    let ey : y.key ≡ key = All-head (λ (z : Link). z.key ≡ key) y ys rest in
    and_from (ltb x.name y.name) (rises (map (λ z. z.name) (y ∷ ys))) (lt-ltb x.name y.name (omega (arith, l, ex, ey)))
    (names-rise key (y ∷ ys) rest h.1)

-- the links of a key have it
All-of_key : (key : ℕ) (xs : List Link) → All (λ x. x.key ≡ key) (filter (λ x. eqb x.key key) xs)
All-of_key key [] = All-nil (λ (x : Link). x.key ≡ key)
All-of_key key (x ∷ xs) =
    cond_both (eqb x.key key) (x ∷ filter (λ (y : Link). eqb y.key key) xs) (filter (λ (y : Link). eqb y.key key) xs)
    (All (λ (y : Link). y.key ≡ key))
    (λ t. All-cons (λ (y : Link). y.key ≡ key) x (filter (λ (y : Link). eqb y.key key) xs) (eqb-true x.key key t)
    (All-of_key key xs))
    (λ f. All-of_key key xs)

-- a name has the key where there is a link
pub has-names_under : (key n : ℕ) (xs : List Link) → n < 18446744073709551616 → All (λ x. x.name < 18446744073709551616) xs
    → has (names_under key xs) n ≡ has (map link_number xs) (rank (key, n))
has-names_under key n [] lt fit = refl
has-names_under key n (x ∷ xs) lt fit =
    let rest = has-names_under key n xs lt (All-tail (λ (y : Link). y.name < 18446744073709551616) x xs fit) in
    let same = eqb-rank key n x.key x.name lt (All-head (λ (y : Link). y.name < 18446744073709551616) x xs fit) in
    cond_both (eqb x.key key) (x ∷ filter (λ (y : Link). eqb y.key key) xs) (filter (λ (y : Link). eqb y.key key) xs)
    (λ ys. has (map (λ y. y.name) ys) n
    ≡ (eqb (rank (key, n)) (link_number x) || has (map link_number xs) (rank (key, n))))
    (λ t. ap (λ b. eqb n x.name || b) rest
    ∙ sym (ap (λ b. b || has (map link_number xs) (rank (key, n)))
    (same ∙ ap (λ b. b && eqb n x.name) (eqb_comm key x.key ∙ t))))
    (λ f. rest ∙ sym (ap (λ b. b || has (map link_number xs) (rank (key, n)))
    (same ∙ ap (λ b. b && eqb n x.name) (eqb_comm key x.key ∙ f))))

-- an edge stands at a vertex where the vertex is an end of it
has-names_at : (es : List EdgeRow) (v n : ℕ) → has (names_at es v) n ≡ joins es v n
has-names_at [] v n = refl
has-names_at (e ∷ es) v n =
    let rest = has-names_at es v n in
    let at : List EdgeRow = filter (λ (x : EdgeRow). eqb x.a v || eqb x.b v) es in
    let turned : (eqb e.a v || eqb e.b v) ≡ has_end e v = ap (λ b. b || eqb e.b v) (eqb_comm e.a v)
    ∙ ap (λ b. eqb v e.a || b) (eqb_comm e.b v) in
    cond_both (eqb e.a v || eqb e.b v) (e ∷ at) at
    (λ xs. has (map (λ x. x.name) xs) n ≡ ((eqb n e.name && has_end e v) || joins es v n))
    (λ t. ap (λ b. eqb n e.name || b) rest ∙ ap (λ b. b || joins es v n) (sym (both (eqb n e.name)))
    ∙ ap (λ b. (eqb n e.name && b) || joins es v n) (sym t ∙ turned))
    (λ f. rest ∙ ap (λ b. b || joins es v n) (sym (neither (eqb n e.name)))
    ∙ ap (λ b. (eqb n e.name && b) || joins es v n) (sym f ∙ turned))
  where
    both : (p : Bool) → (p && true) ≡ p
    both true = refl
    both false = refl

    neither : (p : Bool) → (p && false) ≡ false
    neither true = refl
    neither false = refl

-- what holds of the values of all items holds of all values
pub All-values : {A : Type 0} (f : A → ℕ) (holds : ℕ → Type 0) (xs : List A) → All (λ x. holds (f x)) xs
    → All holds (map f xs)
All-values f holds [] all = All-nil holds
All-values f holds (x ∷ xs) all = All-cons holds (f x) (map f xs) (All-head (λ y. holds (f y)) x xs all)
    (All-values f holds xs (All-tail (λ y. holds (f y)) x xs all))

-- what holds of all values of items holds of the values of all items
pub All-items : {A : Type 0} (f : A → ℕ) (holds : ℕ → Type 0) (xs : List A) → All holds (map f xs)
    → All (λ x. holds (f x)) xs
All-items f holds [] all = All-nil (λ x. holds (f x))
All-items f holds (x ∷ xs) all = All-cons (λ y. holds (f y)) x xs (All-head holds (f x) (map f xs) all)
    (All-items f holds xs (All-tail holds (f x) (map f xs) all))

-- the names that have a vertex as their key are those of the edges at the vertex
pub names_under-edges : (i : Synchronized) (ls : List (List Link)) (root v : ℕ) → IsSynchronized i
    → HasLinks ls root (joins i.edges)
    → names_under v (items_at ls root) ≡ names_at i.edges v
names_under-edges i ls root v is has_links =
    let xs : List Link = items_at ls root in
    let fits : ℕ → Type 0 = λ n. n < 18446744073709551616 in
    let at : EdgeRow → Bool = λ e. eqb e.a v || eqb e.b v in
    let linked_fit : All fits (names_under v xs) =
    All-values (λ (x : Link). x.name) fits (filter (λ (x : Link). eqb x.key v) xs)
    (All-filter (λ (x : Link). eqb x.key v) (λ (x : Link). fits x.name) xs has_links.links.fit) in
    let small : All (λ n. n < 2 ^ 63) (names_at i.edges v) =
    All-values row_name (λ n. n < 2 ^ 63) (filter at i.edges)
    (All-filter at (λ e. e.name < 2 ^ 63) i.edges
    (All-items row_name (λ n. n < 2 ^ 63) i.edges is.edges_named.fit)) in
    rising_same (names_under v xs) (names_at i.edges v)
    (IsStrictlyIncreasing-from_test (names_under v xs)
    (names-rise v (filter (λ (x : Link). eqb x.key v) xs) (All-of_key v xs)
    (rises-filter link_number (λ (x : Link). eqb x.key v) xs
    (rises_from (map link_number xs) has_links.links.rise))))
    (IsStrictlyIncreasing-from_test (names_at i.edges v)
    (rises-filter row_name at i.edges (rises_from (names_of_edges i.edges) is.edges_named.rise)))
    (λ z c.
    let lt : z < 18446744073709551616 = subst fits c.2 (linked_fit c.0 z c.1) in
    Contains-from_has (names_at i.edges v) z
    (has-names_at i.edges v z ∙ sym (has_links.links.each v z lt)
    ∙ sym (has-names_under v z xs lt has_links.links.fit) ∙ has-Contains (names_under v xs) z c))
    (λ z c.
    let less : z < 2 ^ 63 = subst (λ n. n < 2 ^ 63) c.2 (small c.0 z c.1) in
    let lt : z < 18446744073709551616 = omega (arith, less) in
    Contains-from_has (names_under v xs) z
    (has-names_under v z xs lt has_links.links.fit ∙ has_links.links.each v z lt ∙ sym (has-names_at i.edges v z)
    ∙ has-Contains (names_at i.edges v) z c))
