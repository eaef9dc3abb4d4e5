-- The edges of a vertex: by their rows, and where ends of edges move.
use Rattle.std.proofs.Common.{◌≡◌, ◌≢◌, ℕ, Bool, true, false, not, ◌||◌, cond, eqb, List, [], ◌∷◌, ◌++◌, sym, refl, ap, ◌∙◌, subst}
use Rattle.std.specs.Prelude.{filter, map, Some, find}
use Rattle.std.specs.List.{find}
use Rattle.std.specs.Option.{option_map_or}
use Rattle.std.proofs.lemmas.Bool.{cond-true, cond-false, and_parts, not-true, eq-eqb, ne_eqb, both_ways}
use Rattle.std.proofs.lemmas.List.{append-nil}
use Rattle.cp_board.specs.declared.parts.EdgeRow.{EdgeRow}
use Rattle.cp_board.specs.Names.{has}
use Rattle.cp_board.specs.Instances.{Synchronized, edge_names, edges_of, ends_in, IsSynchronized, names_at}
use Rattle.cp_board.specs.Changes.{moved_edges, edges_by_name}
use Rattle.std.proofs.lemmas.List.Elements.{filter-append}
use Rattle.cp_board.proofs.ListTests.{rises, distinct, same}
use Rattle.cp_board.proofs.NamedLists.{by_name_same, rises-filter, rises_from, distinct_from_rises, rises-by_name, filter-by_name}

-- tests that agree on the items keep the same
filter_agree : (p q : ℕ → Bool) (xs : List ℕ) → ((x : ℕ) → has xs x ≡ true → p x ≡ q x) → filter p xs ≡ filter q xs
filter_agree p q [] agree = refl
filter_agree p q (x ∷ xs) agree =
    ap (λ b. cond b (x ∷ filter p xs) (filter p xs)) (agree x (ap (λ b. b || has xs x) (eq-eqb x x refl)))
    ∙ ap (λ zs. cond (q x) (x ∷ zs) zs) (filter_agree p q xs (λ y h. agree y (later y h)))
  where
    later : (y : ℕ) → has xs y ≡ true → (eqb y x || has xs y) ≡ true
    later y h = ap (λ b. eqb y x || b) h ∙ or_true (eqb y x)
      where
        or_true : (b : Bool) → (b || true) ≡ true
        or_true true = refl
        or_true false = refl

-- the names of the edges whose ends pass, by their rows
pub names_passing : (t : ℕ × ℕ → Bool) (es : List EdgeRow) → distinct (map (λ e. e.name) es) ≡ true
    → filter (λ e. t (ends_in es e)) (map (λ e. e.name) es) ≡ map (λ e. e.name) (filter (λ e. t (e.a, e.b)) es)
names_passing t [] d = refl
names_passing t (x ∷ xs) d =
    let h = and_parts (not (has (map (λ e. e.name) xs) x.name)) (distinct (map (λ e. e.name) xs)) d in
    ap (λ b. cond b (x.name ∷ rest) rest) (ap t own)
    ∙ ap (λ zs. cond (t (x.a, x.b)) (x.name ∷ zs) zs) (filter_agree (λ e. t (ends_in (x ∷ xs) e)) (λ e. t (ends_in xs e)) (map (λ e. e.name) xs) (λ e in_rest. ap t (other e (apart e (not-true (has (map (λ e. e.name) xs) x.name) h.0) in_rest))) ∙ names_passing t xs h.1)
    ∙ map_cond (t (x.a, x.b)) (filter (λ e. t (e.a, e.b)) xs)
  where
    rest : List ℕ
    rest = filter (λ e. t (ends_in (x ∷ xs) e)) (map (λ e. e.name) xs)

    own : ends_in (x ∷ xs) x.name ≡ (x.a, x.b)
    own = ap (λ o. option_map_or (λ y. (y.a, y.b)) o (0, 0)) (cond-true (eqb x.name x.name) (Some x) (find (λ y. eqb y.name x.name) xs) (eq-eqb x.name x.name refl))

    other : (e : ℕ) → x.name ≢ e → ends_in (x ∷ xs) e ≡ ends_in xs e
    other e ne = ap (λ o. option_map_or (λ y. (y.a, y.b)) o (0, 0)) (cond-false (eqb x.name e) (Some x) (find (λ y. eqb y.name e) xs) (ne_eqb x.name e ne))

    apart : (e : ℕ) → has (map (λ e. e.name) xs) x.name ≡ false → has (map (λ e. e.name) xs) e ≡ true → x.name ≢ e
    apart e free member same = both_ways (has (map (λ e. e.name) xs) e) (subst (λ n. has (map (λ e. e.name) xs) n ≡ false) same free) member

    map_cond : (b : Bool) (ys : List EdgeRow)
        → cond b (x.name ∷ map (λ e. e.name) ys) (map (λ e. e.name) ys) ≡ map (λ e. e.name) (cond b (x ∷ ys) ys)
    map_cond true ys = refl
    map_cond false ys = refl

-- the edges of a vertex are those whose rows have it as an end
pub edges_of-rows : (i : Synchronized) (v : ℕ) → IsSynchronized i → edges_of i v ≡ names_at i.edges v
edges_of-rows i v is = names_passing (λ x. eqb x.0 v || eqb x.1 v) i.edges (distinct_from_rises (λ e. e.name) i.edges (rises_from (edge_names i) is.edges_named.rise))

-- the edge, where its ends move
abbrev pub moved_row : (ℕ → ℕ → ℕ) → EdgeRow → EdgeRow
moved_row to e = record { name = e.name; a = to e.name e.a; b = to e.name e.b }

-- v is an end of the edge
abbrev pub touch : ℕ → EdgeRow → Bool
touch v e = eqb e.a v || eqb e.b v

-- where v gains and loses no end, the same edges end at v after the ends have moved
filter_moved : (to : ℕ → ℕ → ℕ) (v : ℕ) → ((e x : ℕ) → eqb (to e x) v ≡ eqb x v) → (es : List EdgeRow)
    → filter (touch v) (map (moved_row to) es) ≡ map (moved_row to) (filter (touch v) es)
filter_moved to v stays [] = refl
filter_moved to v stays (e ∷ es) =
    ap (λ b. cond (b || eqb (to e.name e.b) v) (moved_row to e ∷ filter (touch v) (map (moved_row to) es)) (filter (touch v) (map (moved_row to) es))) (stays e.name e.a)
    ∙ ap (λ b. cond (eqb e.a v || b) (moved_row to e ∷ filter (touch v) (map (moved_row to) es)) (filter (touch v) (map (moved_row to) es))) (stays e.name e.b)
    ∙ ap (λ zs. cond (touch v e) (moved_row to e ∷ zs) zs) (filter_moved to v stays es)
    ∙ by_cond (touch v e) (filter (touch v) es)
  where
    by_cond : (b : Bool) (zs : List EdgeRow) → cond b (moved_row to e ∷ map (moved_row to) zs) (map (moved_row to) zs)
        ≡ map (moved_row to) (cond b (e ∷ zs) zs)
    by_cond true zs = refl
    by_cond false zs = refl

-- edges keep their names where their ends move
names_moved : (to : ℕ → ℕ → ℕ) (es : List EdgeRow) → map (λ e. e.name) (map (moved_row to) es) ≡ map (λ e. e.name) es
names_moved to [] = refl
names_moved to (e ∷ es) = ap (λ zs. e.name ∷ zs) (names_moved to es)

-- a vertex at which no end moves, and at which no new edge ends, keeps its edges
pub edges_of-kept : (i j : Synchronized) (to : ℕ → ℕ → ℕ) (more : List EdgeRow) (v : ℕ) → rises (edge_names i) ≡ true
    → distinct (map (λ e. e.name) (moved_edges i to ++ more)) ≡ true
    → j.edges ≡ edges_by_name (moved_edges i to ++ more) → ((e x : ℕ) → eqb (to e x) v ≡ eqb x v)
    → filter (touch v) more ≡ [] → edges_of j v ≡ edges_of i v
edges_of-kept i j to more v up apart is stays none =
    ap (λ es. filter (λ e. passes (ends_in es e)) (map (λ e. e.name) es)) is
    ∙ names_passing passes (edges_by_name (moved_edges i to ++ more)) (distinct_from_rises (λ e. e.name) (edges_by_name (moved_edges i to ++ more)) (rises-by_name (λ e. e.name) (moved_edges i to ++ more) apart))
    ∙ ap (map (λ e. e.name)) (filter-by_name (λ e. e.name) (touch v) (moved_edges i to ++ more) apart)
    ∙ ap (λ zs. map (λ e. e.name) (edges_by_name zs)) (filter-append (touch v) (moved_edges i to) more ∙ ap (λ zs. filter (touch v) (moved_edges i to) ++ zs) none ∙ append-nil (filter (touch v) (moved_edges i to)) ∙ filter_moved to v stays i.edges)
    ∙ ap (map (λ e. e.name)) (by_name_same (λ e. e.name) (map (moved_row to) (filter (touch v) i.edges)) (ap rises (names_moved to (filter (touch v) i.edges)) ∙ rises-filter (λ e. e.name) (touch v) i.edges up))
    ∙ names_moved to (filter (touch v) i.edges)
    ∙ sym (names_passing passes i.edges (distinct_from_rises (λ e. e.name) i.edges up))
  where
    passes : ℕ × ℕ → Bool
    passes x = eqb x.0 v || eqb x.1 v
