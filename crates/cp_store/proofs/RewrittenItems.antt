-- The vertices, edges and pipes after a rewrite, by exchanges under their names.
use Rattle.std.proofs.Common.{◌≡◌, ◌≢◌, ℕ, zero, suc, ◌<◌, ◌≤◌, Bool, true, false, not, ◌||◌, cond, eqb, ltb, List, [], ◌∷◌, ◌++◌, length, map, slice_index_or, sym, refl, ap, ◌∙◌, subst, arith, ⊎_elim}
use Rattle.std.specs.Prelude.{filter, Option, Some, None, find, is_some}
use Rattle.std.specs.List.{All}
use Rattle.std.specs.Option.{option_map_or}
use Rattle.std.proofs.lemmas.Bool.{false≢true, and_parts, and_from, or_parts, not-true, cond-true, cond-false, cond_both, eq-eqb, ne_eqb, eqb-true, eqb-false, ltb-true, lt-ltb, cases_eq, cases_lt}
use Rattle.std.proofs.lemmas.List.{append-nil, map-append}
use Rattle.std.proofs.lemmas.List.Elements.{All-head, All-tail, All-cons, All-nil}
use Rattle.cp_board.specs.declared.parts.Vert.{Vert}
use Rattle.cp_board.specs.declared.parts.Pipe.{Pipe}
use Rattle.cp_board.specs.Names.{has, put, by_name}
use Rattle.cp_board.specs.Rewrites.{with_kinds}
use Rattle.cp_board.proofs.ListTests.{rises, distinct, Contains-from_has}
use Rattle.cp_board.proofs.NamedLists.{by_name_same, has-by_name, filter-by_name, filter_true, distinct_from_rises, rises-filter, rises-by_name}
use Rattle.cp_store.specs.declared.entry.Entry.{Entry}
use Rattle.cp_store.specs.Exchanges.{under, exchanged, taken_back, HasItsName}
use Rattle.cp_store.specs.Rewriting.{kept, gone}
use Rattle.cp_store.proofs.ExchangedItems.{Some-same, None-Some, others-all, exchanged-one}
use Rattle.cp_store.proofs.Tables.{is_some-under}

-- some exchanges and then others, the last one first
pub taken_back-append : {A : Type 0} (name : A → ℕ) (xs ys : List (Entry A)) (zs : List A)
    → taken_back name (xs ++ ys) zs ≡ taken_back name xs (taken_back name ys zs)
taken_back-append name [] ys zs = refl
taken_back-append name (e ∷ xs) ys zs = ap (exchanged name e.name e.item) (taken_back-append name xs ys zs)

-- what passes two tests, one after the other
filter-both : {A : Type 0} (a b : A → Bool) (xs : List A)
    → filter (λ x. not (a x)) (filter (λ x. not (b x)) xs) ≡ filter (λ x. not (a x || b x)) xs
filter-both a b [] = refl
filter-both {A} a b (x ∷ xs) = both (a x) (b x) refl ∙ ap (λ zs. cond (not (a x || b x)) (x ∷ zs) zs) (filter-both a b xs)
  where
    rest : List A
    rest = filter (λ x. not (b x)) xs

    both : (p q : Bool) → a x ≡ p
        → filter (λ x. not (a x)) (cond (not q) (x ∷ rest) rest)
        ≡ cond (not (a x || q)) (x ∷ filter (λ x. not (a x)) rest) (filter (λ x. not (a x)) rest)
    both true true e = sym (ap (λ b. cond (not (b || true)) (x ∷ filter (λ x. not (a x)) rest) (filter (λ x. not (a x)) rest)) e)
    both true false e = ap (λ b. cond (not b) (x ∷ filter (λ x. not (a x)) rest) (filter (λ x. not (a x)) rest)) e ∙ sym (ap (λ b. cond (not (b || false)) (x ∷ filter (λ x. not (a x)) rest) (filter (λ x. not (a x)) rest)) e)
    both false true e = sym (ap (λ b. cond (not (b || true)) (x ∷ filter (λ x. not (a x)) rest) (filter (λ x. not (a x)) rest)) e)
    both false false e = ap (λ b. cond (not b) (x ∷ filter (λ x. not (a x)) rest) (filter (λ x. not (a x)) rest)) e ∙ sym (ap (λ b. cond (not (b || false)) (x ∷ filter (λ x. not (a x)) rest) (filter (λ x. not (a x)) rest)) e)

-- names that go leave the items of other names
pub taken_back-gone : {A : Type 0} (name : A → ℕ) (ns : List ℕ) (xs : List A)
    → taken_back name (map gone ns) xs ≡ filter (λ x. not (has ns (name x))) xs
taken_back-gone name [] xs = sym (filter_true xs)
taken_back-gone name (n ∷ ns) xs =
    ap (filter (λ x. not (eqb (name x) n))) (taken_back-gone name ns xs)
    ∙ filter-both (λ x. eqb (name x) n) (λ x. has ns (name x)) xs

-- the kinds that are set keep the name
pub with_kinds-name : (ks : List Vert) (v : Vert) → (with_kinds ks v).name ≡ v.name
with_kinds-name [] v = refl
with_kinds-name (k ∷ ks) v =
    cond_both (eqb k.name v.name) (Some k) (find (λ z. eqb z.name v.name) ks) (λ o. (option_map_or (λ z. z) o v).name ≡ v.name)
    (λ t. eqb-true k.name v.name t)
    (λ f. with_kinds-name ks v)

-- no kinds
with_kinds-none : (vs : List Vert) → map (with_kinds []) vs ≡ vs
with_kinds-none [] = refl
with_kinds-none (v ∷ vs) = ap (λ us. v ∷ us) (with_kinds-none vs)

-- vertices keep their names where kinds are set
names-with_kinds : (ks vs : List Vert) → map (λ v. v.name) (map (with_kinds ks) vs) ≡ map (λ v. v.name) vs
names-with_kinds ks [] = refl
names-with_kinds ks (v ∷ vs) = ap (λ n. n ∷ map (λ (u : Vert). u.name) (map (with_kinds ks) vs)) (with_kinds-name ks v) ∙ ap (λ ns. v.name ∷ ns) (names-with_kinds ks vs)

-- one kind more
with_kinds-more : (k : Vert) (ks vs : List Vert)
    → map (λ (z : Vert). cond (eqb z.name k.name) k z) (map (with_kinds ks) vs) ≡ map (with_kinds (k ∷ ks)) vs
with_kinds-more k ks [] = refl
with_kinds-more k ks (v ∷ vs) =
    ap (λ z. z ∷ map (λ (u : Vert). cond (eqb u.name k.name) k u) (map (with_kinds ks) vs)) here
    ∙ ap (λ zs. with_kinds (k ∷ ks) v ∷ zs) (with_kinds-more k ks vs)
  where
    here : cond (eqb (with_kinds ks v).name k.name) k (with_kinds ks v) ≡ with_kinds (k ∷ ks) v
    here = ⊎_elim
        (λ (e : k.name ≡ v.name).
        cond-true (eqb (with_kinds ks v).name k.name) k (with_kinds ks v) (eq-eqb (with_kinds ks v).name k.name (with_kinds-name ks v ∙ sym e))
        ∙ sym (ap (λ o. option_map_or (λ (z : Vert). z) o v) (cond-true (eqb k.name v.name) (Some k) (find (λ (z : Vert). eqb z.name v.name) ks) (eq-eqb k.name v.name e))))
        (λ (ne : k.name ≢ v.name).
        cond-false (eqb (with_kinds ks v).name k.name) k (with_kinds ks v) (ne_eqb (with_kinds ks v).name k.name (λ h. ne (sym h ∙ with_kinds-name ks v)))
        ∙ sym (ap (λ o. option_map_or (λ (z : Vert). z) o v) (cond-false (eqb k.name v.name) (Some k) (find (λ (z : Vert). eqb z.name v.name) ks) (ne_eqb k.name v.name ne))))
        (cases_eq k.name v.name)

-- a name that some items have is that of one of them
pub under-some : {A : Type 0} (name : A → ℕ) (n : ℕ) (xs : List A) → has (map name xs) n ≡ true → (x : A) × (under name n xs ≡ Some x)
under-some {A} name n xs t = by_found (under name n xs) refl
  where
    by_found : (o : Option A) → under name n xs ≡ o → (x : A) × (under name n xs ≡ Some x)
    by_found None e = absurd (false≢true (sym (ap is_some e) ∙ is_some-under name n xs ∙ t))
    by_found (Some x) e = (x, e)

-- kinds are set by exchanges
pub taken_back-kinds : (ks vs : List Vert) → rises (map (λ v. v.name) vs) ≡ true
    → All (λ k. has (map (λ v. v.name) vs) k.name ≡ true) ks
    → taken_back (λ v. v.name) (map (kept (λ v. v.name)) ks) vs ≡ map (with_kinds ks) vs
taken_back-kinds [] vs up live = sym (with_kinds-none vs)
taken_back-kinds (k ∷ ks) vs up live =
    let name : Vert → ℕ = λ v. v.name in
    let rest : List Vert = map (with_kinds ks) vs in
    let same = names-with_kinds ks vs in
    let found = under-some name k.name rest (subst (λ ns. has ns k.name ≡ true) (sym same) (All-head (λ (z : Vert). has (map (λ v. v.name) vs) z.name ≡ true) k ks live)) in
    ap (exchanged name k.name (Some k)) (taken_back-kinds ks vs up (All-tail (λ (z : Vert). has (map (λ v. v.name) vs) z.name ≡ true) k ks live))
    ∙ exchanged-one name k.name rest found.0 k (subst (λ ns. rises ns ≡ true) (sym same) up) found.1 refl
    ∙ with_kinds-more k ks vs

-- of two items that are put in the first one may come first
put-before : {A : Type 0} (name : A → ℕ) (x z : A) (zs : List A) → name x < name z → put name x (z ∷ zs) ≡ x ∷ z ∷ zs
put-before name x z zs lt = cond-true (ltb (name x) (name z)) (x ∷ z ∷ zs) (z ∷ put name x zs) (lt-ltb (name x) (name z) lt)

-- and it may come behind the other
put-after : {A : Type 0} (name : A → ℕ) (x z : A) (zs : List A) → name z ≤ name x → put name x (z ∷ zs) ≡ z ∷ put name x zs
put-after name x z zs le = cond-false (ltb (name x) (name z)) (x ∷ z ∷ zs) (z ∷ put name x zs) (not_less (ltb (name x) (name z)) refl)
  where
    not_less : (b : Bool) → ltb (name x) (name z) ≡ b → ltb (name x) (name z) ≡ false
    not_less false e = e
    not_less true e = absurd (omega (arith, le, ltb-true (name x) (name z) e))

-- two items of different names are put in alike in either order: the one of the lesser name last
put-less : {A : Type 0} (name : A → ℕ) (x y : A) (zs : List A) → name x < name y → put name x (put name y zs) ≡ put name y (put name x zs)
put-less name x y [] lt = put-before name x y [] lt ∙ sym (put-after name y x [] (omega (arith, lt)))
put-less name x y (z ∷ zs) lt =
    ⊎_elim
    (λ (l : name x < name z).
    first (put name y (z ∷ zs)) (⊎_elim
    (λ (m : name y < name z). ap (put name x) (put-before name y z zs m) ∙ put-before name x y (z ∷ zs) lt ∙ ap (λ us. x ∷ us) (sym (put-before name y z zs m)))
    (λ (g : name z ≤ name y). ap (put name x) (put-after name y z zs g) ∙ put-before name x z (put name y zs) l ∙ ap (λ us. x ∷ us) (sym (put-after name y z zs g)))
    (cases_lt (name y) (name z)))
    ∙ sym (ap (put name y) (put-before name x z zs l) ∙ put-after name y x (z ∷ zs) (omega (arith, lt))))
    (λ (g : name z ≤ name x).
    ap (put name x) (put-after name y z zs (omega (arith, g, lt)))
    ∙ put-after name x z (put name y zs) g
    ∙ ap (λ us. z ∷ us) (put-less name x y zs lt)
    ∙ sym (ap (put name y) (put-after name x z zs g) ∙ put-after name y z (put name x zs) (omega (arith, g, lt))))
    (cases_lt (name x) (name z))
  where
    first : (us : List _) → put name x us ≡ x ∷ us → put name x us ≡ x ∷ us
    first us e = e

-- and in general
put-two : {A : Type 0} (name : A → ℕ) (x y : A) (zs : List A) → name x ≢ name y → put name x (put name y zs) ≡ put name y (put name x zs)
put-two name x y zs ne =
    ⊎_elim
    (λ (l : name x < name y). put-less name x y zs l)
    (λ (g : name y ≤ name x). sym (put-less name y x zs (omega (arith, g, ne))))
    (cases_lt (name x) (name y))

-- an item of a name that those before it have not
by_name-later : {A : Type 0} (name : A → ℕ) (xs : List A) (a : A) (ys : List A) → has (map name xs) (name a) ≡ false
    → by_name name (xs ++ a ∷ ys) ≡ put name a (by_name name (xs ++ ys))
by_name-later name [] a ys new = refl
by_name-later name (x ∷ xs) a ys new =
    let h = or_parts (eqb (name a) (name x)) (has (map name xs) (name a)) new in
    ap (put name x) (by_name-later name xs a ys h.1)
    ∙ put-two name x a (by_name name (xs ++ ys)) (λ e. eqb-false (name a) (name x) h.0 (sym e))

-- two lists that share no name, in either order
pub by_name-swap : {A : Type 0} (name : A → ℕ) (news xs : List A) → All (λ a. has (map name xs) (name a) ≡ false) news
    → by_name name (news ++ xs) ≡ by_name name (xs ++ news)
by_name-swap name [] xs new = ap (by_name name) (sym (append-nil xs))
by_name-swap name (a ∷ news) xs new =
    ap (put name a) (by_name-swap name news xs (All-tail (λ z. has (map name xs) (name z) ≡ false) a news new))
    ∙ sym (by_name-later name xs a news (All-head (λ z. has (map name xs) (name z) ≡ false) a news new))

-- a number is in two lists together where it is in one of them
has-append : (xs ys : List ℕ) (n : ℕ) → has (xs ++ ys) n ≡ (has xs n || has ys n)
has-append [] ys n = refl
has-append (x ∷ xs) ys n = ap (λ b. eqb n x || b) (has-append xs ys n) ∙ regroup (eqb n x) (has xs n) (has ys n)
  where
    regroup : (a b c : Bool) → (a || (b || c)) ≡ ((a || b) || c)
    regroup true b c = refl
    regroup false b c = refl

-- two lists of distinct numbers that share none
pub distinct-joined : (news xs : List ℕ) → distinct news ≡ true → All (λ n. has xs n ≡ false) news → distinct xs ≡ true
    → distinct (news ++ xs) ≡ true
distinct-joined [] xs d new t = t
distinct-joined (a ∷ news) xs d new t =
    let h = and_parts (not (has news a)) (distinct news) d in
    and_from (not (has (news ++ xs) a)) (distinct (news ++ xs))
    (ap not (has-append news xs a ∙ ap (λ b. b || has xs a) (not-true (has news a) h.0) ∙ All-head (λ n. has xs n ≡ false) a news new))
    (distinct-joined news xs h.1 (All-tail (λ n. has xs n ≡ false) a news new) t)

-- items of new names are put in by exchanges
pub taken_back-kept : {A : Type 0} (name : A → ℕ) (news xs : List A) → rises (map name xs) ≡ true
    → distinct (map name (news ++ xs)) ≡ true
    → taken_back name (map (kept name) news) xs ≡ by_name name (news ++ xs)
taken_back-kept name [] xs up d = sym (by_name_same name xs up)
taken_back-kept {A} name (a ∷ news) xs up d =
    let h = and_parts (not (has (map name (news ++ xs)) (name a))) (distinct (map name (news ++ xs))) d in
    let rest : List A = by_name name (news ++ xs) in
    let free : has (map name rest) (name a) ≡ false = has-by_name name (name a) (news ++ xs) ∙ not-true (has (map name (news ++ xs)) (name a)) h.0 in
    ap (exchanged name (name a) (Some a)) (taken_back-kept name news xs up h.1)
    ∙ ap (put name a) (others-all name (name a) rest (none rest free))
  where
    none : (zs : List A) → has (map name zs) (name a) ≡ false → under name (name a) zs ≡ None
    none zs f = by_found (under name (name a) zs) refl
      where
        by_found : (o : Option A) → under name (name a) zs ≡ o → under name (name a) zs ≡ None
        by_found None e = e
        by_found (Some x) e = absurd (false≢true (sym f ∙ sym (is_some-under name (name a) zs) ∙ ap is_some e))

-- a change that keeps names goes through the order of names
map-put : (f : Vert → Vert) → ((v : Vert) → (f v).name ≡ v.name) → (x : Vert) (ys : List Vert)
    → put (λ v. v.name) (f x) (map f ys) ≡ map f (put (λ v. v.name) x ys)
map-put f keeps x [] = refl
map-put f keeps x (y ∷ ys) =
    ap (λ n. cond (ltb n (f y).name) (f x ∷ f y ∷ map f ys) (f y ∷ put (λ v. v.name) (f x) (map f ys))) (keeps x)
    ∙ ap (λ n. cond (ltb x.name n) (f x ∷ f y ∷ map f ys) (f y ∷ put (λ v. v.name) (f x) (map f ys))) (keeps y)
    ∙ ap (λ zs. cond (ltb x.name y.name) (f x ∷ f y ∷ map f ys) (f y ∷ zs)) (map-put f keeps x ys)
    ∙ by_cond (ltb x.name y.name)
  where
    by_cond : (b : Bool) → cond b (f x ∷ f y ∷ map f ys) (f y ∷ map f (put (λ v. v.name) x ys)) ≡ map f (cond b (x ∷ y ∷ ys) (y ∷ put (λ v. v.name) x ys))
    by_cond true = refl
    by_cond false = refl

-- the order of names goes through what keeps names
map-by_name : (f : Vert → Vert) → ((v : Vert) → (f v).name ≡ v.name) → (xs : List Vert)
    → by_name (λ v. v.name) (map f xs) ≡ map f (by_name (λ v. v.name) xs)
map-by_name f keeps [] = refl
map-by_name f keeps (x ∷ xs) = ap (put (λ (v : Vert). v.name) (f x)) (map-by_name f keeps xs) ∙ map-put f keeps x (by_name (λ (v : Vert). v.name) xs)

-- and through a test of names
filter-map : (f : Vert → Vert) (t : ℕ → Bool) → ((v : Vert) → (f v).name ≡ v.name) → (xs : List Vert)
    → filter (λ v. t v.name) (map f xs) ≡ map f (filter (λ v. t v.name) xs)
filter-map f t keeps [] = refl
filter-map f t keeps (x ∷ xs) =
    ap (λ n. cond (t n) (f x ∷ filter (λ (v : Vert). t v.name) (map f xs)) (filter (λ (v : Vert). t v.name) (map f xs))) (keeps x)
    ∙ ap (λ zs. cond (t x.name) (f x ∷ zs) zs) (filter-map f t keeps xs)
    ∙ by_cond (t x.name) (filter (λ (v : Vert). t v.name) xs)
  where
    by_cond : (b : Bool) (zs : List Vert) → cond b (f x ∷ map f zs) (map f zs) ≡ map f (cond b (x ∷ zs) zs)
    by_cond true zs = refl
    by_cond false zs = refl

-- a number stands in a list at its place
pub has-at : (xs : List ℕ) (k d : ℕ) → k < length xs → has xs (slice_index_or xs k d) ≡ true
has-at [] k d lt = absurd (omega (arith, lt))
has-at (x ∷ xs) zero d lt = ap (λ b. b || has xs x) (eq-eqb x x refl)
has-at (x ∷ xs) (suc k) d lt = ap (λ b. eqb (slice_index_or xs k d) x || b) (has-at xs k d (omega (arith, lt))) ∙ or_true (eqb (slice_index_or xs k d) x)
  where
    or_true : (b : Bool) → (b || true) ≡ true
    or_true true = refl
    or_true false = refl

-- what shares no number with a list is not shared by it
free_back : (news xs : List ℕ) → All (λ n. has xs n ≡ false) news → All (λ n. has news n ≡ false) xs
free_back news xs new k d lt = by_has (has news (slice_index_or xs k d)) refl
  where
    by_has : (b : Bool) → has news (slice_index_or xs k d) ≡ b → has news (slice_index_or xs k d) ≡ false
    by_has false e = e
    by_has true e =
        let c = Contains-from_has news (slice_index_or xs k d) e in
        absurd (false≢true (sym (subst (λ n. has xs n ≡ false) c.2 (new c.0 (slice_index_or xs k d) c.1)) ∙ has-at xs k d lt))

-- items of new names by their names
All-names : {A : Type 0} (name : A → ℕ) (holds : ℕ → Type 0) (news : List A) → All holds (map name news) → All (λ a. holds (name a)) news
All-names name holds [] all = All-nil (λ a. holds (name a))
All-names name holds (a ∷ news) all = All-cons (λ a. holds (name a)) a news (All-head holds (name a) (map name news) all) (All-names name holds news (All-tail holds (name a) (map name news) all))

-- fewer items have fewer names
has-fewer : {A : Type 0} (name : A → ℕ) (t : A → Bool) (xs : List A) (n : ℕ) → has (map name xs) n ≡ false → has (map name (filter t xs)) n ≡ false
has-fewer name t [] n f = refl
has-fewer name t (x ∷ xs) n f =
    let h = or_parts (eqb n (name x)) (has (map name xs) n) f in
    cond_both (t x) (x ∷ filter t xs) (filter t xs) (λ zs. has (map name zs) n ≡ false)
    (λ e. ap (λ b. b || has (map name (filter t xs)) n) h.0 ∙ has-fewer name t xs n h.1)
    (λ e. has-fewer name t xs n h.1)

-- names that some items lack are lacked by those that pass a test
All-fewer : {A : Type 0} (name : A → ℕ) (t : A → Bool) (xs : List A) (ns : List ℕ) → All (λ n. has (map name xs) n ≡ false) ns
    → All (λ n. has (map name (filter t xs)) n ≡ false) ns
All-fewer name t xs ns all k d lt = has-fewer name t xs (slice_index_or ns k d) (all k d lt)

-- items whose names are new are put in, in either order
pub taken_back-new : {A : Type 0} (name : A → ℕ) (news xs : List A) → rises (map name xs) ≡ true
    → distinct (map name news) ≡ true
    → All (λ n. has (map name xs) n ≡ false) (map name news)
    → (taken_back name (map (kept name) news) xs ≡ by_name name (xs ++ news)) × (distinct (map name (xs ++ news)) ≡ true)
taken_back-new name news xs up once new = (
  taken_back-kept name news xs up (subst (λ ns. distinct ns ≡ true) (sym (map-append name news xs)) (distinct-joined (map name news) (map name xs) once new (distinct_from_rises name xs up)))
      ∙ by_name-swap name news xs (All-names name (λ n. has (map name xs) n ≡ false) news new),
  subst (λ ns. distinct ns ≡ true) (sym (map-append name xs news)) (distinct-joined (map name xs) (map name news) (distinct_from_rises name xs up) (free_back (map name news) (map name xs) new) once),
)

-- the pipes after a rewrite
pub pipes-exchanged : (ps news : List Pipe) (drops : List ℕ) → rises (map (λ p. p.name) ps) ≡ true
    → distinct (map (λ p. p.name) news) ≡ true
    → All (λ n. has (map (λ p. p.name) ps) n ≡ false) (map (λ p. p.name) news)
    → taken_back (λ p. p.name) (map (kept (λ p. p.name)) news ++ map gone drops) ps
    ≡ by_name (λ p. p.name) (filter (λ p. not (has drops p.name)) ps ++ news)
pipes-exchanged ps news drops up once new =
    let name : Pipe → ℕ = λ p. p.name in
    let t : Pipe → Bool = λ p. not (has drops p.name) in
    taken_back-append name (map (kept name) news) (map gone drops) ps
    ∙ ap (taken_back name (map (kept name) news)) (taken_back-gone name drops ps)
    ∙ (taken_back-new name news (filter t ps) (rises-filter name t ps up) once (All-fewer name t ps (map name news) new)).0

-- the vertices after a rewrite
pub verts-exchanged : (vs news ks : List Vert) (drops : List ℕ) → rises (map (λ v. v.name) vs) ≡ true
    → distinct (map (λ v. v.name) news) ≡ true
    → All (λ n. has (map (λ v. v.name) vs) n ≡ false) (map (λ v. v.name) news)
    → All (λ k. has (map (λ v. v.name) (vs ++ news)) k.name ≡ true) ks
    → taken_back (λ v. v.name) (map gone drops ++ map (kept (λ v. v.name)) ks ++ map (kept (λ v. v.name)) news) vs
    ≡ by_name (λ v. v.name) (map (with_kinds ks) (filter (λ v. not (has drops v.name)) (vs ++ news)))
verts-exchanged vs news ks drops up once new live =
    let name : Vert → ℕ = λ v. v.name in
    let added = taken_back-new name news vs up once new in
    let all : List Vert = by_name name (vs ++ news) in
    let all_rise : rises (map name all) ≡ true = rises-by_name name (vs ++ news) added.1 in
    taken_back-append name (map gone drops ++ map (kept name) ks) (map (kept name) news) vs
    ∙ ap (taken_back name (map gone drops ++ map (kept name) ks)) added.0
    ∙ taken_back-append name (map gone drops) (map (kept name) ks) all
    ∙ ap (taken_back name (map gone drops)) (taken_back-kinds ks all all_rise (λ k d lt. has-by_name name (slice_index_or ks k d).name (vs ++ news) ∙ live k d lt))
    ∙ taken_back-gone name drops (map (with_kinds ks) all)
    ∙ filter-map (with_kinds ks) (λ n. not (has drops n)) (with_kinds-name ks) all
    ∙ ap (map (with_kinds ks)) (filter-by_name name (λ v. not (has drops v.name)) (vs ++ news) added.1)
    ∙ sym (map-by_name (with_kinds ks) (with_kinds-name ks) (filter (λ (v : Vert). not (has drops v.name)) (vs ++ news)))

-- the entries of items have their names, and so have entries without an item
pub All-kept : {A : Type 0} (name : A → ℕ) (news : List A) → All (HasItsName name) (map (kept name) news)
All-kept name [] = All-nil (HasItsName name)
All-kept name (a ∷ news) = All-cons (HasItsName name) (kept name a) (map (kept name) news) (λ x e. ap name (sym (Some-same a x e))) (All-kept name news)

-- and so have entries of names that go
pub All-gone : {A : Type 0} (name : A → ℕ) (ns : List ℕ) → All (HasItsName name) (map gone ns)
All-gone name [] = All-nil (HasItsName name)
All-gone name (n ∷ ns) = All-cons (HasItsName name) (gone n) (map gone ns) (λ x e. absurd (None-Some x e)) (All-gone name ns)
