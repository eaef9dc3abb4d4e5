-- Entries in the order of their names: what stands under a name, an entry more, and an item exchanged at a place.
use Rattle.std.proofs.Common.{◌≡◌, ◌≢◌, ℕ, zero, suc, ◌<◌, ◌≤◌, Bool, true, false, not, ◌||◌, eqb, ltb, List, [], ◌∷◌, length, map, slice_index, slice_index_or, slice_set, sym, refl, ap, ◌∙◌, subst, arith, ⊎_elim}
use Rattle.std.specs.Prelude.{Option, Some, None, is_some}
use Rattle.std.specs.List.{All, insert}
use Rattle.std.specs.List.Sorted.{IsStrictlyIncreasing}
use Rattle.std.proofs.lemmas.Bool.{false≢true, and_parts, and_from, cond-true, cond-false, cond_both, eq-eqb, ne_eqb, eqb-false, lt-ltb, ltb-true, cases_eq}
use Rattle.std.proofs.lemmas.List.Elements.{All-set, All-cons, All-head, All-tail}
use Rattle.std.proofs.lemmas.List.{length-map, length-set}
use Rattle.std.proofs.lemmas.List.Sorted.{All-permutation}
use Rattle.cp_board.specs.Names.{has, put}
use Rattle.cp_board.proofs.ListTests.{rises, IsStrictlyIncreasing-from_test, Contains-from_has}
use Rattle.cp_board.proofs.NamedLists.{under_all, under_all-rises, rises_from, rises-under, rises_after, rises-put, has-put, put_keeps}
use Rattle.cp_sync.specs.Places.{IsLowerPlace}
use Rattle.cp_store.specs.declared.entry.Entry.{Entry}
use Rattle.cp_store.specs.Exchanges.{under, exchanged, entry_names, with_item, items_of, HasItsName, IsTable, IsReserved, IsGrown}
use Rattle.cp_sync.proofs.Places.{live_place, found_place}
use Rattle.cp_store.proofs.ExchangedItems.{None-Some, under-named, under-below, others-all, put-front, put-behind, exchanged-back}

-- the name of an entry
abbrev pub entry_name : {A : Type 0} → Entry A → ℕ
entry_name e = e.name

-- the entry of a name with an item or none
abbrev entry_of : {A : Type 0} → ℕ → Option A → Entry A
entry_of n o = record { name = n; item = o }

-- the item of an entry that may be none
abbrev pub item_in : {A : Type 0} → Option (Entry A) → Option A
item_in None = None
item_in (Some e) = e.item

-- a number that is found among some names is one of them
pub is_some-under : {A : Type 0} (name : A → ℕ) (n : ℕ) (xs : List A) → is_some (under name n xs) ≡ has (map name xs) n
is_some-under name n [] = refl
is_some-under name n (x ∷ xs) =
    ⊎_elim
    (λ e. ap is_some (cond-true (eqb (name x) n) (Some x) (under name n xs) (eq-eqb (name x) n e)) ∙ sym (ap (λ b. b || has (map name xs) n) (eq-eqb n (name x) (sym e))))
    (λ ne. ap is_some (cond-false (eqb (name x) n) (Some x) (under name n xs) (ne_eqb (name x) n ne)) ∙ is_some-under name n xs ∙ sym (ap (λ b. b || has (map name xs) n) (ne_eqb n (name x) (λ e. ne (sym e)))))
    (cases_eq (name x) n)

-- items of entries that are all above a number are so
items-above : {A : Type 0} (name : A → ℕ) (n : ℕ) (es : List (Entry A)) → under_all entry_name n es ≡ true
    → All (HasItsName name) es → under_all name n (items_of es) ≡ true
items-above name n [] u named = refl
items-above {A} name n (e ∷ es) u named =
    let h = and_parts (ltb n e.name) (under_all entry_name n es) u in
    let rest : under_all name n (items_of es) ≡ true = items-above name n es h.1 (All-tail (HasItsName name) e es named) in
    by_item e.item (All-head (HasItsName name) e es named) h.0 rest
  where
    by_item : (o : Option A) → ((x : A) → o ≡ Some x → name x ≡ e.name) → ltb n e.name ≡ true → under_all name n (items_of es) ≡ true
        → under_all name n (with_item o (items_of es)) ≡ true
    by_item None its lt rest = rest
    by_item (Some x) its lt rest = and_from (ltb n (name x)) (under_all name n (items_of es)) (ap (ltb n) (its x refl) ∙ lt) rest

-- names of entries that rise, by the first one and the rest
rest_above : {A : Type 0} (e : Entry A) (es : List (Entry A)) → rises (entry_names (e ∷ es)) ≡ true → under_all entry_name e.name es ≡ true
rest_above e es up = under_all-rises entry_name e.name es up

-- the items of a table rise by name
pub items-rise : {A : Type 0} (name : A → ℕ) (es : List (Entry A)) → rises (entry_names es) ≡ true → All (HasItsName name) es
    → rises (map name (items_of es)) ≡ true
items-rise name [] up named = refl
items-rise {A} name (e ∷ es) up named =
    let rest : rises (map name (items_of es)) ≡ true = items-rise name es (rises_after entry_name e es up) (All-tail (HasItsName name) e es named) in
    let above : under_all name e.name (items_of es) ≡ true = items-above name e.name es (rest_above e es up) (All-tail (HasItsName name) e es named) in
    by_item e.item (All-head (HasItsName name) e es named) above rest
  where
    by_item : (o : Option A) → ((x : A) → o ≡ Some x → name x ≡ e.name) → under_all name e.name (items_of es) ≡ true
        → rises (map name (items_of es)) ≡ true
        → rises (map name (with_item o (items_of es))) ≡ true
    by_item None its above rest = rest
    by_item (Some x) its above rest =
        rises-under name (name x) (items_of es) (subst (λ m. under_all name m (items_of es) ≡ true) (sym (its x refl)) above) rest

-- the items of entries in the order of their names rise by name
pub table-rises : {A : Type 0} (name : A → ℕ) (es : List (Entry A)) → IsTable name es → rises (map name (items_of es)) ≡ true
table-rises name es is = items-rise name es (rises_from (entry_names es) is.rise) is.named

-- under a name stands the item of the entry of this name
under-rising : {A : Type 0} (name : A → ℕ) (n : ℕ) (es : List (Entry A)) → rises (entry_names es) ≡ true → All (HasItsName name) es
    → under name n (items_of es) ≡ item_in (under entry_name n es)
under-rising name n [] up named = refl
under-rising {A} name n (e ∷ es) up named =
    ⊎_elim
    (λ (same : e.name ≡ n).
    let above : under_all name n (items_of es) ≡ true = subst (λ m. under_all name m (items_of es) ≡ true) same (items-above name e.name es (rest_above e es up) (All-tail (HasItsName name) e es named)) in
    found e.item (All-head (HasItsName name) e es named) same above
    ∙ sym (ap item_in (cond-true (eqb e.name n) (Some e) (under entry_name n es) (eq-eqb e.name n same))))
    (λ (ne : e.name ≢ n).
    passed e.item (All-head (HasItsName name) e es named) ne
    ∙ under-rising name n es (rises_after entry_name e es up) (All-tail (HasItsName name) e es named)
    ∙ sym (ap item_in (cond-false (eqb e.name n) (Some e) (under entry_name n es) (ne_eqb e.name n ne))))
    (cases_eq e.name n)
  where
    found : (o : Option A) → ((x : A) → o ≡ Some x → name x ≡ e.name) → e.name ≡ n → under_all name n (items_of es) ≡ true
        → under name n (with_item o (items_of es)) ≡ o
    found None its same above = under-below name n (items_of es) above
    found (Some x) its same above = cond-true (eqb (name x) n) (Some x) (under name n (items_of es)) (eq-eqb (name x) n (its x refl ∙ same))

    passed : (o : Option A) → ((x : A) → o ≡ Some x → name x ≡ e.name) → e.name ≢ n
        → under name n (with_item o (items_of es)) ≡ under name n (items_of es)
    passed None its ne = refl
    passed (Some x) its ne = cond-false (eqb (name x) n) (Some x) (under name n (items_of es)) (ne_eqb (name x) n (λ h. ne (sym (its x refl) ∙ h)))

-- what stands under a name is the item of the entry of this name
pub under-items : {A : Type 0} (name : A → ℕ) (n : ℕ) (es : List (Entry A)) → IsTable name es
    → under name n (items_of es) ≡ item_in (under entry_name n es)
under-items name n es is = under-rising name n es (rises_from (entry_names es) is.rise) is.named

-- an entry of a new name at its place is put in
insert-put : {A : Type 0} (es : List (Entry A)) (k : ℕ) (e : Entry A) → IsLowerPlace (entry_names es) e.name k
    → has (entry_names es) e.name ≡ false
    → insert es k e ≡ put entry_name e es
insert-put [] zero e low new = refl
insert-put [] (suc k) e low new = absurd (omega (arith, low.within))
insert-put (y ∷ ys) zero e low new =
    let apart : e.name ≢ y.name = eqb-false e.name y.name (first_false (eqb e.name y.name) (has (entry_names ys) e.name) new) in
    let le : e.name ≤ y.name = low.behind 0 (omega arith) (omega arith) in
    sym (cond-true (ltb e.name y.name) (e ∷ y ∷ ys) (y ∷ put entry_name e ys) (lt-ltb e.name y.name (omega (arith, le, apart))))
  where
    first_false : (a b : Bool) → (a || b) ≡ false → a ≡ false
    first_false true b h = absurd (false≢true (sym h))
    first_false false b h = refl
insert-put (y ∷ ys) (suc k) e low new =
    let less : y.name < e.name = low.before 0 (omega arith) in
    ap (λ zs. y ∷ zs) (insert-put ys k e record {
      within = omega (arith, low.within);
      before = λ j lt. low.before (suc j) (omega (arith, lt));
      behind = λ j le lt. low.behind (suc j) (omega (arith, le)) (omega (arith, lt));
    } (second_false (eqb e.name y.name) (has (entry_names ys) e.name) new))
    ∙ sym (put-behind entry_name e y ys less)
  where
    second_false : (a b : Bool) → (a || b) ≡ false → b ≡ false
    second_false true b h = absurd (false≢true (sym h))
    second_false false b h = h

-- an entry without an item adds none
items-put : {A : Type 0} (e : Entry A) (es : List (Entry A)) → e.item ≡ None → items_of (put entry_name e es) ≡ items_of es
items-put e [] none = ap (λ o. with_item o []) none
items-put e (y ∷ ys) none =
    cond_both (ltb e.name y.name) (e ∷ y ∷ ys) (y ∷ put entry_name e ys) (λ zs. items_of zs ≡ items_of (y ∷ ys))
    (λ t. ap (λ o. with_item o (items_of (y ∷ ys))) none)
    (λ f. ap (with_item y.item) (items-put e ys none))

-- one entry more
length-put : {A : Type 0} (e : Entry A) (es : List (Entry A)) → length (put entry_name e es) ≡ suc (length es)
length-put e [] = refl
length-put e (y ∷ ys) =
    cond_both (ltb e.name y.name) (e ∷ y ∷ ys) (y ∷ put entry_name e ys) (λ zs. length zs ≡ suc (length (y ∷ ys)))
    (λ t. refl)
    (λ f. ap suc (length-put e ys))

-- a table with room for one name more
pub IsGrown-insert : {A : Type 0} (name : A → ℕ) (es new : List (Entry A)) (k n : ℕ) → IsTable name es
    → IsLowerPlace (entry_names es) n k
    → has (entry_names es) n ≡ false
    → length es < 2305843009213693952
    → new ≡ insert es k record { name = n; item = None }
    → IsGrown name es new × (has (entry_names new) n ≡ true)
IsGrown-insert {A} name es new k n is low free room made =
    let e : Entry A = record { name = n; item = None } in
    let same : new ≡ put entry_name e es = made ∙ insert-put es k e low free in
    let whole : IsGrown name es (put entry_name e es) = record {
      table = record {
        rise = IsStrictlyIncreasing-from_test (entry_names (put entry_name e es)) (rises-put entry_name e es free (rises_from (entry_names es) is.rise));
        named = All-permutation (HasItsName name) (e ∷ es) (put entry_name e es) (put_keeps entry_name e es) (All-cons (HasItsName name) e es (λ x h. absurd (None-Some x h)) is.named);
        few = omega (arith, room, length-put e es);
      };
      items = items-put e es refl;
      names = λ m h. has-put entry_name m e es ∙ later (eqb m n) (has (entry_names es) m) h;
    } in (
      subst (IsGrown name es) (sym same) whole,
      subst (λ zs. has (entry_names zs) n ≡ true) (sym same) (has-put entry_name n e es ∙ ap (λ b. b || has (entry_names es) n) (eq-eqb n n refl)),
    )
  where
    later : (a b : Bool) → b ≡ true → (a || b) ≡ true
    later true b h = refl
    later false b h = h

-- a table has grown to itself
pub IsGrown-same : {A : Type 0} (name : A → ℕ) (es : List (Entry A)) → IsTable name es → IsGrown name es es
IsGrown-same name es is = record { table = is; items = refl; names = λ n h. h }

-- a table that has grown twice has grown
pub IsGrown-next : {A : Type 0} (name : A → ℕ) (xs ys zs : List (Entry A)) → IsGrown name xs ys → IsGrown name ys zs → IsGrown name xs zs
IsGrown-next name xs ys zs a b = record { table = b.table; items = b.items ∙ a.items; names = λ n h. b.names n (a.names n h) }

-- the names stay where an entry gets another item
pub names-set : {A : Type 0} (es : List (Entry A)) (k : ℕ) (e : Entry A) → k < length es
    → e.name ≡ slice_index (entry_names es) k
    → entry_names (slice_set es k e) ≡ entry_names es
names-set [] k e lt same = absurd (omega (arith, lt))
names-set (y ∷ ys) zero e lt same = ap (λ n. n ∷ entry_names ys) same
names-set (y ∷ ys) (suc k) e lt same = ap (λ ns. y.name ∷ ns) (names-set ys k e (omega (arith, lt)) same)

-- an entry of greater names is exchanged behind the first
exchanged-behind : {A : Type 0} (name : A → ℕ) (n m : ℕ) (o p : Option A) (xs : List A) → m < n
    → ((x : A) → o ≡ Some x → name x ≡ m)
    → ((x : A) → p ≡ Some x → name x ≡ n)
    → exchanged name n p (with_item o xs) ≡ with_item o (exchanged name n p xs)
exchanged-behind name n m None p xs lt its named = refl
exchanged-behind name n m (Some x) None xs lt its named =
    cond-true (not (eqb (name x) n)) _ _ (ap not (ne_eqb (name x) n (λ e. omega (arith, e, lt, its x refl))))
exchanged-behind name n m (Some x) (Some y) xs lt its named =
    ap (put name y) (cond-true (not (eqb (name x) n)) _ _ (ap not (ne_eqb (name x) n (λ e. omega (arith, e, lt, its x refl)))))
    ∙ put-behind name y x _ (omega (arith, lt, its x refl, named y refl))

-- another item at the place of a name is an exchange under it
items-set : {A : Type 0} (name : A → ℕ) (es : List (Entry A)) (k n : ℕ) (o : Option A) → rises (entry_names es) ≡ true
    → All (HasItsName name) es
    → k < length es
    → slice_index (entry_names es) k ≡ n
    → ((x : A) → o ≡ Some x → name x ≡ n)
    → items_of (slice_set es k record { name = n; item = o }) ≡ exchanged name n o (items_of es)
items-set name [] k n o up named lt at its = absurd (omega (arith, lt))
items-set {A} name (e ∷ es) zero n o up named lt at its =
    let above : under_all name n (items_of es) ≡ true = subst (λ m. under_all name m (items_of es) ≡ true) at (items-above name e.name es (rest_above e es up) (All-tail (HasItsName name) e es named)) in
    first o (others_rest e.item (All-head (HasItsName name) e es named)) its above
  where
    first : (p : Option A) → exchanged name n None (with_item e.item (items_of es)) ≡ exchanged name n None (items_of es)
        → ((x : A) → p ≡ Some x → name x ≡ n)
        → under_all name n (items_of es) ≡ true
        → with_item p (items_of es) ≡ exchanged name n p (with_item e.item (items_of es))
    first None same its above = sym (same ∙ others-all name n (items_of es) (under-below name n (items_of es) above))
    first (Some x) same its above =
        sym (ap (put name x) (same ∙ others-all name n (items_of es) (under-below name n (items_of es) above))
        ∙ put-front name x (items_of es) (subst (λ m. under_all name m (items_of es) ≡ true) (sym (its x refl)) above))

    others_rest : (p : Option A) → ((x : A) → p ≡ Some x → name x ≡ e.name)
        → exchanged name n None (with_item p (items_of es)) ≡ exchanged name n None (items_of es)
    others_rest None its = refl
    others_rest (Some x) its = cond-false (not (eqb (name x) n)) _ _ (ap not (eq-eqb (name x) n (its x refl ∙ at)))
items-set {A} name (e ∷ es) (suc k) n o up named lt at its =
    ap (with_item e.item) (items-set name es k n o (rises_after entry_name e es up) (All-tail (HasItsName name) e es named) (omega (arith, lt)) at its)
    ∙ sym (exchanged-behind name n e.name e.item o (items_of es) (name_above es k (rest_above e es up) (omega (arith, lt)) at) (All-head (HasItsName name) e es named) its)
  where
    name_above : (ys : List (Entry A)) (j : ℕ) → under_all entry_name e.name ys ≡ true → j < length ys → slice_index (entry_names ys) j ≡ n → e.name < n
    name_above [] j u l same = absurd (omega (arith, l))
    name_above (y ∷ ys) zero u l same = let h = ltb-true e.name y.name (and_parts (ltb e.name y.name) (under_all entry_name e.name ys) u).0 in omega (arith, h, same)
    name_above (y ∷ ys) (suc j) u l same = name_above ys j (and_parts (ltb e.name y.name) (under_all entry_name e.name ys) u).1 (omega (arith, l)) same

-- what an exchange with the entry of a name gives
pub record IsExchange {A : Type 0} (name : A → ℕ) (old new : List (Entry A)) (put taken : Entry A) : Type 0 where
  pub items : items_of new ≡ exchanged name put.name put.item (items_of old)
  pub back : exchanged name taken.name taken.item (items_of new) ≡ items_of old
  pub table : IsTable name new
  pub names : entry_names new ≡ entry_names old
  pub reserved : IsReserved name (entry_names old) taken

-- the entry of a name with another item is an exchange under this name
pub IsExchange-set : {A : Type 0} (name : A → ℕ) (es : List (Entry A)) (k : ℕ) (put taken at : Entry A) → IsTable name es
    → IsReserved name (entry_names es) put
    → IsLowerPlace (entry_names es) put.name k
    → at ≡ slice_index_or es k at
    → taken ≡ record { name = put.name; item = at.item }
    → IsExchange name es (slice_set es k record { name = at.name; item = put.item }) put taken
IsExchange-set {A} name es k put taken at is reserved low here was =
    let up = rises_from (entry_names es) is.rise in
    let place = live_place (entry_names es) put.name k is.rise (Contains-from_has (entry_names es) put.name reserved.known) low in
    let within : k < length es = place_within es k place.0 in
    let same : at.name ≡ put.name = sym (name_there es k at within here) ∙ place.1 in
    let new : List (Entry A) = slice_set es k record { name = put.name; item = put.item } in
    let stood : under name put.name (items_of es) ≡ at.item =
    under-items name put.name es is ∙ ap item_in (found_place entry_name put.name es k at is.rise within here same) in
    let all : items_of new ≡ exchanged name put.name put.item (items_of es) =
    items-set name es k put.name put.item up is.named within place.1 reserved.named in
    let names : entry_names new ≡ entry_names es = names-set es k record { name = put.name; item = put.item } within (sym place.1) in
    let whole : IsExchange name es new put record { name = put.name; item = at.item } = record {
      items = all;
      back = ap (exchanged name put.name at.item) all
          ∙ ap (λ o. exchanged name put.name o (exchanged name put.name put.item (items_of es))) (sym stood)
          ∙ exchanged-back name put.name put.item (items_of es) (table-rises name es is) reserved.named;
      table = record {
        rise = subst IsStrictlyIncreasing (sym names) is.rise;
        named = All-set (HasItsName name) es k record { name = put.name; item = put.item } reserved.named is.named;
        few = omega (arith, is.few, length-set es k (entry_of put.name put.item));
      };
      names = names;
      reserved = record { known = reserved.known; named = λ x h. under-named name put.name (items_of es) x (stood ∙ h) };
    } in
    subst (λ t. IsExchange name es (slice_set es k record { name = at.name; item = put.item }) put t) (sym was)
    (subst (λ n. IsExchange name es (slice_set es k record { name = n; item = put.item }) put record { name = put.name; item = at.item }) (sym same) whole)
  where
    place_within : (ys : List (Entry A)) (j : ℕ) → j < length (entry_names ys) → j < length ys
    place_within [] j lt = lt
    place_within (y ∷ ys) zero lt = omega arith
    place_within (y ∷ ys) (suc j) lt = let h = place_within ys j (omega (arith, lt)) in omega (arith, h)

    name_there : (ys : List (Entry A)) (j : ℕ) (y : Entry A) → j < length ys → y ≡ slice_index_or ys j y → slice_index (entry_names ys) j ≡ y.name
    name_there [] j y lt h = absurd (omega (arith, lt))
    name_there (z ∷ zs) zero y lt h = ap entry_name (sym h)
    name_there (z ∷ zs) (suc j) y lt h = name_there zs j y (omega (arith, lt)) h

-- an exchange of the items of two entries
pub IsExchange-swapped : {A : Type 0} (name : A → ℕ) (es : List (Entry A)) (k : ℕ) (put at : Entry A) (x y : Option A) → IsTable name es
    → IsReserved name (entry_names es) put
    → IsLowerPlace (entry_names es) put.name k
    → at ≡ slice_index_or es k at
    → x ≡ put.item
    → y ≡ at.item
    → IsExchange name es (slice_set es k record { name = at.name; item = x }) put record { name = put.name; item = y }
IsExchange-swapped {A} name es k put at x y is reserved low here ex ey =
    subst (λ (i : Option A). IsExchange name es (slice_set es k (entry_of at.name i)) put (entry_of put.name y)) (sym ex)
    (IsExchange-set name es k put (entry_of put.name y) at is reserved low here (ap (entry_of put.name) ey))

-- the place of a name that the table has is one of its places
pub reserved_within : {A : Type 0} (es : List (Entry A)) (n k : ℕ) → IsStrictlyIncreasing (entry_names es) → has (entry_names es) n ≡ true
    → IsLowerPlace (entry_names es) n k → k < length es
reserved_within es n k rise known low =
    let place = live_place (entry_names es) n k rise (Contains-from_has (entry_names es) n known) low in
    omega (arith, place.0, length-map es entry_name)

-- the names of the items are names of the entries
pub items-known : {A : Type 0} (name : A → ℕ) (n : ℕ) (es : List (Entry A)) → All (HasItsName name) es
    → has (map name (items_of es)) n ≡ true → has (entry_names es) n ≡ true
items-known name n [] named t = t
items-known {A} name n (e ∷ es) named t =
    by_item e.item (All-head (HasItsName name) e es named) (items-known name n es (All-tail (HasItsName name) e es named)) t
  where
    later : (a b : Bool) → b ≡ true → (a || b) ≡ true
    later true b h = refl
    later false b h = h

    either : (a b c d : Bool) → a ≡ c → (b ≡ true → d ≡ true) → (a || b) ≡ true → (c || d) ≡ true
    either true b c d e go h = sym (ap (λ z. z || d) e)
    either false b c d e go h = later c d (go h)

    by_item : (o : Option A) → ((x : A) → o ≡ Some x → name x ≡ e.name)
        → (has (map name (items_of es)) n ≡ true → has (entry_names es) n ≡ true)
        → has (map name (with_item o (items_of es))) n ≡ true → (eqb n e.name || has (entry_names es) n) ≡ true
    by_item None its go h = later (eqb n e.name) (has (entry_names es) n) (go h)
    by_item (Some x) its go h = either (eqb n (name x)) (has (map name (items_of es)) n) (eqb n e.name) (has (entry_names es) n) (ap (eqb n) (its x refl)) go h

-- an entry for which a table has room has it in a grown table too
pub All-grown : {A : Type 0} (name : A → ℕ) (old new : List ℕ) (es : List (Entry A)) → ((n : ℕ) → has old n ≡ true → has new n ≡ true)
    → All (IsReserved name old) es → All (IsReserved name new) es
All-grown name old new es more all k d lt =
    let r = all k d lt in record { known = more (slice_index_or es k d).name r.known; named = r.named }

-- a name that some items have is found
pub live-found : {A : Type 0} (name : A → ℕ) (n : ℕ) (xs : List A) → under name n xs ≡ None → has (map name xs) n ≡ true → ⊥
live-found name n xs none live = false≢true (sym (ap is_some none) ∙ is_some-under name n xs ∙ live)
