-- Items in the order of their names, where what stands under a name is exchanged.
use Rattle.std.specs.Prelude.{◌≡◌, ◌≤◌, ℕ, true, not, eqb, List, [], ◌∷◌, length, map, find, Option, Some, None}
use Rattle.std.specs.List.{All, filter}
use Rattle.std.specs.List.Sorted.{IsStrictlyIncreasing}
use Rattle.cp_store.specs.declared.entry.Entry.{Entry}
use Rattle.cp_board.specs.Names.{has, put}

-- what stands under a name
abbrev pub under : {A : Type 0} → (A → ℕ) → ℕ → List A → Option A
under name n xs = find (λ x. eqb (name x) n) xs

-- the items with another one under this name, or with none
abbrev pub exchanged : {A : Type 0} → (A → ℕ) → ℕ → Option A → List A → List A
exchanged name n None xs = filter (λ x. not (eqb (name x) n)) xs
exchanged name n (Some x) xs = put name x (filter (λ y. not (eqb (name y) n)) xs)

-- the items once an exchange under the name of each entry, for what the entry has, is made, the last one first
abbrev pub taken_back : {A : Type 0} → (A → ℕ) → List (Entry A) → List A → List A
taken_back name [] xs = xs
taken_back name (e ∷ es) xs = exchanged name e.name e.item (taken_back name es xs)

-- the names of entries, in the order of the entries
abbrev pub entry_names : {A : Type 0} → List (Entry A) → List ℕ
entry_names es = map (λ e. e.name) es

-- the items with the item of an entry in front, if it has one
abbrev pub with_item : {A : Type 0} → Option A → List A → List A
with_item None xs = xs
with_item (Some x) xs = x ∷ xs

-- the items of the entries
abbrev pub items_of : {A : Type 0} → List (Entry A) → List A
items_of [] = []
items_of (e ∷ es) = with_item e.item (items_of es)

-- the item of the entry, if it has one, has its name
abbrev pub HasItsName : {A : Type 0} → (A → ℕ) → Entry A → Type 0
HasItsName {A} name e = (x : A) → e.item ≡ Some x → name x ≡ e.name

-- entries in the order of their names, and not so many that three tables have more of them than a number can tell
pub record IsTable {A : Type 0} (name : A → ℕ) (es : List (Entry A)) : Type 0 where
  pub rise : IsStrictlyIncreasing (entry_names es)
  pub named : All (HasItsName name) es
  pub few : length es ≤ 2305843009213693952

-- the table has an entry of this name
pub record IsReserved {A : Type 0} (name : A → ℕ) (names : List ℕ) (e : Entry A) : Type 0 where
  pub known : has names e.name ≡ true
  pub named : HasItsName name e

-- a table of the same items that has all the names of the first one
pub record IsGrown {A : Type 0} (name : A → ℕ) (old new : List (Entry A)) : Type 0 where
  pub table : IsTable name new
  pub items : items_of new ≡ items_of old
  pub names : (n : ℕ) → has (entry_names old) n ≡ true → has (entry_names new) n ≡ true
