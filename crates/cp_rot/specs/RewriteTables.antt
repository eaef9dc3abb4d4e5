-- What the rewrites write: the vertex of each dart and the list of each vertex, from those before.
use Rattle.std.specs.Prelude.{◌≡◌, ℕ, ◌<◌, ◌≢◌, ◌==◌, cond, List, [], ◌∷◌, ◌++◌, length, map, take, slice_index, slice_index_or}
use Rattle.std.specs.List.{list_any}
use Rattle.cp_orbits.specs.Orbits.{exchange}
use Rattle.cp_orbits.specs.Classes.{joined}
use Rattle.cp_faces.specs.Faces.{on_edges}
use Rattle.cp_rot.specs.Rewrites.{without_edge, spliced, with_behind, before, behind}

-- at which vertex dart d stands, where edges e and last exchange their numbers
abbrev pub kept_at : List ℕ → ℕ → ℕ → ℕ → ℕ
kept_at at e last d = slice_index at (on_edges (exchange e last) d)

-- the items without edge e, where edges e and last exchange their numbers
abbrev pub kept_items : ℕ → ℕ → List ℕ → List ℕ
kept_items e last items = map (on_edges (exchange e last)) (without_edge e items)

-- list v without edge e, where edges e and last exchange their numbers
abbrev pub kept_list : List (List ℕ) → ℕ → ℕ → ℕ → List ℕ
kept_list lists e last v = kept_items e last (slice_index_or lists v [])

-- at which vertex dart x stands, where w is made one with u and then exchanged with the last vertex
abbrev pub joined_at : List ℕ → ℕ → ℕ → ℕ → ℕ → ℕ
joined_at at u w last x = exchange w last (joined u w (slice_index at x))

-- list v, and with it list w where v is u: turned so that f is its last item, it is put in behind d
abbrev pub spliced_list : List (List ℕ) → ℕ → ℕ → ℕ → ℕ → ℕ → List ℕ
spliced_list lists u w d f v = cond (v == u) (spliced d f (slice_index_or lists v []) (slice_index_or lists w [])) (slice_index_or lists v [])

-- the same where w is exchanged with the last vertex
abbrev pub joined_list : List (List ℕ) → ℕ → ℕ → ℕ → ℕ → ℕ → ℕ → List ℕ
joined_list lists u w last d f v = spliced_list lists u w d f (exchange w last v)

-- none of the first i items is d
abbrev pub IsAbsentBefore : List ℕ → ℕ → ℕ → Type 0
IsAbsentBefore items d i = (k : ℕ) → k < i → slice_index items k ≢ d

-- list v with x put in behind d, and then y behind g
abbrev pub inserted_list : List (List ℕ) → ℕ → ℕ → ℕ → ℕ → ℕ → List ℕ
inserted_list lists d x g y v = with_behind g y (with_behind d x (slice_index_or lists v []))

-- the items of others up to f, none where f is d
abbrev pub row_of : ℕ → ℕ → List ℕ → List ℕ
row_of d f others = cond (f == d) [] (before f others ++ f ∷ [])

-- the items of others behind f, or all where f is d
abbrev pub left_of : ℕ → ℕ → List ℕ → List ℕ
left_of d f others = cond (f == d) others (behind f others)

-- number i of at, or v if i is one of the darts
abbrev pub moved_at : List ℕ → List ℕ → ℕ → ℕ → ℕ
moved_at at darts v i = cond (list_any (λ q. q == i) darts) v (slice_index at i)

-- each number of at whose place is one of the first n darts is v in table, and the others are as they were
pub record IsMoved (at darts : List ℕ) (v n : ℕ) (table : List ℕ) : Type 0 where
  pub size : length table ≡ length at
  pub told : (i : ℕ) → slice_index table i ≡ moved_at at (take n darts) v i

-- the table is at with the darts moved to v, and behind it w and v
abbrev pub HasMoved : List ℕ → List ℕ → ℕ → ℕ → List ℕ → Type 0
HasMoved at darts w v table = (old : List ℕ) × IsMoved at darts v (length darts) old × (table ≡ (old ++ w ∷ []) ++ v ∷ [])
