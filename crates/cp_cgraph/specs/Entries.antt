-- What stands in a list of keys and values (Himsolt's GML): entries by their keys, and ids.
use Rattle.std.specs.Prelude.{ℕ, ℤ, ◌==◌, Bool, if◌then◌else◌, List, [], ◌∷◌, Option, Some, None}
use Rattle.std.specs.List.{filter}
use Rattle.std.specs.Str.{bytes_eq}
use Rattle.cp_gml.specs.Numbers.{integer_of}
use Rattle.cp_gml.specs.declared.tree.Entry.{Entry}
use Rattle.cp_gml.specs.declared.tree.GmlValue.{GmlValue}
use Rattle.cp_gml.specs.declared.tree.GmlValue.TheVariants.{Int, Number, Str, List as Nested}
use Rattle.cp_gml.specs.declared.tree.GmlList.{out-GmlList}

-- the entry has this key
abbrev pub has_key : List ℕ → Entry → Bool
has_key key e = bytes_eq e.key key

-- the entries with this key, in order
abbrev pub keyed : List ℕ → List Entry → List Entry
keyed key es = filter (has_key key) es

-- the entries of a value that is a list
abbrev pub inner : GmlValue → Option (List Entry)
inner (Int n) = None
inner Number = None
inner (Str text) = None
inner (Nested list) = Some (out-GmlList list).entries

-- the id that a value is: an integer in the range of ids
abbrev pub id_value : GmlValue → Option ℤ
id_value (Int n) = Some n
id_value Number = None
id_value (Str text) = None
id_value (Nested list) = None

-- a string without the small v at its front
abbrev pub without_v : List ℕ → List ℕ
without_v [] = []
without_v (b ∷ bs) = if b == 118 then bs else (b ∷ bs)

-- the id that a string spells: an optional small v and an integer
abbrev pub spelled_id : List ℕ → Option ℤ
spelled_id text = integer_of (without_v text)

-- the id by which a value of `vertex` names a node: an integer, or a string that spells one
abbrev pub vertex_id : GmlValue → Option ℤ
vertex_id (Int n) = Some n
vertex_id Number = None
vertex_id (Str text) = spelled_id text
vertex_id (Nested list) = None

-- an id with the offset of the value
abbrev pub placed : Option ℤ → ℕ → Option (ℤ × ℕ)
placed None at = None
placed (Some n) at = Some (n, at)

-- the id that the first of some entries gives
abbrev pub first_id : List Entry → Option (ℤ × ℕ)
first_id [] = None
first_id (first ∷ rest) = placed (id_value first.value) first.value_at
