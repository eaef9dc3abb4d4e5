-- A border: a ring of vertices of four darts, through each of which one edge passes from inside to outside.
use Rattle.std.proofs.Common.{reverse}
use Rattle.std.specs.Prelude.{ℕ, List, [], ◌∷◌, map}
use Rattle.cp_faces.specs.Twins.{twin}

-- a place on a border: the dart of the border that begins there, and the darts that lead inside and outside
pub record Place : Type 0 where
  pub begins : ℕ
  pub inside : ℕ
  pub outside : ℕ

-- the lists of the vertices of a border, where the dart back ends at the first: at each place the dart that begins
-- there, the one inside, the one that ends there, and the one outside
abbrev pub border_lists : ℕ → List Place → List (List ℕ)
border_lists back [] = []
border_lists back (q ∷ qs) = (q.begins ∷ q.inside ∷ back ∷ q.outside ∷ []) ∷ border_lists (twin q.begins) qs

-- the dart that begins at the last place, and s where there is none
abbrev pub last_begin : ℕ → List Place → ℕ
last_begin s [] = s
last_begin s (q ∷ qs) = last_begin q.begins qs

-- the lists of a border that closes: the dart that ends at the first place is the twin of that of the last
abbrev pub closed_border : List Place → List (List ℕ)
closed_border qs = border_lists (twin (last_begin 0 qs)) qs

-- the darts inside, the last first: their order round a vertex in place of the inside
abbrev pub inside_darts : List Place → List ℕ
inside_darts qs = reverse (map (λ q. q.inside) qs)

-- the darts outside: their order round a vertex in place of the outside
abbrev pub outside_darts : List Place → List ℕ
outside_darts qs = map (λ q. q.outside) qs
