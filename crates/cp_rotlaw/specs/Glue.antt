-- Gluing: a vertex of one rotation system and a vertex of another go, and their edges are joined in pairs.
use Rattle.std.specs.Prelude.{◌≡◌, ◌≢◌, ℕ, ◌+◌, ◌-◌, ◌*◌, ◌<◌, ◌==◌, Bool, cond, ◌&&◌, List, [], ◌∷◌, map, reverse}
use Rattle.cp_lists.specs.Turns.{IsTurn}
use Rattle.cp_lists.specs.Count.{count, Exactly}
use Rattle.cp_faces.specs.Faces.{on_edges}
use Rattle.cp_rot.specs.Systems.{System, darts, edges, vertex_of, list_of}
use Rattle.cp_faces.specs.Twins.{twin}
use Rattle.cp_rotlaw.specs.Systems.{is_other}

-- each pair has a dart of a at u and a dart of b at w, and each of these darts stands in exactly one pair
pub record ArePartners (a : System) (u : ℕ) (b : System) (w : ℕ) (pairs : List (ℕ × ℕ)) : Type 0 where
  pub first : Exactly (darts a) (λ d. vertex_of a d == u) (map (λ pair. pair.0) pairs)
  pub second : Exactly (darts b) (λ d. vertex_of b d == w) (map (λ pair. pair.1) pairs)

-- the partner in the second system of dart x of the first
abbrev pub partner_of_first : List (ℕ × ℕ) → ℕ → ℕ
partner_of_first [] x = 0
partner_of_first (pair ∷ pairs) x = cond (pair.0 == x) pair.1 (partner_of_first pairs x)

-- the partner in the first system of dart y of the second
abbrev pub partner_of_second : List (ℕ × ℕ) → ℕ → ℕ
partner_of_second [] y = 0
partner_of_second (pair ∷ pairs) y = cond (pair.1 == y) pair.0 (partner_of_second pairs y)

-- the list of w is the reverse of the partners of the list of u, up to a turn
abbrev pub AreReversed : System → ℕ → System → ℕ → List (ℕ × ℕ) → Type 0
AreReversed a u b w pairs = IsTurn (reverse (map (partner_of_first pairs) (list_of a u))) (list_of b w)

-- whether edge e of b does not end at w
abbrev pub edge_avoids : System → ℕ → ℕ → Bool
edge_avoids b w e = is_other w (vertex_of b (2 * e)) && is_other w (vertex_of b (2 * e + 1))

-- the number that vertex v of the first system has then: the vertices but u keep their order
abbrev pub first_vertex : ℕ → ℕ → ℕ
first_vertex u v = count v (is_other u)

-- the number that vertex v of the second system has: those but w come behind the others, in their order
abbrev pub second_vertex : System → ℕ → ℕ → ℕ
second_vertex a w v = (a.vertices - 1) + count v (is_other w)

-- the number that dart d of the second system has, which does not stand at w: that of the partner of its twin,
-- where this is at w; the other edges come behind those of the first system, in their order
abbrev pub second_dart : System → System → ℕ → List (ℕ × ℕ) → ℕ → ℕ
second_dart a b w pairs d = cond (vertex_of b (twin d) == w)
    (partner_of_second pairs (twin d))
    (2 * edges a + on_edges (λ e. count e (edge_avoids b w)) d)

-- s is a and b without u and w, where the edges of partners are joined
pub record IsGlued (a : System) (u : ℕ) (b : System) (w : ℕ) (pairs : List (ℕ × ℕ)) (s : System) : Type 0 where
  pub vertices : s.vertices + 2 ≡ a.vertices + b.vertices
  pub size : edges s ≡ edges a + count (edges b) (edge_avoids b w)
  pub first_stand : (d : ℕ) → d < darts a → vertex_of a d ≢ u → vertex_of s d ≡ first_vertex u (vertex_of a d)
  pub second_stand : (d : ℕ) → d < darts b → vertex_of b d ≢ w
      → vertex_of s (second_dart a b w pairs d) ≡ second_vertex a w (vertex_of b d)
  pub first_lists : (v : ℕ) → v < a.vertices → v ≢ u → list_of s (first_vertex u v) ≡ list_of a v
  pub second_lists : (v : ℕ) → v < b.vertices → v ≢ w → list_of s (second_vertex a w v) ≡ map (second_dart a b w pairs)
      (list_of b v)
