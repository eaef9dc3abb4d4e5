-- Some edges of a rotation system alone, and a vertex split where two sets of edges meet.
use Rattle.std.specs.Prelude.{◌≡◌, ◌≢◌, ◌==◌, ℕ, zero, suc, ◌+◌, ◌/◌, ◌<◌, Bool, true, false, not, ◌&&◌, cond, map, List}
use Rattle.std.specs.List.{filter}
use Rattle.cp_faces.specs.Faces.{on_edges}
use Rattle.cp_rot.specs.Systems.{System, darts, edges, vertex_of, list_of, next}
use Rattle.cp_rot.specs.Rewrites.{system, deleted}

-- of the edges below n those that the test does not keep are deleted, the last of them first
abbrev pub restricted : ℕ → (ℕ → Bool) → System → System
restricted zero keeps r = r
restricted (suc n) keeps r = restricted n keeps (cond (keeps n) r (deleted r n))

-- s is r with those edges alone that the test keeps, each list in the order that it had: number tells the number
-- in s of an edge that is kept, and original takes it back
pub record IsRestricted (r s : System) (keeps : ℕ → Bool) (number original : ℕ → ℕ) : Type 0 where
  pub vertices : s.vertices ≡ r.vertices
  pub kept : (e : ℕ) → e < edges r → keeps e ≡ true → (number e < edges s) × (original (number e) ≡ e)
  pub all : (e : ℕ) → e < edges s → (original e < edges r) × (keeps (original e) ≡ true) × (number (original e) ≡ e)
  pub stand : (d : ℕ) → d < darts s → vertex_of s d ≡ vertex_of r (on_edges original d)
  pub lists : (v : ℕ) → v < r.vertices → list_of s v ≡ map (on_edges number) (filter (λ d. keeps (d / 2)) (list_of r v))

-- the edges that the test takes and the others meet at u alone
abbrev pub MeetAt : System → ℕ → (ℕ → Bool) → Type 0
MeetAt r u takes = (d f : ℕ) → d < darts r → f < darts r → vertex_of r d ≡ vertex_of r f → vertex_of r d ≢ u → takes (d / 2) ≡ takes (f / 2)

-- dart d is of an edge that the test takes, and the dart behind it is not
abbrev pub IsLastTaken : System → (ℕ → Bool) → ℕ → Type 0
IsLastTaken r takes d = (takes (d / 2) ≡ true) × (takes (next r d / 2) ≡ false)

-- the darts at u of the edges that the test takes stand one behind the other in the cyclic list: one at most is a last one
abbrev pub IsRunAtVertex : System → ℕ → (ℕ → Bool) → Type 0
IsRunAtVertex r u takes = (d f : ℕ) → d < darts r → f < darts r → vertex_of r d ≡ u → vertex_of r f ≡ u → IsLastTaken r takes d → IsLastTaken r takes f → d ≡ f

-- at which vertex dart d stands, where the darts at u of the edges that the test takes go to a new vertex
abbrev pub split_vertex : System → ℕ → (ℕ → Bool) → ℕ → ℕ
split_vertex r u takes d = cond (vertex_of r d == u && takes (d / 2)) r.vertices (vertex_of r d)

-- the list of v then: at u what is left, at the new vertex what is taken, each in the order that it had
abbrev pub split_list : System → ℕ → (ℕ → Bool) → ℕ → List ℕ
split_list r u takes v = cond (v == r.vertices)
    (filter (λ d. takes (d / 2)) (list_of r u))
    (cond (v == u) (filter (λ d. not (takes (d / 2))) (list_of r u)) (list_of r v))

-- the darts at u of the edges that the test takes moved to a new vertex
abbrev pub split_off : System → ℕ → (ℕ → Bool) → System
split_off r u takes = system (r.vertices + 1) (edges r) (split_vertex r u takes) (split_list r u takes)
