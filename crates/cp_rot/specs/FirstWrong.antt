-- Which of the lists that are to make a rotation system is the first wrong one.
use Rattle.std.specs.Prelude.{ℕ, ◌<◌, List, [], length, slice_index_or}
use Rattle.cp_rot.specs.Systems.{Arranges}

-- vertex i has a list of exactly its darts, and there is no list without a vertex
pub record IsRightList (vertices : ℕ) (at : List ℕ) (lists : List (List ℕ)) (i : ℕ) : Type 0 where
  pub present : i < vertices → (i < length lists) × Arranges at i (slice_index_or lists i [])
  pub expected : i < length lists → i < vertices

-- list i is wrong or missing, and those before it are right
pub record IsFirstWrong (vertices : ℕ) (at : List ℕ) (lists : List (List ℕ)) (i : ℕ) : Type 0 where
  pub wrong : ¬ IsRightList vertices at lists i
  pub right_before : (j : ℕ) → j < i → IsRightList vertices at lists j
