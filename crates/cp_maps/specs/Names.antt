-- Maps under other names for their darts.
use Rattle.std.specs.Prelude.{◌≡◌, ℕ, ◌<◌, ◌≢◌, ◌*◌}
use Rattle.cp_faces.specs.Twins.{twin}

-- j gives the darts of m edges different names below those of e edges, and twins names of twins
pub record Names (m e : ℕ) (j : ℕ → ℕ) : Type 0 where
  pub below : (d : ℕ) → d < 2 * m → j d < 2 * e
  pub apart : (c d : ℕ) → c < 2 * m → d < 2 * m → j c ≡ j d → c ≡ d
  pub twins : (d : ℕ) → d < 2 * m → j (twin d) ≡ twin (j d)

-- g is f under the names j, and stays elsewhere
pub record Carries (m e : ℕ) (j f g : ℕ → ℕ) : Type 0 where
  pub same : (d : ℕ) → d < 2 * m → g (j d) ≡ j (f d)
  pub loose : (y : ℕ) → y < 2 * e → ((d : ℕ) → d < 2 * m → j d ≢ y) → g y ≡ y
