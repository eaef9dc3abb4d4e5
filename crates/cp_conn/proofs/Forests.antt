-- Vertices above one another in a search forest.
use Rattle.std.proofs.Common.{◌≡◌, ℕ, zero, suc, ◌<◌, ◌≤◌, ◌⊎◌, List, get_or, sym, refl, ap, ◌∙◌, subst, inl, inr, ⊎_elim, arith}
use Rattle.std.proofs.lemmas.Bool.{cases_eq}
use Rattle.cp_conn.specs.SearchForest.{Forest, Above, itself, child, Hangs, IsPlacedBelow}
use Rattle.cp_conn.specs.LowPoints.{AreLowPoints}

-- a vertex above is the vertex itself or above the next vertex up
pub above_up : (forest : Forest) (a b : ℕ) → Above forest a b → (a ≡ b) ⊎ Above forest a (get_or forest.parent b 0)
above_up forest a b itself = inl refl
above_up forest a b (child w) = inr w

-- what is above a vertex is above all that that is above
pub Above-trans : (forest : Forest) (a b c : ℕ) → Above forest a b → Above forest b c → Above forest a c
Above-trans forest a b c h itself = h
Above-trans forest a b c h (child w) = child (Above-trans forest a b (get_or forest.parent c 0) h w)

-- two vertices above one are one above the other
pub above_both : (forest : Forest) (a b c : ℕ) → Above forest a c → Above forest b c → Above forest a b
    ⊎ Above forest b a
above_both forest a b c itself k = inr k
above_both forest a b c (child w) k =
    ⊎_elim
    (λ e. inl (subst (Above forest a) (sym e) (child w)))
    (λ l. above_both forest a b (get_or forest.parent c 0) w l)
    (above_up forest b c k)

-- nothing else is above a root
pub above_root : (forest : Forest) (a b : ℕ) → Above forest a b → get_or forest.parent b 0 ≡ b → a ≡ b
above_root forest a b itself root = refl
above_root forest a b (child w) root = above_root forest a (get_or forest.parent b 0) w
    (ap (λ (k : ℕ). get_or forest.parent k 0) root) ∙ root

-- each of the vertices is placed
abbrev pub ArePlaced : List (ℕ × ℕ) → ℕ → Forest → Type 0
ArePlaced es n forest = (v : ℕ) → v < n → IsPlacedBelow es n forest v

-- another vertex above has a lower number
pub above_number : (es : List (ℕ × ℕ)) (n : ℕ) (forest : Forest) (a b : ℕ) → ArePlaced es n forest
    → b < n → Above forest a b → (a ≡ b) ⊎ ((a < n) × (get_or forest.number a 0 < get_or forest.number b 0))
above_number es n forest a b pl lt itself = inl refl
above_number es n forest a b pl lt (child w) =
    ⊎_elim
    (λ root. inl (above_root forest a b (child w) root))
    (λ h. inr (⊎_elim
    (λ e. subst (λ (z : ℕ). (z < n) × (get_or forest.number z 0 < get_or forest.number b 0)) (sym e)
    (h.within, h.lower))
    (λ k. (k.0, omega (arith, k.1, h.lower)))
    (above_number es n forest a (get_or forest.parent b 0) pl h.within w)))
    (pl b lt)

-- a vertex above has no higher number
pub above-le : (es : List (ℕ × ℕ)) (n : ℕ) (forest : Forest) (a b : ℕ) → ArePlaced es n forest → b < n
    → Above forest a b → (a < n) × (get_or forest.number a 0 ≤ get_or forest.number b 0)
above-le es n forest a b pl lt w =
    ⊎_elim
    (λ e. subst (λ (z : ℕ). (z < n) × (get_or forest.number z 0 ≤ get_or forest.number b 0)) (sym e) (lt, omega arith))
    (λ k. (k.0, omega (arith, k.1)))
    (above_number es n forest a b pl lt w)

-- a vertex is above another or is not
pub above_cases : (es : List (ℕ × ℕ)) (n : ℕ) (forest : Forest) (a b : ℕ) → ArePlaced es n forest
    → b < n → Above forest a b ⊎ (Above forest a b → ⊥)
above_cases es n forest a b pl lt = go (suc (get_or forest.number b 0)) b lt (omega arith)
  where
    -- the same for each vertex whose number is below k
    go : (k b : ℕ) → b < n → get_or forest.number b 0 < k → Above forest a b ⊎ (Above forest a b → ⊥)
    go zero b lt less = absurd (omega arith)
    go (suc k) b lt less =
        ⊎_elim
        (λ e. inl (subst (Above forest a) e itself))
        (λ ne. ⊎_elim
        (λ root. inr (λ w. ne (above_root forest a b w root)))
        (λ h. ⊎_elim
        (λ yes. inl (child yes))
        (λ no. inr (λ w. ⊎_elim ne no (above_up forest a b w)))
        (go k (get_or forest.parent b 0) h.within (omega (arith, h.lower))))
        (pl b lt))
        (cases_eq a b)

-- the child of v that is above x, or x itself
pub record Branch (es : List (ℕ × ℕ)) (n : ℕ) (forest : Forest) (v x : ℕ) : Type 0 where
  pub root : ℕ
  pub within : root < n
  pub parent : get_or forest.parent root 0 ≡ v
  pub hangs : Hangs es n forest root
  pub over : Above forest root x

-- a vertex below v is in a branch of v
pub branch : (es : List (ℕ × ℕ)) (n : ℕ) (forest : Forest) (v x : ℕ) → ArePlaced es n forest → x < n
    → Above forest v x → (x ≡ v → ⊥) → Branch es n forest v x
branch es n forest v x pl lt itself ne = absurd (ne refl)
branch es n forest v x pl lt (child w) ne =
    ⊎_elim
    (λ root. absurd (ne (sym (above_root forest v x (child w) root))))
    (λ h. ⊎_elim
    (λ e. record { root = x; within = lt; parent = e; hangs = h; over = itself })
    (λ differ. let b : Branch es n forest v (get_or forest.parent x 0) =
    branch es n forest v (get_or forest.parent x 0) pl h.within w differ in record {
      root = b.root;
      within = b.within;
      parent = b.parent;
      hangs = b.hangs;
      over = child b.over;
    })
    (cases_eq (get_or forest.parent x 0) v))
    (pl x lt)

-- the low point of a vertex above is no higher
pub low_above : (es : List (ℕ × ℕ)) (n : ℕ) (forest : Forest) (low : List ℕ) (a b : ℕ) → ArePlaced es n forest
    → AreLowPoints es n forest low → b < n → Above forest a b → get_or low a 0 ≤ get_or low b 0
low_above es n forest low a b pl l lt itself = omega arith
low_above es n forest low a b pl l lt (child w) =
    ⊎_elim
    (λ root. omega (arith, ap (λ (k : ℕ). get_or low k 0) (above_root forest a b (child w) root)))
    (λ h. omega (arith, low_above es n forest low a (get_or forest.parent b 0) pl l h.within w, l.rises b lt))
    (pl b lt)
