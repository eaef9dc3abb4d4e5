-- The vertex of one row more.
use Rattle.std.proofs.Common.{◌≡◌, ◌∙◌, ℕ, suc, ◌+◌, Bool, true, false, List, [], ◌∷◌, ◌++◌, slice_index, refl, sym, ap, arith}
use Rattle.std.specs.Prelude.{cond}
use Rattle.std.proofs.lemmas.Bool.{cond-false, cond-true}
use Rattle.cp_board.specs.Plantings.{Planted}
use Rattle.cp_plant.specs.Rewriting.{fixed_from, planted_vert, planted_verts}

-- the vertices of some rows and one more
pub planted_verts-more : (m : Bool) (cells : List ℕ) (n : ℕ) (rows : List Planted) (r : Planted)
    → planted_verts m cells n (rows ++ r ∷ [])
    ≡ planted_verts m cells n rows ++ planted_vert m (slice_index cells (fixed_from n rows)) r ∷ []
planted_verts-more m cells n [] r = refl
planted_verts-more m cells n (q ∷ rows) r =
    ap (λ vs. planted_vert m (slice_index cells n) q ∷ vs) (planted_verts-more m cells (cond q.fixed (suc n) n) rows r)

-- the number of Q-nodes among some rows and one more
pub fixed_from-more : (n : ℕ) (rows : List Planted) (r : Planted)
    → fixed_from n (rows ++ r ∷ []) ≡ cond r.fixed (suc (fixed_from n rows)) (fixed_from n rows)
fixed_from-more n [] r = refl
fixed_from-more n (q ∷ rows) r = fixed_from-more (cond q.fixed (suc n) n) rows r

-- a Q-node raises the number by one
pub fixed_from-then : (rows : List Planted) (r : Planted) (place new : ℕ) → r.fixed ≡ true → place ≡ fixed_from 0 rows
    → new ≡ place + 1 → new ≡ fixed_from 0 (rows ++ r ∷ [])
fixed_from-then rows r place new t is e =
    let one : place + 1 ≡ suc place = omega arith in
    e ∙ one ∙ ap suc is
    ∙ sym (fixed_from-more 0 rows r ∙ cond-true r.fixed (suc (fixed_from 0 rows)) (fixed_from 0 rows) t)

-- and a P-node does not
pub fixed_from-else : (rows : List Planted) (r : Planted) (place new : ℕ) → r.fixed ≡ false → place ≡ fixed_from 0 rows
    → new ≡ place → new ≡ fixed_from 0 (rows ++ r ∷ [])
fixed_from-else rows r place new f is e =
    e ∙ is ∙ sym (fixed_from-more 0 rows r ∙ cond-false r.fixed (suc (fixed_from 0 rows)) (fixed_from 0 rows) f)
