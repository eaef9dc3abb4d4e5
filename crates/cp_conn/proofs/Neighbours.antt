-- Neighbours of a vertex, found by going through the edges.
use Rattle.std.proofs.Common.{◌≡◌, ℕ, ◌+◌, ◌<◌, List, length, get_or, sym, ap, ◌∙◌, subst, inl, inr, ⊎_elim, arith}
use Rattle.std.proofs.lemmas.Bool.{cases_eq}
use Rattle.std.proofs.lemmas.List.{get_or_default}
use Rattle.cp_orbits.specs.Connected.{Joins}
use Rattle.cp_conn.specs.CutVertex.{IsNeighbour}
use Rattle.cp_conn.proofs.DartChains.{Contains-at}

-- the other ends of the first i edges that touch v have the property P
abbrev pub AllNear : List (ℕ × ℕ) → ℕ → (ℕ → Type 0) → ℕ → Type 0
AllNear es v P i = (k : ℕ) → k < i → (x : ℕ) → Joins (get_or es k (0, 0)) v x → (x ≡ v → ⊥) → P x

-- where a fact holds for the neighbours by the first edges and by the next, it holds by one edge more
pub AllNear-more : (es : List (ℕ × ℕ)) (v : ℕ) (P : ℕ → Type 0) (i first second : ℕ)
    → get_or es i (0, 0) ≡ (first, second) → (first ≡ v → (second ≡ v → ⊥) → P second)
    → (second ≡ v → (first ≡ v → ⊥) → P first) → AllNear es v P i → AllNear es v P (i + 1)
AllNear-more es v P i first second at one two all k lt x j ne =
    ⊎_elim
    (λ e. ⊎_elim
    (λ h. subst P h.1 (one h.0 (λ f. ne (sym h.1 ∙ f))))
    (λ h. subst P h.0 (two h.1 (λ f. ne (sym h.0 ∙ f))))
    (subst (λ (p : ℕ × ℕ). Joins p v x) (ap (λ (m : ℕ). get_or es m (0, 0)) e ∙ at) j))
    (λ nk. all k (omega arith) x j ne)
    (cases_eq k i)

-- where a fact holds for the neighbours by all edges, it holds for each neighbour
pub AllNear-end : (es : List (ℕ × ℕ)) (v : ℕ) (P : ℕ → Type 0) (i x : ℕ) → length es ≡ i → AllNear es v P i
    → IsNeighbour es v x → P x
AllNear-end es v P i x all_of all near =
    let k : ℕ = near.contained.0 in
    let at : get_or es k (0, 0) ≡ near.pair = get_or_default es k (0, 0) near.pair near.contained.1
    ∙ near.contained.2 in
    all k (omega (arith, near.contained.1)) x (subst (λ (p : ℕ × ℕ). Joins p v x) (sym at) near.joined) near.other

-- the second end is a neighbour of the first
pub near_second : (es : List (ℕ × ℕ)) (v i first second : ℕ) → i < length es → get_or es i (0, 0) ≡ (first, second)
    → first ≡ v → (second ≡ v → ⊥) → IsNeighbour es v second
near_second es v i first second lt at e ne = record {
  pair = get_or es i (0, 0);
  contained = Contains-at es i lt;
  joined = inl (ap (λ (p : ℕ × ℕ). p.0) at ∙ e, ap (λ (p : ℕ × ℕ). p.1) at);
  other = ne;
}

-- the first end is a neighbour of the second
pub near_first : (es : List (ℕ × ℕ)) (v i first second : ℕ) → i < length es → get_or es i (0, 0) ≡ (first, second)
    → second ≡ v → (first ≡ v → ⊥) → IsNeighbour es v first
near_first es v i first second lt at e ne = record {
  pair = get_or es i (0, 0);
  contained = Contains-at es i lt;
  joined = inr (ap (λ (p : ℕ × ℕ). p.0) at, ap (λ (p : ℕ × ℕ). p.1) at ∙ e);
  other = ne;
}
