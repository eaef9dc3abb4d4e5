-- Graphs of one block by their block numbers, and the vertices that edges touch.
use Rattle.std.proofs.Common.{IsTrue, ◌≡◌, ◌==◌, ℕ, zero, suc, ◌+◌, ◌<◌, ◌≤◌, ◌⊎◌, ◌↔◌, Bool, true, false, List, length, length-set, get_or, set, ap, inl, inr, sym, ◌∙◌, subst, ⊎_elim, arith}
use Rattle.std.proofs.lemmas.Bool.{cases_eq}
use Rattle.std.proofs.lemmas.List.{get_or-set_same, get_or-set_other}
use Rattle.cp_base.specs.Graphs.{AreWithin}
use Rattle.cp_lists.specs.Count.{count}
use Rattle.cp_conn.specs.Blocks.{AreInOneBlock}
use Rattle.cp_conn.specs.Numbering.{HasNumber, AreNumbered}
use Rattle.cp_ears.specs.Bipolar.{IsOneBlock, HaveEdges}
use Rattle.graph_parts.specs.Fitting.{AreTouched}

-- what is in one block with an edge is an edge
within_block : (es : List (ℕ × ℕ)) (e f : ℕ) → f < length es → AreInOneBlock es e f → e < length es
within_block es e f lt one = ⊎_elim
    (λ same. omega (arith, same))
    (λ cycle. omega (arith, cycle.2.2, cycle.1.within cycle.2.0 cycle.2.1))
    one

-- in one block all block numbers are 0
pub block_zero : (es : List (ℕ × ℕ)) (numbers : List ℕ) → AreNumbered (AreInOneBlock es) (length es) numbers
    → IsOneBlock es → (e : ℕ) → e < length numbers → get_or numbers e 0 ≡ 0
block_zero es numbers are one e lt =
    let lte : e < length es = omega (arith, are.one_each) in
    let h : HasNumber (AreInOneBlock es) e (get_or numbers e 0) = are.by_least e lte in
    let least_within : h.least < length es = within_block es h.least e lte h.related in
    let low : h.least ≤ 0 = h.leads 0 (one h.least 0 least_within (omega arith)) in
    let zero : h.least ≡ 0 = omega (arith, low) in
    h.counted.counted ∙ ap (λ n. count n h.counted.test) zero

-- one more number is marked
mark : (ts : List Bool) (a v : ℕ) → a < length ts
    → (get_or (set ts a true) v false ≡ true) ↔ ((a ≡ v) ⊎ (get_or ts v false ≡ true))
mark ts a v lt = (
  λ h. ⊎_elim (λ e. inl e) (λ ne. inr (sym (get_or-set_other ts a v true false (λ e. ne (sym e))) ∙ h)) (cases_eq a v),
  λ h. ⊎_elim
      (λ e. subst (λ (x : ℕ). get_or (set ts a true) x false ≡ true) e (get_or-set_same ts a true false lt))
      (λ is. ⊎_elim
      (λ e. subst (λ (x : ℕ). get_or (set ts a true) x false ≡ true) e (get_or-set_same ts a true false lt))
      (λ ne. get_or-set_other ts a v true false (λ e. ne (sym e)) ∙ is)
      (cases_eq a v))
      h,
)

-- the ends of one more edge are marked
pub touched_step : (n : ℕ) (es : List (ℕ × ℕ)) (k : ℕ) (ts : List Bool) → AreWithin n es → k < length es
    → AreTouched n es k ts → AreTouched n es (k + 1) (set (set ts (get_or es k (0, 0)).0 true) (get_or es k (0, 0)).1
    true)
touched_step n es k ts within lt t =
    let a : ℕ = (get_or es k (0, 0)).0 in
    let b : ℕ = (get_or es k (0, 0)).1 in
    let one : length (set ts a true) ≡ length ts = length-set ts a true in
    let two : length (set (set ts a true) b true) ≡ length (set ts a true) = length-set (set ts a true) b true in
    let lta : a < length ts = omega (arith, (within k lt).0, t.size) in
    let ltb : b < length (set ts a true) = omega (arith, (within k lt).1, t.size, one) in
    record {
      size = two ∙ one ∙ t.size;
      each = λ v ltv. (
        λ h. ⊎_elim
            (λ e. (k, omega arith, inr e))
            (λ g. ⊎_elim
            (λ e. (k, omega arith, inl e))
            (λ f. let old = (t.each v ltv).0 f in (old.0, omega (arith, old.1), old.2))
            ((mark ts a v lta).0 g))
            ((mark (set ts a true) b v ltb).0 h),
        λ h. (mark (set ts a true) b v ltb).1 (⊎_elim
            (λ e. ⊎_elim
            (λ at. inr ((mark ts a v lta).1 (inl (subst (λ (x : ℕ). (get_or es x (0, 0)).0 ≡ v) e at))))
            (λ at. inl (subst (λ (x : ℕ). (get_or es x (0, 0)).1 ≡ v) e at))
            h.2)
            (λ ne. inr ((mark ts a v lta).1 (inr ((t.each v ltv).1 (h.0, omega (arith, h.1, ne), h.2)))))
            (cases_eq h.0 k)),
      );
    }

-- all are marked exactly where each vertex has an edge
pub touched_all : (n : ℕ) (es : List (ℕ × ℕ)) (ts : List Bool) → AreTouched n es (length es) ts
    → ((v : ℕ) → v < length ts → get_or ts v false ≡ true) ↔ HaveEdges n es
touched_all n es ts t = (
  λ all v lt. (t.each v lt).0 (all v (omega (arith, t.size))),
  λ h v lt. (t.each v (omega (arith, t.size))).1 (h v (omega (arith, t.size))),
)

-- the same, as the calls hand on the table and the graph
pub touched_read : (n m : ℕ) (es fs : List (ℕ × ℕ)) (ts us : List Bool) (b : Bool) → m ≡ n → fs ≡ es → us ≡ ts
    → AreTouched m fs (length fs) ts → IsTrue b ↔ ((v : ℕ) → v < length us → get_or us v false ≡ true)
    → IsTrue b ↔ HaveEdges n es
touched_read n m es fs ts us b vertices ends table t decides =
    let here : AreTouched n es (length es) ts =
    subst (λ (xs : List (ℕ × ℕ)). AreTouched n xs (length xs) ts) ends
    (subst (λ (k : ℕ). AreTouched k fs (length fs) ts) vertices t) in
    let all : IsTrue b ↔ ((v : ℕ) → v < length ts → get_or ts v false ≡ true) =
    subst (λ (xs : List Bool). IsTrue b ↔ ((v : ℕ) → v < length xs → get_or xs v false ≡ true)) table decides in (
      λ is. (touched_all n es ts here).0 (all.0 is),
      λ h. all.1 ((touched_all n es ts here).1 h),
    )

-- a list that is not found empty has an item
pub filled : (b : Bool) (n : ℕ) → b ≡ (n == 0) → b ≡ false → 0 < n
filled b zero is fails = let impossible : false ≡ true = sym fails ∙ is in cc
filled b (suc n) is fails = omega arith
